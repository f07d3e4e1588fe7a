-- The formats of what commands choose from.
use Rattle.std.specs.Prelude.{◌≡◌, refl}
use Rattle.wire.specs.Format.{Format, Reading, IsReadBack, IsSpelled, read_as, read_nothing, read_byte, read_if_number, read_no_case, read_case}
use Rattle.wire.specs.Forms.{case_reads, case_is, cases_are, no_case_is, nothing_format, u32_format, bytes_format, text_format, pair_format, option_format, via, spelled}
use Rattle.journal_calls.specs.Encoding.{signal_bytes, signal_result_bytes, workflow_id, idempotency_id, invocation_target}
use Rattle.journal_values.specs.Parts.{failure_format}
use Rattle.journal_calls.specs.declared.signals.Signal.{Signal}
use Rattle.journal_calls.specs.declared.signals.Signal.TheVariants as by
use Rattle.journal_calls.specs.declared.signals.SignalResult.{SignalResult}
use Rattle.journal_calls.specs.declared.signals.SignalResult.TheVariants as sent
use Rattle.journal_calls.specs.declared.invocations.InvocationTarget.{InvocationTarget}
use Rattle.journal_calls.specs.declared.invocations.InvocationTarget.TheVariants as of
use Rattle.journal_calls.specs.declared.invocations.WorkflowId.{WorkflowId}
use Rattle.journal_calls.specs.declared.invocations.IdempotencyId.{IdempotencyId}

-- ---- signals

-- a number below 2 ^ 32; or a name that is a text
abbrev pub signal_valid : Signal → Type 0
signal_valid (by.Index n) = u32_format.valid n
signal_valid (by.Name name) = text_format.valid name

-- 0 and a u32 are a signal's number, 1 and a text its name; none if another byte stands in front or
-- either can't be read
unfoldable pub read_signal : Reading Signal
read_signal = read_case (
    read_if_number 0 (read_as by.Index u32_format.read) (
    read_if_number 1 (read_as by.Name text_format.read) (
    read_no_case)))

pub signal_reads : IsReadBack signal_bytes signal_valid read_signal
unfolding read_signal read_byte
signal_reads (by.Index a) rest v = case_reads by.Index u32_format a rest v
signal_reads (by.Name a) rest v = case_reads by.Name text_format a rest v

pub signal_is : IsSpelled signal_bytes signal_valid read_signal
unfolding read_signal
signal_is = cases_are signal_bytes signal_valid _ (
    case_is signal_bytes signal_valid 0 by.Index u32_format _ (λ _ v. v) (λ _. refl) (
    case_is signal_bytes signal_valid 1 by.Name text_format _ (λ _ v. v) (λ _. refl) (
    no_case_is signal_bytes signal_valid)))

-- the format of a signal: 0 and its number (u32), or 1 and its name (text)
abbrev pub signal_format : Format Signal
signal_format = record {
  spelling = signal_bytes;
  valid = signal_valid;
  read = read_signal;
  reads = signal_reads;
  read_is = signal_is;
}

-- ---- what is sent to a signal

-- void; a value of fewer than 2 ^ 64 bytes; or a failure whose code, texts and count fit
abbrev pub signal_result_valid : SignalResult → Type 0
signal_result_valid sent.Void = Unit {0}
signal_result_valid (sent.Value bs) = bytes_format.valid bs
signal_result_valid (sent.Failure f) = failure_format.valid f

-- 0 is void, 1 and bytes are a value, 2 and a failure are that failure; none if another byte stands
-- in front or what is after it can't be read
unfoldable pub read_signal_result : Reading SignalResult
read_signal_result = read_case (
    read_if_number 0 (read_as (λ _. sent.Void) read_nothing) (
    read_if_number 1 (read_as sent.Value bytes_format.read) (
    read_if_number 2 (read_as sent.Failure failure_format.read) (
    read_no_case))))

pub signal_result_reads : IsReadBack signal_result_bytes signal_result_valid read_signal_result
unfolding read_signal_result read_byte
signal_result_reads sent.Void rest v = refl
signal_result_reads (sent.Value a) rest v = case_reads sent.Value bytes_format a rest v
signal_result_reads (sent.Failure a) rest v = case_reads sent.Failure failure_format a rest v

pub signal_result_is : IsSpelled signal_result_bytes signal_result_valid read_signal_result
unfolding read_signal_result
signal_result_is = cases_are signal_result_bytes signal_result_valid _ (
    case_is signal_result_bytes signal_result_valid 0 (λ _. sent.Void) nothing_format _ (λ _ v. v)
    (λ _. refl) (
    case_is signal_result_bytes signal_result_valid 1 sent.Value bytes_format _ (λ _ v. v)
    (λ _. refl) (
    case_is signal_result_bytes signal_result_valid 2 sent.Failure failure_format _ (λ _ v. v)
    (λ _. refl)
    (
    no_case_is signal_result_bytes signal_result_valid))))

-- the format of what is sent to a signal: 0 for void, 1 and a value's bytes, or 2 and a failure
abbrev pub signal_result_format : Format SignalResult
signal_result_format = record {
  spelling = signal_result_bytes;
  valid = signal_result_valid;
  read = read_signal_result;
  reads = signal_result_reads;
  read_is = signal_result_is;
}

-- ---- targets

-- a workflow's run as (name, (key, scope)): two texts and an optional text
abbrev pub workflow_id_by_parts : Format WorkflowId
workflow_id_by_parts = via (λ w. (w.name, (w.key, w.scope)))
    (λ p. record { name = p.0; key = p.1.0; scope = p.1.1 }) (λ _. refl) (λ _. refl)
    (pair_format text_format (pair_format text_format (option_format text_format)))

pub workflow_id_same : (w : WorkflowId) → workflow_id w ≡ (workflow_id_by_parts).spelling w
unfolding workflow_id
workflow_id_same w = refl

-- the format of a workflow's run: name and key (texts), and scope (a text or none)
abbrev pub workflow_id_format : Format WorkflowId
workflow_id_format = spelled workflow_id workflow_id_by_parts workflow_id_same

-- a call by its idempotency key as (service, (service's key, (handler, (idempotency key, scope)))):
-- texts, of which the service's key and the scope may be absent
abbrev pub idempotency_id_by_parts : Format IdempotencyId
idempotency_id_by_parts = via
    (λ w. (w.service_name, (w.service_key, (w.handler_name, (w.idempotency_key, w.scope)))))
    (λ p. record {
      service_name = p.0;
      service_key = p.1.0;
      handler_name = p.1.1.0;
      idempotency_key = p.1.1.1.0;
      scope = p.1.1.1.1;
    }) (λ _. refl) (λ _. refl)
    (pair_format text_format
    (pair_format (option_format text_format)
    (pair_format text_format (pair_format text_format (option_format text_format)))))

pub idempotency_id_same : (w : IdempotencyId) → idempotency_id w
    ≡ (idempotency_id_by_parts).spelling w
unfolding idempotency_id
idempotency_id_same w = refl

-- the format of a call by its idempotency key: service, service's key if any, handler, idempotency
-- key, scope if any
abbrev pub idempotency_id_format : Format IdempotencyId
idempotency_id_format = spelled idempotency_id idempotency_id_by_parts idempotency_id_same

-- an invocation's id that is a text; or a workflow's run or a call by its idempotency key whose
-- texts are texts
abbrev pub target_valid : InvocationTarget → Type 0
target_valid (of.InvocationId id) = text_format.valid id
target_valid (of.WorkflowId w) = workflow_id_format.valid w
target_valid (of.IdempotencyId w) = idempotency_id_format.valid w

-- 0 and a text are an invocation's id, 1 and a workflow's run, 2 and a call by its idempotency key;
-- none if another byte stands in front or what is after it can't be read
unfoldable pub read_target : Reading InvocationTarget
read_target = read_case (
    read_if_number 0 (read_as of.InvocationId text_format.read) (
    read_if_number 1 (read_as of.WorkflowId workflow_id_format.read) (
    read_if_number 2 (read_as of.IdempotencyId idempotency_id_format.read) (
    read_no_case))))

pub target_reads : IsReadBack invocation_target target_valid read_target
unfolding read_target read_byte
target_reads (of.InvocationId a) rest v = case_reads of.InvocationId text_format a rest v
target_reads (of.WorkflowId a) rest v = case_reads of.WorkflowId workflow_id_format a rest v
target_reads (of.IdempotencyId a) rest v = case_reads of.IdempotencyId idempotency_id_format a rest
    v

pub target_is : IsSpelled invocation_target target_valid read_target
unfolding read_target
target_is = cases_are invocation_target target_valid _ (
    case_is invocation_target target_valid 0 of.InvocationId text_format _ (λ _ v. v) (λ _. refl) (
    case_is invocation_target target_valid 1 of.WorkflowId workflow_id_format _ (λ _ v. v)
    (λ _. refl) (
    case_is invocation_target target_valid 2 of.IdempotencyId idempotency_id_format _ (λ _ v. v)
    (λ _. refl) (
    no_case_is invocation_target target_valid))))

-- the format of which invocation is meant: 0 and its id (text), 1 and a workflow's run, or 2 and a
-- call by its idempotency key
abbrev pub target_format : Format InvocationTarget
target_format = record {
  spelling = invocation_target;
  valid = target_valid;
  read = read_target;
  reads = target_reads;
  read_is = target_is;
}
