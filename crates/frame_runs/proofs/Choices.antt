-- The choices of a message, and headers, as they stand in it and on a line. For each choice: its values
-- are read back, a text begins with the word of its case, says one value at most, and is not empty.
use Rattle.std.proofs.Common.{◌≡◌, ◌==◌, ℕ, if◌then◌else◌, List, [], get_or, length, ap, sym, refl, subst, ◌∙◌, arith}
use Rattle.std.specs.Prelude.{codes}
use Rattle.journal_values.specs.Encoding.{failure}
use Rattle.journal_errors.specs.Parts.{behavior_format}
use Rattle.journal_values.specs.Parts.{failure_same, header_format, id_format, result_format, value_format}
use Rattle.journal_calls.specs.Encoding.{idempotency_id, workflow_id}
use Rattle.journal_calls.specs.Choices.{idempotency_id_same, signal_format, signal_result_format, target_format, workflow_id_same}
use Rattle.journal_attempt.specs.Futures.{kind_format}
use Rattle.journal_state.specs.Choices.{void_or_value_format}
use Rattle.journal_protocol.specs.ErrorBehavior.{ErrorBehavior}
use Rattle.journal_protocol.specs.ErrorBehavior.TheVariants as behaviors
use Rattle.journal_protocol.specs.FutureKind.{FutureKind}
use Rattle.journal_protocol.specs.FutureKind.TheVariants as kinds
use Rattle.journal_protocol.specs.VoidOrValue.{VoidOrValue}
use Rattle.journal_protocol.specs.VoidOrValue.TheVariants as voids
use Rattle.journal_protocol.specs.ValueOrFailure.{ValueOrFailure}
use Rattle.journal_protocol.specs.ValueOrFailure.TheVariants as values
use Rattle.journal_protocol.specs.SignalResult.{SignalResult}
use Rattle.journal_protocol.specs.SignalResult.TheVariants as signal_results
use Rattle.journal_protocol.specs.NotificationResult.{NotificationResult}
use Rattle.journal_protocol.specs.NotificationResult.TheVariants as results
use Rattle.journal_protocol.specs.NotificationId.{NotificationId}
use Rattle.journal_protocol.specs.NotificationId.TheVariants as ids
use Rattle.journal_protocol.specs.Signal.{Signal}
use Rattle.journal_protocol.specs.Signal.TheVariants as signals
use Rattle.journal_protocol.specs.InvocationTarget.{InvocationTarget}
use Rattle.journal_protocol.specs.InvocationTarget.TheVariants as targets
use Rattle.journal_protocol.specs.Failure.{Failure}
use Rattle.journal_protocol.specs.Header.{Header}
use Rattle.journal_protocol.specs.IdempotencyId.{IdempotencyId}
use Rattle.journal_protocol.specs.WorkflowId.{WorkflowId}
use Rattle.frame_values.specs.Choices.{behavior_notation, failure_fields, idempotency_id_fields, kind_notation, kind_text, notification_id_notation, notification_result_notation, signal_notation, signal_result_notation, target_notation, value_or_failure_notation, void_or_value_notation, workflow_id_fields}
use Rattle.frame_values.specs.Notation.{bytes_notation, header_notation, list_notation, number, string}
use Rattle.frame_values.proofs.Bracketing.{front}
use Rattle.frame_values.proofs.Bracketing.{unequal}
use Rattle.frame_runs.proofs.Bracketed.{bracketed_said, bracketed_word}
use Rattle.frame_runs.proofs.Closed.{plain_word}
use Rattle.frame_runs.proofs.Fitting.{AllBytes, Item, Row, bytes_item, last, list_item, more, never_left_out, pair_item, row_once, some, text_item, u32_item, whole}
use Rattle.frame_runs.proofs.Named.{FieldsReadBack}
use Rattle.frame_runs.proofs.Once.{AreFieldsOnce, SaysOnce, SaysSomething, held_once, holds_once, pair_once, pair_something, string_once}
use Rattle.frame_runs.proofs.Values.{ReadsBack, holding_said, holding_word}

-- ---- headers

pub header_reads : (h : Header) → (header_format).valid h → AllBytes ((header_format).spelling h) → ReadsBack header_notation h
header_reads h v b = let two = (pair_item text_item text_item).reads (h.key, h.value) v b in record { says = two.says; word = two.word }

pub header_once : SaysOnce (header_notation).Says
header_once text x y p q =
    let same = pair_once string string string_once string_once text (x.key, x.value) (y.key, y.value) p q in λ i. record { key = (same i).0; value = (same i).1 }

pub header_something : SaysSomething header_notation
header_something h says = pair_something string string string_once string_once (h.key, h.value) says

abbrev pub header_item : Item Header
header_item = record {
  format = header_format;
  value = header_notation;
  reads = header_reads;
  once = header_once;
  left_out = never_left_out header_notation (λ h. refl);
  something = header_something;
}

-- ---- what stands in brackets

abbrev pub failure_row : Row Failure
failure_row =
    more (codes "code") refl (λ it. it.code) (whole u32_item) (
    more (codes "message") refl (λ it. it.message) (whole text_item) (
    last (codes "metadata") refl (λ it. it.metadata) (whole (list_item (pair_item text_item text_item)))))

failure_reads : (it : Failure) → (failure_row).format.valid ((failure_row).taken it) → AllBytes (failure it) → FieldsReadBack failure_fields it
failure_reads it v b = (failure_row).fits it v (subst AllBytes (failure_same it) b)

pub failure_once : AreFieldsOnce failure_fields
failure_once = row_once failure_row (λ p. record { code = p.0; message = p.1.0; metadata = p.1.1.0 }) (λ it. refl)

abbrev pub workflow_id_row : Row WorkflowId
workflow_id_row =
    more (codes "name") refl (λ it. it.name) (whole text_item) (
    more (codes "key") refl (λ it. it.key) (whole text_item) (
    last (codes "scope") refl (λ it. it.scope) (some text_item)))

workflow_id_reads : (it : WorkflowId) → (workflow_id_row).format.valid ((workflow_id_row).taken it) → AllBytes (workflow_id it) → FieldsReadBack workflow_id_fields it
workflow_id_reads it v b = (workflow_id_row).fits it v (subst AllBytes (workflow_id_same it) b)

pub workflow_id_once : AreFieldsOnce workflow_id_fields
workflow_id_once = row_once workflow_id_row (λ p. record { name = p.0; key = p.1.0; scope = p.1.1.0 }) (λ it. refl)

abbrev pub idempotency_id_row : Row IdempotencyId
idempotency_id_row =
    more (codes "service_name") refl (λ it. it.service_name) (whole text_item) (
    more (codes "service_key") refl (λ it. it.service_key) (some text_item) (
    more (codes "handler_name") refl (λ it. it.handler_name) (whole text_item) (
    more (codes "idempotency_key") refl (λ it. it.idempotency_key) (whole text_item) (
    last (codes "scope") refl (λ it. it.scope) (some text_item)))))

idempotency_id_reads : (it : IdempotencyId) → (idempotency_id_row).format.valid ((idempotency_id_row).taken it) → AllBytes (idempotency_id it) → FieldsReadBack idempotency_id_fields it
idempotency_id_reads it v b = (idempotency_id_row).fits it v (subst AllBytes (idempotency_id_same it) b)

pub idempotency_id_once : AreFieldsOnce idempotency_id_fields
idempotency_id_once = row_once idempotency_id_row (λ p. record { service_name = p.0; service_key = p.1.0; handler_name = p.1.1.0; idempotency_key = p.1.1.1.0; scope = p.1.1.1.1.0 }) (λ it. refl)

-- ---- behavior

pub behavior_reads : (it : ErrorBehavior) → (behavior_format).valid it → AllBytes ((behavior_format).spelling it) → ReadsBack behavior_notation it
behavior_reads behaviors.Retry v b = record { says = refl; word = plain_word (codes "Retry") (omega arith) refl }
behavior_reads behaviors.Pause v b = record { says = refl; word = plain_word (codes "Pause") (omega arith) refl }
behavior_reads behaviors.Fail v b = record { says = refl; word = plain_word (codes "Fail") (omega arith) refl }

abbrev behavior_word : ErrorBehavior → List ℕ
behavior_word behaviors.Retry = codes "Retry"
behavior_word behaviors.Pause = codes "Pause"
behavior_word behaviors.Fail = codes "Fail"

behavior_begins : (text : List ℕ) (it : ErrorBehavior) → (behavior_notation).Says text it → front text ≡ behavior_word it
behavior_begins text behaviors.Retry says = ap front says
behavior_begins text behaviors.Pause says = ap front says
behavior_begins text behaviors.Fail says = ap front says

pub behavior_once : SaysOnce (behavior_notation).Says
behavior_once text behaviors.Retry behaviors.Retry p q = refl
behavior_once text behaviors.Retry behaviors.Pause p q = absurd (unequal (codes "Retry") (codes "Pause") refl (sym (behavior_begins text behaviors.Retry p) ∙ behavior_begins text behaviors.Pause q))
behavior_once text behaviors.Retry behaviors.Fail p q = absurd (unequal (codes "Retry") (codes "Fail") refl (sym (behavior_begins text behaviors.Retry p) ∙ behavior_begins text behaviors.Fail q))
behavior_once text behaviors.Pause behaviors.Retry p q = absurd (unequal (codes "Pause") (codes "Retry") refl (sym (behavior_begins text behaviors.Pause p) ∙ behavior_begins text behaviors.Retry q))
behavior_once text behaviors.Pause behaviors.Pause p q = refl
behavior_once text behaviors.Pause behaviors.Fail p q = absurd (unequal (codes "Pause") (codes "Fail") refl (sym (behavior_begins text behaviors.Pause p) ∙ behavior_begins text behaviors.Fail q))
behavior_once text behaviors.Fail behaviors.Retry p q = absurd (unequal (codes "Fail") (codes "Retry") refl (sym (behavior_begins text behaviors.Fail p) ∙ behavior_begins text behaviors.Retry q))
behavior_once text behaviors.Fail behaviors.Pause p q = absurd (unequal (codes "Fail") (codes "Pause") refl (sym (behavior_begins text behaviors.Fail p) ∙ behavior_begins text behaviors.Pause q))
behavior_once text behaviors.Fail behaviors.Fail p q = refl

pub behavior_something : SaysSomething behavior_notation
behavior_something behaviors.Retry says = let long = ap length (behavior_begins [] behaviors.Retry says) in absurd (omega (arith, long))
behavior_something behaviors.Pause says = let long = ap length (behavior_begins [] behaviors.Pause says) in absurd (omega (arith, long))
behavior_something behaviors.Fail says = let long = ap length (behavior_begins [] behaviors.Fail says) in absurd (omega (arith, long))

abbrev pub behavior_item : Item ErrorBehavior
behavior_item = record {
  format = behavior_format;
  value = behavior_notation;
  reads = behavior_reads;
  once = behavior_once;
  left_out = never_left_out behavior_notation (λ a. refl);
  something = behavior_something;
}

-- ---- void_or_value

pub void_or_value_reads : (it : VoidOrValue) → (void_or_value_format).valid it → AllBytes ((void_or_value_format).spelling it) → ReadsBack void_or_value_notation it
void_or_value_reads voids.Void v b = record { says = refl; word = plain_word (codes "void") (omega arith) refl }
void_or_value_reads (voids.Value it) v b =
    let reads = (bytes_item).reads it v b.1 in
    record { says = holding_said (codes "value") bytes_notation it (plain_word (codes "value") (omega arith) refl) reads; word = holding_word (codes "value") bytes_notation it (plain_word (codes "value") (omega arith) refl) reads }

abbrev void_or_value_word : VoidOrValue → List ℕ
void_or_value_word voids.Void = codes "void"
void_or_value_word (voids.Value it) = codes "value"

void_or_value_begins : (text : List ℕ) (it : VoidOrValue) → (void_or_value_notation).Says text it → front text ≡ void_or_value_word it
void_or_value_begins text voids.Void says = ap front says
void_or_value_begins text (voids.Value it) says = ap front says.1

pub void_or_value_once : SaysOnce (void_or_value_notation).Says
void_or_value_once text voids.Void voids.Void p q = refl
void_or_value_once text voids.Void (voids.Value b) p q = absurd (unequal (codes "void") (codes "value") refl (sym (void_or_value_begins text voids.Void p) ∙ void_or_value_begins text (voids.Value b) q))
void_or_value_once text (voids.Value a) voids.Void p q = absurd (unequal (codes "value") (codes "void") refl (sym (void_or_value_begins text (voids.Value a) p) ∙ void_or_value_begins text voids.Void q))
void_or_value_once text (voids.Value a) (voids.Value b) p q = ap voids.Value (held_once (codes "value") bytes_notation (bytes_item).once text a b p q)

pub void_or_value_something : SaysSomething void_or_value_notation
void_or_value_something voids.Void says = let long = ap length (void_or_value_begins [] voids.Void says) in absurd (omega (arith, long))
void_or_value_something (voids.Value a) says = let long = ap length (void_or_value_begins [] (voids.Value a) says) in absurd (omega (arith, long))

abbrev pub void_or_value_item : Item VoidOrValue
void_or_value_item = record {
  format = void_or_value_format;
  value = void_or_value_notation;
  reads = void_or_value_reads;
  once = void_or_value_once;
  left_out = never_left_out void_or_value_notation (λ a. refl);
  something = void_or_value_something;
}

-- ---- value_or_failure

pub value_or_failure_reads : (it : ValueOrFailure) → (value_format).valid it → AllBytes ((value_format).spelling it) → ReadsBack value_or_failure_notation it
value_or_failure_reads (values.Value it) v b =
    let reads = (bytes_item).reads it v b.1 in
    record { says = holding_said (codes "value") bytes_notation it (plain_word (codes "value") (omega arith) refl) reads; word = holding_word (codes "value") bytes_notation it (plain_word (codes "value") (omega arith) refl) reads }
value_or_failure_reads (values.Failure it) v b =
    let reads = failure_reads it v b.1 in
    record { says = bracketed_said (codes "failure") failure_fields it (plain_word (codes "failure") (omega arith) refl) reads refl; word = bracketed_word (codes "failure") failure_fields it (plain_word (codes "failure") (omega arith) refl) reads refl }

abbrev value_or_failure_word : ValueOrFailure → List ℕ
value_or_failure_word (values.Value it) = codes "value"
value_or_failure_word (values.Failure it) = codes "failure"

value_or_failure_begins : (text : List ℕ) (it : ValueOrFailure) → (value_or_failure_notation).Says text it → front text ≡ value_or_failure_word it
value_or_failure_begins text (values.Value it) says = ap front says.1
value_or_failure_begins text (values.Failure it) says = ap front says.1

pub value_or_failure_once : SaysOnce (value_or_failure_notation).Says
value_or_failure_once text (values.Value a) (values.Value b) p q = ap values.Value (held_once (codes "value") bytes_notation (bytes_item).once text a b p q)
value_or_failure_once text (values.Value a) (values.Failure b) p q = absurd (unequal (codes "value") (codes "failure") refl (sym (value_or_failure_begins text (values.Value a) p) ∙ value_or_failure_begins text (values.Failure b) q))
value_or_failure_once text (values.Failure a) (values.Value b) p q = absurd (unequal (codes "failure") (codes "value") refl (sym (value_or_failure_begins text (values.Failure a) p) ∙ value_or_failure_begins text (values.Value b) q))
value_or_failure_once text (values.Failure a) (values.Failure b) p q = ap values.Failure (holds_once (codes "failure") failure_fields failure_once text a b p q)

pub value_or_failure_something : SaysSomething value_or_failure_notation
value_or_failure_something (values.Value a) says = let long = ap length (value_or_failure_begins [] (values.Value a) says) in absurd (omega (arith, long))
value_or_failure_something (values.Failure a) says = let long = ap length (value_or_failure_begins [] (values.Failure a) says) in absurd (omega (arith, long))

abbrev pub value_or_failure_item : Item ValueOrFailure
value_or_failure_item = record {
  format = value_format;
  value = value_or_failure_notation;
  reads = value_or_failure_reads;
  once = value_or_failure_once;
  left_out = never_left_out value_or_failure_notation (λ a. refl);
  something = value_or_failure_something;
}

-- ---- signal_result

pub signal_result_reads : (it : SignalResult) → (signal_result_format).valid it → AllBytes ((signal_result_format).spelling it) → ReadsBack signal_result_notation it
signal_result_reads signal_results.Void v b = record { says = refl; word = plain_word (codes "void") (omega arith) refl }
signal_result_reads (signal_results.Value it) v b =
    let reads = (bytes_item).reads it v b.1 in
    record { says = holding_said (codes "value") bytes_notation it (plain_word (codes "value") (omega arith) refl) reads; word = holding_word (codes "value") bytes_notation it (plain_word (codes "value") (omega arith) refl) reads }
signal_result_reads (signal_results.Failure it) v b =
    let reads = failure_reads it v b.1 in
    record { says = bracketed_said (codes "failure") failure_fields it (plain_word (codes "failure") (omega arith) refl) reads refl; word = bracketed_word (codes "failure") failure_fields it (plain_word (codes "failure") (omega arith) refl) reads refl }

abbrev signal_result_word : SignalResult → List ℕ
signal_result_word signal_results.Void = codes "void"
signal_result_word (signal_results.Value it) = codes "value"
signal_result_word (signal_results.Failure it) = codes "failure"

signal_result_begins : (text : List ℕ) (it : SignalResult) → (signal_result_notation).Says text it → front text ≡ signal_result_word it
signal_result_begins text signal_results.Void says = ap front says
signal_result_begins text (signal_results.Value it) says = ap front says.1
signal_result_begins text (signal_results.Failure it) says = ap front says.1

pub signal_result_once : SaysOnce (signal_result_notation).Says
signal_result_once text signal_results.Void signal_results.Void p q = refl
signal_result_once text signal_results.Void (signal_results.Value b) p q = absurd (unequal (codes "void") (codes "value") refl (sym (signal_result_begins text signal_results.Void p) ∙ signal_result_begins text (signal_results.Value b) q))
signal_result_once text signal_results.Void (signal_results.Failure b) p q = absurd (unequal (codes "void") (codes "failure") refl (sym (signal_result_begins text signal_results.Void p) ∙ signal_result_begins text (signal_results.Failure b) q))
signal_result_once text (signal_results.Value a) signal_results.Void p q = absurd (unequal (codes "value") (codes "void") refl (sym (signal_result_begins text (signal_results.Value a) p) ∙ signal_result_begins text signal_results.Void q))
signal_result_once text (signal_results.Value a) (signal_results.Value b) p q = ap signal_results.Value (held_once (codes "value") bytes_notation (bytes_item).once text a b p q)
signal_result_once text (signal_results.Value a) (signal_results.Failure b) p q = absurd (unequal (codes "value") (codes "failure") refl (sym (signal_result_begins text (signal_results.Value a) p) ∙ signal_result_begins text (signal_results.Failure b) q))
signal_result_once text (signal_results.Failure a) signal_results.Void p q = absurd (unequal (codes "failure") (codes "void") refl (sym (signal_result_begins text (signal_results.Failure a) p) ∙ signal_result_begins text signal_results.Void q))
signal_result_once text (signal_results.Failure a) (signal_results.Value b) p q = absurd (unequal (codes "failure") (codes "value") refl (sym (signal_result_begins text (signal_results.Failure a) p) ∙ signal_result_begins text (signal_results.Value b) q))
signal_result_once text (signal_results.Failure a) (signal_results.Failure b) p q = ap signal_results.Failure (holds_once (codes "failure") failure_fields failure_once text a b p q)

pub signal_result_something : SaysSomething signal_result_notation
signal_result_something signal_results.Void says = let long = ap length (signal_result_begins [] signal_results.Void says) in absurd (omega (arith, long))
signal_result_something (signal_results.Value a) says = let long = ap length (signal_result_begins [] (signal_results.Value a) says) in absurd (omega (arith, long))
signal_result_something (signal_results.Failure a) says = let long = ap length (signal_result_begins [] (signal_results.Failure a) says) in absurd (omega (arith, long))

abbrev pub signal_result_item : Item SignalResult
signal_result_item = record {
  format = signal_result_format;
  value = signal_result_notation;
  reads = signal_result_reads;
  once = signal_result_once;
  left_out = never_left_out signal_result_notation (λ a. refl);
  something = signal_result_something;
}

-- ---- notification_result

pub notification_result_reads : (it : NotificationResult) → (result_format).valid it → AllBytes ((result_format).spelling it) → ReadsBack notification_result_notation it
notification_result_reads results.Void v b = record { says = refl; word = plain_word (codes "void") (omega arith) refl }
notification_result_reads (results.Value it) v b =
    let reads = (bytes_item).reads it v b.1 in
    record { says = holding_said (codes "value") bytes_notation it (plain_word (codes "value") (omega arith) refl) reads; word = holding_word (codes "value") bytes_notation it (plain_word (codes "value") (omega arith) refl) reads }
notification_result_reads (results.Failure it) v b =
    let reads = failure_reads it v b.1 in
    record { says = bracketed_said (codes "failure") failure_fields it (plain_word (codes "failure") (omega arith) refl) reads refl; word = bracketed_word (codes "failure") failure_fields it (plain_word (codes "failure") (omega arith) refl) reads refl }
notification_result_reads (results.StateKeys it) v b =
    let reads = (list_item bytes_item).reads it v b.1 in
    record { says = holding_said (codes "state_keys") (list_notation bytes_notation) it (plain_word (codes "state_keys") (omega arith) refl) reads; word = holding_word (codes "state_keys") (list_notation bytes_notation) it (plain_word (codes "state_keys") (omega arith) refl) reads }
notification_result_reads (results.InvocationId it) v b =
    let reads = (text_item).reads it v b.1 in
    record { says = holding_said (codes "invocation_id") string it (plain_word (codes "invocation_id") (omega arith) refl) reads; word = holding_word (codes "invocation_id") string it (plain_word (codes "invocation_id") (omega arith) refl) reads }

abbrev notification_result_word : NotificationResult → List ℕ
notification_result_word results.Void = codes "void"
notification_result_word (results.Value it) = codes "value"
notification_result_word (results.Failure it) = codes "failure"
notification_result_word (results.StateKeys it) = codes "state_keys"
notification_result_word (results.InvocationId it) = codes "invocation_id"

notification_result_begins : (text : List ℕ) (it : NotificationResult) → (notification_result_notation).Says text it → front text ≡ notification_result_word it
notification_result_begins text results.Void says = ap front says
notification_result_begins text (results.Value it) says = ap front says.1
notification_result_begins text (results.Failure it) says = ap front says.1
notification_result_begins text (results.StateKeys it) says = ap front says.1
notification_result_begins text (results.InvocationId it) says = ap front says.1

pub notification_result_once : SaysOnce (notification_result_notation).Says
notification_result_once text results.Void results.Void p q = refl
notification_result_once text results.Void (results.Value b) p q = absurd (unequal (codes "void") (codes "value") refl (sym (notification_result_begins text results.Void p) ∙ notification_result_begins text (results.Value b) q))
notification_result_once text results.Void (results.Failure b) p q = absurd (unequal (codes "void") (codes "failure") refl (sym (notification_result_begins text results.Void p) ∙ notification_result_begins text (results.Failure b) q))
notification_result_once text results.Void (results.StateKeys b) p q = absurd (unequal (codes "void") (codes "state_keys") refl (sym (notification_result_begins text results.Void p) ∙ notification_result_begins text (results.StateKeys b) q))
notification_result_once text results.Void (results.InvocationId b) p q = absurd (unequal (codes "void") (codes "invocation_id") refl (sym (notification_result_begins text results.Void p) ∙ notification_result_begins text (results.InvocationId b) q))
notification_result_once text (results.Value a) results.Void p q = absurd (unequal (codes "value") (codes "void") refl (sym (notification_result_begins text (results.Value a) p) ∙ notification_result_begins text results.Void q))
notification_result_once text (results.Value a) (results.Value b) p q = ap results.Value (held_once (codes "value") bytes_notation (bytes_item).once text a b p q)
notification_result_once text (results.Value a) (results.Failure b) p q = absurd (unequal (codes "value") (codes "failure") refl (sym (notification_result_begins text (results.Value a) p) ∙ notification_result_begins text (results.Failure b) q))
notification_result_once text (results.Value a) (results.StateKeys b) p q = absurd (unequal (codes "value") (codes "state_keys") refl (sym (notification_result_begins text (results.Value a) p) ∙ notification_result_begins text (results.StateKeys b) q))
notification_result_once text (results.Value a) (results.InvocationId b) p q = absurd (unequal (codes "value") (codes "invocation_id") refl (sym (notification_result_begins text (results.Value a) p) ∙ notification_result_begins text (results.InvocationId b) q))
notification_result_once text (results.Failure a) results.Void p q = absurd (unequal (codes "failure") (codes "void") refl (sym (notification_result_begins text (results.Failure a) p) ∙ notification_result_begins text results.Void q))
notification_result_once text (results.Failure a) (results.Value b) p q = absurd (unequal (codes "failure") (codes "value") refl (sym (notification_result_begins text (results.Failure a) p) ∙ notification_result_begins text (results.Value b) q))
notification_result_once text (results.Failure a) (results.Failure b) p q = ap results.Failure (holds_once (codes "failure") failure_fields failure_once text a b p q)
notification_result_once text (results.Failure a) (results.StateKeys b) p q = absurd (unequal (codes "failure") (codes "state_keys") refl (sym (notification_result_begins text (results.Failure a) p) ∙ notification_result_begins text (results.StateKeys b) q))
notification_result_once text (results.Failure a) (results.InvocationId b) p q = absurd (unequal (codes "failure") (codes "invocation_id") refl (sym (notification_result_begins text (results.Failure a) p) ∙ notification_result_begins text (results.InvocationId b) q))
notification_result_once text (results.StateKeys a) results.Void p q = absurd (unequal (codes "state_keys") (codes "void") refl (sym (notification_result_begins text (results.StateKeys a) p) ∙ notification_result_begins text results.Void q))
notification_result_once text (results.StateKeys a) (results.Value b) p q = absurd (unequal (codes "state_keys") (codes "value") refl (sym (notification_result_begins text (results.StateKeys a) p) ∙ notification_result_begins text (results.Value b) q))
notification_result_once text (results.StateKeys a) (results.Failure b) p q = absurd (unequal (codes "state_keys") (codes "failure") refl (sym (notification_result_begins text (results.StateKeys a) p) ∙ notification_result_begins text (results.Failure b) q))
notification_result_once text (results.StateKeys a) (results.StateKeys b) p q = ap results.StateKeys (held_once (codes "state_keys") (list_notation bytes_notation) (list_item bytes_item).once text a b p q)
notification_result_once text (results.StateKeys a) (results.InvocationId b) p q = absurd (unequal (codes "state_keys") (codes "invocation_id") refl (sym (notification_result_begins text (results.StateKeys a) p) ∙ notification_result_begins text (results.InvocationId b) q))
notification_result_once text (results.InvocationId a) results.Void p q = absurd (unequal (codes "invocation_id") (codes "void") refl (sym (notification_result_begins text (results.InvocationId a) p) ∙ notification_result_begins text results.Void q))
notification_result_once text (results.InvocationId a) (results.Value b) p q = absurd (unequal (codes "invocation_id") (codes "value") refl (sym (notification_result_begins text (results.InvocationId a) p) ∙ notification_result_begins text (results.Value b) q))
notification_result_once text (results.InvocationId a) (results.Failure b) p q = absurd (unequal (codes "invocation_id") (codes "failure") refl (sym (notification_result_begins text (results.InvocationId a) p) ∙ notification_result_begins text (results.Failure b) q))
notification_result_once text (results.InvocationId a) (results.StateKeys b) p q = absurd (unequal (codes "invocation_id") (codes "state_keys") refl (sym (notification_result_begins text (results.InvocationId a) p) ∙ notification_result_begins text (results.StateKeys b) q))
notification_result_once text (results.InvocationId a) (results.InvocationId b) p q = ap results.InvocationId (held_once (codes "invocation_id") string (text_item).once text a b p q)

pub notification_result_something : SaysSomething notification_result_notation
notification_result_something results.Void says = let long = ap length (notification_result_begins [] results.Void says) in absurd (omega (arith, long))
notification_result_something (results.Value a) says = let long = ap length (notification_result_begins [] (results.Value a) says) in absurd (omega (arith, long))
notification_result_something (results.Failure a) says = let long = ap length (notification_result_begins [] (results.Failure a) says) in absurd (omega (arith, long))
notification_result_something (results.StateKeys a) says = let long = ap length (notification_result_begins [] (results.StateKeys a) says) in absurd (omega (arith, long))
notification_result_something (results.InvocationId a) says = let long = ap length (notification_result_begins [] (results.InvocationId a) says) in absurd (omega (arith, long))

abbrev pub notification_result_item : Item NotificationResult
notification_result_item = record {
  format = result_format;
  value = notification_result_notation;
  reads = notification_result_reads;
  once = notification_result_once;
  left_out = never_left_out notification_result_notation (λ a. refl);
  something = notification_result_something;
}

-- ---- notification_id

pub notification_id_reads : (it : NotificationId) → (id_format).valid it → AllBytes ((id_format).spelling it) → ReadsBack notification_id_notation it
notification_id_reads (ids.CompletionId it) v b =
    let reads = (u32_item).reads it v b.1 in
    record { says = holding_said (codes "completion") (number 32) it (plain_word (codes "completion") (omega arith) refl) reads; word = holding_word (codes "completion") (number 32) it (plain_word (codes "completion") (omega arith) refl) reads }
notification_id_reads (ids.SignalId it) v b =
    let reads = (u32_item).reads it v b.1 in
    record { says = holding_said (codes "signal") (number 32) it (plain_word (codes "signal") (omega arith) refl) reads; word = holding_word (codes "signal") (number 32) it (plain_word (codes "signal") (omega arith) refl) reads }
notification_id_reads (ids.SignalName it) v b =
    let reads = (text_item).reads it v b.1 in
    record { says = holding_said (codes "name") string it (plain_word (codes "name") (omega arith) refl) reads; word = holding_word (codes "name") string it (plain_word (codes "name") (omega arith) refl) reads }

abbrev notification_id_word : NotificationId → List ℕ
notification_id_word (ids.CompletionId it) = codes "completion"
notification_id_word (ids.SignalId it) = codes "signal"
notification_id_word (ids.SignalName it) = codes "name"

notification_id_begins : (text : List ℕ) (it : NotificationId) → (notification_id_notation).Says text it → front text ≡ notification_id_word it
notification_id_begins text (ids.CompletionId it) says = ap front says.1
notification_id_begins text (ids.SignalId it) says = ap front says.1
notification_id_begins text (ids.SignalName it) says = ap front says.1

pub notification_id_once : SaysOnce (notification_id_notation).Says
notification_id_once text (ids.CompletionId a) (ids.CompletionId b) p q = ap ids.CompletionId (held_once (codes "completion") (number 32) (u32_item).once text a b p q)
notification_id_once text (ids.CompletionId a) (ids.SignalId b) p q = absurd (unequal (codes "completion") (codes "signal") refl (sym (notification_id_begins text (ids.CompletionId a) p) ∙ notification_id_begins text (ids.SignalId b) q))
notification_id_once text (ids.CompletionId a) (ids.SignalName b) p q = absurd (unequal (codes "completion") (codes "name") refl (sym (notification_id_begins text (ids.CompletionId a) p) ∙ notification_id_begins text (ids.SignalName b) q))
notification_id_once text (ids.SignalId a) (ids.CompletionId b) p q = absurd (unequal (codes "signal") (codes "completion") refl (sym (notification_id_begins text (ids.SignalId a) p) ∙ notification_id_begins text (ids.CompletionId b) q))
notification_id_once text (ids.SignalId a) (ids.SignalId b) p q = ap ids.SignalId (held_once (codes "signal") (number 32) (u32_item).once text a b p q)
notification_id_once text (ids.SignalId a) (ids.SignalName b) p q = absurd (unequal (codes "signal") (codes "name") refl (sym (notification_id_begins text (ids.SignalId a) p) ∙ notification_id_begins text (ids.SignalName b) q))
notification_id_once text (ids.SignalName a) (ids.CompletionId b) p q = absurd (unequal (codes "name") (codes "completion") refl (sym (notification_id_begins text (ids.SignalName a) p) ∙ notification_id_begins text (ids.CompletionId b) q))
notification_id_once text (ids.SignalName a) (ids.SignalId b) p q = absurd (unequal (codes "name") (codes "signal") refl (sym (notification_id_begins text (ids.SignalName a) p) ∙ notification_id_begins text (ids.SignalId b) q))
notification_id_once text (ids.SignalName a) (ids.SignalName b) p q = ap ids.SignalName (held_once (codes "name") string (text_item).once text a b p q)

pub notification_id_something : SaysSomething notification_id_notation
notification_id_something (ids.CompletionId a) says = let long = ap length (notification_id_begins [] (ids.CompletionId a) says) in absurd (omega (arith, long))
notification_id_something (ids.SignalId a) says = let long = ap length (notification_id_begins [] (ids.SignalId a) says) in absurd (omega (arith, long))
notification_id_something (ids.SignalName a) says = let long = ap length (notification_id_begins [] (ids.SignalName a) says) in absurd (omega (arith, long))

abbrev pub notification_id_item : Item NotificationId
notification_id_item = record {
  format = id_format;
  value = notification_id_notation;
  reads = notification_id_reads;
  once = notification_id_once;
  left_out = never_left_out notification_id_notation (λ a. refl);
  something = notification_id_something;
}

-- ---- signal

pub signal_reads : (it : Signal) → (signal_format).valid it → AllBytes ((signal_format).spelling it) → ReadsBack signal_notation it
signal_reads (signals.Index it) v b =
    let reads = (u32_item).reads it v b.1 in
    record { says = holding_said (codes "index") (number 32) it (plain_word (codes "index") (omega arith) refl) reads; word = holding_word (codes "index") (number 32) it (plain_word (codes "index") (omega arith) refl) reads }
signal_reads (signals.Name it) v b =
    let reads = (text_item).reads it v b.1 in
    record { says = holding_said (codes "name") string it (plain_word (codes "name") (omega arith) refl) reads; word = holding_word (codes "name") string it (plain_word (codes "name") (omega arith) refl) reads }

abbrev signal_word : Signal → List ℕ
signal_word (signals.Index it) = codes "index"
signal_word (signals.Name it) = codes "name"

signal_begins : (text : List ℕ) (it : Signal) → (signal_notation).Says text it → front text ≡ signal_word it
signal_begins text (signals.Index it) says = ap front says.1
signal_begins text (signals.Name it) says = ap front says.1

pub signal_once : SaysOnce (signal_notation).Says
signal_once text (signals.Index a) (signals.Index b) p q = ap signals.Index (held_once (codes "index") (number 32) (u32_item).once text a b p q)
signal_once text (signals.Index a) (signals.Name b) p q = absurd (unequal (codes "index") (codes "name") refl (sym (signal_begins text (signals.Index a) p) ∙ signal_begins text (signals.Name b) q))
signal_once text (signals.Name a) (signals.Index b) p q = absurd (unequal (codes "name") (codes "index") refl (sym (signal_begins text (signals.Name a) p) ∙ signal_begins text (signals.Index b) q))
signal_once text (signals.Name a) (signals.Name b) p q = ap signals.Name (held_once (codes "name") string (text_item).once text a b p q)

pub signal_something : SaysSomething signal_notation
signal_something (signals.Index a) says = let long = ap length (signal_begins [] (signals.Index a) says) in absurd (omega (arith, long))
signal_something (signals.Name a) says = let long = ap length (signal_begins [] (signals.Name a) says) in absurd (omega (arith, long))

abbrev pub signal_item : Item Signal
signal_item = record {
  format = signal_format;
  value = signal_notation;
  reads = signal_reads;
  once = signal_once;
  left_out = never_left_out signal_notation (λ a. refl);
  something = signal_something;
}

-- ---- target

pub target_reads : (it : InvocationTarget) → (target_format).valid it → AllBytes ((target_format).spelling it) → ReadsBack target_notation it
target_reads (targets.InvocationId it) v b =
    let reads = (text_item).reads it v b.1 in
    record { says = holding_said (codes "InvocationId") string it (plain_word (codes "InvocationId") (omega arith) refl) reads; word = holding_word (codes "InvocationId") string it (plain_word (codes "InvocationId") (omega arith) refl) reads }
target_reads (targets.WorkflowId it) v b =
    let reads = workflow_id_reads it v b.1 in
    record { says = bracketed_said (codes "WorkflowId") workflow_id_fields it (plain_word (codes "WorkflowId") (omega arith) refl) reads refl; word = bracketed_word (codes "WorkflowId") workflow_id_fields it (plain_word (codes "WorkflowId") (omega arith) refl) reads refl }
target_reads (targets.IdempotencyId it) v b =
    let reads = idempotency_id_reads it v b.1 in
    record { says = bracketed_said (codes "IdempotencyId") idempotency_id_fields it (plain_word (codes "IdempotencyId") (omega arith) refl) reads refl; word = bracketed_word (codes "IdempotencyId") idempotency_id_fields it (plain_word (codes "IdempotencyId") (omega arith) refl) reads refl }

abbrev target_word : InvocationTarget → List ℕ
target_word (targets.InvocationId it) = codes "InvocationId"
target_word (targets.WorkflowId it) = codes "WorkflowId"
target_word (targets.IdempotencyId it) = codes "IdempotencyId"

target_begins : (text : List ℕ) (it : InvocationTarget) → (target_notation).Says text it → front text ≡ target_word it
target_begins text (targets.InvocationId it) says = ap front says.1
target_begins text (targets.WorkflowId it) says = ap front says.1
target_begins text (targets.IdempotencyId it) says = ap front says.1

pub target_once : SaysOnce (target_notation).Says
target_once text (targets.InvocationId a) (targets.InvocationId b) p q = ap targets.InvocationId (held_once (codes "InvocationId") string (text_item).once text a b p q)
target_once text (targets.InvocationId a) (targets.WorkflowId b) p q = absurd (unequal (codes "InvocationId") (codes "WorkflowId") refl (sym (target_begins text (targets.InvocationId a) p) ∙ target_begins text (targets.WorkflowId b) q))
target_once text (targets.InvocationId a) (targets.IdempotencyId b) p q = absurd (unequal (codes "InvocationId") (codes "IdempotencyId") refl (sym (target_begins text (targets.InvocationId a) p) ∙ target_begins text (targets.IdempotencyId b) q))
target_once text (targets.WorkflowId a) (targets.InvocationId b) p q = absurd (unequal (codes "WorkflowId") (codes "InvocationId") refl (sym (target_begins text (targets.WorkflowId a) p) ∙ target_begins text (targets.InvocationId b) q))
target_once text (targets.WorkflowId a) (targets.WorkflowId b) p q = ap targets.WorkflowId (holds_once (codes "WorkflowId") workflow_id_fields workflow_id_once text a b p q)
target_once text (targets.WorkflowId a) (targets.IdempotencyId b) p q = absurd (unequal (codes "WorkflowId") (codes "IdempotencyId") refl (sym (target_begins text (targets.WorkflowId a) p) ∙ target_begins text (targets.IdempotencyId b) q))
target_once text (targets.IdempotencyId a) (targets.InvocationId b) p q = absurd (unequal (codes "IdempotencyId") (codes "InvocationId") refl (sym (target_begins text (targets.IdempotencyId a) p) ∙ target_begins text (targets.InvocationId b) q))
target_once text (targets.IdempotencyId a) (targets.WorkflowId b) p q = absurd (unequal (codes "IdempotencyId") (codes "WorkflowId") refl (sym (target_begins text (targets.IdempotencyId a) p) ∙ target_begins text (targets.WorkflowId b) q))
target_once text (targets.IdempotencyId a) (targets.IdempotencyId b) p q = ap targets.IdempotencyId (holds_once (codes "IdempotencyId") idempotency_id_fields idempotency_id_once text a b p q)

pub target_something : SaysSomething target_notation
target_something (targets.InvocationId a) says = let long = ap length (target_begins [] (targets.InvocationId a) says) in absurd (omega (arith, long))
target_something (targets.WorkflowId a) says = let long = ap length (target_begins [] (targets.WorkflowId a) says) in absurd (omega (arith, long))
target_something (targets.IdempotencyId a) says = let long = ap length (target_begins [] (targets.IdempotencyId a) says) in absurd (omega (arith, long))

abbrev pub target_item : Item InvocationTarget
target_item = record {
  format = target_format;
  value = target_notation;
  reads = target_reads;
  once = target_once;
  left_out = never_left_out target_notation (λ a. refl);
  something = target_something;
}

-- ---- kind

pub kind_reads : (it : FutureKind) → (kind_format).valid it → AllBytes ((kind_format).spelling it) → ReadsBack kind_notation it
kind_reads kinds.FirstCompleted v b = record { says = refl; word = plain_word (codes "FirstCompleted") (omega arith) refl }
kind_reads kinds.AllCompleted v b = record { says = refl; word = plain_word (codes "AllCompleted") (omega arith) refl }
kind_reads kinds.FirstSucceededOrAllFailed v b = record { says = refl; word = plain_word (codes "FirstSucceededOrAllFailed") (omega arith) refl }
kind_reads kinds.AllSucceededOrFirstFailed v b = record { says = refl; word = plain_word (codes "AllSucceededOrFirstFailed") (omega arith) refl }
kind_reads kinds.Unknown v b = record { says = refl; word = plain_word (codes "Unknown") (omega arith) refl }

-- the kind that a text names, by the bytes in which the names differ
abbrev kind_in : List ℕ → FutureKind
kind_in text =
    if get_or text 0 0 == 85 then kinds.Unknown else
    if get_or text 0 0 == 70 then (if get_or text 5 0 == 67 then kinds.FirstCompleted else kinds.FirstSucceededOrAllFailed)
    else (if get_or text 3 0 == 67 then kinds.AllCompleted else kinds.AllSucceededOrFirstFailed)

kind_named : (it : FutureKind) → kind_in (kind_text it) ≡ it
kind_named kinds.FirstCompleted = refl
kind_named kinds.AllCompleted = refl
kind_named kinds.FirstSucceededOrAllFailed = refl
kind_named kinds.AllSucceededOrFirstFailed = refl
kind_named kinds.Unknown = refl

pub kind_once : SaysOnce (kind_notation).Says
kind_once text a b p q = sym (kind_named a) ∙ ap kind_in (sym p ∙ q) ∙ kind_named b

pub kind_something : SaysSomething kind_notation
kind_something kinds.FirstCompleted says = let long = ap length says in absurd (omega (arith, long))
kind_something kinds.AllCompleted says = let long = ap length says in absurd (omega (arith, long))
kind_something kinds.FirstSucceededOrAllFailed says = let long = ap length says in absurd (omega (arith, long))
kind_something kinds.AllSucceededOrFirstFailed says = let long = ap length says in absurd (omega (arith, long))
kind_something kinds.Unknown says = let long = ap length says in absurd (omega (arith, long))

abbrev pub kind_item : Item FutureKind
kind_item = record {
  format = kind_format;
  value = kind_notation;
  reads = kind_reads;
  once = kind_once;
  left_out = never_left_out kind_notation (λ a. refl);
  something = kind_something;
}
