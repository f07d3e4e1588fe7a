-- The formats of what messages are made of.
use Rattle.std.specs.Prelude.{◌≡◌, ℕ, List, refl}
use Rattle.wire.specs.Format.{Format, Reading, IsReadBack, IsSpelled, read_as, read_nothing, read_byte, read_if_number, read_no_case, read_case}
use Rattle.wire.specs.Forms.{case_reads, case_is, cases_are, no_case_is, nothing_format, u32_format, bytes_format, text_format, pair_format, list_format, via, spelled}
use Rattle.journal_values.specs.Encoding.{header, failure, value_or_failure, notification_id, notification_result}
use Rattle.journal_values.specs.declared.parts.Header.{Header}
use Rattle.journal_values.specs.declared.parts.Failure.{Failure}
use Rattle.journal_values.specs.declared.parts.ValueOrFailure.{ValueOrFailure}
use Rattle.journal_values.specs.declared.parts.ValueOrFailure.TheVariants as value
use Rattle.journal_values.specs.declared.notification.NotificationId.{NotificationId}
use Rattle.journal_values.specs.declared.notification.NotificationId.TheVariants as id
use Rattle.journal_values.specs.declared.notification.NotificationResult.{NotificationResult}
use Rattle.journal_values.specs.declared.notification.NotificationResult.TheVariants as result

-- two texts, one after the other
abbrev pub texts_format : Format (List ℕ × List ℕ)
texts_format = pair_format text_format text_format

-- a header as (key, value)
abbrev pub header_parts : Header → List ℕ × List ℕ
header_parts h = (h.key, h.value)

-- the format of a header: key and value, each a text
abbrev pub header_format : Format Header
header_format = spelled header
    (via header_parts (λ p. record { key = p.0; value = p.1 }) (λ _. refl) (λ _. refl) texts_format)
    (λ _. refl)

-- a failure as (code, (message, metadata))
abbrev pub failure_parts : Failure → ℕ × (List ℕ × List (List ℕ × List ℕ))
failure_parts f = (f.code, (f.message, f.metadata))

-- a u32, a text, and a list of pairs of texts
abbrev pub failure_parts_format : Format (ℕ × (List ℕ × List (List ℕ × List ℕ)))
failure_parts_format = pair_format u32_format (pair_format text_format (list_format texts_format))

pub failure_same : (f : Failure) → failure f ≡ failure_parts_format.spelling (failure_parts f)
unfolding failure
failure_same f = refl

-- the format of a failure: code (u32), message (text), metadata (a list of pairs of texts)
abbrev pub failure_format : Format Failure
failure_format = spelled failure
    (via failure_parts (λ p. record { code = p.0; message = p.1.0; metadata = p.1.1 }) (λ _. refl)
    (λ _. refl) failure_parts_format) failure_same

-- ---- a value or a failure

-- a value of fewer than 2 ^ 64 bytes; or a failure whose code, texts and count fit
abbrev pub value_valid : ValueOrFailure → Type 0
value_valid (value.Value bs) = bytes_format.valid bs
value_valid (value.Failure f) = failure_format.valid f

-- 0 and bytes are a value, 1 and a failure are that failure; none if another byte stands in front
-- or the rest can't be read
unfoldable pub read_value : Reading ValueOrFailure
read_value = read_case (
    read_if_number 0 (read_as value.Value bytes_format.read) (
    read_if_number 1 (read_as value.Failure failure_format.read) (
    read_no_case)))

pub value_reads : IsReadBack value_or_failure value_valid read_value
unfolding read_value read_byte
value_reads (value.Value a) rest v = case_reads value.Value bytes_format a rest v
value_reads (value.Failure a) rest v = case_reads value.Failure failure_format a rest v

pub value_is : IsSpelled value_or_failure value_valid read_value
unfolding read_value
value_is = cases_are value_or_failure value_valid _ (
    case_is value_or_failure value_valid 0 value.Value bytes_format _ (λ _ v. v) (λ _. refl) (
    case_is value_or_failure value_valid 1 value.Failure failure_format _ (λ _ v. v) (λ _. refl) (
    no_case_is value_or_failure value_valid)))

-- the format of a value or a failure: 0 and the value's bytes, or 1 and the failure
abbrev pub value_format : Format ValueOrFailure
value_format = record {
  spelling = value_or_failure;
  valid = value_valid;
  read = read_value;
  reads = value_reads;
  read_is = value_is;
}

-- ---- ids

-- a completion's or signal's number below 2 ^ 32; or a signal's name that is a text
abbrev pub id_valid : NotificationId → Type 0
id_valid (id.CompletionId n) = u32_format.valid n
id_valid (id.SignalId n) = u32_format.valid n
id_valid (id.SignalName name) = text_format.valid name

-- 0 and a u32 are a completion, 1 and a u32 a signal, 2 and a text a signal's name; none if another
-- byte stands in front or what is after it can't be read
unfoldable pub read_id : Reading NotificationId
read_id = read_case (
    read_if_number 0 (read_as id.CompletionId u32_format.read) (
    read_if_number 1 (read_as id.SignalId u32_format.read) (
    read_if_number 2 (read_as id.SignalName text_format.read) (
    read_no_case))))

pub id_reads : IsReadBack notification_id id_valid read_id
unfolding read_id read_byte
id_reads (id.CompletionId a) rest v = case_reads id.CompletionId u32_format a rest v
id_reads (id.SignalId a) rest v = case_reads id.SignalId u32_format a rest v
id_reads (id.SignalName a) rest v = case_reads id.SignalName text_format a rest v

pub id_is : IsSpelled notification_id id_valid read_id
unfolding read_id
id_is = cases_are notification_id id_valid _ (
    case_is notification_id id_valid 0 id.CompletionId u32_format _ (λ _ v. v) (λ _. refl) (
    case_is notification_id id_valid 1 id.SignalId u32_format _ (λ _ v. v) (λ _. refl) (
    case_is notification_id id_valid 2 id.SignalName text_format _ (λ _ v. v) (λ _. refl) (
    no_case_is notification_id id_valid))))

-- the format of what a notification is for: 0 completion (u32), 1 signal (u32), 2 signal's name
-- (text)
abbrev pub id_format : Format NotificationId
id_format = record {
  spelling = notification_id;
  valid = id_valid;
  read = read_id;
  reads = id_reads;
  read_is = id_is;
}

-- ---- results

-- void; a value of fewer than 2 ^ 64 bytes; a failure whose parts fit; fewer than 2 ^ 64 state
-- keys, each of fewer than 2 ^ 64 bytes; or an invocation's id that is a text
abbrev pub result_valid : NotificationResult → Type 0
result_valid result.Void = Unit {0}
result_valid (result.Value bs) = bytes_format.valid bs
result_valid (result.Failure f) = failure_format.valid f
result_valid (result.StateKeys keys) = (list_format bytes_format).valid keys
result_valid (result.InvocationId name) = text_format.valid name

-- 0 is void, 1 and bytes are a value, 2 a failure, 3 state keys, 4 and a text an invocation's id;
-- none if another byte stands in front or what is after it can't be read
unfoldable pub read_result : Reading NotificationResult
read_result = read_case (
    read_if_number 0 (read_as (λ _. result.Void) read_nothing) (
    read_if_number 1 (read_as result.Value bytes_format.read) (
    read_if_number 2 (read_as result.Failure failure_format.read) (
    read_if_number 3 (read_as result.StateKeys (list_format bytes_format).read) (
    read_if_number 4 (read_as result.InvocationId text_format.read) (
    read_no_case))))))

pub result_reads : IsReadBack notification_result result_valid read_result
unfolding read_result read_byte
result_reads result.Void rest v = refl
result_reads (result.Value a) rest v = case_reads result.Value bytes_format a rest v
result_reads (result.Failure a) rest v = case_reads result.Failure failure_format a rest v
result_reads (result.StateKeys a) rest v = case_reads result.StateKeys (list_format bytes_format) a
    rest v
result_reads (result.InvocationId a) rest v = case_reads result.InvocationId text_format a rest v

pub result_is : IsSpelled notification_result result_valid read_result
unfolding read_result
result_is = cases_are notification_result result_valid _ (
    case_is notification_result result_valid 0 (λ _. result.Void) nothing_format _ (λ _ v. v)
    (λ _. refl) (
    case_is notification_result result_valid 1 result.Value bytes_format _ (λ _ v. v) (λ _. refl) (
    case_is notification_result result_valid 2 result.Failure failure_format _ (λ _ v. v)
    (λ _. refl) (
    case_is notification_result result_valid 3 result.StateKeys (list_format bytes_format) _
    (λ _ v. v) (λ _. refl) (
    case_is notification_result result_valid 4 result.InvocationId text_format _ (λ _ v. v)
    (λ _. refl) (
    no_case_is notification_result result_valid))))))

-- the format of a notification's result: 0 void, 1 value (bytes), 2 failure, 3 state keys (a list
-- of bytes), 4 invocation's id (text)
abbrev pub result_format : Format NotificationResult
result_format = record {
  spelling = notification_result;
  valid = result_valid;
  read = read_result;
  reads = result_reads;
  read_is = result_is;
}
