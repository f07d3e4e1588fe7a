-- The bytes of values, of failures and of notifications.
use Rattle.std.specs.Prelude.{ℕ, List, [], ◌∷◌, ◌++◌}
use Rattle.wire.specs.Format.{u32s, bytes, list, fields}
use Rattle.journal_values.specs.declared.parts.Header.{Header}
use Rattle.journal_values.specs.declared.parts.Failure.{Failure}
use Rattle.journal_values.specs.declared.parts.ValueOrFailure.{ValueOrFailure}
use Rattle.journal_values.specs.declared.parts.ValueOrFailure.TheVariants as value
use Rattle.journal_values.specs.declared.notification.Notification.{Notification}
use Rattle.journal_values.specs.declared.notification.NotificationId.{NotificationId}
use Rattle.journal_values.specs.declared.notification.NotificationId.TheVariants as id
use Rattle.journal_values.specs.declared.notification.NotificationResult.{NotificationResult}
use Rattle.journal_values.specs.declared.notification.NotificationResult.TheVariants as result

-- two strings of bytes, one after the other, each with its length (u64) in front
abbrev pub pair_of_texts : List ℕ × List ℕ → List ℕ
pair_of_texts p = bytes p.0 ++ bytes p.1

-- a header: key and value, each a text: a length (u64) and that many bytes
abbrev pub header : Header → List ℕ
header h = fields (bytes h.key ∷ bytes h.value ∷ [])

-- a failure: code (u32), message (text), metadata: a count (u64) and the pairs of texts
unfoldable pub failure : Failure → List ℕ
failure f = fields (u32s f.code ∷ bytes f.message ∷ list pair_of_texts f.metadata ∷ [])

-- 0 and a value's bytes, or 1 and a failure
abbrev pub value_or_failure : ValueOrFailure → List ℕ
value_or_failure (value.Value bs) = 0 ∷ bytes bs
value_or_failure (value.Failure f) = 1 ∷ failure f

-- 0 and a completion's number (u32), 1 and a signal's number (u32), or 2 and a signal's name (text)
abbrev pub notification_id : NotificationId → List ℕ
notification_id (id.CompletionId n) = 0 ∷ u32s n
notification_id (id.SignalId n) = 1 ∷ u32s n
notification_id (id.SignalName name) = 2 ∷ bytes name

-- 0 for void, 1 and a value's bytes, 2 and a failure, 3 and state keys: a count (u64) and the keys
-- (bytes), or 4 and an invocation's id (text)
abbrev pub notification_result : NotificationResult → List ℕ
notification_result result.Void = 0 ∷ []
notification_result (result.Value bs) = 1 ∷ bytes bs
notification_result (result.Failure f) = 2 ∷ failure f
notification_result (result.StateKeys keys) = 3 ∷ list bytes keys
notification_result (result.InvocationId name) = 4 ∷ bytes name

-- a notification: the id that it is for, and the result
unfoldable pub notification : Notification → List ℕ
notification m = fields (notification_id m.id ∷ notification_result m.result ∷ [])
