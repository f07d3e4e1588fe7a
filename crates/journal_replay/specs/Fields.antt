-- Fields: their names, and which of two messages' fields is the first that isn't the same.
use Rattle.std.specs.Prelude.{◌≡◌, ◌⊎◌, ℕ, Bool, List, Option, None, Some, codes, if◌then◌else◌}
use Rattle.journal_replay.specs.declared.field.Field.{Field}
use Rattle.journal_replay.specs.declared.field.Field.TheVariants as field

-- the name that it has on the line of a frame
unfoldable pub field_text : Field → List ℕ
field_text field.Type = codes "type"
field_text field.ServiceName = codes "service_name"
field_text field.HandlerName = codes "handler_name"
field_text field.Key = codes "key"
field_text field.IdempotencyKey = codes "idempotency_key"
field_text field.Scope = codes "scope"
field_text field.LimitKey = codes "limit_key"
field_text field.Headers = codes "headers"
field_text field.Parameter = codes "parameter"
field_text field.Name = codes "name"
field_text field.Value = codes "value"
field_text field.Result = codes "result"
field_text field.Completion = codes "completion"
field_text field.AwakeableId = codes "awakeable_id"
field_text field.TargetInvocationId = codes "target_invocation_id"
field_text field.Signal = codes "signal"
field_text field.Target = codes "target"
field_text field.InvocationIdNotificationIdx = codes "invocation_id_notification_idx"
field_text field.ResultCompletionId = codes "result_completion_id"
field_text field.Body = codes "body"

-- this field, if the two aren't the same in it; else what is found after it
unfoldable pub unless : Bool → Field → Option Field → Option Field
unless same it others = if same then others else Some it

-- The two aren't the same in this field, which is what is found; or they are, and this holds of
-- what
-- is found after it.
unfoldable pub Before : Field → Type 0 → (Option Field → Type 0) → Option Field → Type 0
Before it Same After found = ((Same → ⊥) × (found ≡ Some it)) ⊎ (Same × After found)

-- nothing is found
abbrev pub IsNothing : Option Field → Type 0
IsNothing found = found ≡ None
