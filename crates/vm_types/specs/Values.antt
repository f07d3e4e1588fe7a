-- The values that calls take and answer, as they are read from messages and written to them.
use Rattle.std.specs.Prelude.{ℕ, ◌%◌, if◌then◌else◌, List, Option, Some, None, codes}
use Rattle.std.specs.List.{list_all}
use Rattle.std.specs.Str.{is_utf8}
use Rattle.journal_values.specs.declared.parts.Failure.{Failure}
use Rattle.journal_values.specs.declared.parts.ValueOrFailure.{ValueOrFailure}
use Rattle.journal_values.specs.declared.parts.ValueOrFailure.TheVariants as message
use Rattle.journal_values.specs.declared.notification.NotificationResult.{NotificationResult}
use Rattle.journal_values.specs.declared.notification.NotificationResult.TheVariants as found
use Rattle.vm_types.specs.declared.values.TerminalFailure.{TerminalFailure}
use Rattle.vm_types.specs.declared.values.NonEmptyValue.{NonEmptyValue}
use Rattle.vm_types.specs.declared.values.NonEmptyValue.TheVariants as given
use Rattle.vm_types.specs.declared.values.Value.{Value}
use Rattle.vm_types.specs.declared.values.Value.TheVariants.{Void, Success, Failure as Failed, StateKeys, InvocationId}

-- a failure that is read: of its code the low sixteen bits count
abbrev pub terminal_failure : Failure → TerminalFailure
terminal_failure f = record { code = f.code % 65536; message = f.message; metadata = f.metadata }

-- a failure, as a message has it
abbrev pub failure_message : TerminalFailure → Failure
failure_message f = record { code = f.code; message = f.message; metadata = f.metadata }

-- a value, as a message has it
abbrev pub value_message : NonEmptyValue → ValueOrFailure
value_message (given.Success bytes) = message.Value bytes
value_message (given.Failure f) = message.Failure (failure_message f)

-- a value that is not void
abbrev pub as_value : NonEmptyValue → Value
as_value (given.Success bytes) = Success bytes
as_value (given.Failure f) = Failed f

-- keys are texts only where each is UTF-8
abbrev pub texts_in : List (List ℕ) → Option (List (List ℕ))
texts_in keys = if list_all is_utf8 keys then Some keys else None

-- the keys of a state, where each is a text
abbrev pub keys_value : Option (List (List ℕ)) → Option Value
keys_value None = None
keys_value (Some keys) = Some (StateKeys keys)

-- what a handler is given for a notification's result; nothing where a state key isn't UTF-8
abbrev pub value_of : NotificationResult → Option Value
value_of found.Void = Some Void
value_of (found.Value bytes) = Some (Success bytes)
value_of (found.Failure f) = Some (Failed (terminal_failure f))
value_of (found.StateKeys keys) = keys_value (texts_in keys)
value_of (found.InvocationId id) = Some (InvocationId id)

-- the invocation's id that a value is
abbrev pub id_of_value : Value → Option (List ℕ)
id_of_value (InvocationId id) = Some id
id_of_value Void = None
id_of_value (Success bytes) = None
id_of_value (Failed failure) = None
id_of_value (StateKeys keys) = None

-- the name of a value's case
abbrev pub case_name : Value → List ℕ
case_name Void = codes "Void"
case_name (Success _) = codes "Success"
case_name (Failed _) = codes "Failure"
case_name (StateKeys _) = codes "StateKeys"
case_name (InvocationId _) = codes "InvocationId"
