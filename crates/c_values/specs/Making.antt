-- Frames with a value as it is given.
use Rattle.std.specs.Prelude.{ℕ, List, Option, Some, None, Result, Ok, Err}
use Rattle.journal_protocol.specs.InputCommand.{InputCommand}
use Rattle.journal_protocol.specs.Message.TheVariants as message
use Rattle.journal_protocol.specs.NotificationId.TheVariants.{CompletionId}
use Rattle.journal_protocol.specs.NotificationResult.TheVariants as result
use Rattle.journal_protocol.specs.RawMessage.{RawMessage}
use Rattle.journal_protocol.specs.Frames.{encoding}
use Rattle.journal_entries.specs.Entries.{frame_in}
use Rattle.journal_entries.specs.Journal.{input_read_from}
use Rattle.c_values.specs.declared.status.Status.{Status}
use Rattle.c_values.specs.declared.status.Status.TheVariants as status

-- a notification that has a value as its result
abbrev pub value_frame : List ℕ → List ℕ
value_frame value =
    encoding (message.Notification (record { id = CompletionId 0; result = result.Value value }))

-- the frame of an input with this value
abbrev pub with_value : InputCommand → List ℕ → List ℕ
with_value input value = encoding (message.Input (record input { value = value }))

abbrev pub input_made : Option InputCommand → List ℕ → Result (List ℕ) Status
input_made None value = Err status.NotAFrame
input_made (Some input) value = Ok (with_value input value)

abbrev pub input_behind : Option RawMessage → List ℕ → Result (List ℕ) Status
input_behind None value = Err status.NotAFrame
input_behind (Some raw) value = input_made (input_read_from raw) value

-- the frame of an input with this value instead of its own, or why there is none
abbrev pub input_with : List ℕ → List ℕ → Result (List ℕ) Status
input_with frame value = input_behind (frame_in frame) value
