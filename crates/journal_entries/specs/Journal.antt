-- A journal: its entries, and the two lists that a run reads them as.
use Rattle.std.specs.Prelude.{List, [], ◌∷◌, Option, Some, None, ◌==◌, if◌then◌else◌}
use Rattle.journal_protocol.specs.InputCommand.{InputCommand}
use Rattle.journal_protocol.specs.Message.{Message}
use Rattle.journal_protocol.specs.RawMessage.{RawMessage}
use Rattle.journal_protocol.specs.Notification.{Notification}
use Rattle.journal_protocol.specs.MessageType.TheVariants as type
use Rattle.journal_protocol.specs.Frames.{type_of, body}
use Rattle.journal_protocol.specs.Bodies.{input_in, message_in}
use Rattle.journal_protocol.specs.Types.{type_number}

-- An entry is a command as it was stored, or a notification.
pub data Entry : Type 0 where
  Recorded : RawMessage → Entry
  Notified : Notification → Entry

-- the commands of a journal, in order
abbrev pub commands_in : List Entry → List RawMessage
commands_in [] = []
commands_in (Recorded c ∷ es) = c ∷ commands_in es
commands_in (Notified n ∷ es) = commands_in es

-- the notifications of a journal, in order
abbrev pub notifications_in : List Entry → List Notification
notifications_in [] = []
notifications_in (Recorded c ∷ es) = notifications_in es
notifications_in (Notified n ∷ es) = n ∷ notifications_in es

-- a message as it is stored
abbrev pub stored_form : Message → RawMessage
stored_form m = record { ty = type_of m; body = body m }

-- the input that a stored command is; none where it is another command
abbrev pub input_read_from : RawMessage → Option InputCommand
input_read_from raw =
    if type_number raw.ty == type_number type.InputCommand then input_in raw.body else None

-- a message that was read comes first
abbrev pub read_before : Option Message → List Message → List Message
read_before None ms = ms
read_before (Some m) ms = m ∷ ms

-- what recorded commands say: those that can be read, in order
abbrev pub messages_in : List RawMessage → List Message
messages_in [] = []
messages_in (c ∷ cs) = read_before (message_in c.ty c.body) (messages_in cs)
