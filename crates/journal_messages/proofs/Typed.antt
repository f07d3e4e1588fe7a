-- The type of a message that is read.
use Rattle.std.specs.Prelude.{◌≡◌, ℕ, List, Some}
use Rattle.journal_errors.specs.declared.types.MessageType.{MessageType}
use Rattle.journal_messages.specs.Message.{type_of}
use Rattle.journal_messages.specs.Reading.{message_in}
use Rattle.journal_messages.specs.declared.message.Message.{Message}
use Rattle.journal_messages.proofs.Reading.{message_is}

pub type_read : (ty : MessageType) (b : List ℕ) (m : Message) → message_in ty b ≡ Some m → type_of m ≡ ty
type_read ty b m read = (message_is ty b m read).1
