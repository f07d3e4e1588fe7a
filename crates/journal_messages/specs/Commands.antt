-- The messages that a journal records as commands.
use Rattle.std.specs.Prelude.{◌≡◌, Bool, true, ◌&&◌, nat_le, nat_lt}
use Rattle.journal_messages.specs.Message.{type_of}
use Rattle.journal_errors.specs.Types.{type_number}
use Rattle.journal_errors.specs.declared.types.MessageType.{MessageType}
use Rattle.journal_messages.specs.declared.message.Message.{Message}

-- a type of number 10 to 29
abbrev pub is_command : MessageType → Bool
is_command ty = nat_le 10 (type_number ty) && nat_lt (type_number ty) 30

abbrev pub IsCommand : Message → Type 0
IsCommand m = is_command (type_of m) ≡ true
