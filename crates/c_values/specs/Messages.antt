-- What is read of the bytes that C gives.
use Rattle.std.specs.Prelude.{◌≡◌, ◌⊎◌, ℕ, Bool, List, Option, Some, None, Result, Ok, Err}
use Rattle.journal_protocol.specs.Message.{Message}
use Rattle.journal_protocol.specs.RawMessage.{RawMessage}
use Rattle.journal_protocol.specs.Bodies.{message_in}
use Rattle.journal_protocol.specs.Frames.{type_of}
use Rattle.journal_protocol.specs.Types.{type_number}
use Rattle.journal_entries.specs.Entries.{frame_in}
use Rattle.journal_replay.specs.declared.field.Field.{Field}
use Rattle.journal_replay.specs.Fields.{field_text}
use Rattle.journal_replay.specs.Differences.{difference}
use Rattle.c_values.specs.declared.status.Status.{Status}
use Rattle.c_values.specs.declared.status.Status.TheVariants as status
use Rattle.c_values.specs.declared.numbers.FrameRow.{FrameRow}
use Rattle.c_values.specs.Numbers.{unread_row, message_numbers}
use Rattle.c_values.specs.Parts.{message_part}

-- the message of a frame, if there is one and it can be read
abbrev pub message_behind : Option RawMessage → Option Message
message_behind None = None
message_behind (Some raw) = message_in raw.ty raw.body

-- the message of the one whole frame that bytes are
abbrev pub message_at : List ℕ → Option Message
message_at bytes = message_behind (frame_in bytes)

-- the row of a message, if there is one
abbrev pub message_row : Option Message → FrameRow
message_row None = unread_row status.NotAFrame
message_row (Some m) = record (message_numbers m) { ty = type_number (type_of m) }

-- The row of a frame; or memory ran out.
abbrev pub RowRead : List ℕ → FrameRow → Type 0
RowRead frame row = (row ≡ message_row (message_at frame)) ⊎ (row ≡ unread_row status.NoMemory)

-- a part, if there is one
abbrev pub found_part : Option (List ℕ) → Result (List ℕ) Status
found_part None = Err status.NoPart
found_part (Some part) = Ok part

-- the part of a message at a place, or why there is none
abbrev pub part_behind : Option Message → ℕ → Result (List ℕ) Status
part_behind None at = Err status.NotAFrame
part_behind (Some m) at = found_part (message_part m at)

-- the name of a field, if one is found
abbrev pub found_name : Option Field → Result (List ℕ) Status
found_name None = Err status.NoPart
found_name (Some it) = Ok (field_text it)

-- the name of the first field in which two messages aren't the same, or why there is none
abbrev pub named_difference : Bool → Option Message → Option Message → Result (List ℕ) Status
named_difference ignore None b = Err status.NotAFrame
named_difference ignore (Some a) None = Err status.NotAFrame
named_difference ignore (Some a) (Some b) = found_name (difference ignore a b)
