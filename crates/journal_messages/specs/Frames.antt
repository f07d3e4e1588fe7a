-- The first frame of some bytes, as a function of them.
use Rattle.std.specs.Prelude.{ℕ, if◌then◌else◌, nat_lt, List, length, take, drop, Option, Some, None}
use Rattle.std.specs.Int.{w16, w64, from_be_bytes}
use Rattle.journal_errors.specs.Types.{type_at}
use Rattle.journal_errors.specs.declared.types.MessageType.{MessageType}
use Rattle.journal_messages.specs.declared.message.RawMessage.{RawMessage}

-- what is at the front of some bytes: a whole frame and the bytes after it, less than a frame, or
-- no frame
pub data NextFrame : Type 0 where
  Whole : RawMessage → List ℕ → NextFrame
  Partial : NextFrame
  Malformed : NextFrame

-- the number at the front
abbrev pub number_in : List ℕ → ℕ
number_in bs = from_be_bytes w16 (take 2 bs)

-- the length of the body, in the eight bytes after the number
abbrev pub size_in : List ℕ → ℕ
size_in bs = from_be_bytes w64 (take 8 (drop 2 bs))

-- a frame of this type with a body of n bytes
abbrev pub framed : MessageType → ℕ → List ℕ → NextFrame
framed ty n bs = if nat_lt (length bs) n then Partial
    else Whole (record { ty = ty; body = take n bs }) (drop n bs)

-- no frame if the number is no type's; else a part of one until the number, the length and all of
-- the body are there
abbrev pub framed_by_type : Option MessageType → List ℕ → NextFrame
framed_by_type None bs = Malformed
framed_by_type (Some ty) bs = if nat_lt (length bs) 10 then Partial
    else framed ty (size_in bs) (drop 10 bs)

-- the first frame and what comes after it, if it is whole and its number is a type's
unfoldable pub next_of : List ℕ → NextFrame
next_of bs = if nat_lt (length bs) 2 then Partial else framed_by_type (type_at (number_in bs)) bs
