-- Frames on a stream.
use Rattle.std.specs.Prelude.{◌≡◌, ℕ, ◌<◌, ◌≤◌, ◌^◌, List, ◌++◌, length, take, drop, Option, Some, None, Result, Ok, Err}
use Rattle.wire.specs.Format.{u16s}
use Rattle.wire.specs.Fault.{Fault}
use Rattle.wire.specs.Fault.TheVariants as fault
use Rattle.journal_errors.specs.Types.{type_at}
use Rattle.journal_messages.specs.Message.{frame}
use Rattle.journal_messages.specs.Frames.{Whole, Partial, Malformed, next_of}
use Rattle.journal_errors.specs.Errors.{fault_error}
use Rattle.journal_errors.specs.declared.error.Error.{Error}
use Rattle.journal_errors.specs.declared.types.MessageType.{MessageType}
use Rattle.journal_messages.specs.declared.message.RawMessage.{RawMessage}

-- the bytes begin with a number that is no type's
abbrev pub IsMalformed : List ℕ → Type 0
IsMalformed bs = (number : ℕ) × (rest : List ℕ) × (number < 2 ^ 16) × (type_at number ≡ None)
    × (bs ≡ u16s number ++ rest)

-- less than a frame, which may still become one
pub record IsPart (bs : List ℕ) : Type 0 where
  pub no_frame : (ty : MessageType) (body rest : List ℕ) → length body < 2 ^ 64 → bs ≡ frame ty body
      ++ rest → ⊥
  pub well_formed : IsMalformed bs → ⊥

-- ---- what the decoder answers: the first frame by its encoding, and as a function

-- A frame was taken from the front of old, new is left. Or none was: only a part of it is there, or
-- memory is out, or the number at the front is no type's.
abbrev pub Next : List ℕ → Result (Option RawMessage) Fault → List ℕ → Type 0
Next old (Ok (Some raw)) new = (length raw.body < 2 ^ 64) × (old ≡ frame raw.ty raw.body ++ new)
Next old (Ok None) new = (new ≡ old) × IsPart old
Next old (Err fault.Memory) new = new ≡ old
Next old (Err fault.Malformed) new = (new ≡ old) × IsMalformed old

-- the same, by the function that gives the first frame of some bytes
abbrev pub NextIs : List ℕ → Result (Option RawMessage) Fault → List ℕ → Type 0
NextIs old (Ok (Some raw)) new = next_of old ≡ Whole raw new
NextIs old (Ok None) new = (next_of old ≡ Partial) × (new ≡ old)
NextIs old (Err fault.Memory) new = new ≡ old
NextIs old (Err fault.Malformed) new = (next_of old ≡ Malformed) × (new ≡ old)

-- the same, the fault as an error
pub record NextIsError (old : List ℕ) (e : Error) (new : List ℕ) : Type 0 where
  pub why : Fault
  pub error : e ≡ fault_error why
  pub unchanged : NextIs old (Err why) new

-- as NextIs, but a fault is the error that it is for the one who sent the bytes
abbrev pub IsNextOrError : List ℕ → Result (Option RawMessage) Error → List ℕ → Type 0
IsNextOrError old (Ok raw) new = NextIs old (Ok raw) new
IsNextOrError old (Err e) new = NextIsError old e new

-- the first n bytes are a frame of this type: its head, and its body
pub record IsFirstFrame (ty : MessageType) (n : ℕ) (bs : List ℕ) : Type 0 where
  pub head : 10 ≤ n
  pub fits : n ≤ length bs
  pub small : length (drop 10 (take n bs)) < 2 ^ 64
  pub spelled : bs ≡ frame ty (drop 10 (take n bs)) ++ drop n bs
  pub first : next_of bs ≡ Whole (record { ty = ty; body = drop 10 (take n bs) }) (drop n bs)

-- the type of the frame at the front, and how many bytes the frame takes
abbrev pub FrameAt : List ℕ → Result (Option (MessageType × ℕ)) Fault → Type 0
FrameAt bs (Ok (Some x)) = IsFirstFrame x.0 x.1 bs
FrameAt bs (Ok None) = IsPart bs × (next_of bs ≡ Partial)
FrameAt bs (Err fault.Memory) = ⊥
FrameAt bs (Err fault.Malformed) = IsMalformed bs × (next_of bs ≡ Malformed)
