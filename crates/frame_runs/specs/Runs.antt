-- What the program's two runs read and write.
use Rattle.std.specs.Prelude.{◌≡◌, ◌≢◌, ◌⊎◌, ◌+◌, ℕ, List, [], ◌∷◌, ◌++◌, length, flat_map, Option, IfSome}
use Rattle.std.proofs.Common.{Global}
use Rattle.std.specs.Str.{IsTrimAscii, IsUtf8}
use Rattle.std.specs.declared.vec.Vec.{Vec}
use Rattle.std.specs.declared.io.Error.{Error as IoError}
use Rattle.lines.specs.Places.{IsLineNumbered}
use Rattle.lines.specs.Text.{IsFirstLine}
use Rattle.journal_protocol.specs.RawMessage.{RawMessage}
use Rattle.journal_protocol.specs.Frames.{Whole, next_of}
use Rattle.frame_lines.specs.FrameLines.{LineShows, ShowsNothing}
use Rattle.frame_lines.specs.Printed.{HasNoFrame, frame_text, rest_text}
use Rattle.frame_runs.specs.declared.run.Unread.{Unread}
use Rattle.frame_runs.specs.declared.run.Unread.TheVariants as unread
use Rattle.frame_runs.specs.declared.refusal.Refusal.{Refusal}
use Rattle.frame_runs.specs.declared.refusal.Refusal.TheVariants as refusal
use Rattle.program_runs.specs.declared.run_end.RunEnd.{RunEnd}
use Rattle.program_runs.specs.Ends.{Says}

-- something that this holds of is added
abbrev pub AddsToOutput : (List ℕ → Type 0) → List ℕ → List ℕ → Type 0
AddsToOutput holds old new = (added : List ℕ) × holds added × (new ≡ old ++ added)

-- ---- frames to lines

-- the stream is these frames, one after another, and then this rest
abbrev pub AreFirstFrames : List RawMessage → List ℕ → List ℕ → Type 0
AreFirstFrames [] stream rest = stream ≡ rest
AreFirstFrames (raw ∷ frames) stream rest = (behind : List ℕ) × (next_of stream ≡ Whole raw behind)
    × AreFirstFrames frames behind rest

-- a text with a line's end
abbrev pub line_text : List ℕ → List ℕ
line_text text = text ++ 10 ∷ []

-- the line of the bytes that are no whole frame, if there are any
abbrev pub rest_lines : List ℕ → List ℕ
rest_lines [] = []
rest_lines (b ∷ rest) = line_text (rest_text (b ∷ rest))

-- A line for each whole frame of the stream, in order, and one for the bytes after them, if there
-- are any.
pub record ArePrinted (stream lines : List ℕ) : Type 0 where
  pub frames : List RawMessage
  pub rest : List ℕ
  pub are_frames : AreFirstFrames frames stream rest
  pub no_more : HasNoFrame rest
  pub is : lines ≡ flat_map (λ raw. line_text (frame_text raw)) frames ++ rest_lines rest

-- ---- lines to frames

-- nothing, or a comment
abbrev pub IsComment : List ℕ → Type 0
IsComment [] = Unit {0}
IsComment (b ∷ line) = b ≡ 35

-- a line shows these bytes; an empty one and a comment show none
abbrev pub IsShownInside : List ℕ → List ℕ → Type 0
IsShownInside line bytes = (IsComment line × (bytes ≡ [])) ⊎ LineShows line bytes

-- the same of what stands on the line without the blanks around it
abbrev pub IsShownBy : List ℕ → List ℕ → Type 0
IsShownBy line bytes = (inside : List ℕ) × IsTrimAscii line inside × IsShownInside inside bytes

-- the text's lines show these bytes, one line after another, up to this rest
abbrev pub AreShownBefore : List (List ℕ) → List ℕ → List ℕ → List ℕ → Type 0
AreShownBefore [] text rest bytes = (text ≡ rest) × (bytes ≡ [])
AreShownBefore (line ∷ lines) text rest bytes =
    (behind : List ℕ) × (first : List ℕ) × (others : List ℕ) × (text ≢ [])
    × IsFirstLine text line behind × IsShownBy line first
    × AreShownBefore lines behind rest others × (bytes ≡ first ++ others)

-- the bytes are those that the text's lines show
pub record AreShown (text bytes : List ℕ) : Type 0 where
  pub lines : List (List ℕ)
  pub shown : AreShownBefore lines text [] bytes

-- a line that is no comment, and isn't UTF-8 or shows nothing
abbrev pub IsUnshownInside : List ℕ → Type 0
IsUnshownInside line = (IsComment line → ⊥) × ((IsUtf8 line → ⊥) ⊎ ShowsNothing line)

-- the same of what stands on the line without the blanks around it
abbrev pub IsUnshown : List ℕ → Type 0
IsUnshown line = (inside : List ℕ) × IsTrimAscii line inside × IsUnshownInside inside

-- the line of this number, counted from 1, has no meaning, and each before it has one
pub record IsBadLine (text : List ℕ) (number : ℕ) : Type 0 where
  pub lines : List (List ℕ)
  pub rest : List ℕ
  pub bytes : List ℕ
  pub shown : AreShownBefore lines text rest bytes
  pub counted : number ≡ length lines + 1
  pub line : List ℕ
  pub others : List ℕ
  pub first : IsFirstLine rest line others
  pub unshown : IsUnshown line

-- why a text isn't read: a line has no meaning, or there is no memory
abbrev pub IsBadFor : List ℕ → Unread → Type 0
IsBadFor text unread.Memory = Unit {0}
IsBadFor text (unread.Line number) = IsBadLine text number

-- no line of a stream is without a meaning
abbrev pub NoneIsBad : List ℕ → ℕ → Type 0
NoneIsBad stream number = ⊥

-- ---- runs

-- All that the reader had left, where this is known, is written in the other form.
pub record Turns (turned : List ℕ → List ℕ → Type 0) (left : Option (List ℕ))
    (written : List ℕ → Type 0) : Type 0 where
  pub input : List ℕ
  pub output : List ℕ
  pub all : IfSome left (λ bytes. input ≡ bytes)
  pub is_turned : turned input output
  pub is_written : written output

-- The line of this number of all that the reader had left, where this is known, has no meaning. The
-- copy, if there is one, is that line.
pub record StopsAtLine (bad : List ℕ → ℕ → Type 0) (left : Option (List ℕ)) (number : ℕ)
    (copy : Option (Vec ℕ Global)) : Type 0 where
  pub input : List ℕ
  pub all : IfSome left (λ bytes. input ≡ bytes)
  pub is_bad : bad input number
  pub is_copy : IfSome copy (λ line. IsLineNumbered input number line.items)

-- Why a run is refused: the line of this number has no meaning. `bad` says which lines have none,
-- and `read` that all was read. The arguments are looked at before such a run begins.
abbrev pub TellsRefusal : (List ℕ → ℕ → Type 0) → Option (List ℕ) → Type 0 → Refusal → Type 0
TellsRefusal bad left read refusal.Usage = ⊥
TellsRefusal bad left read (refusal.BadLine number copy) =
    StopsAtLine bad left number copy × read

-- What each end of a run says. `turned` says what an input is in the other form, and `bad` which of
-- its lines has no meaning; `held` and `holds` are what the writer held and holds now; `read` says
-- that all was read, and `unwritten` that nothing was written.
abbrev pub Tells : (List ℕ → List ℕ → Type 0) → (List ℕ → ℕ → Type 0) → Option (List ℕ)
    → Option (List ℕ) → Option (List ℕ) → (IoError → Type 0) → (IoError → Type 0) → Type 0 → Type 0
    → RunEnd Refusal Unit → Type 0
Tells turned bad left held holds read_fails write_fails read unwritten end =
    Says (TellsRefusal bad left read) (λ written done. Turns turned left written) held holds
    read_fails write_fails read unwritten end
