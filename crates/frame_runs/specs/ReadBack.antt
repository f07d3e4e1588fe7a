-- What it is for a line to be read back as the bytes of which it was printed.
use Rattle.std.specs.Prelude.{◌≡◌, ℕ, List, Result, Ok, Err}
use Rattle.plain.specs.declared.fault.Fault.{Fault}
use Rattle.plain.specs.declared.fault.Fault.TheVariants.{Memory}
use Rattle.journal_protocol.specs.Frames.{frame}
use Rattle.journal_protocol.specs.RawMessage.{RawMessage}
use Rattle.frame_lines.specs.FrameLines.{LineShows}
use Rattle.frame_lines.specs.Printed.{frame_text}

-- The line shows these bytes, so that its reader refuses it only if memory ran out. And it shows no
-- other bytes, so that these are the ones read.
pub record IsReadBackAs (line bytes : List ℕ) : Type 0 where
  pub shown : LineShows line bytes
  pub only : (others : List ℕ) → LineShows line others → others ≡ bytes

-- what is printed of the frame is read back as just the frame's bytes
abbrev pub FrameIsReadBack : RawMessage → Type 0
FrameIsReadBack raw = IsReadBackAs (frame_text raw) (frame raw.ty raw.body)

-- just these bytes were read, or memory ran out
abbrev pub GivesJust : List ℕ → Result (List ℕ) Fault → Type 0
GivesJust bytes (Ok read) = read ≡ bytes
GivesJust bytes (Err fault) = fault ≡ Memory
