-- A line that shows some bytes is read back as these.
use Rattle.std.proofs.Common.{ℕ, List, Result, Ok, Err, IfErr, IfOk, refl}
use Rattle.plain.specs.declared.fault.Fault.{Fault}
use Rattle.plain.specs.declared.fault.Fault.TheVariants.{Malformed, Memory}
use Rattle.lines.specs.Readings.{Blames}
use Rattle.journal_protocol.specs.Frames.{frame}
use Rattle.journal_protocol.specs.RawMessage.{RawMessage}
use Rattle.frame_lines.specs.FrameLines.{LineShows}
use Rattle.frame_lines.specs.Printed.{frame_text, rest_text}
use Rattle.frame_runs.specs.ReadBack.{GivesJust, IsReadBackAs}
use Rattle.frame_runs.proofs.Fitting.{each_below}
use Rattle.frame_runs.proofs.Lines.{frame_shown, rest_shown}
use Rattle.frame_runs.proofs.OneFrame.{line_once}
use Rattle.frame_runs.proofs.Values.{AreBytes}

only_these : (line bytes : List ℕ) → LineShows line bytes → IsReadBackAs line bytes
only_these line bytes shown = record { shown = shown; only = λ others shows. line_once line others bytes shows shown }

pub frame_read_back : (raw : RawMessage) → AreBytes raw.body → IsReadBackAs (frame_text raw) (frame raw.ty raw.body)
frame_read_back raw small = only_these (frame_text raw) (frame raw.ty raw.body) (frame_shown raw (each_below raw.body small))

pub rest_read_back : (rest : List ℕ) → AreBytes rest → IsReadBackAs (rest_text rest) rest
rest_read_back rest small = only_these (rest_text rest) rest (rest_shown rest (each_below rest small))

-- so its reader gives just these, or memory ran out
pub read_gives : (line bytes : List ℕ) (result : Result (List ℕ) Fault) → IsReadBackAs line bytes → IfOk result (LineShows line) → IfErr result (Blames (LineShows line)) → GivesJust bytes result
read_gives line bytes (Ok read) back shows blames = back.only read shows
read_gives line bytes (Err Memory) back shows blames = refl
read_gives line bytes (Err Malformed) back shows blames = absurd (blames.nothing refl bytes back.shown)
