-- Frames as lines, and lines as frames, for callers of C.
use Rattle.std.specs.Prelude.{ℕ, List, Result, Ok}
use Rattle.std.specs.Str.{IsUtf8}
use Rattle.frame_lines.specs.FrameLines.{LineShows, ShowsNothing}
use Rattle.frame_lines.specs.Printed.{frame_text}
use Rattle.c_values.specs.Reading.{frame_at, if_found}
use Rattle.c_values.specs.declared.status.Status.{Status}
use Rattle.c_values.specs.declared.status.Status.TheVariants as status
use Rattle.c_values.specs.Written.{NoneWritten, WrittenOrWhy}

-- the line of the one whole frame that bytes are
abbrev pub line_at : List ℕ → Result (List ℕ) Status
line_at bytes = if_found (λ raw. Ok (frame_text raw)) (frame_at bytes)

-- no memory was found; or the line isn't UTF-8, or shows nothing
abbrev pub RefusesLine : Status → List ℕ → Type 0
RefusesLine status.NoMemory line = Unit {0}
RefusesLine status.BadText line = ¬ IsUtf8 line
RefusesLine status.BadLine line = ShowsNothing line
RefusesLine named line = ⊥

-- why a line is refused
pub record IsRefusedLine (line : List ℕ) (given : Status) : Type 0 where
  pub why : RefusesLine given line

-- The bytes that a line shows are written, if there is room for them; or the line is refused.
abbrev pub LineRead : Status → List ℕ → ℕ → List ℕ → List ℕ → Type 0
LineRead status.Done line len before after =
    (shown : List ℕ) × LineShows line shown × WrittenOrWhy status.Done (Ok shown) len before after
LineRead status.NoRoom line len before after =
    (shown : List ℕ) × LineShows line shown × WrittenOrWhy status.NoRoom (Ok shown) len before after
LineRead named line len before after = IsRefusedLine line named × NoneWritten len before after
