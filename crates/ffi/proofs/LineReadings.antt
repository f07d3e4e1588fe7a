-- Lines of frames that C gives, and why they are refused.
use Rattle.std.proofs.Common.{◌≡◌, ℕ, List, Ok, refl, sym, subst}
use Rattle.std.specs.Str.{IsUtf8}
use Rattle.plain.specs.declared.fault.Fault.TheVariants.{Malformed}
use Rattle.lines.specs.Readings.{Blames}
use Rattle.frame_lines.specs.FrameLines.{LineShows}
use Rattle.c_values.specs.declared.status.Status.{Status}
use Rattle.c_values.specs.declared.status.Status.TheVariants as status
use Rattle.c_values.specs.Written.{NoneWritten, WrittenOrWhy}
use Rattle.ffi.specs.Texts.{IsRefusedLine, LineRead}

-- why a line is refused
pub no_memory : (line : List ℕ) → IsRefusedLine line status.NoMemory
no_memory line = record { why = tt }

pub no_text : (line : List ℕ) → ¬ IsUtf8 line → IsRefusedLine line status.BadText
no_text line bad = record { why = bad }

pub no_meaning : (line : List ℕ) → Blames (LineShows line) Malformed → IsRefusedLine line status.BadLine
no_meaning line blames = record { why = blames.nothing refl }

-- what a line shows is written
pub line_read : (s : Status) (line shown : List ℕ) (len : ℕ) (before after : List ℕ) → LineShows line shown → WrittenOrWhy s (Ok shown) len before after → LineRead s line len before after
line_read status.Done line shown len before after shows written = (shown, shows, written)
line_read status.NoMemory line shown len before after shows written = (no_memory line, written)
line_read status.NoRoom line shown len before after shows written = (shown, shows, written)
line_read status.BadText line shown len before after shows written = absurd written
line_read status.BadNumber line shown len before after shows written = absurd written
line_read status.NotFrames line shown len before after shows written = absurd written
line_read status.NoFrame line shown len before after shows written = absurd written
line_read status.Layered line shown len before after shows written = absurd written
line_read status.NotAFrame line shown len before after shows written = absurd written
line_read status.BadLine line shown len before after shows written = absurd written
line_read status.NoResult line shown len before after shows written = absurd written
line_read status.NotASuspension line shown len before after shows written = absurd written
line_read status.NoSession line shown len before after shows written = absurd written
line_read status.NoVm line shown len before after shows written = absurd written
line_read status.Refused line shown len before after shows written = absurd written
line_read status.BadTree line shown len before after shows written = absurd written
line_read status.NoPart line shown len before after shows written = absurd written
line_read status.BadOutput line shown len before after shows written = absurd written
line_read status.NotANotification line shown len before after shows written = absurd written
line_read status.NoSuchId line shown len before after shows written = absurd written
line_read status.SecondCompletion line shown len before after shows written = absurd written
line_read status.WrongKind line shown len before after shows written = absurd written
line_read status.RunIsProposed line shown len before after shows written = absurd written
line_read status.JournalFull line shown len before after shows written = absurd written
line_read status.BadJournal line shown len before after shows written = absurd written
line_read status.NoJournal line shown len before after shows written = absurd written
line_read status.NoRow line shown len before after shows written = absurd written

refused_for : (why : Status) (line : List ℕ) (len : ℕ) (before after : List ℕ) → IsRefusedLine line why → NoneWritten len before after → LineRead why line len before after
refused_for status.Done line len before after refused none = absurd refused.why
refused_for status.NoMemory line len before after refused none = (refused, none)
refused_for status.NoRoom line len before after refused none = absurd refused.why
refused_for status.BadText line len before after refused none = (refused, none)
refused_for status.BadNumber line len before after refused none = (refused, none)
refused_for status.NotFrames line len before after refused none = (refused, none)
refused_for status.NoFrame line len before after refused none = (refused, none)
refused_for status.Layered line len before after refused none = (refused, none)
refused_for status.NotAFrame line len before after refused none = (refused, none)
refused_for status.BadLine line len before after refused none = (refused, none)
refused_for status.NoResult line len before after refused none = (refused, none)
refused_for status.NotASuspension line len before after refused none = (refused, none)
refused_for status.NoSession line len before after refused none = (refused, none)
refused_for status.NoVm line len before after refused none = (refused, none)
refused_for status.Refused line len before after refused none = (refused, none)
refused_for status.BadTree line len before after refused none = (refused, none)
refused_for status.NoPart line len before after refused none = (refused, none)
refused_for status.BadOutput line len before after refused none = (refused, none)
refused_for status.NotANotification line len before after refused none = (refused, none)
refused_for status.NoSuchId line len before after refused none = (refused, none)
refused_for status.SecondCompletion line len before after refused none = (refused, none)
refused_for status.WrongKind line len before after refused none = (refused, none)
refused_for status.RunIsProposed line len before after refused none = (refused, none)
refused_for status.JournalFull line len before after refused none = (refused, none)
refused_for status.BadJournal line len before after refused none = (refused, none)
refused_for status.NoJournal line len before after refused none = (refused, none)
refused_for status.NoRow line len before after refused none = (refused, none)

-- a refused line has nothing written
pub line_refused : (s why : Status) (line : List ℕ) (len : ℕ) (before after : List ℕ) → s ≡ why → IsRefusedLine line why → len ≡ 0 → after ≡ before → LineRead s line len before after
line_refused s why line len before after same refused zero kept = subst (λ named. LineRead named line len before after) (sym same) (refused_for why line len before after refused (zero, kept))
