use Rattle.std.proofs.Common.{subst, sym}
use Rattle.lines.specs.Pieces.{AreWords}
use Rattle.lines.proofs.Finding.{frames_found}
use Rattle.lines.proofs.hint.frame_hint.Goals as goal

pub returns-in-Ok : goal.returns-in-Ok
returns-in-Ok c =
    let read = rw c.in-Ok.is at c.in_ok-words.ensures in
    frames_found c.args.line.now c.trim_ascii.result.now c.as_slice.result.now c.frame_forms.result.now c.trim_ascii.ensures.value read.0 (subst (AreWords c.trim_ascii.result.now) (sym c.as_slice.ensures.value) read.1) c.hint_of_words.result c.hint_of_words.ensures _ c.frame_forms.ensures
