use Rattle.std.proofs.Common.{subst, sym}
use Rattle.lines.specs.Pieces.{AreWords}
use Rattle.lines.proofs.Finding.{arrivals_found, rounds_found}
use Rattle.lines.proofs.hint.round_hint.Goals as goal

pub returns-in-Some : goal.returns-in-Some
returns-in-Some c =
    let read = rw c.in-Ok.is at c.in_ok-read.ensures in
    arrivals_found c.args.line.now c.trim_ascii.result.now c.as_slice-words.result.now c.arrival_forms.result.now c.trim_ascii.ensures.value read.0 (subst (AreWords c.trim_ascii.result.now) (sym c.as_slice-words.ensures.value) read.1) c.in-Some.frame.now c.hint_of_words.result c.in-Some.ensures c.hint_of_words.ensures _ _ c.arrival_forms.ensures

pub returns : goal.returns
returns c =
    let read = rw c.in-Ok.is at c.in_ok-read.ensures in
    rounds_found c.args.line.now c.trim_ascii.result.now c.as_slice-words.result.now c.round_forms.result.now c.trim_ascii.ensures.value read.0 (subst (AreWords c.trim_ascii.result.now) (sym c.as_slice-words.ensures.value) read.1) c.hint_of_words-in-None.result c.in-None.ensures c.hint_of_words-in-None.ensures _ _ c.round_forms.ensures
