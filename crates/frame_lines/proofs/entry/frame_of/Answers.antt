use Rattle.lines.specs.Pieces.{AreWords}
use Rattle.std.proofs.lemmas.Result.{IfErr-weaker}
use Rattle.frame_lines.proofs.Unshown.{line_blamed}
use Rattle.frame_lines.proofs.entry.frame_of.Goals as goal

pub returns-clause-none : goal.returns-clause-none
returns-clause-none c =
    let are : AreWords c.args.line.now c.as_slice.result.now = rw c.as_slice.ensures.value c.in_ok-words.ensures.words in
    IfErr-weaker c.frame_of_words.result _ _ (λ fault blames. line_blamed c.args.line.now c.as_slice.result.now fault are blames) c.frame_of_words.ensures.none
