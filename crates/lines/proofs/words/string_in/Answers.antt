use Rattle.std.proofs.Common.{IfOk, string_bytes, ap, subst, ◌∙◌}
use Rattle.lines.specs.Atoms.{IsText}
use Rattle.lines.proofs.Places.{word_at}
use Rattle.lines.proofs.words.string_in.Goals as goal

pub returns-in-Some-clause-value : goal.returns-in-Some-clause-value
returns-in-Some-clause-value c =
    let found = c.in-Some.ensures.lookup in
    subst (λ text. IfOk c.string_of.result (λ string. IsText text (string_bytes string))) (ap (λ word. word.now) found.1 ∙ word_at c.args.words.now c.args.place c.in-Some.word.now found.3.0) c.string_of.ensures.value
