use Rattle.std.proofs.Common.{IfOk, ap, subst, ◌∙◌}
use Rattle.lines.specs.Durations.{IsTime}
use Rattle.lines.proofs.Places.{word_at}
use Rattle.lines.proofs.words.time_in.Goals as goal

pub returns-in-Some-clause-value : goal.returns-in-Some-clause-value
returns-in-Some-clause-value c =
    let found = c.in-Some.ensures.lookup in
    subst (λ text. IfOk c.duration_of.result (IsTime text)) (ap (λ word. word.now) found.1 ∙ word_at c.args.words.now c.args.place c.in-Some.word.now found.3.0) c.duration_of.ensures.value
