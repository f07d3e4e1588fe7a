use Rattle.std.proofs.Common.{inr, sym, ◌∙◌}
use Rattle.std.proofs.lemmas.Bool.{false≢true}
use Rattle.frame_runs.proofs.run.add_shown.Goals as goal

pub returns-in-Err-clause-none : goal.returns-in-Err-clause-none
returns-in-Err-clause-none c = λ bad. (λ comment. false≢true (sym c.if-is_comment.false ∙ c.is_comment.ensures.1 comment), inr (λ bytes shows. c.in-Err.ensures.none.nothing bad bytes shows))
