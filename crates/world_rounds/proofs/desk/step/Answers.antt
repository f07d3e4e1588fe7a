use Rattle.std.proofs.Common.{sym, ap, ◌∙◌}
use Rattle.world_rounds.specs.Inside.{the_now}
use Rattle.world_rounds.specs.Rounds.{first_error}
use Rattle.world_rounds.proofs.Repeating.{step_again}
use Rattle.world_rounds.proofs.desk.step.Goals as goal

pub returns-clause-again : goal.returns-clause-again
returns-clause-again g c = λ stops.
    step_again (g.H.Handler.meaning c.args.attempt.now.handler.now) (the_now c.args.desk.now c.args.attempt.now.record_of) (the_now (record c.args.desk.now { error = c.note.new.error }) c.step-made.new.self.record_of)
    c.step-made.result c.step-made.new.self.record_of c.step-made.ensures.does
    (λ i. the_now (record c.args.desk.now { error = (c.note.ensures ∙ ap (first_error c.args.desk.now.error) c.err.ensures.value) i }) c.step-made.new.self.record_of)
    (sym c.may_go_on-more.ensures ∙ stops)
