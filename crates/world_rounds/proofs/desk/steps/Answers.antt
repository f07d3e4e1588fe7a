use Rattle.std.proofs.Common.{◌≡◌, false, rules, ◌-◌, ◌∙◌, subst}
use Rattle.world_rounds.specs.Inside.{the_now}
use Rattle.world_rounds.specs.Rounds.{StepHappens}
use Rattle.world_rounds.proofs.Repeating.{steps_more, steps_stay}
use Rattle.world_rounds.proofs.desk.steps.Goals as goal

pub loop-left-preserved : goal.loop-left-preserved
loop-left-preserved g c =
    let m = g.H.Handler.meaning c.args.attempt.now.handler.now in
    let here = the_now c.loop-left.desk c.loop-left.attempt.record_of in
    let next = the_now c.step.new.desk c.step.new.attempt.record_of in
    let d = subst (λ h. StepHappens (g.H.Handler.meaning h) here next) c.loop-left.invariant.same_handler c.step.ensures.does in record {
      same_handler = c.step.ensures.handler ∙ c.loop-left.invariant.same_handler;
      made_for = (c.step.ensures.made_for.0 ∙ c.loop-left.invariant.made_for.0, c.step.ensures.made_for.1 ∙ c.loop-left.invariant.made_for.1);
      goes_on = λ final more. c.loop-left.invariant.goes_on final (steps_more m c.loop-left.left here next final c.loop-left-test.true d more);
    }

pub returns-then-not-step-clause-does : goal.returns-then-not-step-clause-does
returns-then-not-step-clause-does g c =
    let m = g.H.Handler.meaning c.args.attempt.now.handler.now in
    let here = the_now c.loop-left.desk c.loop-left.attempt.record_of in
    let next = the_now c.step.new.desk c.step.new.attempt.record_of in
    let d = subst (λ h. StepHappens (g.H.Handler.meaning h) here next) c.loop-left.invariant.same_handler c.step.ensures.does in
    let stops : c.step.result ≡ false = search rules in
    let still = subst (λ h. StepHappens (g.H.Handler.meaning h) next next) c.loop-left.invariant.same_handler (c.step.ensures.again stops) in
    c.loop-left.invariant.goes_on next (steps_more m c.loop-left.left here next next c.loop-left-test.true d (steps_stay m (c.loop-left.left - 1) next still))
