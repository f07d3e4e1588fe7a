use Rattle.std.proofs.Common.{ap, ◌∙◌, subst, sym}
use Rattle.std.specs.Prelude.{Ok}
use Rattle.vm_attempt.specs.Stepping.{StepDoes}
use Rattle.world_laws.proofs.Checking.{one_stepped}
use Rattle.world_laws.proofs.steps.replay_steps.Goals as goal

pub loop-left-preserved : goal.loop-left-preserved
loop-left-preserved g c =
    let m = g.H.Handler.meaning c.args.attempt.now.handler.now in
    let here = c.loop-left.attempt.record_of in
    let next = c.step.new.self.record_of in
    let does = subst (λ h. StepDoes (g.H.Handler.meaning h) here (Ok c.in_default.field-0) next) c.loop-left.invariant.same_handler c.in_default.ensures.does in record {
      same_handler = ap (λ h. h.now) c.step.ensures.handler ∙ c.loop-left.invariant.same_handler;
      stepped = one_stepped m c.args.steps c.loop-left.left c.args.attempt.now.record_of here c.in_default.field-0 next c.loop-left.invariant.stepped c.loop-left-test.true (sym c.state-state.ensures.state ∙ c.is_replaying.ensures.0 c.if-not-is_replaying.false) does;
    }
