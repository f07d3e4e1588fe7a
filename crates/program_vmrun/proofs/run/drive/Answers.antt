use Rattle.std.proofs.Common.{sym, ◌∙◌, subst, arith}
use Rattle.vm_attempt.specs.Stepping.{StepDoes}
use Rattle.program_vmrun.proofs.Driving.{stepped_more, drives_to, drives_out}
use Rattle.program_vmrun.proofs.run.drive.Goals as goal

pub loop-preserved : goal.loop-preserved
loop-preserved g c =
    let d = c.step_of.ensures.does in
    let meaning = g.H.Handler.meaning c.args.attempt.now.handler in
    let s = subst (λ h. StepDoes (g.H.Handler.meaning h) c.loop.attempt.record_of d.0 c.step_of.new.attempt.record_of) c.loop.invariant.1 d.1 in (
      stepped_more meaning c.loop.counter c.args.attempt.now.record_of c.loop.attempt.record_of c.step_of.new.attempt.record_of d.0 c.loop.invariant.0 s (sym c.in_default.is ∙ d.2),
      c.step_of.ensures.handler ∙ c.loop.invariant.1,
    )

pub returns : goal.returns
returns g c =
    drives_out (g.H.Handler.meaning c.args.attempt.now.handler) c.loop.counter c.args.attempt.now.record_of c.loop.attempt.record_of (omega (arith, c.loop-test.false, c.loop.auto.counter-end)) c.loop.invariant.0

pub returns-in-Some : goal.returns-in-Some
returns-in-Some g c =
    let d = c.step_of.ensures.does in
    let meaning = g.H.Handler.meaning c.args.attempt.now.handler in
    let s = subst (λ h. StepDoes (g.H.Handler.meaning h) c.loop.attempt.record_of d.0 c.step_of.new.attempt.record_of) c.loop.invariant.1 d.1 in
    drives_to meaning c.loop.counter c.args.attempt.now.record_of c.loop.attempt.record_of c.step_of.new.attempt.record_of d.0 c.in-Some.ending c.loop.invariant.0 s (sym d.2 ∙ c.in-Some.is)
