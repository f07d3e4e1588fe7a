-- One line more is read.
use Rattle.std.proofs.Common.{arith, subst}
use Rattle.std.proofs.lemmas.Grind.{common_steps}
use Rattle.call_lines.specs.Said.{SaysStep}
use Rattle.call_lines.proofs.Saying.{said_more}
use Rattle.call_lines.proofs.reading.plan_of.Goals as goal

pub loop-line-preserved : goal.loop-line-preserved
loop-line-preserved c =
    said_more c.args.lines.now c.loop-line.line-index c.line-item.result c.loop-line.steps.items c.push.new.self.items c.in_ok-step.step (grind (arith, common_steps)) (grind (arith, common_steps)) c.loop-line.invariant
    (subst (λ text. SaysStep text c.in_ok-step.step) c.as_str.ensures.value c.in_ok-step.ensures) c.in_ok-push.ensures.items
