use Rattle.invocation_vm.specs.Seen.{seen}
use Rattle.vm_attempt.proofs.Replies.{made_answer, made_await}
use Rattle.vm_attempt.proofs.perform.perform.Goals as goal

pub returns-in-Ok-Answer : goal.returns-in-Ok-Answer
returns-in-Ok-Answer c = made_answer c.args.step c.in-Ok-Answer.answer (seen c.args.vm.now) (seen c.step.new.self) (rw c.in-Ok-Answer.field-0-is at c.in-Ok-Answer.ensures)

pub returns-in-Ok-Await : goal.returns-in-Ok-Await
returns-in-Ok-Await c = made_await c.args.step c.in-Ok-Await.future c.wait.result (seen c.args.vm.now) (seen c.step.new.self) (seen c.wait.new.vm) (rw c.in-Ok-Await.field-0-is at c.in-Ok-Await.ensures) c.wait.ensures
