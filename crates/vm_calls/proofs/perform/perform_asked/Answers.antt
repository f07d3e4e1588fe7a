use Rattle.invocation_vm.specs.Seen.{seen}
use Rattle.vm_calls.proofs.Steps.{done_answer, done_await}
use Rattle.vm_calls.proofs.perform.perform_asked.Goals as goal

pub returns-in-Ok-Answer : goal.returns-in-Ok-Answer
returns-in-Ok-Answer c = done_answer c.args.step c.in-Ok-Answer.answer (seen c.args.vm.now) (seen c.step.new.self) (rw c.in-Ok-Answer.field-0-is at c.in-Ok-Answer.ensures)

pub returns-in-Ok-Await : goal.returns-in-Ok-Await
returns-in-Ok-Await c = done_await c.args.step c.in-Ok-Await.future c.do_await.result c.awaited.result (seen c.args.vm.now) (seen c.step.new.self) (seen c.do_await.new.self) (rw c.in-Ok-Await.field-0-is at c.in-Ok-Await.ensures) c.do_await.ensures c.awaited.ensures
