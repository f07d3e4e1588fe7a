use Rattle.vm_attempt.proofs.Executing.{executed_once}
use Rattle.vm_attempt.proofs.laws.runs_are_executed_once.Goals as goal

pub returns : goal.returns
returns c = executed_once
