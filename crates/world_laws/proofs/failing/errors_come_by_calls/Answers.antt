use Rattle.vm_attempt.proofs.Failing.{failed_by_call}
use Rattle.world_laws.proofs.failing.errors_come_by_calls.Goals as goal

pub returns : goal.returns
returns c = failed_by_call
