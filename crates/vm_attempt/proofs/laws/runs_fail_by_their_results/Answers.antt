use Rattle.vm_attempt.proofs.Failing.{failed_by_result}
use Rattle.vm_attempt.proofs.laws.runs_fail_by_their_results.Goals as goal

pub returns : goal.returns
returns c = failed_by_result
