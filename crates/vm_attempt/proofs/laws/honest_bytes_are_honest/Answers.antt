use Rattle.vm_attempt.proofs.Honest.{honestly_fed}
use Rattle.vm_attempt.proofs.laws.honest_bytes_are_honest.Goals as goal

pub returns : goal.returns
returns c = honestly_fed
