use Rattle.vm_attempt.proofs.Beginning.{input_begins}
use Rattle.vm_attempt.proofs.laws.attempts_begin.Goals as goal

pub returns : goal.returns
returns c = input_begins
