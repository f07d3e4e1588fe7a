use Rattle.vm_attempt.proofs.Proving.{told_on}
use Rattle.vm_attempt.proofs.laws.attempts_are_told_on.Goals as goal

pub returns : goal.returns
returns c = told_on
