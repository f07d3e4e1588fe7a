use Rattle.vm_model.proofs.Sums.{told_sums}
use Rattle.vm_model.proofs.numbers.numbers_are_sums.Goals as goal

pub returns : goal.returns
returns c = told_sums
