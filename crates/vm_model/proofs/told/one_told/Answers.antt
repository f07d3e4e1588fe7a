use Rattle.vm_model.proofs.Compared.{told_compare}
use Rattle.vm_model.proofs.told.one_told.Goals as goal

pub returns : goal.returns
returns c = told_compare
