use Rattle.vm_model.proofs.Compared.{attempt_is_told}
use Rattle.vm_model.proofs.told.attempt_is_told.Goals as goal

pub returns : goal.returns
returns c = attempt_is_told
