use Rattle.vm_model.proofs.Compared.{history_goes_on}
use Rattle.vm_model.proofs.told.attempts_go_on.Goals as goal

pub returns : goal.returns
returns c = history_goes_on
