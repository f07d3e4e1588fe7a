use Rattle.vm_model.proofs.Compared.{undisturbed_compare}
use Rattle.vm_model.proofs.honest.one_undisturbed.Goals as goal

pub returns : goal.returns
returns c = undisturbed_compare
