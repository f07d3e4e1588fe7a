use Rattle.vm_model.proofs.States.{all_again, true_again}
use Rattle.vm_model.proofs.reads.handed_stays_so.Goals as goal

pub returns-clause-honest : goal.returns-clause-honest
returns-clause-honest c = true_again

pub returns-clause-whole : goal.returns-clause-whole
returns-clause-whole c = all_again
