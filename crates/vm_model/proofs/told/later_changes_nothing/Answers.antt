use Rattle.vm_model.proofs.Runs.{after_more}
use Rattle.vm_model.proofs.told.later_changes_nothing.Goals as goal

pub returns : goal.returns
returns c = after_more
