use Rattle.vm_model.proofs.RightKinds.{none_unexpected}
use Rattle.vm_model.proofs.lists.no_result_is_unexpected.Goals as goal

pub returns : goal.returns
returns c = none_unexpected
