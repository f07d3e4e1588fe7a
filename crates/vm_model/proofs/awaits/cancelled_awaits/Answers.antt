use Rattle.vm_model.proofs.Cancels.{cancelled_ends}
use Rattle.vm_model.proofs.awaits.cancelled_awaits.Goals as goal

pub returns : goal.returns
returns c = cancelled_ends
