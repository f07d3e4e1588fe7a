use Rattle.vm_model.proofs.Queueing.{queue_in_order}
use Rattle.vm_model.proofs.signals.signals_queue_in_order.Goals as goal

pub returns : goal.returns
returns c = queue_in_order
