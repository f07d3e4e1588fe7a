use Rattle.vm_model.proofs.Order.{stand_behind}
use Rattle.vm_model.proofs.honest.commands_stand_behind.Goals as goal

pub returns : goal.returns
returns c = stand_behind
