use Rattle.vm_layers.proofs.Coming.{own_come}
use Rattle.vm_layers.proofs.laws.own_bytes_come_as_they_are.Goals as goal

pub returns : goal.returns
returns c = own_come
