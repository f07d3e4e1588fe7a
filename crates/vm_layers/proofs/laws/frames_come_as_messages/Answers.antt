use Rattle.vm_layers.proofs.Coming.{come_as_messages}
use Rattle.vm_layers.proofs.laws.frames_come_as_messages.Goals as goal

pub returns : goal.returns
returns c = come_as_messages
