use Rattle.vm_model.proofs.Gone.{taken_gone}
use Rattle.vm_model.proofs.handles.taken_handles_go.Goals as goal

pub returns : goal.returns
returns c = taken_gone
