use Rattle.vm_model.proofs.Named.{handles_named}
use Rattle.vm_model.proofs.handles.handles_name_ids.Goals as goal

pub returns : goal.returns
returns c = handles_named
