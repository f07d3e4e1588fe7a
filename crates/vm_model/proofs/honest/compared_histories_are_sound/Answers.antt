use Rattle.vm_model.proofs.Comparing.{compared_is_sound}
use Rattle.vm_model.proofs.honest.compared_histories_are_sound.Goals as goal

pub returns : goal.returns
returns c = compared_is_sound
