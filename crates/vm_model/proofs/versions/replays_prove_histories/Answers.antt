use Rattle.vm_model.proofs.Replays.{attempt_is_history}
use Rattle.vm_model.proofs.versions.replays_prove_histories.Goals as goal

pub returns : goal.returns
returns c = attempt_is_history
