use Rattle.vm_attempt.proofs.Replayed.{history_replayed}
use Rattle.vm_attempt.proofs.laws.histories_are_replayed.Goals as goal

pub returns : goal.returns
returns c = history_replayed
