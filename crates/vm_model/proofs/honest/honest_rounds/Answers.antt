use Rattle.vm_model.proofs.Honesty.{honest_round, honest_rounds}
use Rattle.vm_model.proofs.SoundHistories.{run_is_sound}
use Rattle.vm_model.proofs.honest.honest_rounds.Goals as goal

pub returns-clause-round : goal.returns-clause-round
returns-clause-round c = honest_round

pub returns-clause-rounds : goal.returns-clause-rounds
returns-clause-rounds c = honest_rounds

pub returns-clause-sound : goal.returns-clause-sound
returns-clause-sound c = run_is_sound
