use Rattle.vm_model.proofs.SoundHistories.{sound_round, sound_rounds}
use Rattle.vm_model.proofs.honest.sound_histories_last.Goals as goal

pub returns-clause-round : goal.returns-clause-round
returns-clause-round c = sound_round

pub returns-clause-rounds : goal.returns-clause-rounds
returns-clause-rounds c = sound_rounds
