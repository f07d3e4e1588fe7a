use Rattle.vm_model.specs.Histories.{Honest, Whole}
use Rattle.vm_model.proofs.Mixed.{mixed_round, mixed_sound, mixed_whole_round, one_run_alike}
use Rattle.vm_model.proofs.families.one_run_of_a_family.Goals as goal

pub returns-clause-begins : goal.returns-clause-begins
returns-clause-begins c = λ s m base. one_run_alike s m (Honest base)

pub returns-clause-sound : goal.returns-clause-sound
returns-clause-sound c = mixed_sound

pub returns-clause-round : goal.returns-clause-round
returns-clause-round c = mixed_round

pub returns-clause-begins_whole : goal.returns-clause-begins_whole
returns-clause-begins_whole c = λ s m base. one_run_alike s m (Whole base)

pub returns-clause-whole_round : goal.returns-clause-whole_round
returns-clause-whole_round c = mixed_whole_round
