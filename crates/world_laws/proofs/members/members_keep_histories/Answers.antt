use Rattle.world_laws.proofs.Relating.{members_run, members_sound, members_undisturbed}
use Rattle.world_laws.proofs.members.members_keep_histories.Goals as goal

pub returns-clause-sound : goal.returns-clause-sound
returns-clause-sound c = members_sound

pub returns-clause-one_run : goal.returns-clause-one_run
returns-clause-one_run c = members_run

pub returns-clause-undisturbed : goal.returns-clause-undisturbed
returns-clause-undisturbed c = members_undisturbed
