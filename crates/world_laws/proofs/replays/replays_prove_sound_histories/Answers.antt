use Rattle.world_laws.proofs.Relating.{replayed_sound, told_sound}
use Rattle.world_laws.proofs.replays.replays_prove_sound_histories.Goals as goal

pub returns-clause-replayed : goal.returns-clause-replayed
returns-clause-replayed c = replayed_sound

pub returns-clause-history : goal.returns-clause-history
returns-clause-history c = told_sound
