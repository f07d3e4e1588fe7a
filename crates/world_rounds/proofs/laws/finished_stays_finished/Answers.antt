use Rattle.world_rounds.proofs.Takeover.{stays_finished}
use Rattle.world_rounds.proofs.laws.finished_stays_finished.Goals as goal

pub returns : goal.returns
returns c = stays_finished
