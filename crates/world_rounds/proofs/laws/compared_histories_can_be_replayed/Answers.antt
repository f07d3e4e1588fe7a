use Rattle.world_rounds.proofs.Takeover.{compared_replayable}
use Rattle.world_rounds.proofs.laws.compared_histories_can_be_replayed.Goals as goal

pub returns : goal.returns
returns c = compared_replayable
