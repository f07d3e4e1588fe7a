use Rattle.world_laws.proofs.Reaching.{attempt_goes_on}
use Rattle.world_laws.proofs.replays.histories_go_on.Goals as goal

pub returns : goal.returns
returns c = attempt_goes_on
