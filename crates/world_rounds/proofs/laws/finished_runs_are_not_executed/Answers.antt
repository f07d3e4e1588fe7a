use Rattle.world_rounds.proofs.Faultless.{executes_unfinished}
use Rattle.world_rounds.proofs.laws.finished_runs_are_not_executed.Goals as goal

pub returns : goal.returns
returns c = executes_unfinished
