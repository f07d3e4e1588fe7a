use Rattle.world_laws.proofs.Unfinished.{none_finished}
use Rattle.world_laws.proofs.executing.attempts_execute_no_finished_runs.Goals as goal

pub returns : goal.returns
returns c = none_finished
