use Rattle.world_rounds.proofs.Upgrading.{one_run_in8, replayable_in8}
use Rattle.world_rounds.proofs.laws.journals_go_on_in_version_8.Goals as goal

pub returns-clause-replayable : goal.returns-clause-replayable
returns-clause-replayable c = replayable_in8

pub returns-clause-one_run : goal.returns-clause-one_run
returns-clause-one_run c = one_run_in8
