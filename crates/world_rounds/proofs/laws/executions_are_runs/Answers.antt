use Rattle.world_rounds.proofs.Executions.{execution_of, run_of}
use Rattle.world_rounds.proofs.laws.executions_are_runs.Goals as goal

pub returns-clause-run : goal.returns-clause-run
returns-clause-run c = run_of

pub returns-clause-execution : goal.returns-clause-execution
returns-clause-execution c = execution_of
