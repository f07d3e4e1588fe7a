use Rattle.world_laws.proofs.Bringing.{history_brings, run_brings}
use Rattle.world_laws.proofs.values.answers_bring_what_came.Goals as goal

pub returns-clause-run : goal.returns-clause-run
returns-clause-run c = run_brings

pub returns-clause-history : goal.returns-clause-history
returns-clause-history c = history_brings
