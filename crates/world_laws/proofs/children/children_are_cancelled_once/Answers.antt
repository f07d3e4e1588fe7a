use Rattle.world_laws.proofs.Tracking.{history_once, run_once}
use Rattle.world_laws.proofs.children.children_are_cancelled_once.Goals as goal

pub returns-clause-run : goal.returns-clause-run
returns-clause-run c = run_once

pub returns-clause-history : goal.returns-clause-history
returns-clause-history c = history_once
