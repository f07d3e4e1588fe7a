use Rattle.world_laws.proofs.Telling.{each_brings, results_told}
use Rattle.world_laws.proofs.origins.results_are_reported.Goals as goal

pub returns-clause-results : goal.returns-clause-results
returns-clause-results c = results_told

pub returns-clause-values : goal.returns-clause-values
returns-clause-values c = each_brings
