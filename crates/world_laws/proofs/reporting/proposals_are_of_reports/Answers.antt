use Rattle.world_laws.proofs.Proposing.{all_reported}
use Rattle.world_laws.proofs.reporting.proposals_are_of_reports.Goals as goal

pub returns : goal.returns
returns c = all_reported
