use Rattle.world_rounds.proofs.Families.{alike_history, alike_replayable, alike_rounds}
use Rattle.world_rounds.proofs.laws.alike_versions_take_over.Goals as goal

pub returns-clause-history : goal.returns-clause-history
returns-clause-history c = alike_history

pub returns-clause-replayable : goal.returns-clause-replayable
returns-clause-replayable c = alike_replayable

pub returns-clause-rounds : goal.returns-clause-rounds
returns-clause-rounds c = alike_rounds
