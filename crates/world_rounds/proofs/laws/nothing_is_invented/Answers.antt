use Rattle.world_rounds.proofs.Tracing.{played_invent_nothing, rounds_invent_nothing}
use Rattle.world_rounds.proofs.laws.nothing_is_invented.Goals as goal

pub returns-clause-rounds : goal.returns-clause-rounds
returns-clause-rounds c = rounds_invent_nothing

pub returns-clause-played : goal.returns-clause-played
returns-clause-played c = played_invent_nothing
