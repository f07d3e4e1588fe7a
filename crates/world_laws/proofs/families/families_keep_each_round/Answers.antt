use Rattle.world_laws.proofs.OneByOne.{each_fresh, each_honest, played_kinds, played_outside}
use Rattle.world_laws.proofs.families.families_keep_each_round.Goals as goal

pub returns-clause-honest : goal.returns-clause-honest
returns-clause-honest c = each_honest

pub returns-clause-kinds : goal.returns-clause-kinds
returns-clause-kinds c = played_kinds

pub returns-clause-outside : goal.returns-clause-outside
returns-clause-outside c = played_outside

pub returns-clause-fresh : goal.returns-clause-fresh
returns-clause-fresh c = each_fresh
