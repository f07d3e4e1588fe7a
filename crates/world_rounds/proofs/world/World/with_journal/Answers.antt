use Rattle.std.proofs.Common.{sym, subst}
use Rattle.world_rounds.specs.Worlds.{IsJournal}
use Rattle.world_rounds.proofs.Given.{given_is}
use Rattle.world_rounds.proofs.RightKinds.{history_kinds}
use Rattle.world_rounds.proofs.world.World.with_journal.Goals as goal

pub invariant_of-result : goal.invariant_of-result
invariant_of-result c = subst IsJournal (sym c.in-Ok.ensures.journal) (given_is c.args.entries.items c.in-Ok.ensures.given)

pub returns-clause-kinds : goal.returns-clause-kinds
returns-clause-kinds c = λ m h. history_kinds _ m _ c.in-Ok.journal (subst IsJournal (sym c.in-Ok.ensures.journal) (given_is c.args.entries.items c.in-Ok.ensures.given)) h.history.history
