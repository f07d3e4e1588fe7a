use Rattle.world_rounds.proofs.Executions.{execution_of}
use Rattle.world_rounds.proofs.First.{first_kinds, first_made, first_ok}
use Rattle.world_rounds.proofs.world.World.new.Goals as goal

pub invariant_of-result : goal.invariant_of-result
invariant_of-result c = first_ok c.in-Ok.journal _ c.in-Ok.ensures.bytes c.in-Ok.ensures.whole

pub returns-clause-one_run : goal.returns-clause-one_run
returns-clause-one_run c = λ m. execution_of m _ c.in-Ok.journal (first_made _ m _ c.in-Ok.journal _ c.in-Ok.ensures.bytes c.in-Ok.ensures.whole)

pub returns-clause-undisturbed : goal.returns-clause-undisturbed
returns-clause-undisturbed c = λ m. first_made _ m _ c.in-Ok.journal _ c.in-Ok.ensures.bytes c.in-Ok.ensures.whole

pub returns-clause-kinds : goal.returns-clause-kinds
returns-clause-kinds c = first_kinds c.in-Ok.journal _ c.in-Ok.ensures.bytes c.in-Ok.ensures.whole
