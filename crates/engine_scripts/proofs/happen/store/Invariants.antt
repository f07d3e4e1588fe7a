use Rattle.std.proofs.Common.{◌≡◌}
use Rattle.engines.specs.declared.types.Happening.TheVariants as happening
use Rattle.engine_scripts.specs.Events.{HappenOf}
use Rattle.engine_scripts.proofs.happen.store.Given as goal

abbrev pub invariant-loop-left : goal.invariant-loop-left
invariant-loop-left l = HappenOf (λ it. it ≡ happening.Store l.place) l.initial.engine l.engine

abbrev pub decreases-loop-left : goal.decreases-loop-left
decreases-loop-left l = l.left
