use Rattle.engine_scripts.proofs.Playing.{SettlesSome}
use Rattle.engine_scripts.proofs.happen.settle.Given as goal

abbrev pub invariant-loop-left : goal.invariant-loop-left
invariant-loop-left l = SettlesSome l.times l.left l.initial.engine l.engine

abbrev pub decreases-loop-left : goal.decreases-loop-left
decreases-loop-left l = l.left
