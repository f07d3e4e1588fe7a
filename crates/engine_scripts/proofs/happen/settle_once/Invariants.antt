use Rattle.engine_scripts.proofs.Playing.{SettlesOn}
use Rattle.engine_scripts.proofs.happen.settle_once.Given as goal

abbrev pub invariant-loop-place : goal.invariant-loop-place
invariant-loop-place l = SettlesOn l.place l.initial.engine l.engine
