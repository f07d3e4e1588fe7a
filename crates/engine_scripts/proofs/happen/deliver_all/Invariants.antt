use Rattle.std.proofs.Common.{◌<◌, ◌+◌, ◌^◌}
use Rattle.engine_scripts.proofs.Playing.{DeliversOn}
use Rattle.engine_scripts.proofs.happen.deliver_all.Given as goal

abbrev pub invariant-loop-left : goal.invariant-loop-left
invariant-loop-left l = record {
  room : l.at + l.left < 2 ^ 64;
  on : DeliversOn l.place l.initial.engine l.at l.left l.engine;
}

abbrev pub decreases-loop-left : goal.decreases-loop-left
decreases-loop-left l = l.left
