use Rattle.std.proofs.Common.{◌≡◌, ◌≤◌, min, false}
use Rattle.std.specs.Duration.{max_nanos}
use Rattle.vm_retries.specs.Intervals.{multiplied}
use Rattle.vm_retries.proofs.intervals.bounded.Given as goal

abbrev pub invariant-loop-left : goal.invariant-loop-left
invariant-loop-left l = record {
  same : min (multiplied l.factor l.interval l.left) l.most ≡ min (multiplied l.factor l.initial' l.steps) l.most;
  falls : l.grows ≡ false → l.interval ≤ max_nanos;
}

abbrev pub decreases-loop-left : goal.decreases-loop-left
decreases-loop-left l = l.left
