use Rattle.std.proofs.Common.{◌≡◌, ◌≤◌, length, drop}
use Rattle.await_trees.specs.Wires.{readings}
use Rattle.c_values.specs.Children.{stacked}
use Rattle.c_values.specs.Waking.{outcome_in}
use Rattle.c_values.proofs.waking.is_awake.Given as goal

abbrev pub invariant-loop-i : goal.invariant-loop-i
invariant-loop-i l = record {
  within : l.i ≤ length l.nodes;
  stack : l.stack.items ≡ stacked (outcome_in l.came) (readings (drop l.i l.nodes));
}

abbrev pub decreases-loop-i : goal.decreases-loop-i
decreases-loop-i l = l.i
