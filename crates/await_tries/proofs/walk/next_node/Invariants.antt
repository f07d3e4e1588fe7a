use Rattle.std.proofs.Common.{◌≡◌, length, reverse}
use Rattle.await_tries.specs.Walks.{coming, Sound}
use Rattle.await_tries.proofs.walk.next_node.Given as goal

abbrev pub invariant-loop-row : goal.invariant-loop-row
invariant-loop-row l = record {
  same : coming l.nodes l.kids (reverse l.rows.items) ≡ coming l.nodes l.kids (reverse l.initial.rows.items);
  sound : Sound l.nodes l.kids (reverse l.rows.items);
}

abbrev pub decreases-loop-row : goal.decreases-loop-row
decreases-loop-row l = length l.rows.items
