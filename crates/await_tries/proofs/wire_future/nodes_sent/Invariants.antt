use Rattle.std.proofs.Common.{◌≡◌, ◌++◌, length, reverse}
use Rattle.await_trees.specs.Preorder.{preorders}
use Rattle.await_trees.specs.Wires.{nested, sent}
use Rattle.await_tries.specs.Left.{tree_left}
use Rattle.await_tries.specs.Message.{ids}
use Rattle.await_tries.specs.Walks.{coming, Sound}
use Rattle.await_tries.proofs.wire_future.nodes_sent.Given as goal

abbrev pub invariant-loop-rows : goal.invariant-loop-rows
invariant-loop-rows l = record {
  sound : Sound l.nodes l.kids (reverse l.rows.items);
  listed : l.sent ++ nested (ids l.results) (coming l.nodes l.kids (reverse l.rows.items)) ≡ sent (ids l.results) (tree_left (record { nodes = l.nodes; kids = l.kids }));
}

abbrev pub decreases-loop-rows : goal.decreases-loop-rows
decreases-loop-rows l = length (preorders (coming l.nodes l.kids (reverse l.rows.items)))
