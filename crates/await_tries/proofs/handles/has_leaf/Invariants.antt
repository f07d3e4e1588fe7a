use Rattle.std.proofs.Common.{◌≡◌, length, reverse}
use Rattle.await_trees.specs.Handles.{handles_of, handles_in}
use Rattle.await_trees.specs.Preorder.{preorders}
use Rattle.await_tries.specs.Left.{tree_left}
use Rattle.await_tries.specs.Walks.{coming, Sound}
use Rattle.await_tries.proofs.handles.has_leaf.Given as goal

abbrev pub invariant-loop-rows : goal.invariant-loop-rows
invariant-loop-rows l = record {
  sound : Sound l.nodes l.kids (reverse l.rows.items);
  still : handles_in (coming l.nodes l.kids (reverse l.rows.items)) ≡ handles_of (tree_left (record { nodes = l.nodes; kids = l.kids }));
}

abbrev pub decreases-loop-rows : goal.decreases-loop-rows
decreases-loop-rows l = length (preorders (coming l.nodes l.kids (reverse l.rows.items)))
