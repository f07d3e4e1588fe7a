use Rattle.std.proofs.Common.{◌≡◌, ◌≤◌, length, reverse}
use Rattle.await_trees.specs.Copies.{futures_at}
use Rattle.await_trees.specs.Preorder.{preorder, from}
use Rattle.await_trees.specs.Tree.{Tree, none, more}
use Rattle.await_trees.proofs.copying.copy_nodes.Given as goal

abbrev pub invariant-loop-i : goal.invariant-loop-i
invariant-loop-i l = record {
  within : l.i ≤ length l.nodes;
  copied : (t : Tree) → l.nodes ≡ preorder t → reverse l.trees.items ≡ futures_at (from l.i (more t none));
}

abbrev pub decreases-loop-i : goal.decreases-loop-i
decreases-loop-i l = l.i
