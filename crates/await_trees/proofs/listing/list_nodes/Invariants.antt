use Rattle.std.proofs.Common.{◌≡◌, ◌++◌, ◌+◌, ◌*◌, List, map, length}
use Rattle.await_trees.specs.declared.tree.UnresolvedFuture.{UnresolvedFuture}
use Rattle.await_trees.specs.Tree.{tree_of}
use Rattle.await_trees.specs.Preorder.{preorder, preorders_on}
use Rattle.await_trees.proofs.listing.list_nodes.Given as goal

abbrev pub invariant-loop-row : goal.invariant-loop-row
invariant-loop-row l = l.nodes.items ++ preorders_on (map {B = List UnresolvedFuture} (λ row. row.now) l.rows.items) ≡ preorder (tree_of l.future)

abbrev pub decreases-loop-row : goal.decreases-loop-row
decreases-loop-row l = 2 * length (preorders_on (map {B = List UnresolvedFuture} (λ row. row.now) l.rows.items)) + length l.rows.items
