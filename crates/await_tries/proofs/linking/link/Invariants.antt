use Rattle.std.proofs.Common.{◌≡◌, ◌≤◌, length, reverse}
use Rattle.await_trees.specs.Preorder.{preorder}
use Rattle.await_trees.specs.Tree.{Tree}
use Rattle.await_tries.proofs.Links.{Linking}
use Rattle.await_tries.proofs.linking.link.Given as goal

abbrev pub invariant-loop-i : goal.invariant-loop-i
invariant-loop-i l = record {
  len : length l.nodes.items ≡ length l.initial.nodes.items;
  within : l.i ≤ length l.nodes.items;
  linking : (t : Tree) → l.initial.nodes.items ≡ preorder t → Linking l.initial.nodes.items l.nodes.items l.kids.items (reverse l.roots.items) l.i t;
}

abbrev pub decreases-loop-i : goal.decreases-loop-i
decreases-loop-i l = l.i
