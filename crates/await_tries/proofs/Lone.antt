-- What is left as a leaf alone, by the label of its first node.
use Rattle.std.proofs.Common.{◌≡◌, ℕ, Option, Some, None, sym, ap}
use Rattle.journal_attempt.specs.declared.future.FutureKind.{FutureKind}
use Rattle.await_trees.specs.declared.nodes.Label.TheVariants.{Leaf, Inner}
use Rattle.await_tries.specs.Left.{Left, IsTreeLeft, lone_handle, tree_left}
use Rattle.await_tries.specs.Spells.{node_at}
use Rattle.await_tries.proofs.Nodes.{leaf_is, opened}

pub lone_leaf : (l : Left) (h : ℕ) → IsTreeLeft l → (node_at l.nodes 0).label ≡ Leaf h → Some h ≡ lone_handle (tree_left l)
lone_leaf l h w e = sym (ap lone_handle (leaf_is l.nodes l.kids 0 h (tree_left l) e w.spelled))

pub lone_inner : (l : Left) (k : FutureKind) → IsTreeLeft l → (node_at l.nodes 0).label ≡ Inner k → None ≡ lone_handle (tree_left l)
lone_inner l k w e = sym (ap lone_handle (opened l.nodes l.kids 0 k (tree_left l) e w.spelled).is)
