-- What a try leaves of a tree, as contracts see it: nodes, and their children as ranges of a second
-- list.
use Rattle.std.specs.Prelude.{ℕ, zero, suc, List, map, length, Option, Some, None}
use Rattle.await_trees.specs.declared.nodes.Node.{Node}
use Rattle.await_trees.specs.declared.nodes.Label.{Label}
use Rattle.await_trees.specs.declared.nodes.Label.TheVariants.{Leaf, Inner}
use Rattle.await_trees.specs.Tree.{Tree, Forest, leaf, node, forest}
use Rattle.await_tries.specs.Ranges.{Ranged}
use Rattle.await_tries.specs.Spells.{node_at, children, Spells}

-- nodes, and the numbers of their children
pub record Left : Type 0 where
  pub nodes : List Node
  pub kids : List ℕ

abbrev pub read_label : Label → Forest → Tree
read_label (Leaf h) ts = leaf h
read_label (Inner k) ts = node k ts

-- the tree at a node, at most this number of nodes deep
abbrev pub read : List Node → List ℕ → ℕ → ℕ → Tree
read ns kids zero n = leaf 0
read ns kids (suc f) n = read_label (node_at ns n).label
    (forest (map (read ns kids f) (children ns kids n)))

-- the tree that is left: that of the first node
abbrev pub tree_left : Left → Tree
tree_left l = read l.nodes l.kids (length l.nodes) 0

-- the handle of a tree that is a leaf
abbrev pub lone_handle : Tree → Option ℕ
lone_handle (leaf h) = Some h
lone_handle (node k ts) = None

-- the first node represents a tree
pub record IsTreeLeft (l : Left) : Type 0 where
  pub ranged : Ranged l.nodes l.kids
  pub spelled : Spells l.nodes l.kids 0 (tree_left l)
