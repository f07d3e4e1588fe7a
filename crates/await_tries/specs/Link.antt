-- Nodes with their ranges of children.
use Rattle.std.specs.Prelude.{ℕ, ◌<◌, List, length}
use Rattle.await_trees.specs.declared.nodes.Node.{Node}
use Rattle.await_tries.specs.Ranges.{Ranged}
use Rattle.await_tries.specs.Spells.{Spells}
use Rattle.await_trees.specs.Tree.{Tree}

-- the first node represents the tree
pub record Linked (ns : List Node) (kids : List ℕ) (t : Tree) : Type 0 where
  pub some : 0 < length ns
  pub ranged : Ranged ns kids
  pub spelled : Spells ns kids 0 t
