-- The ranges of children that nodes have in one list.
use Rattle.std.specs.Prelude.{ℕ, ◌<◌, ◌≤◌, ◌+◌, List, length, get_or}
use Rattle.await_trees.specs.declared.nodes.Node.{Node}
use Rattle.await_tries.specs.Spells.{node_at}

-- ranges lie within the list, apart from one another, and hold numbers of nodes
pub record Ranged (ns : List Node) (kids : List ℕ) : Type 0 where
  pub fits : (n : ℕ) → n < length ns → (node_at ns n).first + (node_at ns n).count ≤ length kids
  pub apart : (m n : ℕ) → m < n → n < length ns
      → (node_at ns n).first + (node_at ns n).count ≤ (node_at ns m).first
  pub numbers : (k : ℕ) → k < length kids → get_or kids k 0 < length ns
