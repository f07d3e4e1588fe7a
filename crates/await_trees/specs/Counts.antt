-- How many nodes trees have.
use Rattle.std.specs.Prelude.{ℕ, suc, ◌≡◌, ◌≤◌, ◌+◌, ◌⊎◌, List, [], ◌∷◌, Option, Some, None}
use Rattle.std.specs.declared.vec.Vec.{Vec}
use Rattle.std.specs.declared.alloc.Global.{Global}
use Rattle.await_trees.specs.declared.tree.UnresolvedFuture.{UnresolvedFuture}
use Rattle.await_trees.specs.Tree.{Tree, Forest, leaf, node, none, more, tree_of}

abbrev mutual
  pub nodes_in : Tree → ℕ
  nodes_in (leaf h) = 1
  nodes_in (node k ts) = suc (nodes_of ts)

  pub nodes_of : Forest → ℕ
  nodes_of none = 0
  nodes_of (more t ts) = nodes_in t + nodes_of ts

abbrev pub count : UnresolvedFuture → ℕ
count u = nodes_in (tree_of u)

abbrev pub in_row : List UnresolvedFuture → ℕ
in_row [] = 0
in_row (u ∷ us) = count u + in_row us

abbrev pub in_some : Option (Vec UnresolvedFuture Global) → ℕ
in_some None = 0
in_some (Some row) = in_row row.items

-- A node over `found` nodes was taken apart, and `left` nodes are left besides. Then there is one
-- node fewer; or as many, and the next tree has fewer than the one before.
abbrev pub Fewer : ℕ → ℕ → ℕ → ℕ → Type 0
Fewer found left tree others =
    (tree + others ≡ found + left) ⊎ ((tree + others ≡ suc (found + left)) × (tree ≤ found))
