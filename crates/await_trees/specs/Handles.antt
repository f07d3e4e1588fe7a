-- The handles that a tree awaits, in order.
use Rattle.std.specs.Prelude.{ℕ, Bool, true, false, List, [], ◌∷◌, ◌++◌}
use Rattle.await_trees.specs.Tree.{Tree, Forest, leaf, node, none, more}

abbrev mutual
  pub handles_of : Tree → List ℕ
  handles_of (leaf h) = h ∷ []
  handles_of (node k ts) = handles_in ts

  pub handles_in : Forest → List ℕ
  handles_in none = []
  handles_in (more t ts) = handles_of t ++ handles_in ts

-- there is a handle among these
abbrev pub are_some : List ℕ → Bool
are_some [] = false
are_some (h ∷ hs) = true

-- whether a tree has a leaf
abbrev pub has_leaf : Tree → Bool
has_leaf t = are_some (handles_of t)
