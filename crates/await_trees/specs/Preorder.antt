-- The nodes of a tree in preorder, before their children have numbers.
use Rattle.std.specs.Prelude.{ℕ, zero, suc, List, [], ◌∷◌, ◌++◌}
use Rattle.await_trees.specs.declared.tree.UnresolvedFuture.{UnresolvedFuture}
use Rattle.await_trees.specs.declared.nodes.Node.{Node}
use Rattle.await_trees.specs.declared.nodes.Label.TheVariants.{Leaf, Inner}
use Rattle.await_trees.specs.Tree.{Tree, Forest, leaf, node, none, more, forest_of}

abbrev pub size : Forest → ℕ
size none = zero
size (more t ts) = suc (size ts)

abbrev mutual
  pub preorder : Tree → List Node
  preorder (leaf h) = record { label = Leaf h; first = 0; count = 0 } ∷ []
  preorder (node k ts) = record { label = Inner k; first = 0; count = size ts } ∷ preorders ts

  pub preorders : Forest → List Node
  preorders none = []
  preorders (more t ts) = preorder t ++ preorders ts

-- the rows on a stack, of which the last is read first
abbrev pub preorders_on : List (List UnresolvedFuture) → List Node
preorders_on [] = []
preorders_on (row ∷ rows) = preorders_on rows ++ preorders (forest_of row)

-- one row of trees after another
abbrev pub forests_joined : Forest → Forest → Forest
forests_joined none rs = rs
forests_joined (more t ts) rs = more t (forests_joined ts rs)

-- once the first tree's root was read, its children come next
abbrev pub forest_after_root : Forest → Forest
forest_after_root none = none
forest_after_root (more (leaf h) rs) = rs
forest_after_root (more (node k us) rs) = forests_joined us rs

-- the trees that begin at a node of a preorder
abbrev pub from : ℕ → Forest → Forest
from zero ts = ts
from (suc i) ts = forest_after_root (from i ts)
