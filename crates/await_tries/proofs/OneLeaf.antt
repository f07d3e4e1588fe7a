-- The nodes of a tree that is one leaf.
use Rattle.std.proofs.Common.{◌≡◌, ◌<◌, ◌≤◌, ◌+◌, ℕ, zero, suc, List, [], ◌∷◌, refl, arith}
use Rattle.await_trees.specs.declared.nodes.Label.TheVariants.{Leaf}
use Rattle.await_trees.specs.declared.nodes.Node.{Node}
use Rattle.await_trees.specs.Tree.{leaf}
use Rattle.await_tries.specs.Left.{Left, IsTreeLeft}
use Rattle.await_tries.specs.Ranges.{Ranged}
use Rattle.await_tries.specs.Spells.{node_at, a_leaf}
use Rattle.await_tries.proofs.Spelled.{whole}

abbrev pub one_leaf : ℕ → Left
one_leaf h = record { nodes = record { label = Leaf h; first = 0; count = 0 } ∷ []; kids = [] }

fits_at : (h n : ℕ) → n < 1 → (node_at (one_leaf h).nodes n).first + (node_at (one_leaf h).nodes n).count ≤ 0
fits_at h zero l = omega arith
fits_at h (suc n) l = absurd (omega arith)

ranged : (h : ℕ) → Ranged (one_leaf h).nodes []
ranged h = record {
  fits = fits_at h;
  apart = λ m n l b. absurd (omega arith);
  numbers = λ k l. absurd (omega arith);
}

pub whole_leaf : (nodes : List Node) (kids : List ℕ) (h : ℕ) → nodes ≡ (one_leaf h).nodes → kids ≡ [] → IsTreeLeft (record { nodes = nodes; kids = kids })
whole_leaf nodes kids h are none = rw (are, none) (whole (one_leaf h) (leaf h) (ranged h) (a_leaf (omega arith) refl))
