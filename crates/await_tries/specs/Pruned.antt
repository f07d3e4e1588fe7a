-- Nodes without the children that have got an outcome.
use Rattle.std.specs.Prelude.{ℕ, ◌≡◌, ◌<◌, Bool, true, false, List, [], ◌∷◌, length}
use Rattle.await_trees.specs.declared.nodes.Node.{Node}
use Rattle.await_tries.specs.Spells.{node_at, children}

-- the second list is the first with c at some place
pub data Put (c : ℕ) : List ℕ → List ℕ → Type 0 where
  here : {cs : List ℕ} → Put c cs (c ∷ cs)
  later : {d : ℕ} {cs ds : List ℕ} → Put c cs ds → Put c (d ∷ cs) (d ∷ ds)

-- the children without an outcome are left, in any order
pub data Swept (ended : ℕ → Bool) : List ℕ → List ℕ → Type 0 where
  none_left : Swept ended [] []
  gone : {c : ℕ} {cs rs : List ℕ} → ended c ≡ true → Swept ended cs rs → Swept ended (c ∷ cs) rs
  kept : {c : ℕ} {cs rs us : List ℕ} → ended c ≡ false → Swept ended cs rs → Put c rs us
      → Swept ended (c ∷ cs) us

-- so of each node
abbrev pub Pruned : (ℕ → Bool) → List Node → List ℕ → List Node → List ℕ → Type 0
Pruned ended ns kids ms lids =
    (n : ℕ) → n < length ns → ((node_at ms n).label ≡ (node_at ns n).label)
    × Swept ended (children ns kids n) (children ms lids n)
