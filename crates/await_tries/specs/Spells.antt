-- The tree that nodes represent.
use Rattle.std.specs.Prelude.{ℕ, ◌≡◌, ◌<◌, List, [], ◌∷◌, length, take, drop, get_or}
use Rattle.journal_attempt.specs.declared.future.FutureKind.{FutureKind}
use Rattle.await_trees.specs.declared.nodes.Label.TheVariants.{Leaf, Inner}
use Rattle.await_trees.specs.declared.nodes.Node.{Node}
use Rattle.await_trees.specs.Tree.{Tree, Forest, leaf, node, none, more}

abbrev pub blank : Node
blank = record { label = Leaf 0; first = 0; count = 0 }

abbrev pub node_at : List Node → ℕ → Node
node_at ns n = get_or ns n blank

-- the numbers of a node's children
abbrev pub children : List Node → List ℕ → ℕ → List ℕ
children ns kids n = take (node_at ns n).count (drop (node_at ns n).first kids)

-- each is greater
abbrev pub AllAbove : ℕ → List ℕ → Type 0
AllAbove n [] = Unit {0}
AllAbove n (c ∷ cs) = (n < c) × AllAbove n cs

mutual
  -- the node with this number represents a tree; its children have greater numbers
  pub data Spells (ns : List Node) (kids : List ℕ) : ℕ → Tree → Type 0 where
    a_leaf : {n h : ℕ} → n < length ns → (node_at ns n).label ≡ Leaf h → Spells ns kids n (leaf h)
    a_node : {n : ℕ} {k : FutureKind} {ts : Forest} → n < length ns → (node_at ns n).label ≡ Inner k
        → AllAbove n (children ns kids n) → SpellAll ns kids (children ns kids n) ts
        → Spells ns kids n (node k ts)

  pub data SpellAll (ns : List Node) (kids : List ℕ) : List ℕ → Forest → Type 0 where
    no_more : SpellAll ns kids [] none
    one_more : {c : ℕ} {cs : List ℕ} {t : Tree} {ts : Forest} → Spells ns kids c t
        → SpellAll ns kids cs ts → SpellAll ns kids (c ∷ cs) (more t ts)
