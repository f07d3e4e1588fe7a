-- Nodes and their ranges of children.
use Rattle.std.proofs.Common.{◌≡◌, ◌≢◌, ℕ, zero, suc, ◌+◌, ◌<◌, ◌≤◌, List, [], ◌∷◌, length, take, drop, get_or, refl, ap, arith, ⊎_elim}
use Rattle.std.proofs.Math.ListN.{set}
use Rattle.std.proofs.lemmas.List.{get_or-set_other}
use Rattle.std.proofs.lemmas.Bool.{cases_lt}
use Rattle.journal_attempt.specs.declared.future.FutureKind.{FutureKind}
use Rattle.await_trees.specs.declared.nodes.Node.{Node}
use Rattle.await_trees.specs.declared.nodes.Label.{Label}
use Rattle.await_trees.specs.declared.nodes.Label.TheVariants.{Leaf, Inner}
use Rattle.await_trees.specs.Tree.{Tree, Forest, leaf, node}
use Rattle.await_tries.specs.Spells.{blank, node_at, children, AllAbove, Spells, a_leaf, a_node, SpellAll, no_more, one_more}
use Rattle.await_tries.specs.Ranges.{Ranged}

-- ---- parts of lists that are the same

pub take_same : (n : ℕ) (xs ys : List ℕ) → length xs ≡ length ys → ((k : ℕ) → k < n → get_or xs k 0 ≡ get_or ys k 0) → take n xs ≡ take n ys
take_same zero xs ys l s = refl
take_same (suc n) [] [] l s = refl
take_same (suc n) [] (y ∷ ys) l s = absurd (omega arith)
take_same (suc n) (x ∷ xs) [] l s = absurd (omega arith)
take_same (suc n) (x ∷ xs) (y ∷ ys) l s =
    let h : x ≡ y = s 0 (omega arith) in
    let t = take_same n xs ys (omega arith) (λ k b. s (suc k) (omega arith)) in
    cc

part_same : (a n : ℕ) (xs ys : List ℕ) → length xs ≡ length ys → ((k : ℕ) → a ≤ k → k < a + n → get_or xs k 0 ≡ get_or ys k 0) → take n (drop a xs) ≡ take n (drop a ys)
part_same zero n xs ys l s = take_same n xs ys l (λ k b. s k (omega arith) (omega arith))
part_same (suc a) n [] [] l s = refl
part_same (suc a) n [] (y ∷ ys) l s = absurd (omega arith)
part_same (suc a) n (x ∷ xs) [] l s = absurd (omega arith)
part_same (suc a) n (x ∷ xs) (y ∷ ys) l s = part_same a n xs ys (omega arith) (λ k b c. s (suc k) (omega arith) (omega arith))

-- the ranges of other nodes stay when that of one node is swept
pub other_children : (ns : List Node) (kids lids : List ℕ) (i m : ℕ) → Ranged ns kids → i < length ns → m < length ns → m ≢ i → length lids ≡ length kids
    → ((k : ℕ) → k < (node_at ns i).first → get_or lids k 0 ≡ get_or kids k 0)
    → ((k : ℕ) → (node_at ns i).first + (node_at ns i).count ≤ k → get_or lids k 0 ≡ get_or kids k 0)
    → children ns lids m ≡ children ns kids m
other_children ns kids lids i m r b c d l before behind =
    ⊎_elim
    (λ (lt : m < i). let a = r.apart m i lt b in part_same (node_at ns m).first (node_at ns m).count lids kids l (λ k p q. behind k (omega arith)))
    (λ (ge : i ≤ m). let a = r.apart i m (grind arith) c in part_same (node_at ns m).first (node_at ns m).count lids kids l (λ k p q. before k (omega arith)))
    (cases_lt m i)

pub others_same : (ns : List Node) (kids lids : List ℕ) (i : ℕ) (w : Node) → Ranged ns kids → i < length ns → length lids ≡ length kids
    → ((k : ℕ) → k < (node_at ns i).first → get_or lids k 0 ≡ get_or kids k 0)
    → ((k : ℕ) → (node_at ns i).first + (node_at ns i).count ≤ k → get_or lids k 0 ≡ get_or kids k 0)
    → (m : ℕ) → m < length ns → m ≢ i → (node_at (set ns i w) m ≡ node_at ns m) × (children (set ns i w) lids m ≡ children ns kids m)
others_same ns kids lids i w r b l before behind m c d =
    let n = get_or-set_other ns i m w blank d in
    (n, rw n (other_children ns kids lids i m r b c d l before behind))

-- ---- what nodes represent does not depend on lesser nodes

module _ (ns ms : List Node) (kids lids : List ℕ) (i : ℕ) (len : length ms ≡ length ns)
    (same : (m : ℕ) → m < length ns → i < m → (node_at ms m ≡ node_at ns m) × (children ms lids m ≡ children ns kids m)) where
  mutual
    pub stable : (n : ℕ) (t : Tree) → i < n → Spells ns kids n t → Spells ms lids n t
    stable n t l (a_leaf b e) = a_leaf (rw len b) (rw ((same n b l).0) e)
    stable n t l (a_node {ts = ts} b e a s) =
        let f = same n b l in
        a_node (rw len b) (rw f.0 e) (rw f.1 a) (rw f.1 (all_stable n (children ns kids n) ts l a s))

    pub all_stable : (n : ℕ) (cs : List ℕ) (ts : Forest) → i < n → AllAbove n cs → SpellAll ns kids cs ts → SpellAll ms lids cs ts
    all_stable n cs ts l a no_more = no_more
    all_stable n cs ts l a (one_more {c = c} {cs = ds} {t = t} {ts = us} s r) = one_more (stable c t (let b = a.0 in omega arith) s) (all_stable n ds us l a.1 r)

-- ---- the node itself

pub record Opened (ns : List Node) (kids : List ℕ) (i : ℕ) (k : FutureKind) (t : Tree) : Type 0 where
  pub forest : Forest
  pub is : t ≡ node k forest
  pub above : AllAbove i (children ns kids i)
  pub spelled : SpellAll ns kids (children ns kids i) forest

same_inner : {k j : FutureKind} (l : Label) → l ≡ Inner k → l ≡ Inner j → j ≡ k
same_inner l a b = cc

pub opened : (ns : List Node) (kids : List ℕ) (i : ℕ) (k : FutureKind) (t : Tree) → (node_at ns i).label ≡ Inner k → Spells ns kids i t → Opened ns kids i k t
opened ns kids i k t l (a_leaf b e) = cc
opened ns kids i k t l (a_node {k = j} {ts = ts} b e a s) =
    let h : j ≡ k = same_inner (node_at ns i).label l e in
    record { forest = ts; is = ap (λ z. node z ts) h; above = a; spelled = s }

same_leaf_of : {g h : ℕ} (l : Label) → l ≡ Leaf g → l ≡ Leaf h → h ≡ g
same_leaf_of l a b = cc

pub leaf_is : (ns : List Node) (kids : List ℕ) (i h : ℕ) (t : Tree) → (node_at ns i).label ≡ Leaf h → Spells ns kids i t → t ≡ leaf h
leaf_is ns kids i h t l (a_leaf b e) = ap leaf (same_leaf_of (node_at ns i).label l e)
leaf_is ns kids i h t l (a_node b e a s) = cc
