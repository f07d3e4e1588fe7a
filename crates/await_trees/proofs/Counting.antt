-- Trees that are taken apart, by the numbers of their nodes.
use Rattle.std.proofs.Common.{◌≡◌, ℕ, zero, suc, ◌+◌, ◌<◌, ◌≤◌, List, [], ◌∷◌, ◌++◌, length, get_or, refl, ap, ◌∙◌, arith, ◌⊎◌, inl, inr}
use Rattle.std.proofs.Math.ListN.{set}
use Rattle.await_trees.specs.declared.handle.NotificationHandle.{NotificationHandle}
use Rattle.await_trees.specs.declared.tree.UnresolvedFuture.{UnresolvedFuture}
use Rattle.await_trees.specs.declared.tree.UnresolvedFuture.TheVariants.{Single, FirstCompleted, AllCompleted, FirstSucceededOrAllFailed, AllSucceededOrFirstFailed, Unknown}
use Rattle.await_trees.specs.Counts.{nodes_in, nodes_of, count, in_row, Fewer}
use Rattle.await_trees.specs.Tree.{forest_of}
use Rattle.await_trees.proofs.TreeOf.{tree_of-Single, tree_of-FirstCompleted, tree_of-AllCompleted, tree_of-FirstSucceededOrAllFailed, tree_of-AllSucceededOrFirstFailed, tree_of-Unknown}

row_nodes : (us : List UnresolvedFuture) → nodes_of (forest_of us) ≡ in_row us
row_nodes [] = refl
row_nodes (u ∷ us) = ap (λ z. count u + z) (row_nodes us)

pub count-Single : (h : NotificationHandle) → count (Single h) ≡ 1
count-Single h = ap nodes_in (tree_of-Single h)

pub count-FirstCompleted : (us : List UnresolvedFuture) → count (FirstCompleted us) ≡ suc (in_row us)
count-FirstCompleted us = ap nodes_in (tree_of-FirstCompleted us) ∙ ap suc (row_nodes us)

pub count-AllCompleted : (us : List UnresolvedFuture) → count (AllCompleted us) ≡ suc (in_row us)
count-AllCompleted us = ap nodes_in (tree_of-AllCompleted us) ∙ ap suc (row_nodes us)

pub count-FirstSucceededOrAllFailed : (us : List UnresolvedFuture) → count (FirstSucceededOrAllFailed us) ≡ suc (in_row us)
count-FirstSucceededOrAllFailed us = ap nodes_in (tree_of-FirstSucceededOrAllFailed us) ∙ ap suc (row_nodes us)

pub count-AllSucceededOrFirstFailed : (us : List UnresolvedFuture) → count (AllSucceededOrFirstFailed us) ≡ suc (in_row us)
count-AllSucceededOrFirstFailed us = ap nodes_in (tree_of-AllSucceededOrFirstFailed us) ∙ ap suc (row_nodes us)

pub count-Unknown : (us : List UnresolvedFuture) → count (Unknown us) ≡ suc (in_row us)
count-Unknown us = ap nodes_in (tree_of-Unknown us) ∙ ap suc (row_nodes us)

row_push : (us : List UnresolvedFuture) (u : UnresolvedFuture) → in_row (us ++ u ∷ []) ≡ count u + in_row us
row_push [] u = refl
row_push (v ∷ us) u = let e = row_push us u in omega arith

-- the last tree leaves its row
pub popped : (row rest : List UnresolvedFuture) (tree : UnresolvedFuture) (n : ℕ) → n ≡ in_row row → row ≡ rest ++ tree ∷ [] → Fewer 0 n (count tree) (in_row rest)
popped row rest tree n e is = let p = row_push rest tree in let q = ap in_row is in inl (omega arith)

-- another tree takes the place of the first
pub swapped : (us : List UnresolvedFuture) (tree other : UnresolvedFuture) (found left : ℕ) → 0 < length us → get_or us 0 tree ≡ tree → found ≡ in_row us → count other ≡ suc left
    → Fewer found left (count tree) (in_row (set us 0 other))
swapped [] tree other found left l e f c = absurd (omega arith)
swapped (u ∷ us) tree other found left l e f c =
    let same : count u ≡ count tree = ap count e in
    inr (omega arith, omega arith)

-- ---- the measure

-- n and all lesser numbers together
abbrev pub triangle : ℕ → ℕ
triangle zero = zero
triangle (suc n) = suc n + triangle n

less : (was now tree next a b : ℕ) → now ≡ a → was ≡ b → next ≤ now → tree ≤ was → (suc a ≡ b) ⊎ ((a ≡ b) × (next < tree)) → triangle now + next < triangle was + tree
less was now tree next a b e f l m (inl p) =
    let q : was ≡ suc now = omega arith in
    rw q (omega arith)
less was now tree next a b e f l m (inr p) =
    let q : now ≡ was = omega arith in
    rw q (let r = p.1 in omega arith)

pub taken_apart : (tree found left next others : ℕ) → tree ≡ suc found → Fewer found left next others → triangle (next + others) + next < triangle (tree + left) + tree
taken_apart tree found left next others e (inl p) =
    less (tree + left) (next + others) tree next (next + others) (tree + left) refl refl (omega arith) (omega arith) (inl (omega arith))
taken_apart tree found left next others e (inr p) =
    let a = p.0 in
    let b = p.1 in
    less (tree + left) (next + others) tree next (next + others) (tree + left) refl refl (omega arith) (omega arith) (inr (omega arith, omega arith))
