-- Order and repetition of children change neither an outcome nor whether a tree is awake.
use Rattle.std.proofs.Common.{◌≡◌, Bool, true, false, ◌||◌, cond, refl, sym, ap}
use Rattle.journal_attempt.specs.declared.future.FutureKind.{FutureKind}
use Rattle.await_trees.specs.declared.outcome.Outcome.{Outcome}
use Rattle.await_trees.specs.declared.outcome.Outcome.TheVariants.{Pending}
use Rattle.await_trees.specs.Outcomes.{fires_on, waits_for, outcome_of, outcome, all_wait, fires, any_fires, awake}
use Rattle.await_trees.specs.Same.{Same, same_leaf, same_node, EachIn, no_child, one_child, SomeIn, here, later}
use Rattle.await_trees.specs.Tree.{TreeOver, ForestOver}
use Rattle.await_trees.proofs.Bools.{and_both}
use Rattle.await_trees.proofs.Monotone.{or_split, or_left, or_right}

both_ways : (a b : Bool) → (a ≡ true → b ≡ true) → (b ≡ true → a ≡ true) → a ≡ b
both_ways true b p q = sym (p refl)
both_ways false true p q = q refl
both_ways false false p q = refl

pub turned : {L : Type 0} {t u : TreeOver L} → Same t u → Same u t
turned same_leaf = same_leaf
turned (same_node c d) = same_node d c

module _ {L : Type 0} (at : L → Outcome) where
  mutual
    pub same_outcome : {t u : TreeOver L} → Same t u → outcome at t ≡ outcome at u
    same_outcome same_leaf = refl
    same_outcome (same_node {k = k} {ts = ts} {us = us} c d) = ap (λ b. cond b (outcome_of k) Pending) (both_ways (all_wait at k ts) (all_wait at k us) (waits_in k d) (waits_in k c))

    waits_in : (k : FutureKind) {ts us : ForestOver L} → EachIn ts us → all_wait at k us ≡ true → all_wait at k ts ≡ true
    waits_in k no_child w = refl
    waits_in k (one_child s c) w = rw (waits_at k s w, waits_in k c w) refl

    waits_at : (k : FutureKind) {t : TreeOver L} {us : ForestOver L} → SomeIn t us → all_wait at k us ≡ true → waits_for k (outcome at t) ≡ true
    waits_at k (here {u = u} {us = us} e) w = let b = and_both (waits_for k (outcome at u)) (all_wait at k us) w in rw (same_outcome e) b.0
    waits_at k (later {u = u} {us = us} s) w = let b = and_both (waits_for k (outcome at u)) (all_wait at k us) w in waits_at k s b.1

  mutual
    fires_too : {t u : TreeOver L} → Same t u → fires at t ≡ true → fires at u ≡ true
    fires_too same_leaf f = f
    fires_too (same_node {k = k} c d) f = fires_in k c f

    fires_in : (k : FutureKind) {ts us : ForestOver L} → EachIn ts us → any_fires at k ts ≡ true → any_fires at k us ≡ true
    fires_in k no_child f = cc
    fires_in k (one_child {t = t} {ts = ts} {us = us} s c) f = or_split (fires_on k (outcome at t) || fires at t) (any_fires at k ts) (any_fires at k us ≡ true) (fires_at k s) (fires_in k c) f

    fires_at : (k : FutureKind) {t : TreeOver L} {us : ForestOver L} → SomeIn t us → (fires_on k (outcome at t) || fires at t) ≡ true → any_fires at k us ≡ true
    fires_at k (here {t = t} {u = u} {us = us} e) f =
        let now = fires_on k (outcome at u) || fires at u in
        or_left now (any_fires at k us) (or_split (fires_on k (outcome at t)) (fires at t) (now ≡ true)
        (λ h. or_left (fires_on k (outcome at u)) (fires at u) (rw (← same_outcome e) h))
        (λ h. or_right (fires_on k (outcome at u)) (fires at u) (fires_too e h)) f)
    fires_at k (later {u = u} {us = us} s) f = or_right (fires_on k (outcome at u) || fires at u) (any_fires at k us) (fires_at k s f)

  same_fires : {t u : TreeOver L} → Same t u → fires at t ≡ fires at u
  same_fires {t} {u} e = both_ways (fires at t) (fires at u) (fires_too e) (fires_too (turned e))

  pub same_awake : {t u : TreeOver L} → Same t u → awake at t ≡ awake at u
  same_awake e = rw (same_outcome e, same_fires e) refl
