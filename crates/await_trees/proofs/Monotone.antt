-- More arrivals: an outcome stays, a tree that is done does not fire, and a tree that fires goes on to.
use Rattle.std.proofs.Common.{◌≡◌, ℕ, Bool, true, false, ◌||◌, refl}
use Rattle.journal_attempt.specs.declared.future.FutureKind.{FutureKind}
use Rattle.await_trees.specs.declared.outcome.Outcome.{Outcome}
use Rattle.await_trees.specs.Tree.{Tree, Forest, leaf, node, none, more}
use Rattle.await_trees.specs.Outcomes.{is_done, fires_on, waits_for, outcome, all_wait, fires, any_fires, awake, Grows}
use Rattle.await_trees.proofs.Bools.{and_both, done_all, waits_quiet, waits_done, fires_done}

mutual
  pub done_quiet : (at : ℕ → Outcome) (t : Tree) → is_done (outcome at t) ≡ true → fires at t ≡ false
  done_quiet at (leaf h) d = refl
  done_quiet at (node k ts) d = wait_quiet at k ts (done_all (all_wait at k ts) k d)

  pub wait_quiet : (at : ℕ → Outcome) (k : FutureKind) (ts : Forest) → all_wait at k ts ≡ true → any_fires at k ts ≡ false
  wait_quiet at k none d = refl
  wait_quiet at k (more t ts) d =
      let both = and_both (waits_for k (outcome at t)) (all_wait at k ts) d in
      let here = waits_quiet k (outcome at t) both.0 in
      let deep = done_quiet at t (waits_done k (outcome at t) both.0) in
      let rest = wait_quiet at k ts both.1 in
      rw (here, deep, rest) refl

pub or_split : (a b : Bool) (P : Type 0) → (a ≡ true → P) → (b ≡ true → P) → a || b ≡ true → P
or_split true b P p q h = p refl
or_split false b P p q h = q h

pub or_left : (a b : Bool) → a ≡ true → a || b ≡ true
or_left true b h = refl
or_left false b h = cc

pub or_right : (a b : Bool) → b ≡ true → a || b ≡ true
or_right true b h = refl
or_right false b h = h

any_step : (at bt : ℕ → Outcome) (k : FutureKind) (t : Tree) (ts : Forest)
    → (is_done (outcome at t) ≡ true → outcome bt t ≡ outcome at t)
    → (fires at t ≡ true → fires bt t ≡ true)
    → (any_fires at k ts ≡ true → any_fires bt k ts ≡ true)
    → any_fires at k (more t ts) ≡ true → any_fires bt k (more t ts) ≡ true
any_step at bt k t ts o f r =
    let now = fires_on k (outcome bt t) || fires bt t in
    let here : fires_on k (outcome at t) ≡ true → now ≡ true =
    λ h. or_left (fires_on k (outcome bt t)) (fires bt t) (rw (o (fires_done k (outcome at t) h)) h) in
    let deep : fires at t ≡ true → now ≡ true = λ h. or_right (fires_on k (outcome bt t)) (fires bt t) (f h) in
    let both : fires_on k (outcome at t) || fires at t ≡ true → now ≡ true = or_split _ _ _ here deep in
    or_split _ _ _ (λ h. or_left now (any_fires bt k ts) (both h)) (λ h. or_right now (any_fires bt k ts) (r h))

awake_step : (at bt : ℕ → Outcome) (t : Tree)
    → (is_done (outcome at t) ≡ true → outcome bt t ≡ outcome at t)
    → (fires at t ≡ true → fires bt t ≡ true)
    → awake at t ≡ true → awake bt t ≡ true
awake_step at bt t o f =
    or_split _ _ _ (λ h. or_left (is_done (outcome bt t)) (fires bt t) (rw (o h) h)) (λ h. or_right (is_done (outcome bt t)) (fires bt t) (f h))

module _ (at bt : ℕ → Outcome) (g : Grows at bt) where
  mutual
    pub outcome_stays : (t : Tree) → is_done (outcome at t) ≡ true → outcome bt t ≡ outcome at t
    outcome_stays (leaf h) d = g h d
    outcome_stays (node k ts) d =
        let all = done_all (all_wait at k ts) k d in
        rw (all, wait_stays k ts all) refl

    pub wait_stays : (k : FutureKind) (ts : Forest) → all_wait at k ts ≡ true → all_wait bt k ts ≡ true
    wait_stays k none d = refl
    wait_stays k (more t ts) d =
        let both = and_both (waits_for k (outcome at t)) (all_wait at k ts) d in
        rw (outcome_stays t (waits_done k (outcome at t) both.0), both.0, wait_stays k ts both.1) refl

  mutual
    pub fires_stays : (t : Tree) → fires at t ≡ true → fires bt t ≡ true
    fires_stays (leaf h) d = d
    fires_stays (node k ts) d = any_stays k ts d

    pub any_stays : (k : FutureKind) (ts : Forest) → any_fires at k ts ≡ true → any_fires bt k ts ≡ true
    any_stays k none d = d
    any_stays k (more t ts) d = any_step at bt k t ts (outcome_stays t) (fires_stays t) (any_stays k ts) d

  pub awake_stays : (t : Tree) → awake at t ≡ true → awake bt t ≡ true
  awake_stays t d = awake_step at bt t (outcome_stays t) (fires_stays t) d
