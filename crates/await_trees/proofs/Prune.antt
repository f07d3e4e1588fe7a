-- A tree and its residual: the same outcome and the same firing at every later moment, and what is left of the residual is left of the tree.
use Rattle.std.proofs.Common.{◌≡◌, ℕ, Bool, true, false, ◌&&◌, ◌||◌, refl}
use Rattle.journal_attempt.specs.declared.future.FutureKind.{FutureKind}
use Rattle.await_trees.specs.declared.outcome.Outcome.{Outcome}
use Rattle.await_trees.specs.declared.outcome.Outcome.TheVariants.{Pending, Succeeded, Failed}
use Rattle.await_trees.specs.Tree.{TreeOver, ForestOver, Tree, Forest, leaf, node, none, more}
use Rattle.await_trees.specs.Outcomes.{is_done, fires_on, waits_for, outcome, all_wait, fires, any_fires, Grows, first_of, first_at}
use Rattle.await_trees.specs.Residual.{Residual, same_leaf, same_kind, Residuals, nothing, gone, kept, Added, here, later}
use Rattle.await_trees.proofs.Bools.{or_neither, quiet_waits}
use Rattle.await_trees.proofs.Monotone.{done_quiet, outcome_stays}

-- where in the row a tree stands is of no account
pub wait_added : {L : Type 0} (at : L → Outcome) (k : FutureKind) {t : TreeOver L} {ts us : ForestOver L} → Added t ts us → all_wait at k us ≡ (waits_for k (outcome at t) && all_wait at k ts)
wait_added at k here = refl
wait_added at k {t} (later {u = u} {ts = ts} a) = rw (wait_added at k a) (and_turn (waits_for k (outcome at u)) (waits_for k (outcome at t)) (all_wait at k ts))
  where
    and_turn : (a b c : Bool) → (a && (b && c)) ≡ (b && (a && c))
    and_turn true b c = refl
    and_turn false true c = refl
    and_turn false false c = refl

pub fires_added : {L : Type 0} (at : L → Outcome) (k : FutureKind) {t : TreeOver L} {ts us : ForestOver L} → Added t ts us → any_fires at k us ≡ ((fires_on k (outcome at t) || fires at t) || any_fires at k ts)
fires_added at k here = refl
fires_added at k {t} (later {u = u} {ts = ts} a) = rw (fires_added at k a) (or_turn (fires_on k (outcome at u) || fires at u) (fires_on k (outcome at t) || fires at t) (any_fires at k ts))
  where
    or_turn : (a b c : Bool) → (a || (b || c)) ≡ (b || (a || c))
    or_turn true true c = refl
    or_turn true false c = refl
    or_turn false b c = refl

module _ (at bt : ℕ → Outcome) (g : Grows at bt) where
  mutual
    pub same_outcome : {t r : Tree} → Residual at t r → fires at t ≡ false → outcome bt r ≡ outcome bt t
    same_outcome same_leaf q = refl
    same_outcome (same_kind {k = k} rs) q = rw (same_wait k rs q) refl

    pub same_wait : (k : FutureKind) {ts rs : Forest} → Residuals at ts rs → any_fires at k ts ≡ false → all_wait bt k rs ≡ all_wait bt k ts
    same_wait k nothing q = refl
    same_wait k (gone {t = t} {ts = ts} d rest) q =
        let far = or_neither (fires_on k (outcome at t) || fires at t) (any_fires at k ts) q in
        let near = or_neither (fires_on k (outcome at t)) (fires at t) far.0 in
        rw (outcome_stays at bt g t d, quiet_waits k (outcome at t) near.0 d) (same_wait k rest far.1)
    same_wait k (kept {t = t} {ts = ts} d r rest a) q =
        let far = or_neither (fires_on k (outcome at t) || fires at t) (any_fires at k ts) q in
        let near = or_neither (fires_on k (outcome at t)) (fires at t) far.0 in
        rw (wait_added bt k a, same_outcome r near.1, same_wait k rest far.1) refl

  mutual
    pub same_fires : {t r : Tree} → Residual at t r → fires at t ≡ false → fires bt r ≡ fires bt t
    same_fires same_leaf q = refl
    same_fires (same_kind {k = k} rs) q = same_any k rs q

    pub same_any : (k : FutureKind) {ts rs : Forest} → Residuals at ts rs → any_fires at k ts ≡ false → any_fires bt k rs ≡ any_fires bt k ts
    same_any k nothing q = refl
    same_any k (gone {t = t} {ts = ts} d rest) q =
        let far = or_neither (fires_on k (outcome at t) || fires at t) (any_fires at k ts) q in
        let near = or_neither (fires_on k (outcome at t)) (fires at t) far.0 in
        let o = outcome_stays at bt g t d in
        let still : is_done (outcome bt t) ≡ true = rw o d in
        rw (done_quiet bt t still, o, near.0) (same_any k rest far.1)
    same_any k (kept {t = t} {ts = ts} d r rest a) q =
        let far = or_neither (fires_on k (outcome at t) || fires at t) (any_fires at k ts) q in
        let near = or_neither (fires_on k (outcome at t)) (fires at t) far.0 in
        rw (fires_added bt k a, same_outcome r near.1, same_fires r near.1, same_any k rest far.1) refl

-- two trees put in may be put in in either order
pub added_turn : {s v : Tree} {ts us ws : Forest} → Added s ts us → Added v us ws → (xs : Forest) × Added v ts xs × Added s xs ws
added_turn {s} {v} {ts} a here = (more v ts, here, later a)
added_turn here (later b) = (_, b, here)
added_turn (later a) (later b) = let (xs, p, q) = added_turn a b in (more _ xs, later p, later q)

-- what is left of a row is what is left of one of its trees and of the others
data LeftAfter (at : ℕ → Outcome) (r : Tree) (gs hs : Forest) : Type 0 where
  was_gone : is_done (outcome at r) ≡ true → Residuals at gs hs → LeftAfter at r gs hs
  was_kept : {s : Tree} {is : Forest} → is_done (outcome at r) ≡ false → Residual at r s → Residuals at gs is → Added s is hs → LeftAfter at r gs hs

still_gone : {at : ℕ → Outcome} {t r : Tree} {gs hs : Forest} → is_done (outcome at t) ≡ true → LeftAfter at r gs hs → LeftAfter at r (more t gs) hs
still_gone d (was_gone e rest) = was_gone e (gone d rest)
still_gone d (was_kept e s rest a) = was_kept e s (gone d rest) a

still_kept : {at : ℕ → Outcome} {t r v : Tree} {gs hs is : Forest} → is_done (outcome at t) ≡ false → Residual at t v → LeftAfter at r gs hs → Added v hs is → LeftAfter at r (more t gs) is
still_kept d v (was_gone e rest) b = was_gone e (kept d v rest b)
still_kept d v (was_kept e s rest a) b = let (xs, p, q) = added_turn a b in was_kept e s (kept d v rest p) q

left_after : {at : ℕ → Outcome} {r : Tree} {gs us hs : Forest} → Added r gs us → Residuals at us hs → LeftAfter at r gs hs
left_after here (gone d rest) = was_gone d rest
left_after here (kept d r rest a) = was_kept d r rest a
left_after (later a) (gone d rest) = still_gone d (left_after a rest)
left_after (later a) (kept d v rest b) = still_kept d v (left_after a rest) b

module _ (at bt : ℕ → Outcome) (g : Grows at bt) where
  mutual
    pub residual_again : {t r s : Tree} → Residual at t r → fires at t ≡ false → Residual bt r s → Residual bt t s
    residual_again same_leaf q s = s
    residual_again (same_kind {k = k} rs) q (same_kind ss) = same_kind (residuals_again k rs q ss)

    pub residuals_again : (k : FutureKind) {ts rs ss : Forest} → Residuals at ts rs → any_fires at k ts ≡ false → Residuals bt rs ss → Residuals bt ts ss
    residuals_again k nothing q ss = ss
    residuals_again k (gone {t = t} {ts = ts} d rest) q ss =
        let far = or_neither (fires_on k (outcome at t) || fires at t) (any_fires at k ts) q in
        gone (rw (outcome_stays at bt g t d) d) (residuals_again k rest far.1 ss)
    residuals_again k (kept {t = t} {ts = ts} d r rest a) q ss =
        let far = or_neither (fires_on k (outcome at t) || fires at t) (any_fires at k ts) q in
        let near = or_neither (fires_on k (outcome at t)) (fires at t) far.0 in
        let e = same_outcome at bt g r near.1 in
        elim (left_after a ss) [
          | was_gone d' rest' ↦ gone (rw (← e) d') (residuals_again k rest far.1 rest')
          | was_kept d' s rest' b ↦ kept (rw (← e) d') (residual_again r near.1 s) (residuals_again k rest far.1 rest') b
        ]

-- each leaf is without an outcome
abbrev mutual
  pub Waits : (ℕ → Outcome) → Tree → Type 0
  Waits at (leaf h) = is_done (at h) ≡ false
  Waits at (node k ts) = AllWait at ts

  pub AllWait : (ℕ → Outcome) → Forest → Type 0
  AllWait at none = Unit {0}
  AllWait at (more t ts) = Waits at t × AllWait at ts

module _ (at : ℕ → Outcome) where
  all_added : {t : Tree} {ts us : Forest} → Added t ts us → Waits at t → AllWait at ts → AllWait at us
  all_added here w ws = (w, ws)
  all_added (later a) w ws = (ws.0, all_added a w ws.1)

  mutual
    pub residual_waits : {t r : Tree} → Residual at t r → is_done (outcome at t) ≡ false → Waits at r
    residual_waits same_leaf d = d
    residual_waits (same_kind rs) d = residuals_wait rs

    pub residuals_wait : {ts rs : Forest} → Residuals at ts rs → AllWait at rs
    residuals_wait nothing = tt
    residuals_wait (gone d rest) = residuals_wait rest
    residuals_wait (kept d r rest a) = all_added a (residual_waits r d) (residuals_wait rest)

first_is : (o p : Outcome) → is_done o ≡ false → first_of o p ≡ p
first_is Pending p d = refl
first_is Succeeded p d = cc
first_is Failed p d = cc

pub first_grows : (at bt : ℕ → Outcome) → Grows at (first_at at bt)
first_grows at bt h d = go (at h) d
  where
    go : (o : Outcome) → is_done o ≡ true → first_of o (bt h) ≡ o
    go Pending d = cc
    go Succeeded d = refl
    go Failed d = refl

-- if no leaf had an outcome, the first outcomes are those of now
module _ (at bt : ℕ → Outcome) where
  mutual
    pub first_outcome : (t : Tree) → Waits at t → outcome (first_at at bt) t ≡ outcome bt t
    first_outcome (leaf h) w = first_is (at h) (bt h) w
    first_outcome (node k ts) w = rw (first_wait k ts w) refl

    pub first_wait : (k : FutureKind) (ts : Forest) → AllWait at ts → all_wait (first_at at bt) k ts ≡ all_wait bt k ts
    first_wait k none w = refl
    first_wait k (more t ts) w = rw (first_outcome t w.0, first_wait k ts w.1) refl

  mutual
    pub first_fires : (t : Tree) → Waits at t → fires (first_at at bt) t ≡ fires bt t
    first_fires (leaf h) w = refl
    first_fires (node k ts) w = first_any k ts w

    pub first_any : (k : FutureKind) (ts : Forest) → AllWait at ts → any_fires (first_at at bt) k ts ≡ any_fires bt k ts
    first_any k none w = refl
    first_any k (more t ts) w = rw (first_outcome t w.0, first_fires t w.0, first_any k ts w.1) refl

  mutual
    pub first_residual : {t r : Tree} → Residual bt t r → Waits at t → Residual (first_at at bt) t r
    first_residual same_leaf w = same_leaf
    first_residual (same_kind rs) w = same_kind (first_residuals rs w)

    pub first_residuals : {ts rs : Forest} → Residuals bt ts rs → AllWait at ts → Residuals (first_at at bt) ts rs
    first_residuals nothing w = nothing
    first_residuals (gone {t = t} d rest) w = gone (rw (first_outcome t w.0) d) (first_residuals rest w.1)
    first_residuals (kept {t = t} d r rest a) w = kept (rw (first_outcome t w.0) d) (first_residual r w.0) (first_residuals rest w.1) a
