-- Of the invocations of a key that haven't ended the first has its turn.
use Rattle.std.proofs.Common.{◌≡◌, inl, inr, zero, suc, ℕ, ◌<◌, Bool, true, false, List, [], ◌∷◌, take, Option, Some, None, refl, sym, ap, ◌∙◌, subst, arith}
use Rattle.std.specs.Prelude.{◌&&◌, ◌||◌, is_none, nat_le, not, slice_get}
use Rattle.std.specs.List.{list_any}
use Rattle.std.specs.Cmp.Lexicographic.{same_text}
use Rattle.journal_protocol.specs.ValueOrFailure.{ValueOrFailure}
use Rattle.engines.specs.declared.engine.Engine.{Engine}
use Rattle.engines.specs.declared.engine.Invocation.{Invocation}
use Rattle.engine_inboxes.specs.declared.target.Target.{Target}
use Rattle.engine_inboxes.specs.Targets.{are_exclusive, are_exclusive_of, is_text, share}
use Rattle.engines.specs.Lookups.{can_begin, has_turn, is_before}
use Rattle.engines.proofs.Growing.{some_in}
use Rattle.engines.specs.HandedOn.{shares_key}
use Rattle.engine_fences.specs.KeyTurns.{HasNext, TurnsGoOn}

-- ---- tests

both_of : (b c : Bool) → (b && c) ≡ true → (b ≡ true) × (c ≡ true)
both_of true c e = (refl, e)
both_of false c e = let x : false ≡ true = e in absurd (cc)

and_both : (b c : Bool) → b ≡ true → c ≡ true → (b && c) ≡ true
and_both b c e f = ap (λ z. z && c) e ∙ f

none_is : (o : Option ValueOrFailure) → is_none o ≡ true → o ≡ None
none_is None e = refl
none_is (Some r) e = let x : false ≡ true = e in absurd (cc)

text_then : (a b c : List ℕ) → is_text b a ≡ true → is_text c b ≡ true → is_text c a ≡ true
text_then a b c e f = ap (λ t. is_text t a) (same_text c b (sym f)) ∙ e

-- ---- one key

exclusive_then : {H : Type 0} (a b c : Target H) → are_exclusive b a ≡ true → are_exclusive c b ≡ true → are_exclusive c a ≡ true
exclusive_then a b c e f =
    let x = both_of (b.exclusive && a.exclusive) (is_text b.service a.service) e in
    let y = both_of (c.exclusive && b.exclusive) (is_text c.service b.service) f in
    and_both (c.exclusive && a.exclusive) (is_text c.service a.service)
    (and_both c.exclusive a.exclusive (both_of c.exclusive b.exclusive y.0).0 (both_of b.exclusive a.exclusive x.0).1)
    (text_then a.service b.service c.service x.1 y.1)

share_then : {H : Type 0} (a b c : Option (Target H)) → are_exclusive_of b a ≡ true → are_exclusive_of c b ≡ true → are_exclusive_of c a ≡ true
share_then a b None e f = let x : false ≡ true = f in absurd (cc)
share_then a None (Some c) e f = let x : false ≡ true = f in absurd (cc)
share_then None (Some b) (Some c) e f = let x : false ≡ true = e in absurd (cc)
share_then (Some a) (Some b) (Some c) e f = exclusive_then a b c e f

key_then : {H : Type 0} (targets : List (Target H)) (own it other : Invocation H) → shares_key targets own it ≡ true → shares_key targets it other ≡ true → shares_key targets own other ≡ true
key_then targets own it other e f =
    let x = both_of (is_text it.key own.key) (share targets it.target own.target) e in
    let y = both_of (is_text other.key it.key) (share targets other.target it.target) f in
    and_both (is_text other.key own.key) (share targets other.target own.target)
    (text_then own.key it.key other.key x.0 y.0)
    (share_then (slice_get targets own.target) (slice_get targets it.target) (slice_get targets other.target) x.1 y.1)

-- ---- who stands before it

-- one of these passes
some_before : {A : Type 0} (p : A → Bool) (xs : List A) (place : ℕ) → list_any p (take place xs) ≡ true → (j : ℕ) × (x : A) × (j < place) × (slice_get xs j ≡ Some x) × (p x ≡ true)
some_before p xs zero e = let x : false ≡ true = e in absurd (cc)
some_before p [] (suc n) e = let x : false ≡ true = e in absurd (cc)
some_before {A} p (x ∷ xs) (suc n) e = by (p x) refl (some_before p xs n)
  where
    by : (b : Bool) → p x ≡ b → (list_any p (take n xs) ≡ true → (j : ℕ) × (y : A) × (j < n) × (slice_get xs j ≡ Some y) × (p y ≡ true)) → (j : ℕ) × (y : A) × (j < suc n) × (slice_get (x ∷ xs) j ≡ Some y) × (p y ≡ true)
    by true is more = (0, x, omega arith, refl, is)
    by false is more =
        let (j, y, lt, there, passes) = more (sym (ap (λ b. b || list_any p (take n xs)) is) ∙ e) in
        (suc j, y, omega (arith, lt), there, passes)

-- ---- the first of a key

may_begin_so : {H : Type 0} (e : Engine H) (place : ℕ) (it : Invocation H) → slice_get e.invocations.items place ≡ Some it → it.ended ≡ None → has_turn e place it ≡ true → can_begin e place (slice_get e.invocations.items place) ≡ nat_le it.begins e.clock
may_begin_so e place it there none turn =
    ap (can_begin e place) there ∙ ap (λ o. is_none o && nat_le it.begins e.clock && has_turn e place it) none ∙ ap (λ b. nat_le it.begins e.clock && b) turn ∙ and_true (nat_le it.begins e.clock)
  where
    and_true : (b : Bool) → (b && true) ≡ b
    and_true true = refl
    and_true false = refl

has_next : {H : Type 0} (fuel : ℕ) (e : Engine H) (place : ℕ) (own : Invocation H) → place < fuel → slice_get e.invocations.items place ≡ Some own → own.ended ≡ None → HasNext e place own
has_next zero e place own lt there none = absurd (omega (arith, lt))
has_next {H} (suc fuel) e place own lt there none =
    by (list_any (is_before e.targets.now own) (take place e.invocations.items)) refl (λ j x below at goes. has_next fuel e j x (omega (arith, below, lt)) at goes)
  where
    further : (j : ℕ) (x : Invocation H) → j < place → slice_get e.invocations.items j ≡ Some x → is_before e.targets.now own x ≡ true → (x.ended ≡ None → HasNext e j x) → HasNext e place own
    further j x below at before more =
        let parts = both_of (is_none x.ended && is_text x.key own.key) (share e.targets.now x.target own.target) before in
        let goes = both_of (is_none x.ended) (is_text x.key own.key) parts.0 in
        let shared : shares_key e.targets.now own x ≡ true = and_both (is_text x.key own.key) (share e.targets.now x.target own.target) goes.1 parts.1 in
        let n : HasNext e j x = more (none_is x.ended goes.0) in
        record {
          first = n.first;
          earlier = let le = n.earlier in omega (arith, le, below);
          it = n.it;
          there = n.there;
          goes_on = n.goes_on;
          alike = inr (elim n.alike as (λ _. shares_key e.targets.now own n.it ≡ true) [
            | inl same ↦ subst (λ (z : Invocation H). shares_key e.targets.now own z ≡ true) (one_place e.invocations.items j n.first x n.it same at n.there) shared
            | inr also ↦ key_then e.targets.now own x n.it shared also
          ]);
          begins = n.begins;
        }
      where
        one_place : (its : List (Invocation H)) (j first : ℕ) (x it : Invocation H) → first ≡ j → slice_get its j ≡ Some x → slice_get its first ≡ Some it → x ≡ it
        one_place its j first x it same a b = some_in (slice_get its j) x it a (ap (slice_get its) (sym same) ∙ b)

    by : (b : Bool) → list_any (is_before e.targets.now own) (take place e.invocations.items) ≡ b → ((j : ℕ) (x : Invocation H) → j < place → slice_get e.invocations.items j ≡ Some x → x.ended ≡ None → HasNext e j x) → HasNext e place own
    by true any more =
        let (j, x, below, at, before) = some_before (is_before e.targets.now own) e.invocations.items place any in
        further j x below at before (more j x below at)
    by false any more = record {
      first = place;
      earlier = omega arith;
      it = own;
      there = there;
      goes_on = none;
      alike = inl refl;
      begins = may_begin_so e place own there none (ap not any);
    }

-- so someone may begin
pub turns_go_on : {H : Type 0} (e : Engine H) → TurnsGoOn e
turns_go_on e place it there none = has_next (suc place) e place it (omega arith) there none
