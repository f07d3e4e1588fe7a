-- Tracked calls, in the order of their handles.
use Rattle.std.proofs.Common.{◌≡◌, ◌≢◌, ℕ, zero, suc, ◌+◌, ◌<◌, ◌≤◌, min, true, false, List, [], ◌∷◌, ◌++◌, length, take, drop, get_or, Option, Some, None, Result, Ok, Err, MatchResult, refl, sym, ap, ◌∙◌, ⊎_elim, arith}
use Rattle.std.specs.Prelude.{◌==◌}
use Rattle.std.specs.List.{insert}
use Rattle.std.specs.Option.{is_some}
use Rattle.std.proofs.Math.ListN.{set}
use Rattle.std.specs.List.Sorted.{IsBinarySearchResult, IsNonDecreasingBy, IsSearchInRange}
use Rattle.std.specs.Ordering.{nat_cmp, is_lt, ordering_index}
use Rattle.std.specs.declared.cmp.Ordering.TheVariants.{Less, Equal, Greater}
use Rattle.std.specs.Cmp.{nat_cmp_total, nat_cmp_is, ranked}
use Rattle.std.proofs.lemmas.Bool.{cases_lt, eq-eqb, ne_eqb}
use Rattle.std.proofs.lemmas.Bool.Decides.{nat_tests}
use Rattle.std.proofs.lemmas.List.{get_or_default, length-set, take-append-drop, take-set-le, take_all, take_more}
use Rattle.std.proofs.lemmas.List.Edits.{length-insert}
use Rattle.std.proofs.Math.Bool.{or-true}
use Rattle.std.proofs.lemmas.List.Sorted.{searchable_from_sorted}
use Rattle.vm_state.specs.declared.tracked_call.TrackedCall.{TrackedCall}
use Rattle.vm_state.specs.TrackedCalls.{unresolved_call, with_call}
use Rattle.vm_parts.specs.Tracked.{TrackedAbove, TrackedAscend, IsTrackedAt, IsBetween, IsNextUnresolved, IsTracking, by_known_id, if_known, if_unresolved, invocation_ids, is_tracked, id_noted, unresolved_handles, with_invocation_id, with_next_id}
use Rattle.plain.proofs.Places.{from_place}

-- ---- found by halving

-- each is greater than one that is below all
above_at : (handle : ℕ) (ts : List TrackedCall) → TrackedAbove handle ts → (k : ℕ) (d : TrackedCall) → k < length ts → handle < (get_or ts k d).handle
above_at handle [] a k d l = absurd (omega arith)
above_at handle (t ∷ ts) a zero d l = a.0
above_at handle (t ∷ ts) a (suc k) d l = above_at handle ts a.1 k d (omega arith)

-- a later handle is greater
rises : (ts : List TrackedCall) → TrackedAscend ts → (i j : ℕ) (d : TrackedCall) → i < j → j < length ts → (get_or ts i d).handle < (get_or ts j d).handle
rises [] a i j d less l = absurd (omega arith)
rises (t ∷ ts) a i zero d less l = absurd (omega arith)
rises (t ∷ ts) a zero (suc j) d less l = above_at t.handle ts a.0 j d (omega arith)
rises (t ∷ ts) a (suc i) (suc j) d less l = rises ts a.1 i j d (omega arith) (omega arith)

-- ascending handles can be searched by halving
searchable : (handle : ℕ) (ts : List TrackedCall) → TrackedAscend ts → IsNonDecreasingBy (λ (t : TrackedCall). ordering_index (nat_cmp t.handle handle)) ts
searchable handle ts a =
    searchable_from_sorted nat_cmp_total (λ (t : TrackedCall). t.handle) ts handle (λ k d z l.
    ap is_lt (sym (nat_cmp_is _ _ Greater (rises ts a k (k + 1) d (omega arith) l))))

-- what halving answers
pub place_found : (handle : ℕ) (ts : List TrackedCall) (r : Result ℕ ℕ) → TrackedAscend ts → IsSearchInRange r (length ts) → IsBinarySearchResult (λ (t : TrackedCall). nat_cmp t.handle handle) ts r → MatchResult r (IsTrackedAt handle ts) (IsBetween handle ts)
place_found handle ts (Ok place) a bound found = (bound, λ d. ranked _ _ Equal (sym (found d)))
place_found handle ts (Err place) a bound found =
    let point = found (searchable handle ts a) in
    (bound, (λ k d z l. ranked _ _ Less (sym (point.0 k d z l)), λ k d l below. ranked _ _ Greater (sym (point.1 k d l below))))

-- a handle that is greater than the last belongs at the end
pub behind_last : (handle : ℕ) (ts : List TrackedCall) (n : ℕ) (last : TrackedCall) → suc n ≡ length ts → TrackedAscend ts → last ≡ get_or ts n last → last.handle < handle → IsBetween handle ts (length ts)
behind_last handle ts n last e a is less =
    let each : (k : ℕ) (d : TrackedCall) → 0 ≤ k → k < length ts → (get_or ts k d).handle < handle = λ k d z l.
    let same : get_or ts n d ≡ last = get_or_default ts n d last (omega arith) ∙ sym is in
    let top : (get_or ts n d).handle < handle = rw same less in
    ⊎_elim (λ (b : k < n). let r = rises ts a k n d b (omega arith) in omega arith) (λ (b : n ≤ k). let k-is : k ≡ n = omega arith in rw k-is top) (cases_lt k n)
    in
    (omega arith, (each, λ k d l below. absurd (omega arith)))

-- ---- a call more

-- before a greater handle
with_call-before : (handle : ℕ) (t : TrackedCall) (ts : List TrackedCall) → handle < t.handle → with_call handle (t ∷ ts) ≡ unresolved_call handle ∷ t ∷ ts
with_call-before handle t ts less = grind (arith, nat_tests)

-- replacing the call of the same handle
with_call-same : (handle : ℕ) (t : TrackedCall) (ts : List TrackedCall) → t.handle ≡ handle → with_call handle (t ∷ ts) ≡ unresolved_call handle ∷ ts
with_call-same handle t ts e = grind (arith, nat_tests)

-- after a lesser handle
with_call-behind : (handle : ℕ) (t : TrackedCall) (ts : List TrackedCall) → t.handle < handle → with_call handle (t ∷ ts) ≡ t ∷ with_call handle ts
with_call-behind handle t ts less = grind (arith, nat_tests)

-- the handle before the place of another is less
less_before : (handle : ℕ) (t : TrackedCall) (ts : List TrackedCall) (i : ℕ) → TrackedAscend (t ∷ ts) → IsTrackedAt handle (t ∷ ts) (suc i) → t.handle < handle
less_before handle t ts i a at = let l = at.0 in let g = above_at t.handle ts a.0 i t (omega arith) in let e = at.1 t in omega arith

-- the place of a handle, counted from after the first call
at_tail : (handle : ℕ) (t : TrackedCall) (ts : List TrackedCall) (i : ℕ) → IsTrackedAt handle (t ∷ ts) (suc i) → IsTrackedAt handle ts i
at_tail handle t ts i at = (let l = at.0 in omega arith, at.1)

-- the same of a handle that has no call
between_tail : (handle : ℕ) (t : TrackedCall) (ts : List TrackedCall) (i : ℕ) → IsBetween handle (t ∷ ts) (suc i) → IsBetween handle ts i
between_tail handle t ts i p =
    (let l = p.0 in omega arith, (λ k d z l. p.1.0 (suc k) d (omega arith) (omega arith), λ k d l below. p.1.1 (suc k) d (omega arith) (omega arith)))

-- a call replacing that of its handle
pub with_call-at : (handle : ℕ) (ts : List TrackedCall) (i : ℕ) → TrackedAscend ts → IsTrackedAt handle ts i → with_call handle ts ≡ set ts i (unresolved_call handle)
with_call-at handle [] i a at = let l = at.0 in absurd (omega arith)
with_call-at handle (t ∷ ts) zero a at = with_call-same handle t ts (at.1 t)
with_call-at handle (t ∷ ts) (suc i) a at =
    with_call-behind handle t ts (less_before handle t ts i a at) ∙ ap (λ us. t ∷ us) (with_call-at handle ts i a.1 (at_tail handle t ts i at))

-- a call between others
pub with_call-between : (handle : ℕ) (ts : List TrackedCall) (i : ℕ) → IsBetween handle ts i → with_call handle ts ≡ insert ts i (unresolved_call handle)
with_call-between handle [] zero p = refl
with_call-between handle [] (suc i) p = refl
with_call-between handle (t ∷ ts) zero p = with_call-before handle t ts (p.1.1 0 t (omega arith) (omega arith))
with_call-between handle (t ∷ ts) (suc i) p =
    with_call-behind handle t ts (p.1.0 0 t (omega arith) (omega arith)) ∙ ap (λ us. t ∷ us) (with_call-between handle ts i (between_tail handle t ts i p))

-- ---- handles still ascend

-- another call with the same handle
Above-set : (y : ℕ) (ts : List TrackedCall) (i : ℕ) (x d : TrackedCall) → x.handle ≡ (get_or ts i d).handle → TrackedAbove y ts → TrackedAbove y (set ts i x)
Above-set y [] i x d e a = a
Above-set y (t ∷ ts) zero x d e a = (rw e a.0, a.1)
Above-set y (t ∷ ts) (suc i) x d e a = (a.0, Above-set y ts i x d e a.1)

-- another call with the same handle
Ascend-set : (ts : List TrackedCall) (i : ℕ) (x d : TrackedCall) → x.handle ≡ (get_or ts i d).handle → TrackedAscend ts → TrackedAscend (set ts i x)
Ascend-set [] i x d e a = a
Ascend-set (t ∷ ts) zero x d e a = (rw e a.0, a.1)
Ascend-set (t ∷ ts) (suc i) x d e a = (Above-set t.handle ts i x d e a.0, Ascend-set ts i x d e a.1)

-- a handle that is less than each is below all
above_each : (y : ℕ) (ts : List TrackedCall) → ((k : ℕ) (d : TrackedCall) → k < length ts → y < (get_or ts k d).handle) → TrackedAbove y ts
above_each y [] each = tt
above_each y (t ∷ ts) each = (each 0 t (omega arith), above_each y ts (λ k d l. each (suc k) d (omega arith)))

-- one more that is greater
Above-insert : (y : ℕ) (ts : List TrackedCall) (i : ℕ) (x : TrackedCall) → y < x.handle → TrackedAbove y ts → TrackedAbove y (insert ts i x)
Above-insert y ts zero x less a = (less, a)
Above-insert y [] (suc i) x less a = (less, a)
Above-insert y (t ∷ ts) (suc i) x less a = (a.0, Above-insert y ts i x less a.1)

-- one more, between those that are less and those that are greater
Ascend-insert : (ts : List TrackedCall) (i : ℕ) (x : TrackedCall) → IsBetween x.handle ts i → TrackedAscend ts → TrackedAscend (insert ts i x)
Ascend-insert ts zero x p a = (above_each x.handle ts (λ k d l. p.1.1 k d (omega arith) l), a)
Ascend-insert [] (suc i) x p a = (tt, tt)
Ascend-insert (t ∷ ts) (suc i) x p a =
    (Above-insert t.handle ts i x (p.1.0 0 t (omega arith) (omega arith)) a.0, Ascend-insert ts i x (between_tail x.handle t ts i p) a.1)

-- ---- ids that are known

-- if all ids of one list are known once those of another are, this stays so with one call more
if_unresolved-nil : (o : Option (List ℕ)) (handle : ℕ) (hs ks : List ℕ) → (hs ≡ [] → ks ≡ []) → if_unresolved o handle hs ≡ [] → if_unresolved o handle ks ≡ []
if_unresolved-nil None handle hs ks then e = cc
if_unresolved-nil (Some id) handle hs ks then e = then e

-- if no id is left to become known, none is after the first call
nil_behind : (o : Option (List ℕ)) (handle : ℕ) (hs : List ℕ) → if_unresolved o handle hs ≡ [] → hs ≡ []
nil_behind None handle hs e = cc
nil_behind (Some id) handle hs e = e

-- the ids of the first are known, and so are those of fewer
unresolved-take-le : (ts : List TrackedCall) (m n : ℕ) → m ≤ n → unresolved_handles (take n ts) ≡ [] → unresolved_handles (take m ts) ≡ []
unresolved-take-le ts zero n l e = refl
unresolved-take-le [] (suc m) n l e = refl
unresolved-take-le (t ∷ ts) (suc m) zero l e = absurd (omega arith)
unresolved-take-le (t ∷ ts) (suc m) (suc n) l e = if_unresolved-nil t.invocation_id t.handle _ _ (unresolved-take-le ts m n (omega arith)) e

-- a call's id becomes known
abbrev pub known_call : List ℕ → TrackedCall → TrackedCall
known_call id t = record t { invocation_id = Some id }

-- one more of the first may become known
unresolved-take-set : (ts : List TrackedCall) (n i : ℕ) (t : TrackedCall) (id : List ℕ) → unresolved_handles (take n ts) ≡ [] → unresolved_handles (take n (set ts i (known_call id t))) ≡ []
unresolved-take-set ts zero i t id k = refl
unresolved-take-set [] (suc n) i t id k = refl
unresolved-take-set (u ∷ us) (suc n) zero t id k = nil_behind u.invocation_id u.handle _ k
unresolved-take-set (u ∷ us) (suc n) (suc i) t id k = if_unresolved-nil u.invocation_id u.handle _ _ (unresolved-take-set us n i t id) k

-- the calls before one that was put between
take-insert : (ts : List TrackedCall) (m i : ℕ) (x : TrackedCall) → m ≤ i → i ≤ length ts → take m (insert ts i x) ≡ take m ts
take-insert ts zero i x l below = refl
take-insert ts (suc m) zero x l below = absurd (omega arith)
take-insert [] (suc m) (suc i) x l below = absurd (omega arith)
take-insert (t ∷ ts) (suc m) (suc i) x l below = ap (λ us. t ∷ us) (take-insert ts m i x (omega arith) (omega arith))

-- a call was replaced
pub IsTracking-set : (ts : List TrackedCall) (n i handle : ℕ) → IsTracking ts n → IsTrackedAt handle ts i → IsTracking (set ts i (unresolved_call handle)) (min n i)
IsTracking-set ts n i handle s at = record {
  ascend = Ascend-set ts i (unresolved_call handle) (unresolved_call handle) (sym (at.1 (unresolved_call handle))) s.ascend;
  within = let l = s.within in omega (arith, length-set {A = TrackedCall});
  known = ap unresolved_handles (take-set-le (min n i) ts i (unresolved_call handle) (omega arith)) ∙ unresolved-take-le ts (min n i) n (omega arith) s.known;
}

-- a call was put between others
pub IsTracking-insert : (ts : List TrackedCall) (n i handle : ℕ) → IsTracking ts n → IsBetween handle ts i → IsTracking (insert ts i (unresolved_call handle)) (min n i)
IsTracking-insert ts n i handle s p = record {
  ascend = Ascend-insert ts i (unresolved_call handle) p s.ascend;
  within = let l = s.within in omega (arith, length-insert ts i (unresolved_call handle) p.0);
  known = ap unresolved_handles (take-insert ts (min n i) i (unresolved_call handle) (omega arith) p.0) ∙ unresolved-take-le ts (min n i) n (omega arith) s.known;
}

-- a call's id became known
pub IsTracking-known : (ts : List TrackedCall) (n i : ℕ) (t : TrackedCall) (id : List ℕ) → IsTracking ts n → t ≡ get_or ts i t → IsTracking (set ts i (known_call id t)) n
IsTracking-known ts n i t id s e = record {
  ascend = Ascend-set ts i (known_call id t) t (ap (λ (u : TrackedCall). u.handle) e) s.ascend;
  within = let l = s.within in omega (arith, length-set {A = TrackedCall});
  known = unresolved-take-set ts n i t id s.known;
}

-- ---- a result is noted

-- a call has the handle
is_tracked-at : (handle : ℕ) (ts : List TrackedCall) (i : ℕ) → IsTrackedAt handle ts i → is_tracked handle ts ≡ true
is_tracked-at handle [] i at = let l = at.0 in absurd (omega arith)
is_tracked-at handle (t ∷ ts) zero at = rw (eq-eqb t.handle handle (at.1 t)) refl
is_tracked-at handle (t ∷ ts) (suc i) at = rw (is_tracked-at handle ts i (at_tail handle t ts i at)) (or-true (t.handle == handle))

-- no call has the handle
is_tracked-absent : (handle : ℕ) (ts : List TrackedCall) → ((k : ℕ) (d : TrackedCall) → k < length ts → (get_or ts k d).handle ≢ handle) → is_tracked handle ts ≡ false
is_tracked-absent handle [] absent = refl
is_tracked-absent handle (t ∷ ts) absent =
    rw (ne_eqb t.handle handle (absent 0 t (omega arith))) (is_tracked-absent handle ts (λ k d l. absent (suc k) d (omega arith)))

-- a handle between others has no call
is_tracked-between : (handle : ℕ) (ts : List TrackedCall) (i : ℕ) → IsBetween handle ts i → is_tracked handle ts ≡ false
is_tracked-between handle ts i p = is_tracked-absent handle ts (λ k d l e.
    ⊎_elim (λ (b : k < i). let less = p.1.0 k d (omega arith) b in absurd (omega arith)) (λ (b : i ≤ k). let more = p.1.1 k d b l in absurd (omega arith)) (cases_lt k i))

-- the id becomes known in the handle's place
with_id-at : (handle : ℕ) (id : List ℕ) (ts : List TrackedCall) (i : ℕ) (t : TrackedCall) → TrackedAscend ts → IsTrackedAt handle ts i → t ≡ get_or ts i t → with_invocation_id handle id ts ≡ set ts i (known_call id t)
with_id-at handle id [] i t a at e = let l = at.0 in absurd (omega arith)
with_id-at handle id (u ∷ us) zero t a at e = rw (eq-eqb u.handle handle (at.1 u)) (ap (λ x. known_call id x ∷ us) (sym e))
with_id-at handle id (u ∷ us) (suc i) t a at e =
    let less = less_before handle u us i a at in
    rw (ne_eqb u.handle handle (λ same. absurd (omega arith))) (ap (λ ts. u ∷ ts) (with_id-at handle id us i t a.1 (at_tail handle u us i at) e))

-- of a handle that isn't tracked
pub noted-between : (handle : ℕ) (id : Option (List ℕ)) (ts : List TrackedCall) (i : ℕ) → IsBetween handle ts i → id_noted handle id ts ≡ Some ts
noted-between handle id ts i p = rw (is_tracked-between handle ts i p) refl

-- no id, where one is due
pub noted-none : (handle : ℕ) (ts : List TrackedCall) (i : ℕ) → IsTrackedAt handle ts i → id_noted handle None ts ≡ None
noted-none handle ts i at = rw (is_tracked-at handle ts i at) refl

-- an id where one is due
pub noted-at : (handle : ℕ) (id : List ℕ) (ts : List TrackedCall) (i : ℕ) (t : TrackedCall) → TrackedAscend ts → IsTrackedAt handle ts i → t ≡ get_or ts i t → id_noted handle (Some id) ts ≡ Some (set ts i (known_call id t))
noted-at handle id ts i t a at e = rw (is_tracked-at handle ts i at) (ap Some (with_id-at handle id ts i t a at e))

-- ---- the next id that isn't known

-- a call's handle before more than one list
if_unresolved-append : (o : Option (List ℕ)) (handle : ℕ) (hs ks : List ℕ) → if_unresolved o handle (hs ++ ks) ≡ if_unresolved o handle hs ++ ks
if_unresolved-append None handle hs ks = refl
if_unresolved-append (Some id) handle hs ks = refl

-- the handles of calls, then of others
unresolved-append : (ts us : List TrackedCall) → unresolved_handles (ts ++ us) ≡ unresolved_handles ts ++ unresolved_handles us
unresolved-append [] us = refl
unresolved-append (t ∷ ts) us = ap (if_unresolved t.invocation_id t.handle) (unresolved-append ts us) ∙ if_unresolved-append t.invocation_id t.handle (unresolved_handles ts) (unresolved_handles us)

-- a call whose id is known
if_unresolved-known : (o : Option (List ℕ)) (handle : ℕ) → is_some o ≡ true → if_unresolved o handle [] ≡ []
if_unresolved-known None handle e = cc
if_unresolved-known (Some id) handle e = refl

-- one more of the first is known
pub unresolved-take-more : (ts : List TrackedCall) (i : ℕ) (d : TrackedCall) → i < length ts → is_some (get_or ts i d).invocation_id ≡ true → unresolved_handles (take i ts) ≡ [] → unresolved_handles (take (i + 1) ts) ≡ []
unresolved-take-more ts i d l some known =
    ap unresolved_handles (take_more ts i d l) ∙ unresolved-append (take i ts) (get_or ts i d ∷ []) ∙ rw known (if_unresolved-known (get_or ts i d).invocation_id (get_or ts i d).handle some)

-- after those that are known
unresolved-drop : (ts : List TrackedCall) (i : ℕ) → unresolved_handles (take i ts) ≡ [] → unresolved_handles ts ≡ unresolved_handles (drop i ts)
unresolved-drop ts i known =
    sym (ap unresolved_handles (take-append-drop i ts)) ∙ unresolved-append (take i ts) (drop i ts) ∙ ap (λ hs. hs ++ unresolved_handles (drop i ts)) known

-- as many of the first are known as stand before the next
pub IsTracking-next : (ts : List TrackedCall) (i : ℕ) → TrackedAscend ts → IsNextUnresolved ts i → IsTracking ts i
IsTracking-next ts i a n = record { ascend = a; within = n.within; known = n.known }

-- none is left at the end
pub unresolved-end : (ts : List TrackedCall) (i : ℕ) → IsNextUnresolved ts i → length ts ≤ i → unresolved_handles ts ≡ []
unresolved-end ts i n l = rw (take_all i ts l) at n.known

-- the first that is left
pub unresolved-next : (ts : List TrackedCall) (i : ℕ) (x : TrackedCall) → IsNextUnresolved ts i → i < length ts → x ≡ get_or ts i x → unresolved_handles ts ≡ x.handle ∷ unresolved_handles (drop (i + 1) ts)
unresolved-next ts i x n l is =
    let e : x.invocation_id ≡ None = rw (← is) at (n.next x l) in
    unresolved-drop ts i n.known ∙ ap unresolved_handles (from_place ts i x l is) ∙ rw e refl

-- a call is passed, as none is left
by_id-known : (o : Option (List ℕ)) (handle : ℕ) (hs : List ℕ) (ts us : List TrackedCall) → if_unresolved o handle hs ≡ [] → by_known_id o ts us ≡ us
by_id-known None handle hs ts us e = cc
by_id-known (Some id) handle hs ts us e = refl

-- no id is left to become known
pub with_next_id-end : (id : List ℕ) (ts : List TrackedCall) → unresolved_handles ts ≡ [] → with_next_id id ts ≡ ts
with_next_id-end id [] e = refl
with_next_id-end id (t ∷ ts) e =
    by_id-known t.invocation_id t.handle (unresolved_handles ts) _ _ e ∙ ap (λ us. t ∷ us) (with_next_id-end id ts (nil_behind t.invocation_id t.handle (unresolved_handles ts) e))

-- the first id after those that are known becomes known
with_next_id-at : (id : List ℕ) (ts : List TrackedCall) (i : ℕ) (t : TrackedCall) → i < length ts → unresolved_handles (take i ts) ≡ [] → (get_or ts i t).invocation_id ≡ None → t ≡ get_or ts i t → with_next_id id ts ≡ set ts i (known_call id t)
with_next_id-at id [] i t l known none e = absurd (omega arith)
with_next_id-at id (u ∷ us) zero t l known none e = rw none (ap (λ x. known_call id x ∷ us) (sym e))
with_next_id-at id (u ∷ us) (suc i) t l known none e =
    by_id-known u.invocation_id u.handle (unresolved_handles (take i us)) _ _ known
    ∙ ap (λ ts. u ∷ ts) (with_next_id-at id us i t (omega arith) (nil_behind u.invocation_id u.handle (unresolved_handles (take i us)) known) none e)

-- the next id becomes known
pub with_next_id-next : (id : List ℕ) (ts : List TrackedCall) (i : ℕ) (t : TrackedCall) → IsNextUnresolved ts i → i < length ts → t ≡ get_or ts i t → with_next_id id ts ≡ set ts i (known_call id t)
with_next_id-next id ts i t n l e = with_next_id-at id ts i t l n.known (n.next t l) e

-- ---- what calls of the type may rest on

-- once the next id is known, the rest are left
pub unresolved-with_next_id : (id : List ℕ) (ts : List TrackedCall) (h : ℕ) (hs : List ℕ) → unresolved_handles ts ≡ h ∷ hs → unresolved_handles (with_next_id id ts) ≡ hs
unresolved-with_next_id id [] h hs e = cc
unresolved-with_next_id id (t ∷ ts) h hs e = by_case t.handle t.invocation_id ts h hs (unresolved-with_next_id id ts h hs) e
  where
    by_case : (a : ℕ) (o : Option (List ℕ)) (us : List TrackedCall) (h : ℕ) (hs : List ℕ) → (unresolved_handles us ≡ h ∷ hs → unresolved_handles (with_next_id id us) ≡ hs)
        → if_unresolved o a (unresolved_handles us) ≡ h ∷ hs → unresolved_handles (with_next_id id (record { handle = a; invocation_id = o } ∷ us)) ≡ hs
    by_case a None us h hs behind e = cc
    by_case a (Some known) us h hs behind e = behind e

-- where each call's id is known, there are as many
pub length-invocation_ids : (ts : List TrackedCall) → unresolved_handles ts ≡ [] → length (invocation_ids ts) ≡ length ts
length-invocation_ids [] e = refl
length-invocation_ids (t ∷ ts) e = by_case t.invocation_id (length-invocation_ids ts) e
  where
    by_case : (o : Option (List ℕ)) → (unresolved_handles ts ≡ [] → length (invocation_ids ts) ≡ length ts)
        → if_unresolved o t.handle (unresolved_handles ts) ≡ [] → length (if_known o (invocation_ids ts)) ≡ suc (length ts)
    by_case None behind e = cc
    by_case (Some id) behind e = ap suc (behind e)
