-- What a stored command waits for can come, or has a cause to wait.
use Rattle.std.proofs.Common.{◌≡◌, ◌⊎◌, inl, inr, ℕ, ◌<◌, Bool, true, false, cond, List, [], ◌∷◌, Option, Some, None, refl, sym, ap, ◌∙◌, subst, arith}
use Rattle.std.specs.Prelude.{◌==◌, if◌then◌else◌, is_some, nat_le, slice_get}
use Rattle.std.specs.List.{AllZip}
use Rattle.std.specs.Option.{option_and_then, option_map}
use Rattle.std.proofs.lemmas.Bool.Decides.{nat_tests}
use Rattle.journal_protocol.specs.NotificationResult.TheVariants as result
use Rattle.journal_protocol.specs.ValueOrFailure.{ValueOrFailure}
use Rattle.journal_store.specs.declared.effect.Beginning.{Beginning}
use Rattle.journal_store.specs.declared.effect.Effect.{Effect}
use Rattle.journal_store.specs.declared.effect.Effect.TheVariants as effect
use Rattle.journal_store.specs.declared.effect.Timer.{Timer}
use Rattle.engine_inboxes.specs.declared.types.Brought.TheVariants as brought
use Rattle.engine_inboxes.specs.declared.types.Waiting.{Waiting}
use Rattle.engine_inboxes.specs.declared.types.Waiting.TheVariants as waiting
use Rattle.engine_inboxes.specs.Notes.{completion, note_by}
use Rattle.engine_inboxes.specs.Deliverable.{effect_at, waited_by, waits_for_outcome}
use Rattle.engines.specs.declared.engine.Engine.{Engine}
use Rattle.engines.specs.declared.engine.Invocation.{Invocation}
use Rattle.engine_inboxes.specs.declared.order.Callee.{Callee}
use Rattle.engines.specs.Between.{AllKept, IsCalleeOf, IsOneOf, IsRowOf, called_by, called_in, waited_in}
use Rattle.engines.specs.Lookups.{callee_id, callee_in, callee_of, callee_result}
use Rattle.engines.specs.Members.{MemberView}
use Rattle.engines.proofs.Among.{among_either, among_left, among_right}
use Rattle.engines.proofs.Growing.{some_in}
use Rattle.engine_fences.specs.Causes.{CanComeOrHasToWait, WaitsHaveCauses, note_now}

-- ---- the row of a call

-- an invocation stands at the place, if there is one
abbrev IsAPlace : {H : Type 0} → Engine H → Option ℕ → Type 0
IsAPlace e None = Unit {0}
IsAPlace {H} e (Some place) = (it : Invocation H) × (slice_get e.invocations.items place ≡ Some it)

callee_there : {H : Type 0} (e : Engine H) (by : ℕ) (b : Beginning) (place : Option ℕ) → IsCalleeOf e by b place → IsAPlace e place
callee_there e by b None h = tt
callee_there e by b (Some place) h = (h.it, h.there)

is_itself : (id : ℕ) → (id == id) ≡ true
is_itself id = grind (arith, nat_tests)

-- the first row of a call
abbrev HasRowIn : {H : Type 0} → Engine H → ℕ → List Callee → Type 0
HasRowIn e call rows = (row : Callee) × (callee_in call rows ≡ Some row) × IsAPlace e row.place

first_row : {H : Type 0} (e : Engine H) (by : ℕ) (bs : List Beginning) (rows : List Callee) (b : Beginning) → AllZip (IsRowOf e by) bs rows → IsOneOf b bs → HasRowIn e b.id_completes rows
first_row e by [] rows b z h = absurd h
first_row e by (x ∷ xs) [] b z h = absurd z
first_row {H} e by (x ∷ xs) (row ∷ rows) b z h = test (row.call == b.id_completes) refl (further h) (λ k. first_row e by xs rows b z.1 k)
  where
    further : IsOneOf b (x ∷ xs) → ((row.call == b.id_completes) ≡ true) ⊎ IsOneOf b xs
    further (inl e) = inl (ap (λ n. n == b.id_completes) (z.0.0 ∙ sym (ap (λ (y : Beginning). y.id_completes) e)) ∙ is_itself b.id_completes)
    further (inr among) = inr among

    found : (row.call == b.id_completes) ≡ true → HasRowIn e b.id_completes (row ∷ rows)
    found is = (row, ap (λ t. cond t (Some row) (callee_in b.id_completes rows)) is, callee_there e by x row.place z.0.1)

    later : (row.call == b.id_completes) ≡ false → HasRowIn e b.id_completes rows → HasRowIn e b.id_completes (row ∷ rows)
    later other (r, is, at) = (r, ap (λ t. cond t (Some row) (callee_in b.id_completes rows)) other ∙ is, at)

    test : (t : Bool) → (row.call == b.id_completes) ≡ t → ((row.call == b.id_completes) ≡ true) ⊎ IsOneOf b xs → (IsOneOf b xs → HasRowIn e b.id_completes rows) → HasRowIn e b.id_completes (row ∷ rows)
    test true is k more = found is
    test false is (inl hit) more = found hit
    test false is (inr among) more = later is (more among)

-- ---- what can come

-- the row of a call of the invocation at a place
abbrev HasRow : {H : Type 0} → Engine H → ℕ → ℕ → Type 0
HasRow e by call = (row : Callee) × (callee_of e.invocations.items by call ≡ Some row) × IsAPlace e row.place

id_comes : {H : Type 0} (e : Engine H) (by call : ℕ) → HasRow e by call → is_some (note_now e by (waiting.Id call)) ≡ true
id_comes {H} e by call (row, called, at) = ap (λ o. is_some (option_and_then (note_by (waiting.Id call)) (option_and_then (λ (r : Callee). option_map brought.Id (callee_id e.invocations.items r.place)) o))) called ∙ of row.place at
  where
    of : (place : Option ℕ) → IsAPlace e place → is_some (option_and_then (note_by (waiting.Id call)) (option_map brought.Id (callee_id e.invocations.items place))) ≡ true
    of None h = refl
    of (Some place) (it, there) = ap (λ o. is_some (option_and_then (note_by (waiting.Id call)) (option_map brought.Id (option_map (λ (z : Invocation H). z.id) o)))) there

outcome_comes : {H : Type 0} (e : Engine H) (by id call : ℕ) → HasRow e by call → CanComeOrHasToWait e by (waiting.Outcome id call)
outcome_comes {H} e by id call (row, called, at) = of row.place refl at
  where
    by_row : (place : Option ℕ) → row.place ≡ place → is_some (option_and_then (note_by (waiting.Outcome id call)) (option_map brought.Outcome (callee_result e.invocations.items place))) ≡ true → is_some (note_now e by (waiting.Outcome id call)) ≡ true
    by_row place is c = ap (λ o. is_some (option_and_then (note_by (waiting.Outcome id call)) (option_and_then (λ (r : Callee). option_map brought.Outcome (callee_result e.invocations.items r.place)) o))) called
        ∙ ap (λ p. is_some (option_and_then (note_by (waiting.Outcome id call)) (option_map brought.Outcome (callee_result e.invocations.items p)))) is ∙ c

    ended : (place : ℕ) (it : Invocation H) → row.place ≡ Some place → slice_get e.invocations.items place ≡ Some it → (o : Option ValueOrFailure) → it.ended ≡ o → CanComeOrHasToWait e by (waiting.Outcome id call)
    ended place it is there None goes = inr (record { row = row; called = called; place = place; at = is; it = it; there = there; goes_on = goes })
    ended place it is there (Some r) has = inl (by_row (Some place) is
        (ap (λ o. is_some (option_and_then (note_by (waiting.Outcome id call)) (option_map brought.Outcome (option_and_then (λ (z : Invocation H). z.ended) o)))) there
        ∙ ap (λ o. is_some (option_and_then (note_by (waiting.Outcome id call)) (option_map brought.Outcome o))) has))

    of : (place : Option ℕ) → row.place ≡ place → IsAPlace e place → CanComeOrHasToWait e by (waiting.Outcome id call)
    of None is h = inl (by_row None is refl)
    of (Some place) is (it, there) = ended place it is there it.ended refl

not_yet : (a b : ℕ) → nat_le a b ≡ false → b < a
not_yet a b e = grind (arith, nat_tests)

clock_comes : {H : Type 0} (e : Engine H) (by : ℕ) (timer : Timer) → CanComeOrHasToWait e by (waiting.Clock timer)
clock_comes e by timer = of (nat_le timer.due e.clock) refl
  where
    of : (b : Bool) → nat_le timer.due e.clock ≡ b → CanComeOrHasToWait e by (waiting.Clock timer)
    of true is = inl (ap (λ b. is_some (if b then Some (completion timer.completes result.Void) else None)) is)
    of false is = inr (not_yet timer.due e.clock is)

-- ---- all that stored commands wait for

effect_comes : {H : Type 0} (e : Engine H) (by : ℕ) (o : Option Effect) (w : Waiting) → ((b : Beginning) → IsOneOf b (called_by o) → HasRow e by b.id_completes) → IsOneOf w (waited_by o) → CanComeOrHasToWait e by w
effect_comes e by None w rows h = absurd h
effect_comes e by (Some (effect.Send s)) w rows h = absurd h
effect_comes e by (Some (effect.Result r)) w rows h = absurd h
effect_comes e by (Some (effect.Wait timer)) w rows (inl is) = subst (CanComeOrHasToWait e by) (sym is) (clock_comes e by timer)
effect_comes e by (Some (effect.Wait timer)) w rows (inr h) = absurd h
effect_comes e by (Some (effect.Begin b)) w rows (inl is) = subst (CanComeOrHasToWait e by) (sym is) (inl (id_comes e by b.id_completes (rows b (inl refl))))
effect_comes e by (Some (effect.Begin b)) w rows (inr h) = of b.result_completes h
  where
    of : (o : Option ℕ) → IsOneOf w (waits_for_outcome b.id_completes o) → CanComeOrHasToWait e by w
    of None k = absurd k
    of (Some id) (inl is) = subst (CanComeOrHasToWait e by) (sym is) (outcome_comes e by id b.id_completes (rows b (inl refl)))
    of (Some id) (inr k) = absurd k

all_come : {H : Type 0} (e : Engine H) (by : ℕ) (journal : List (List ℕ)) (w : Waiting) → ((b : Beginning) → IsOneOf b (called_in journal) → HasRow e by b.id_completes) → IsOneOf w (waited_in journal) → CanComeOrHasToWait e by w
all_come e by [] w rows h = absurd h
all_come e by (x ∷ xs) w rows h = of (among_either (waited_by (effect_at x)) (waited_in xs) w h) (λ k. all_come e by xs w (λ b a. rows b (among_right (called_by (effect_at x)) (called_in xs) b a)) k)
  where
    of : IsOneOf w (waited_by (effect_at x)) ⊎ IsOneOf w (waited_in xs) → (IsOneOf w (waited_in xs) → CanComeOrHasToWait e by w) → CanComeOrHasToWait e by w
    of (inl a) more = effect_comes e by (effect_at x) w (λ b k. rows b (among_left (called_by (effect_at x)) (called_in xs) b k)) a
    of (inr a) more = more a

pub waits_have_causes : {H : Type 0} (e : Engine H) → AllKept e → WaitsHaveCauses e
waits_have_causes {H} e kept by it m was is w h =
    let k = kept by it was in
    let same : k.rounds ≡ m = some_in it.member k.rounds m k.there is in
    all_come e by m.course.journal w
    (λ b a.
    let (row, found, at) = first_row e by (called_in k.rounds.course.journal) it.callees.items b k.keeps.calls (subst (λ (z : MemberView H). IsOneOf b (called_in z.course.journal)) (sym same) a) in
    (row, ap (option_and_then (λ (z : Invocation H). callee_in b.id_completes z.callees.items)) was ∙ found, at))
    h
