-- What waits for an id in an inbox is what a stored command of its invocation waits for.
use Rattle.std.proofs.Common.{◌≡◌, ◌⊎◌, inl, inr, ℕ, true, false, List, [], ◌∷◌, ◌++◌, Option, Some, None, refl, sym, ap, ◌∙◌, subst, arith}
use Rattle.std.specs.Prelude.{◌==◌, slice_get}
use Rattle.std.proofs.lemmas.Bool.Decides.{nat_tests}
use Rattle.journal_protocol.specs.NotificationResult.{NotificationResult}
use Rattle.journal_protocol.specs.Signal.{Signal}
use Rattle.vm_model.specs.Calls.{Meaning}
use Rattle.journal_store.specs.declared.effect.Effect.{Effect}
use Rattle.engine_inboxes.specs.declared.types.Brought.{Brought}
use Rattle.engine_inboxes.specs.declared.types.Waiting.{Waiting}
use Rattle.engine_inboxes.specs.declared.types.Waiting.TheVariants as waiting
use Rattle.engine_inboxes.specs.Deliverable.{effect_at, waited_by, waits_for_id}
use Rattle.engine_inboxes.proofs.Coming.{note_said}
use Rattle.engines.specs.declared.engine.Engine.{Engine}
use Rattle.engines.specs.declared.engine.Invocation.{Invocation}
use Rattle.engines.specs.declared.types.Happening.{Happening}
use Rattle.engines.specs.Between.{IsOneOf, waited_in}
use Rattle.engines.specs.Engines.{AllHappen}
use Rattle.engines.specs.Members.{Delivers, MemberView, NoEntry, StoresEntry, StoresNextEntry}
use Rattle.engines.proofs.Among.{among_either, among_left, among_rest, among_right}
use Rattle.engines.proofs.Books.{nothing_asked, waited_more, waited_same}
use Rattle.engines.proofs.Growing.{some_in}
use Rattle.engines.proofs.Keeping.{kept_from_nothing}
use Rattle.engine_fences.specs.Causes.{CanComeOrHasToWait, InboxesAreAskedFor, InboxesHaveCauses}
use Rattle.engine_fences.proofs.Causing.{waits_have_causes}
use Rattle.engine_fences.proofs.Events.{AllHold, Always, Any, Holds, any_may, event_holds, hold_then, none_holds}

-- ---- one invocation

abbrev AreFrom : List Waiting → List (List ℕ) → Type 0
AreFrom ws journal = (w : Waiting) (id : ℕ) → IsOneOf w ws → waits_for_id id w ≡ true → IsOneOf w (waited_in journal)

abbrev IsAskedFor : {H : Type 0} → Invocation H → Type 0
IsAskedFor {H} it = (m : MemberView H) → it.member ≡ Some m → AreFrom m.waiting m.course.journal

abbrev StaysAskedFor : {H : Type 0} → Invocation H → Invocation H → Type 0
StaysAskedFor a b = IsAskedFor a → IsAskedFor b

-- its rounds change
rounds_stay : {H : Type 0} (it : Invocation H) (m m' : MemberView H) → it.member ≡ Some m → (AreFrom m.waiting m.course.journal → AreFrom m'.waiting m'.course.journal) → StaysAskedFor it (record it { member = Some m' })
rounds_stay {H} it m m' was f all x is = subst (λ (z : MemberView H). AreFrom z.waiting z.course.journal) (some_in (Some m') m' x refl is) (f (all m was))

same_stay : (ws ws' : List Waiting) (journal journal' : List (List ℕ)) → ws' ≡ ws → journal' ≡ journal → AreFrom ws journal → AreFrom ws' journal'
same_stay ws ws' journal journal' e f all w id among waits = subst (λ j. IsOneOf w (waited_in j)) (sym f) (all w id (subst (IsOneOf w) e among) waits)

signal_stay : (ws : List Waiting) (s : Signal) (r : NotificationResult) (journal : List (List ℕ)) → AreFrom ws journal → AreFrom (ws ++ waiting.Signal s r ∷ []) journal
signal_stay ws s r journal all w id among waits = by (among_either ws (waiting.Signal s r ∷ []) w among)
  where
    by : IsOneOf w ws ⊎ IsOneOf w (waiting.Signal s r ∷ []) → IsOneOf w (waited_in journal)
    by (inl a) = all w id a waits
    by (inr (inl e)) = absurd (let x : false ≡ true = sym (ap (waits_for_id id) e) ∙ waits in cc)
    by (inr (inr a)) = absurd a

came_stay : {H : Type 0} (m m' : MemberView H) (at : ℕ) (b : Brought) (f : Meaning) → Delivers at b f m m' → AreFrom m.waiting m.course.journal → AreFrom m'.waiting m'.course.journal
came_stay {H} m m' at b f (inl c) all = subst (λ (z : MemberView H). AreFrom z.waiting z.course.journal) (sym c.1) all
came_stay {H} m m' at b f (inr a) all = λ w id among waits.
    let quiet : effect_at a.entry ≡ None = nothing_asked a.entry (note_said a.entry a.note a.reads) in
    subst (IsOneOf w) (sym (ap waited_in a.stored ∙ waited_same m.course.journal a.entry quiet)) (all w id (among_rest m.waiting at w (subst (IsOneOf w) a.rest.0 among)) waits)

stored_stay : {H : Type 0} (m m' : MemberView H) (asks : Option Effect) (f : Meaning) → StoresNextEntry f m m' asks → AreFrom m.waiting m.course.journal → AreFrom m'.waiting m'.course.journal
stored_stay {H} m m' asks f d all = of d.entry
  where
    more : (n : StoresEntry m m' asks) → waited_in m'.course.journal ≡ waited_in m.course.journal ++ waited_by (effect_at n.entry)
    more n = ap waited_in n.stored ∙ waited_more m.course.journal n.entry

    by : (n : StoresEntry m m' asks) (w : Waiting) (id : ℕ) → waits_for_id id w ≡ true → IsOneOf w m.waiting ⊎ IsOneOf w (waited_by (effect_at n.entry)) → IsOneOf w (waited_in m'.course.journal)
    by n w id waits (inl a) = subst (IsOneOf w) (sym (more n)) (among_left (waited_in m.course.journal) (waited_by (effect_at n.entry)) w (all w id a waits))
    by n w id waits (inr a) = subst (IsOneOf w) (sym (more n)) (among_right (waited_in m.course.journal) (waited_by (effect_at n.entry)) w a)

    of : NoEntry m m' asks ⊎ StoresEntry m m' asks → AreFrom m'.waiting m'.course.journal
    of (inl n) = same_stay m.waiting m'.waiting m.course.journal m'.course.journal n.stays.0 n.stored all
    of (inr n) = λ w id among waits. by n w id waits (among_either m.waiting (waited_by (effect_at n.entry)) w (subst (IsOneOf w) n.entered.waits among))

kept_stay : {H : Type 0} (a b : Invocation H) → b.member ≡ a.member → StaysAskedFor a b
kept_stay a b same all m is = all m (sym same ∙ is)

asked_stays : {H : Type 0} → Holds (StaysAskedFor {H = H}) Any Always
asked_stays {H} = record {
  same = λ it all. all;
  next = λ a b c f g all. g (f all);
  goes = λ it m m' was journal waits ids options on. rounds_stay it m m' was (same_stay m.waiting m'.waiting m.course.journal m'.course.journal waits journal);
  gets = λ it m s was. rounds_stay it m _ was (signal_stay m.waiting s.signal s.brings m.course.journal);
  comes = λ it m m' at w b f was going there may d. rounds_stay it m m' was (came_stay m m' at b f d);
  stores = λ it m m' asks f was going d. rounds_stay it m m' was (stored_stay m m' asks f d);
  ends = λ it r. kept_stay it (record it { ended = Some r }) refl;
  calls = λ a b is. kept_stay a b (ap (λ (z : Invocation H). z.member) is);
}

-- ---- all events

all_asked : {H : Type 0} (meaning : H → Meaning) (es : List Happening) (old new : Engine H) → AllHappen meaning es old new → AllHold StaysAskedFor old new
all_asked meaning [] old new d = none_holds StaysAskedFor Any Always asked_stays old new d
all_asked meaning (e ∷ es) old new (mid, first, more) = hold_then StaysAskedFor Any Always asked_stays old mid new (event_holds StaysAskedFor Any Always asked_stays meaning e old mid (any_may asked_stays old e) first) (all_asked meaning es mid new more)

nothing_waits : (ws : List Waiting) (journal : List (List ℕ)) → ws ≡ [] → AreFrom ws journal
nothing_waits ws journal none w id among waits = absurd (subst (IsOneOf w) none among)

pub inboxes_asked : {H : Type 0} (meaning : H → Meaning) (es : List Happening) (old new : Engine H) → old.invocations.items ≡ [] → AllHappen meaning es old new → InboxesAreAskedFor new
inboxes_asked {H} meaning es old new none d by it m was is w id among waits =
    let made = (all_asked meaning es old new d).fresh by it (ap (λ l. slice_get l by) none) was in
    made.since (λ x has. nothing_waits x.waiting x.course.journal (made.began x has).waiting) m is w id among waits

is_itself : (id : ℕ) → (id == id) ≡ true
is_itself id = grind (arith, nat_tests)

-- so all that waits can come, or has a cause
pub inboxes_caused : {H : Type 0} (meaning : H → Meaning) (es : List Happening) (old new : Engine H) → old.invocations.items ≡ [] → AllHappen meaning es old new → InboxesHaveCauses new
inboxes_caused {H} meaning es old new none d by it m was is w among = of w among
  where
    stored : (v : Waiting) (id : ℕ) → IsOneOf v m.waiting → waits_for_id id v ≡ true → CanComeOrHasToWait new by v
    stored v id a waits = waits_have_causes new (kept_from_nothing meaning es old new none d) by it m was is v (inboxes_asked meaning es old new none d by it m was is v id a waits)

    of : (v : Waiting) → IsOneOf v m.waiting → CanComeOrHasToWait new by v
    of (waiting.Id call) a = stored (waiting.Id call) call a (is_itself call)
    of (waiting.Outcome id call) a = stored (waiting.Outcome id call) id a (is_itself id)
    of (waiting.Clock timer) a = stored (waiting.Clock timer) timer.completes a (is_itself timer.completes)
    of (waiting.Signal s brings) a = inl refl
