-- What is handed to the attempts of an invocation that has begun is what those of its key before it leave.
use Rattle.std.proofs.Common.{◌≡◌, ◌⊎◌, inl, inr, ℕ, ◌<◌, ◌≤◌, Bool, true, false, List, [], ◌∷◌, length, Option, Some, None, refl, sym, ap, ◌∙◌, subst, arith}
use Rattle.std.specs.Prelude.{is_some, nat_le, slice_get}
use Rattle.std.proofs.lemmas.Bool.{cases_eq}
use Rattle.std.proofs.lemmas.Bool.Decides.{nat_tests}
use Rattle.vm_model.specs.Calls.{Meaning}
use Rattle.engine_inboxes.specs.declared.types.Brought.{Brought}
use Rattle.engine_inboxes.proofs.Coming.{none_some, some_same}
use Rattle.world_rounds.specs.declared.types.Event.TheVariants as event
use Rattle.world_rounds.specs.declared.types.Setting.{Setting}
use Rattle.world_rounds.specs.Course.{CourseView}
use Rattle.world_rounds.specs.States.{values_in}
use Rattle.engines.specs.declared.engine.Engine.{Engine}
use Rattle.engines.specs.declared.engine.Invocation.{Invocation}
use Rattle.engines.specs.declared.types.Happening.{Happening}
use Rattle.engines.specs.declared.types.Happening.TheVariants as happening
use Rattle.engines.specs.Beginnings.{entry_of_input}
use Rattle.engines.specs.Between.{AllKept, HasBegun}
use Rattle.engines.specs.Engines.{AllHappen, BeginsIf, ChangesAt, GoesIn, HappeningDoes, MemberGoes, whole_round}
use Rattle.engines.specs.HandedOn.{BeginsHanded, base_at, base_in, handed_if, handed_on, has_input_alone, with_base}
use Rattle.engines.specs.Lookups.{may_begin}
use Rattle.engines.specs.Members.{Delivers, GoesBy, MemberView}
use Rattle.engines.proofs.Beginnings.{happens_setting}
use Rattle.engines.proofs.Growing.{Seen, Unseen, begins_in_turn, seen_at, some_in}
use Rattle.engines.proofs.Keeping.{Keeps, all_kept, begun_before, begun_same, happening_keeps, none_keeps}
use Rattle.engines.proofs.Replaying.{delivers_same}
use Rattle.engine_fences.specs.KeyStates.{AreSettled, StatesAreHandedOn}
use Rattle.engine_fences.proofs.Events.{AllHold, Any, Holds, IsNew, MayHappen, WasMade, event_holds, with_rounds}
use Rattle.engine_fences.proofs.Settling.{StaysEnded, all_stay, begun_settles, turn_settles}

-- ---- over each event but a begin

-- It had begun, and its attempts are made with the same state.
record HadBase {H : Type 0} (a : Invocation H) (m' : MemberView H) : Type 0 where
  m : MemberView H
  there : a.member ≡ Some m
  begun : HasBegun m
  base : m'.course.setting.base ≡ m.course.setting.base

abbrev KeepsBase : {H : Type 0} → Invocation H → Invocation H → Type 0
KeepsBase {H} a b = (m' : MemberView H) → b.member ≡ Some m' → HasBegun m' → HadBase a m'

had_same : {H : Type 0} (a b : Invocation H) → b.member ≡ a.member → KeepsBase a b
had_same a b same m' is begun = record { m = m'; there = sym same ∙ is; begun = begun; base = refl }

rounds_keep : {H : Type 0} (it : Invocation H) (m m' : MemberView H) → it.member ≡ Some m → m'.course.setting ≡ m.course.setting → (HasBegun m' → HasBegun m) → KeepsBase it (with_rounds it m')
rounds_keep it m m' was same begun x is now =
    let e : m' ≡ x = some_same m' x is in
    record { m = m; there = was; begun = begun (subst HasBegun (sym e) now); base = ap (λ (z : MemberView _). z.course.setting.base) (sym e) ∙ ap (λ (w : Setting). w.base) same }

delivers_begun : {H : Type 0} (at : ℕ) (b : Brought) (f : Meaning) (m m' : MemberView H) → Delivers at b f m m' → HasBegun m' → HasBegun m
delivers_begun at b f m m' (inl c) begun = begun_same m m' (ap (λ (z : MemberView _). z.course) c.1) begun
delivers_begun at b f m m' (inr a) begun = begun_before f (event.Arrive a.entry) m m' a.arrived begun

base_stays : {H : Type 0} → Holds (KeepsBase {H = H}) Any ⊥
base_stays {H} = record {
  same = λ it. had_same it it refl;
  next = λ a b c f g m is begun.
      let y = g m is begun in
      let x = f y.m y.there y.begun in
      record { m = x.m; there = x.there; begun = x.begun; base = y.base ∙ x.base };
  goes = λ it m m' was journal waits ids options on. elim on as (λ _. KeepsBase it (with_rounds it m')) [
    | inl k ↦ rounds_keep it m m' was k.0 k.1
    | inr none ↦ absurd none
  ];
  gets = λ it m s was. rounds_keep it m _ was refl (λ b. b);
  comes = λ it m m' at w b f was going waits may d. rounds_keep it m m' was (delivers_same at b f m m' d) (delivers_begun at b f m m' d);
  stores = λ it m m' asks f was going d. rounds_keep it m m' was (happens_setting f (event.Store 1) m.course.live m.course m'.course d.course) (begun_before f (event.Store 1) m m' d.course);
  ends = λ it r. had_same it (record it { ended = Some r }) refl;
  calls = λ a b is. had_same a b (ap (λ (z : Invocation H). z.member) is);
}

-- none has begun that was only made
made_begun : {H : Type 0} (m : MemberView H) → IsNew m → HasBegun m → ⊥
made_begun m new (inl live) = let x : true ≡ false = sym live ∙ ap is_some new.live in cc
made_begun m new (inr long) = let x : length m.course.journal ≡ 1 = ap length new.journal in omega (arith, x, long)

-- what was handed to one that had begun, it has still
still_handed : {H : Type 0} (old new : Engine H) (place : ℕ) (it it' : Invocation H) (m m' : MemberView H) → AreSettled old new → StatesAreHandedOn old → slice_get old.invocations.items place ≡ Some it → slice_get new.invocations.items place ≡ Some it' → it.member ≡ Some m → HasBegun m → m'.course.setting.base ≡ m.course.setting.base → m'.course.setting.base ≡ values_in (handed_on new place it')
still_handed old new place it it' m m' settled handed was is had begun base =
    let s = settled place it m was had begun in
    let e : s.later ≡ it' = some_in (slice_get new.invocations.items place) s.later it' s.there is in
    base ∙ handed place it m was had begun ∙ ap values_in (sym s.handed) ∙ ap (λ z. values_in (handed_on new place z)) e

all_still_handed : {H : Type 0} (old new : Engine H) → AreSettled old new → AllHold KeepsBase old new → StatesAreHandedOn old → StatesAreHandedOn new
all_still_handed {H} old new settled all handed place it' m' is has begun = of (slice_get old.invocations.items place) refl
  where
    of : (o : Option (Invocation H)) → slice_get old.invocations.items place ≡ o → m'.course.setting.base ≡ values_in (handed_on new place it')
    of None none =
        let w : WasMade KeepsBase place it' = all.fresh place it' none is in
        let h : HadBase w.made m' = w.since m' has begun in
        absurd (made_begun h.m (w.began h.m h.there) h.begun)
    of (Some it) was =
        let (x, there, keeps) = all.each place it was in
        let e : x ≡ it' = some_in (slice_get new.invocations.items place) x it' there is in
        let h : HadBase it m' = keeps m' (ap (λ (z : Invocation H). z.member) e ∙ has) begun in
        still_handed old new place it it' h.m m' settled handed was is h.there h.begun h.base

-- ---- a begin

-- what a round begins with is what is handed on, or what was handed to it before
begins_with : {H : Type 0} (base : List (List ℕ × List ℕ)) (m : MemberView H) (c' : CourseView H) → BeginsHanded whole_round base m.course c' → (c'.setting.base ≡ base) ⊎ (HasBegun m × (c'.setting.base ≡ m.course.setting.base))
begins_with {H} base m c' h = by (has_input_alone m.course) refl (ap (λ (c : CourseView H). c.setting.base) h.same)
  where
    by : (b : Bool) → nat_le (length m.course.journal) 1 ≡ b → c'.setting.base ≡ (handed_if b base m.course).setting.base → (c'.setting.base ≡ base) ⊎ (HasBegun m × (c'.setting.base ≡ m.course.setting.base))
    by true e is = inl is
    by false e is = inr (inr (grind (arith, nat_tests)), is)

module _ {H : Type 0} (place : ℕ) (old new : Engine H) (may : may_begin old place ≡ true) (all : AllHold StaysEnded old new) (settled : AreSettled old new) (handed : StatesAreHandedOn old) where
  abbrev Begins : MemberView H → MemberView H → Type 0
  Begins = GoesBy (BeginsHanded whole_round (base_at old place))

  -- the invocation that begins
  begun_here : (s : Seen place (MemberGoes Begins) old.invocations.items new.invocations.items) (it' : Invocation H) (m' : MemberView H) → s.after ≡ it' → slice_get new.invocations.items place ≡ Some it' → it'.member ≡ Some m' → m'.course.setting.base ≡ values_in (handed_on new place it')
  begun_here s it' m' e at has = goes s.before.member refl s.does
    where
      by_base : (m : MemberView H) → s.before.member ≡ Some m → (m'.course.setting.base ≡ base_at old place) ⊎ (HasBegun m × (m'.course.setting.base ≡ m.course.setting.base)) → m'.course.setting.base ≡ values_in (handed_on new place it')
      by_base m had (inl is) =
          let t = turn_settles place s.before old new s.was (begins_in_turn old place s.before s.was may) all in
          let later : t.later ≡ it' = some_in (slice_get new.invocations.items place) t.later it' t.there at in
          is ∙ ap (base_in old place) s.was ∙ ap values_in (sym t.handed) ∙ ap (λ z. values_in (handed_on new place z)) later
      by_base m had (inr k) = still_handed old new place s.before it' m m' settled handed s.was at had k.0 k.1

      goes : (o : Option (MemberView H)) → s.before.member ≡ o → GoesIn Begins o s.before s.after → m'.course.setting.base ≡ values_in (handed_on new place it')
      goes None had same = absurd (none_some m' (sym had ∙ ap (λ (z : Invocation H). z.member) (sym same ∙ e) ∙ has))
      goes (Some m) had (x, becomes, begins) =
          let x_is : x ≡ m' = some_same x m' (ap (λ (z : Invocation H). z.member) (sym becomes ∙ e) ∙ has) in
          by_base m had (begins_with (base_at old place) m m'.course (subst (λ (z : MemberView H). BeginsHanded whole_round (base_at old place) m.course z.course) x_is begins.1))

  begun_hands : ChangesAt place (MemberGoes Begins) old new → StatesAreHandedOn new
  begun_hands (same, which) i it' m' is has begun = of (seen_at place (MemberGoes Begins) old.invocations.items new.invocations.items which)
    where
      -- it was as it is
      stayed : slice_get old.invocations.items i ≡ Some it' → m'.course.setting.base ≡ values_in (handed_on new i it')
      stayed was = still_handed old new i it' it' m' m' settled handed was is has begun refl

      of : Unseen place old.invocations.items new.invocations.items ⊎ Seen place (MemberGoes Begins) old.invocations.items new.invocations.items → m'.course.setting.base ≡ values_in (handed_on new i it')
      of (inl u) = stayed (ap (λ l. slice_get l i) (sym u.same) ∙ is)
      of (inr s) = elim (cases_eq i place) as (λ _. m'.course.setting.base ≡ values_in (handed_on new i it')) [
        | inl at_place ↦
            let at : slice_get new.invocations.items place ≡ Some it' = ap (slice_get new.invocations.items) (sym at_place) ∙ is in
            subst (λ n. m'.course.setting.base ≡ values_in (handed_on new n it')) (sym at_place) (begun_here s it' m' (some_in (slice_get new.invocations.items place) s.after it' s.is at) at has)
        | inr ne ↦ stayed (sym (s.others i ne) ∙ is)
      ]

begins_hand : {H : Type 0} (may : Bool) (place : ℕ) (old new : Engine H) → may_begin old place ≡ may → AllHold StaysEnded old new → AreSettled old new → BeginsIf may place old new → StatesAreHandedOn old → StatesAreHandedOn new
begins_hand false place old new is all settled d handed = subst StatesAreHandedOn (sym d) handed
begins_hand true place old new may all settled d handed = begun_hands place old new may all settled handed d

-- ---- events

one_ended : {H : Type 0} (meaning : H → Meaning) (h : Happening) (old new : Engine H) → HappeningDoes meaning h old new → AllHold StaysEnded old new
one_ended meaning h old new d = all_stay meaning (h ∷ []) old new (new, d, refl)

others_hand : {H : Type 0} (meaning : H → Meaning) (h : Happening) (old new : Engine H) → MayHappen (KeepsBase {H = H}) Any ⊥ base_stays old h → AllKept old → HappeningDoes meaning h old new → StatesAreHandedOn old → StatesAreHandedOn new
others_hand meaning h old new may kept d handed = all_still_handed old new (begun_settles old new kept (one_ended meaning h old new d)) (event_holds KeepsBase Any ⊥ base_stays meaning h old new may d) handed

happening_hands : {H : Type 0} (meaning : H → Meaning) (h : Happening) (old new : Engine H) → AllKept old → HappeningDoes meaning h old new → StatesAreHandedOn old → StatesAreHandedOn new
happening_hands meaning (happening.Begin place) old new kept d handed =
    let all = one_ended meaning (happening.Begin place) old new d in
    begins_hand (may_begin old place) place old new refl all (begun_settles old new kept all) d handed
happening_hands meaning (happening.Submit order) old new kept d handed = others_hand meaning (happening.Submit order) old new tt kept d handed
happening_hands meaning (happening.Act place e) old new kept d handed = others_hand meaning (happening.Act place e) old new tt kept d handed
happening_hands meaning (happening.Deliver place at) old new kept d handed = others_hand meaning (happening.Deliver place at) old new (λ it m was has. tt) kept d handed
happening_hands meaning (happening.Store place) old new kept d handed = others_hand meaning (happening.Store place) old new tt kept d handed
happening_hands meaning (happening.Stop place) old new kept d handed = others_hand meaning (happening.Stop place) old new tt kept d handed
happening_hands meaning happening.StopAll old new kept d handed = others_hand meaning happening.StopAll old new tt kept d handed
happening_hands meaning (happening.Clock t) old new kept d handed = others_hand meaning (happening.Clock t) old new tt kept d handed

all_hand : {H : Type 0} (meaning : H → Meaning) (es : List Happening) (old new : Engine H) → Keeps old → AllHappen meaning es old new → StatesAreHandedOn old → StatesAreHandedOn new
all_hand meaning [] old new k d handed = subst StatesAreHandedOn (sym d) handed
all_hand meaning (e ∷ es) old new k (mid, first, more) handed = all_hand meaning es mid new (happening_keeps meaning e old mid first k) more (happening_hands meaning e old mid (all_kept old k) first handed)

-- over all events from nothing on
pub states_handed_on : {H : Type 0} (meaning : H → Meaning) (es : List Happening) (old new : Engine H) → old.invocations.items ≡ [] → AllHappen meaning es old new → StatesAreHandedOn new
states_handed_on meaning es old new none d = all_hand meaning es old new (none_keeps old none) d (λ place it m is has begun. absurd (none_some it (ap (λ l. slice_get l place) (sym none) ∙ is)))
