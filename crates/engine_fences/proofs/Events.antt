-- What is so of an invocation before and after each of its changes is so over all events.
use Rattle.std.proofs.Common.{◌≡◌, ◌⊎◌, inl, inr, ℕ, Bool, true, false, List, [], ◌∷◌, length, Option, Some, None, refl, sym, ap, ◌∙◌, subst}
use Rattle.std.specs.Prelude.{is_some, slice_get}
use Rattle.std.specs.Option.{option_and_then, option_map}
use Rattle.std.proofs.lemmas.Bool.{cases_eq}
use Rattle.std.proofs.lemmas.Option.{slice_get-map}
use Rattle.vm_model.specs.Calls.{Meaning}
use Rattle.journal_protocol.specs.ValueOrFailure.{ValueOrFailure}
use Rattle.journal_store.specs.declared.effect.Effect.{Effect}
use Rattle.journal_store.specs.declared.effect.Effect.TheVariants as effect
use Rattle.journal_store.specs.declared.effect.Sent.{Sent}
use Rattle.engine_inboxes.specs.declared.types.Brought.{Brought}
use Rattle.engine_inboxes.specs.declared.types.Waiting.{Waiting}
use Rattle.engine_inboxes.proofs.Coming.{none_some}
use Rattle.world_rounds.specs.declared.types.Event.{Event}
use Rattle.world_rounds.specs.declared.types.Event.TheVariants as event
use Rattle.world_rounds.specs.declared.types.Setting.{Setting}
use Rattle.engines.specs.declared.engine.Engine.{Engine}
use Rattle.engines.specs.declared.engine.Invocation.{Invocation}
use Rattle.engine_inboxes.specs.declared.order.Begun.{Begun}
use Rattle.engines.specs.declared.types.Happening.{Happening}
use Rattle.engines.specs.declared.types.Happening.TheVariants as happening
use Rattle.engine_inboxes.specs.declared.order.Order.{Order}
use Rattle.engines.specs.Beginnings.{IsWholeInput, entry_of_input}
use Rattle.engines.specs.Engines.{AddsCallee, BeginsIf, ChangesAt, ChangesOne, DeliversIf, DeliversTo, DeliversUnless, DoesEffect, EndsWith, FindsOrMakes, GoesIn, HappeningDoes, MemberGoes, NoneAt, OrdersOf, PerformsIf, SendsToPlace, StoresIn, StoresInMember, StoresUnless, brought_at, brought_in, brought_of, new_member, order_of, stopped_in, whole_round}
use Rattle.engine_inboxes.specs.Targets.{handler_named}
use Rattle.engines.specs.Lookups.{brought_for, id_of_place, may_begin, place_of, same_as}
use Rattle.engines.specs.Between.{HasBegun}
use Rattle.engines.specs.HandedOn.{BeginsHanded, base_at}
use Rattle.engines.specs.Members.{Acts, Delivers, GoesBy, MemberView, StoresNextEntry, stopped, with_signal}
use Rattle.engines.proofs.Among.{get_left, get_pushed}
use Rattle.engines.proofs.Beginnings.{begins_leaves}
use Rattle.engines.proofs.Growing.{Seen, seen_one, some_in}
use Rattle.engines.proofs.Keeping.{acts_begun, stopped_begun}
use Rattle.engines.proofs.Replaying.{acts_same}
use Rattle.engines.proofs.Storing.{own_leaves}

-- an invocation with other rounds
abbrev pub with_rounds : {H : Type 0} → Invocation H → MemberView H → Invocation H
with_rounds it m = record it { member = Some m }

-- Its attempts are made with the same; one lives or it has stored something only if so it was.
abbrev pub GoesOn : {H : Type 0} → MemberView H → MemberView H → Type 0
GoesOn m m' = (m'.course.setting ≡ m.course.setting) × (HasBegun m' → HasBegun m)

-- What is so of an invocation before and after each of its changes. A delivery may have a premise, by what waits and the place of what comes; and
-- so may a begin.
pub record Holds {H : Type 0} (P : Invocation H → Invocation H → Type 0) (May : MemberView H → ℕ → Type 0) (MayBegin : Type 0) : Type 0 where
  pub same : (it : Invocation H) → P it it
  pub next : (a b c : Invocation H) → P a b → P b c → P a c
  pub goes : (it : Invocation H) (m m' : MemberView H) → it.member ≡ Some m → m'.course.journal ≡ m.course.journal → m'.waiting ≡ m.waiting → m'.next ≡ m.next → m'.course.setting.options ≡ m.course.setting.options → GoesOn m m' ⊎ MayBegin → P it (with_rounds it m')
  pub gets : (it : Invocation H) (m : MemberView H) (s : Sent) → it.member ≡ Some m → P it (with_rounds it (with_signal s.signal s.brings m))
  pub comes : (it : Invocation H) (m m' : MemberView H) (at : ℕ) (w : Waiting) (b : Brought) (f : Meaning) → it.member ≡ Some m → is_some it.ended ≡ false → slice_get m.waiting at ≡ Some w → May m at → Delivers at b f m m' → P it (with_rounds it m')
  pub stores : (it : Invocation H) (m m' : MemberView H) (asks : Option Effect) (f : Meaning) → it.member ≡ Some m → is_some it.ended ≡ false → StoresNextEntry f m m' asks → P it (with_rounds it m')
  pub ends : (it : Invocation H) (r : ValueOrFailure) → P it (record it { ended = Some r })
  pub calls : (a b : Invocation H) → b ≡ record a { callees = b.callees } → P a b

-- a delivery meets its premise
abbrev pub MayCome : {H : Type 0} → (MemberView H → ℕ → Type 0) → Engine H → ℕ → ℕ → Type 0
MayCome {H} May e place at = (it : Invocation H) (m : MemberView H) → slice_get e.invocations.items place ≡ Some it → it.member ≡ Some m → May m at

-- Its journal is its input, which can be read back, no attempt lives, and nothing waits.
pub record IsNew {H : Type 0} (m : MemberView H) : Type 0 where
  pub parameter : List ℕ
  pub whole : IsWholeInput parameter
  pub journal : m.course.journal ≡ entry_of_input parameter ∷ []
  pub live : m.course.live ≡ None
  pub waiting : m.waiting ≡ []
  pub next : m.next ≡ 0

-- it was made as the one at this place, and it is so since
pub record WasMade {H : Type 0} (P : Invocation H → Invocation H → Type 0) (i : ℕ) (it : Invocation H) : Type 0 where
  pub made : Invocation H
  pub named : made.id ≡ id_of_place i
  pub began : (m : MemberView H) → made.member ≡ Some m → IsNew m
  pub since : P made it

-- Each invocation that was there still is, and P holds of it before and after. Any other was made since.
pub record AllHold {H : Type 0} (P : Invocation H → Invocation H → Type 0) (old new : Engine H) : Type 0 where
  pub targets : new.targets ≡ old.targets
  pub each : (i : ℕ) (it : Invocation H) → slice_get old.invocations.items i ≡ Some it → (it' : Invocation H) × (slice_get new.invocations.items i ≡ Some it') × P it it'
  pub fresh : (i : ℕ) (it : Invocation H) → slice_get old.invocations.items i ≡ None → slice_get new.invocations.items i ≡ Some it → WasMade P i it

-- none is made
none_made : {H : Type 0} (P : Invocation H → Invocation H → Type 0) (i : ℕ) (it : Invocation H) (o n : Option (Invocation H)) → n ≡ o → o ≡ None → n ≡ Some it → WasMade P i it
none_made P i it o n same none is = absurd (none_some it (sym (same ∙ none) ∙ is))

-- what is there, for what waits at a place
pub brought_is : {H : Type 0} (e : Engine H) (place at : ℕ) (it : Invocation H) (m : MemberView H) (b : Brought) → slice_get e.invocations.items place ≡ Some it → it.member ≡ Some m → brought_at e place at ≡ Some b → (w : Waiting) × (slice_get m.waiting at ≡ Some w)
brought_is {H} e place at it m b was there h = by (slice_get m.waiting at) (sym (ap (brought_in e place at) there) ∙ sym (ap (brought_of e place at) was) ∙ h)
  where
    by : (o : Option Waiting) → option_and_then (brought_for e place) o ≡ Some b → (w : Waiting) × (o ≡ Some w)
    by None g = absurd (none_some b g)
    by (Some w) g = (w, refl)

-- its stored entries, its inbox, what is next and the options of its attempts stay; it goes on, or begins
abbrev Stays : {H : Type 0} → Type 0 → MemberView H → MemberView H → Type 0
Stays MayBegin m m' = (m'.course.journal ≡ m.course.journal) × (m'.waiting ≡ m.waiting) × (m'.next ≡ m.next) × (m'.course.setting.options ≡ m.course.setting.options) × (GoesOn m m' ⊎ MayBegin)

-- neither its stored entries nor its inbox change
acts_leave : {H : Type 0} (f : Meaning) (e : Event) (m m' : MemberView H) → Acts f e m m' → (m'.course.journal ≡ m.course.journal) × (m'.waiting ≡ m.waiting) × (m'.next ≡ m.next)
acts_leave f (event.Arrive x) m m' h = (ap (λ (z : MemberView _). z.course.journal) h, ap (λ (z : MemberView _). z.waiting) h, ap (λ (z : MemberView _). z.next) h)
acts_leave f (event.Store n) m m' h = (ap (λ (z : MemberView _). z.course.journal) h, ap (λ (z : MemberView _). z.waiting) h, ap (λ (z : MemberView _). z.next) h)
acts_leave f (event.Piece n) m m' h = (own_leaves f (event.Piece n) m.course.live m.course m'.course tt h.1, ap (λ (z : MemberView _). z.waiting) h.0, ap (λ (z : MemberView _). z.next) h.0)
acts_leave f event.Close m m' h = (own_leaves f event.Close m.course.live m.course m'.course tt h.1, ap (λ (z : MemberView _). z.waiting) h.0, ap (λ (z : MemberView _). z.next) h.0)
acts_leave f event.Step m m' h = (own_leaves f event.Step m.course.live m.course m'.course tt h.1, ap (λ (z : MemberView _). z.waiting) h.0, ap (λ (z : MemberView _). z.next) h.0)
acts_leave f (event.Steps n) m m' h = (own_leaves f (event.Steps n) m.course.live m.course m'.course tt h.1, ap (λ (z : MemberView _). z.waiting) h.0, ap (λ (z : MemberView _). z.next) h.0)
acts_leave f (event.RunResult handle exit policy) m m' h = (own_leaves f (event.RunResult handle exit policy) m.course.live m.course m'.course tt h.1, ap (λ (z : MemberView _). z.waiting) h.0, ap (λ (z : MemberView _). z.next) h.0)

acts_keep : {H : Type 0} (MayBegin : Type 0) (f : Meaning) (e : Event) (m m' : MemberView H) → Acts f e m m' → Stays MayBegin m m'
acts_keep MayBegin f e m m' h =
    let l = acts_leave f e m m' h in
    let setting = acts_same f e m m' h in
    (l.0, l.1, l.2, ap (λ (w : Setting). w.options) setting, inl (setting, acts_begun f e m m' h))

stops_keep : {H : Type 0} (MayBegin : Type 0) (m m' : MemberView H) → m' ≡ stopped m → Stays MayBegin m m'
stops_keep MayBegin m m' is =
    let setting : m'.course.setting ≡ m.course.setting = ap (λ (z : MemberView _). z.course.setting) is in (
      ap (λ (z : MemberView _). z.course.journal) is,
      ap (λ (z : MemberView _). z.waiting) is,
      ap (λ (z : MemberView _). z.next) is,
      ap (λ (w : Setting). w.options) setting,
      inl (setting, λ b. stopped_begun m (subst HasBegun is b)),
    )

begins_keep : {H : Type 0} (MayBegin : Type 0) (base : List (List ℕ × List ℕ)) (m m' : MemberView H) → MayBegin → GoesBy (BeginsHanded whole_round base) m m' → Stays MayBegin m m'
begins_keep MayBegin base m m' may h =
    let l = begins_leaves whole_round base m.course m'.course h.1 in
    (l.0, ap (λ (z : MemberView _). z.waiting) h.0, ap (λ (z : MemberView _). z.next) h.0, l.2, inr may)

module _ {H : Type 0} (P : Invocation H → Invocation H → Type 0) (May : MemberView H → ℕ → Type 0) (MayBegin : Type 0) (holds : Holds P May MayBegin) where
  -- ---- one invocation

  is_same : (a b : Invocation H) → b ≡ a → P a b
  is_same a b e = subst (P a) (sym e) (holds.same a)

  member_goes : (R : MemberView H → MemberView H → Type 0) (a b : Invocation H) → ((m m' : MemberView H) → R m m' → Stays MayBegin m m') → MemberGoes R a b → P a b
  member_goes R a b f d = by a.member refl d
    where
      by : (o : Option (MemberView H)) → a.member ≡ o → GoesIn R o a b → P a b
      by None was same = is_same a b same
      by (Some m) was (m', is, does) = let k = f m m' does in subst (P a) (sym is) (holds.goes a m m' was k.0 k.1 k.2 k.3 k.4)

  sent_to : (s : Sent) (a b : Invocation H) → MemberGoes (λ x y. y ≡ with_signal s.signal s.brings x) a b → P a b
  sent_to s a b d = by a.member refl d
    where
      by : (o : Option (MemberView H)) → a.member ≡ o → GoesIn (λ x y. y ≡ with_signal s.signal s.brings x) o a b → P a b
      by None was same = is_same a b same
      by (Some m) was (m', is, becomes) = subst (P a) (sym (is ∙ ap (with_rounds a) becomes)) (holds.gets a m s was)

  delivers : (meaning : H → Meaning) (e : Engine H) (place at : ℕ) (b : Brought) → MayCome May e place at → brought_at e place at ≡ Some b → (x y : Invocation H) → slice_get e.invocations.items place ≡ Some x → DeliversTo meaning at b x y → P x y
  delivers meaning e place at b may there x y was d = by (is_some x.ended) refl d
    where
      in_member : is_some x.ended ≡ false → (o : Option (MemberView H)) → x.member ≡ o → GoesIn (λ (m : MemberView H). Delivers at b (meaning m.course.handler) m) o x y → P x y
      in_member going None has same = is_same x y same
      in_member going (Some m) has (m', is, does) =
          let (w, waits) = brought_is e place at x m b was has there in
          subst (P x) (sym is) (holds.comes x m m' at w b (meaning m.course.handler) has going waits (may x m was has) does)

      by : (ended : Bool) → is_some x.ended ≡ ended → DeliversUnless ended meaning at b x y → P x y
      by true has same = is_same x y same
      by false going d = in_member going x.member refl d

  stores_one : (meaning : H → Meaning) (asks : Option Effect) (x y : Invocation H) → StoresIn meaning asks x y → P x y
  stores_one meaning asks x y d = by (is_some x.ended) refl d
    where
      in_member : is_some x.ended ≡ false → (o : Option (MemberView H)) → x.member ≡ o → StoresInMember meaning asks o x y → P x y
      in_member going None has h = is_same x y h.0
      in_member going (Some m) has (m', is, does) = subst (P x) (sym is) (holds.stores x m m' asks (meaning m.course.handler) has going does)

      by : (ended : Bool) → is_some x.ended ≡ ended → StoresUnless ended meaning asks x y → P x y
      by true has h = is_same x y h.0
      by false going d = in_member going x.member refl d

  stops : (it : Invocation H) → P it (stopped_in it)
  stops it = by it.member refl
    where
      by : (o : Option (MemberView H)) → it.member ≡ o → P it (record it { member = option_map stopped it.member })
      by None was = is_same it (record it { member = option_map stopped it.member }) (ap (λ o. record it { member = option_map stopped o }) was ∙ sym (ap (λ o. record it { member = o }) was))
      by (Some m) was = subst (P it) (sym (ap (λ o. record it { member = option_map stopped o }) was)) (holds.goes it m (stopped m) was refl refl refl refl (inl (refl, stopped_begun m)))

  -- ---- all invocations

  all_same : (old new : Engine H) → new.targets ≡ old.targets → new.invocations.items ≡ old.invocations.items → AllHold P old new
  all_same old new targets same = record {
    targets = targets;
    each = λ i it was. (it, ap (λ l. slice_get l i) same ∙ was, holds.same it);
    fresh = λ i it none is. none_made P i it (slice_get old.invocations.items i) (slice_get new.invocations.items i) (ap (λ l. slice_get l i) same) none is;
  }

  no_change : (old new : Engine H) → new ≡ old → AllHold P old new
  no_change old new same = all_same old new (ap (λ (e : Engine H). e.targets) same) (ap (λ (e : Engine H). e.invocations.items) same)

  made_then : (mid new : Engine H) (i : ℕ) (it : Invocation H) → AllHold P mid new → slice_get new.invocations.items i ≡ Some it → (o : Option (Invocation H)) → slice_get mid.invocations.items i ≡ o → ((x : Invocation H) → o ≡ Some x → WasMade P i x) → WasMade P i it
  made_then mid new i it g is None none f = g.fresh i it none is
  made_then mid new i it g is (Some x) there f =
      let w : WasMade P i x = f x refl in
      let (y, after, b) = g.each i x there in
      record { made = w.made; named = w.named; began = w.began; since = subst (P w.made) (some_in (slice_get new.invocations.items i) y it after is) (holds.next w.made x y w.since b) }

  pub hold_then : (old mid new : Engine H) → AllHold P old mid → AllHold P mid new → AllHold P old new
  hold_then old mid new f g = record {
    targets = g.targets ∙ f.targets;
    each = λ i it was.
        let (x, there, a) = f.each i it was in
        let (y, after, b) = g.each i x there in
        (y, after, holds.next it x y a b);
    fresh = λ i it none is. made_then mid new i it g is (slice_get mid.invocations.items i) refl (λ x there. f.fresh i x none there);
  }

  changes : (place : ℕ) (R : Invocation H → Invocation H → Type 0) (old new : Engine H) → ((a b : Invocation H) → slice_get old.invocations.items place ≡ Some a → R a b → P a b) → ChangesAt place R old new → AllHold P old new
  changes place R old new f (is, which) = by which
    where
      by : NoneAt place old.invocations.items new.invocations.items ⊎ ChangesOne place R old.invocations.items new.invocations.items → AllHold P old new
      by (inl none) = all_same old new (ap (λ (e : Engine H). e.targets) is) none.1
      by (inr c) =
          let s : Seen place R old.invocations.items new.invocations.items = seen_one place R old.invocations.items new.invocations.items c in
          record {
            targets = ap (λ (e : Engine H). e.targets) is;
            each = λ i it was. elim (cases_eq i place) as (λ _. (it' : Invocation H) × (slice_get new.invocations.items i ≡ Some it') × P it it') [
              | inl same ↦
                  let b : s.before ≡ it = some_in (slice_get old.invocations.items i) s.before it (ap (slice_get old.invocations.items) same ∙ s.was) was in
                  (s.after, ap (slice_get new.invocations.items) same ∙ s.is, subst (λ z. P z s.after) b (f s.before s.after s.was s.does))
              | inr ne ↦ (it, s.others i ne ∙ was, holds.same it)
            ];
            fresh = λ i it none is. elim (cases_eq i place) as (λ _. WasMade P i it) [
              | inl same ↦ absurd (none_some s.before (sym none ∙ ap (slice_get old.invocations.items) same ∙ s.was))
              | inr ne ↦ none_made P i it (slice_get old.invocations.items i) (slice_get new.invocations.items i) (s.others i ne) none is
            ];
          }

  goes_at : (place : ℕ) (R : MemberView H → MemberView H → Type 0) (old new : Engine H) → ((m m' : MemberView H) → R m m' → Stays MayBegin m m') → ChangesAt place (MemberGoes R) old new → AllHold P old new
  goes_at place R old new f d = changes place (MemberGoes R) old new (λ a b was h. member_goes R a b f h) d

  found : (o : Option ℕ) (target : ℕ) (order : Order) (begun : Option Begun) (place : Option ℕ) (old new : Engine H) → FindsOrMakes o target order begun place old new → AllHold P old new
  found (Some same) target order begun place old new d = no_change old new d.1
  found None target order begun place old new (at, m) = record {
    targets = ap (λ (e : Engine H). e.targets) m.engine;
    each = λ i it was. (it, ap (λ l. slice_get l i) m.last ∙ get_left old.invocations.items (m.made ∷ []) i it was, holds.same it);
    fresh = λ i it none is. by i it none (get_pushed old.invocations.items m.made i it (sym (ap (λ l. slice_get l i) m.last) ∙ is));
  }
    where
      by : (i : ℕ) (it : Invocation H) → slice_get old.invocations.items i ≡ None → (slice_get old.invocations.items i ≡ Some it) ⊎ ((i ≡ length old.invocations.items) × (m.made ≡ it)) → WasMade P i it
      by i it none (inl was) = absurd (none_some it (sym none ∙ was))
      by i it none (inr new) = record {
        made = m.made;
        named = ap (λ (z : Invocation H). z.id) m.as_asked ∙ ap id_of_place (sym new.0);
        began = λ x is. subst IsNew (sym (some_in m.made.member x (new_member old m.of.code (id_of_place (length old.invocations.items)) order) is (ap (λ (z : Invocation H). z.member) m.as_asked)))
            (record { parameter = order.parameter; whole = m.whole; journal = refl; live = refl; waiting = refl; next = refl });
        since = is_same m.made it (sym new.1);
      }

  ordered : (o : Option ℕ) (order : Order) (begun : Option Begun) (place : Option ℕ) (old new : Engine H) → OrdersOf o order begun place old new → AllHold P old new
  ordered None order begun place old new d = no_change old new d.1
  ordered (Some target) order begun place old new d = found (same_as old.invocations.items target order) target order begun place old new d

  sends : (o : Option ℕ) (s : Sent) (old new : Engine H) → SendsToPlace o s old new → AllHold P old new
  sends None s old new d = no_change old new d
  sends (Some place) s old new d = changes place (MemberGoes (λ x y. y ≡ with_signal s.signal s.brings x)) old new (λ a b was h. sent_to s a b h) d

  effects : (by : ℕ) (asks : Effect) (old new : Engine H) → DoesEffect by asks old new → AllHold P old new
  effects by (effect.Wait timer) old new d = no_change old new d
  effects by (effect.Result r) old new d = changes by (EndsWith r) old new (λ a b was is. subst (P a) (sym is) (holds.ends a r)) d
  effects by (effect.Send s) old new d = sends (place_of old.invocations.items s.to) s old new d
  effects by (effect.Begin begun) old new d =
      hold_then old d.mid new (ordered (handler_named old.targets.now begun.service begun.handler) (order_of begun) (Some (record { by = by; call = begun.id_completes })) d.place old d.mid d.orders)
      (changes by (AddsCallee (record { call = begun.id_completes; place = d.place })) d.mid new (λ a b was k. holds.calls a b k.0) d.row)

  performs : (by : ℕ) (asks : Option Effect) (old new : Engine H) → PerformsIf by asks old new → AllHold P old new
  performs by None old new d = no_change old new d
  performs by (Some asks) old new d = effects by asks old new d

  begins : MayBegin → (may : Bool) (place : ℕ) (old new : Engine H) → BeginsIf may place old new → AllHold P old new
  begins begin false place old new d = no_change old new d
  begins begin true place old new d = goes_at place (GoesBy (BeginsHanded whole_round (base_at old place))) old new (λ m m' h. begins_keep MayBegin (base_at old place) m m' begin h) d

  delivered : (meaning : H → Meaning) (place at : ℕ) (o : Option Brought) (old new : Engine H) → MayCome May old place at → brought_at old place at ≡ o → DeliversIf meaning place at o old new → AllHold P old new
  delivered meaning place at None old new may is d = no_change old new d
  delivered meaning place at (Some b) old new may is d = changes place (DeliversTo meaning at b) old new (delivers meaning old place at b may is) d

  -- ---- events

  -- if it is a delivery or a begin, it meets its premise
  abbrev pub MayHappen : Engine H → Happening → Type 0
  MayHappen e (happening.Submit order) = Unit {0}
  MayHappen e (happening.Begin place) = MayBegin
  MayHappen e (happening.Act place x) = Unit {0}
  MayHappen e (happening.Deliver place at) = MayCome May e place at
  MayHappen e (happening.Store place) = Unit {0}
  MayHappen e (happening.Stop place) = Unit {0}
  MayHappen e happening.StopAll = Unit {0}
  MayHappen e (happening.Clock t) = Unit {0}

  pub event_holds : (meaning : H → Meaning) (h : Happening) (old new : Engine H) → MayHappen old h → HappeningDoes meaning h old new → AllHold P old new
  event_holds meaning (happening.Submit order) old new may d = ordered (handler_named old.targets.now order.service order.handler) order None d.0 old new d.1
  event_holds meaning (happening.Begin place) old new may d = begins may (may_begin old place) place old new d
  event_holds meaning (happening.Act place e) old new may d = goes_at place (λ (m : MemberView H). Acts (meaning m.course.handler) e m) old new (λ m m' k. acts_keep MayBegin (meaning m.course.handler) e m m' k) d
  event_holds meaning (happening.Deliver place at) old new may d = delivered meaning place at (brought_at old place at) old new may refl d
  event_holds meaning (happening.Store place) old new may d = hold_then old d.mid new (changes place (StoresIn meaning d.asks) old d.mid (λ a b was h. stores_one meaning d.asks a b h) d.stores) (performs place d.asks d.mid new d.performs)
  event_holds meaning (happening.Stop place) old new may d = goes_at place (λ a b. b ≡ stopped a) old new (λ m m' is. stops_keep MayBegin m m' is) d
  event_holds meaning happening.StopAll old new may d = record {
    targets = ap (λ (e : Engine H). e.targets) d.0;
    each = λ i it was. (stopped_in it, ap (λ l. slice_get l i) d.1 ∙ slice_get-map stopped_in old.invocations.items i ∙ ap (option_map stopped_in) was, stops it);
    fresh = λ i it none is. absurd (none_some it (sym (ap (λ l. slice_get l i) d.1 ∙ slice_get-map stopped_in old.invocations.items i ∙ ap (option_map stopped_in) none) ∙ is));
  }
  event_holds meaning (happening.Clock t) old new may d = all_same old new (ap (λ (e : Engine H). e.targets) d) (ap (λ (e : Engine H). e.invocations.items) d)

  pub none_holds : (old new : Engine H) → new ≡ old → AllHold P old new
  none_holds old new same = no_change old new same

-- ---- laws that need no more of a delivery or a begin

abbrev pub Any : {H : Type 0} → MemberView H → ℕ → Type 0
Any m at = Unit {0}

abbrev pub Always : Type 0
Always = Unit {0}

pub any_may : {H : Type 0} {P : Invocation H → Invocation H → Type 0} (holds : Holds P Any Always) (e : Engine H) (h : Happening) → MayHappen P Any Always holds e h
any_may holds e (happening.Submit order) = tt
any_may holds e (happening.Begin place) = tt
any_may holds e (happening.Act place x) = tt
any_may holds e (happening.Deliver place at) = λ it m was is. tt
any_may holds e (happening.Store place) = tt
any_may holds e (happening.Stop place) = tt
any_may holds e happening.StopAll = tt
any_may holds e (happening.Clock t) = tt
