-- All attempts of an engine go on to replay and queue, and what follows of it for its faults.
use Rattle.std.proofs.Common.{◌≡◌, ◌⊎◌, inl, inr, zero, suc, slice_index_or, slice_set, ℕ, ◌<◌, Bool, true, false, List, [], ◌∷◌, length, map, Option, Some, None, Result, Ok, Err, refl, sym, ap, ◌∙◌, subst, arith}
use Rattle.std.specs.Prelude.{IfErr, is_some}
use Rattle.std.specs.List.{AllByRecursion}
use Rattle.std.specs.Option.{option_map}
use Rattle.vm_model.specs.Calls.{Meaning}
use Rattle.vm_types.specs.declared.options.VMOptions.{VMOptions}
use Rattle.world_rounds.specs.declared.types.Event.{Event}
use Rattle.world_rounds.specs.declared.types.Event.TheVariants as event
use Rattle.world_rounds.specs.declared.types.Setting.{Setting}
use Rattle.world_rounds.specs.Rounds.{ReplaysAndQueues}
use Rattle.journal_store.specs.declared.effect.Effect.{Effect}
use Rattle.journal_store.specs.declared.effect.Effect.TheVariants as effect
use Rattle.journal_store.specs.declared.effect.Sent.{Sent}
use Rattle.engine_inboxes.specs.declared.types.Brought.{Brought}
use Rattle.engines.specs.declared.engine.Engine.{Engine}
use Rattle.engines.specs.declared.engine.Invocation.{Invocation}
use Rattle.engine_inboxes.specs.declared.order.Begun.{Begun}
use Rattle.engine_inboxes.specs.declared.fault.EngineFault.{EngineFault}
use Rattle.engines.specs.declared.types.Happening.{Happening}
use Rattle.engines.specs.declared.types.Happening.TheVariants as happening
use Rattle.engine_inboxes.specs.declared.order.Order.{Order}
use Rattle.engines.specs.Engines.{AddsCallee, AllHappen, BeginsIf, ChangesAt, ChangesOne, DeliversIf, DeliversTo, DeliversUnless, DoesEffect, EndsWith, FindsOrMakes, GoesIn, HappeningDoes, MakesInvocation, MemberGoes, NoneAt, OrdersOf, PerformsIf, SendsToPlace, StoresIn, StoresInMember, StoresUnless, brought_at, order_of, stopped_in, whole_round}
use Rattle.engine_inboxes.specs.Faults.{IsMemoryOrFull, IsNoArrival}
use Rattle.engine_inboxes.specs.Targets.{handler_named}
use Rattle.engines.specs.Lookups.{may_begin, place_of, same_as}
use Rattle.engines.specs.HandedOn.{BeginsHanded, base_at}
use Rattle.engines.specs.Members.{Acts, Delivers, GoesBy, MemberView, with_signal, stopped}
use Rattle.engines.specs.Replaying.{AllReplay, Replays, ReplaysIn}
use Rattle.engines.proofs.Among.{all_push}
use Rattle.engines.proofs.Beginnings.{begins_leaves, happens_setting}

-- ---- lists

all_at : {A : Type 0} (P : A → Type 0) (xs : List A) (i : ℕ) (x : A) → i < length xs → x ≡ slice_index_or xs i x → AllByRecursion P xs → P x
all_at P [] i x lt is a = absurd (omega (arith, lt))
all_at P (y ∷ ys) zero x lt is a = subst P (sym is) a.0
all_at P (y ∷ ys) (suc i) x lt is a = all_at P ys i x (omega (arith, lt)) is a.1

all_set : {A : Type 0} (P : A → Type 0) (xs : List A) (i : ℕ) (x : A) → AllByRecursion P xs → P x → AllByRecursion P (slice_set xs i x)
all_set P [] i x a p = tt
all_set P (y ∷ ys) zero x a p = (p, a.1)
all_set P (y ∷ ys) (suc i) x a p = (a.0, all_set P ys i x a.1 p)

all_map : {A : Type 0} (P : A → Type 0) (f : A → A) (xs : List A) → ((x : A) → P x → P (f x)) → AllByRecursion P xs → AllByRecursion P (map f xs)
all_map P f [] g a = tt
all_map P f (x ∷ xs) g a = (g x a.0, all_map P f xs g a.1)

-- ---- changes of one invocation

changed : {H : Type 0} (place : ℕ) (R : Invocation H → Invocation H → Type 0) (old new : List (Invocation H)) → ((a b : Invocation H) → R a b → Replays a → Replays b) → NoneAt place old new ⊎ ChangesOne place R old new → AllByRecursion Replays old → AllByRecursion Replays new
changed place R old new f (inl h) a = subst (AllByRecursion Replays) (sym h.1) a
changed place R old new f (inr c) a = subst (AllByRecursion Replays) (sym c.becomes) (all_set Replays old place c.after a (f c.before c.after c.does (all_at Replays old place c.before c.there c.is a)))

options_same : {H : Type 0} (old new : Engine H) → new ≡ record old { invocations = new.invocations } → new.options ≡ old.options
options_same old new e = ap (λ (z : Engine _). z.options) e

changes : {H : Type 0} (place : ℕ) (R : Invocation H → Invocation H → Type 0) (old new : Engine H) → ((a b : Invocation H) → R a b → Replays a → Replays b) → ChangesAt place R old new → AllReplay old → AllReplay new
changes place R old new f (e, which) h = record {
  later = subst ReplaysAndQueues (sym (options_same old new e)) h.later;
  each = changed place R old.invocations.items new.invocations.items f which h.each;
}

-- the attempts of an invocation are made with the same as before
abbrev pub SameSetting : {H : Type 0} → MemberView H → MemberView H → Type 0
SameSetting m m' = m'.course.setting ≡ m.course.setting

-- or with the same options
abbrev SameOptions : {H : Type 0} → MemberView H → MemberView H → Type 0
SameOptions m m' = m'.course.setting.options ≡ m.course.setting.options

options_of : {H : Type 0} (m m' : MemberView H) → SameSetting m m' → SameOptions m m'
options_of m m' e = ap (λ (w : Setting). w.options) e

replays_so : {H : Type 0} (m m' : MemberView H) → SameOptions m m' → ReplaysIn (Some m) → ReplaysIn (Some m')
replays_so m m' e r = subst ReplaysAndQueues (sym e) r

goes : {H : Type 0} (R : MemberView H → MemberView H → Type 0) → ((m m' : MemberView H) → R m m' → SameOptions m m') → (a b : Invocation H) → MemberGoes R a b → Replays a → Replays b
goes {H} R f a b h = by a.member refl h
  where
    by : (o : Option (MemberView H)) → a.member ≡ o → GoesIn R o a b → ReplaysIn a.member → ReplaysIn b.member
    by None is same r = subst (λ (z : Invocation H). ReplaysIn z.member) (sym same) r
    by (Some m) is (m', becomes, does) r = subst (λ (z : Invocation H). ReplaysIn z.member) (sym becomes) (replays_so m m' (f m m' does) (subst ReplaysIn is r))

-- the invocation at a place goes on so
member_changes : {H : Type 0} (place : ℕ) (R : MemberView H → MemberView H → Type 0) (old new : Engine H) → ((m m' : MemberView H) → R m m' → SameOptions m m') → ChangesAt place (MemberGoes R) old new → AllReplay old → AllReplay new
member_changes place R old new f d h = changes place (MemberGoes R) old new (goes R f) d h

pub acts_same : {H : Type 0} (f : Meaning) (e : Event) (m m' : MemberView H) → Acts f e m m' → SameSetting m m'
acts_same f (event.Arrive x) m m' h = ap (λ (z : MemberView _). z.course.setting) h
acts_same f (event.Store n) m m' h = ap (λ (z : MemberView _). z.course.setting) h
acts_same f (event.Piece n) m m' h = happens_setting f (event.Piece n) m.course.live m.course m'.course h.1
acts_same f event.Close m m' h = happens_setting f event.Close m.course.live m.course m'.course h.1
acts_same f event.Step m m' h = happens_setting f event.Step m.course.live m.course m'.course h.1
acts_same f (event.Steps n) m m' h = happens_setting f (event.Steps n) m.course.live m.course m'.course h.1
acts_same f (event.RunResult handle exit policy) m m' h = happens_setting f (event.RunResult handle exit policy) m.course.live m.course m'.course h.1

pub delivers_same : {H : Type 0} (at : ℕ) (b : Brought) (f : Meaning) (m m' : MemberView H) → Delivers at b f m m' → SameSetting m m'
delivers_same at b f m m' (inl h) = ap (λ (z : MemberView _). z.course.setting) h.1
delivers_same at b f m m' (inr a) = happens_setting f (event.Arrive a.entry) m.course.live m.course m'.course a.arrived

delivers : {H : Type 0} (meaning : H → Meaning) (at : ℕ) (b : Brought) (x y : Invocation H) → DeliversTo meaning at b x y → Replays x → Replays y
delivers {H} meaning at b x y h = by (is_some x.ended) h
  where
    by : (ended : Bool) → DeliversUnless ended meaning at b x y → Replays x → Replays y
    by true same r = subst Replays (sym same) r
    by false d r = goes (λ (m : MemberView H). Delivers at b (meaning m.course.handler) m) (λ m m' k. options_of m m' (delivers_same at b (meaning m.course.handler) m m' k)) x y d r

stores : {H : Type 0} (meaning : H → Meaning) (asks : Option Effect) (x y : Invocation H) → StoresIn meaning asks x y → Replays x → Replays y
stores {H} meaning asks x y h = by (is_some x.ended) h
  where
    in_member : (o : Option (MemberView H)) → x.member ≡ o → StoresInMember meaning asks o x y → Replays x → Replays y
    in_member None is same r = subst Replays (sym same.0) r
    in_member (Some m) is (m', becomes, does) r = subst (λ (z : Invocation H). ReplaysIn z.member) (sym becomes) (replays_so m m' (options_of m m' (happens_setting (meaning m.course.handler) (event.Store 1) m.course.live m.course m'.course does.course)) (subst ReplaysIn is r))

    by : (ended : Bool) → StoresUnless ended meaning asks x y → Replays x → Replays y
    by true same r = subst Replays (sym same.0) r
    by false d r = in_member x.member refl d r

-- ---- an invocation is asked for

made : {H : Type 0} (target : ℕ) (order : Order) (begun : Option Begun) (old new : Engine H) → MakesInvocation target order begun old new → AllReplay old → AllReplay new
made {H} target order begun old new m h = record {
  later = subst ReplaysAndQueues (sym (options_same old new m.engine)) h.later;
  each = subst (AllByRecursion Replays) (sym m.last) (all_push Replays old.invocations.items m.made h.each (subst ReplaysIn (sym (ap (λ (z : Invocation H). z.member) m.as_asked)) h.later));
}

found_or_made : {H : Type 0} (o : Option ℕ) (target : ℕ) (order : Order) (begun : Option Begun) (place : Option ℕ) (old new : Engine H) → FindsOrMakes o target order begun place old new → AllReplay old → AllReplay new
found_or_made (Some same) target order begun place old new d h = subst AllReplay (sym d.1) h
found_or_made None target order begun place old new d h = made target order begun old new d.1 h

orders_of : {H : Type 0} (o : Option ℕ) (order : Order) (begun : Option Begun) (place : Option ℕ) (old new : Engine H) → OrdersOf o order begun place old new → AllReplay old → AllReplay new
orders_of None order begun place old new d h = subst AllReplay (sym d.1) h
orders_of (Some target) order begun place old new d h = found_or_made (same_as old.invocations.items target order) target order begun place old new d h

-- ---- what a stored command does

adds : {H : Type 0} (a b : Invocation H) → b ≡ record a { callees = b.callees } → Replays a → Replays b
adds {H} a b e r = subst ReplaysIn (sym (ap (λ (z : Invocation H). z.member) e)) r

sends : {H : Type 0} (o : Option ℕ) (sent : Sent) (old new : Engine H) → SendsToPlace o sent old new → AllReplay old → AllReplay new
sends {H} None sent old new d h = subst AllReplay (sym d) h
sends {H} (Some place) sent old new d h = member_changes place (λ (a b : MemberView H). b ≡ with_signal sent.signal sent.brings a) old new (λ m m' is. ap (λ (z : MemberView H). z.course.setting.options) is) d h

does_effect : {H : Type 0} (by : ℕ) (asks : Effect) (old new : Engine H) → DoesEffect by asks old new → AllReplay old → AllReplay new
does_effect by (effect.Wait timer) old new d h = subst AllReplay (sym d) h
does_effect by (effect.Result ends) old new d h = changes by (EndsWith ends) old new (λ a b is r. subst ReplaysIn (sym (ap (λ (z : Invocation _). z.member) is)) r) d h
does_effect by (effect.Send sent) old new d h = sends (place_of old.invocations.items sent.to) sent old new d h
does_effect by (effect.Begin begun) old new d h =
    changes by (AddsCallee (record { call = begun.id_completes; place = d.place })) d.mid new (λ a b k r. adds a b k.0 r) d.row
    (orders_of (handler_named old.targets.now begun.service begun.handler) (order_of begun) (Some (record { by = by; call = begun.id_completes })) d.place old d.mid d.orders h)

performs : {H : Type 0} (by : ℕ) (asks : Option Effect) (old new : Engine H) → PerformsIf by asks old new → AllReplay old → AllReplay new
performs by None old new d h = subst AllReplay (sym d) h
performs by (Some asks) old new d h = does_effect by asks old new d h

-- ---- events

begins : {H : Type 0} (may : Bool) (place : ℕ) (old new : Engine H) → BeginsIf may place old new → AllReplay old → AllReplay new
begins false place old new d h = subst AllReplay (sym d) h
begins true place old new d h = member_changes place (GoesBy (BeginsHanded whole_round (base_at old place))) old new (λ m m' k. (begins_leaves whole_round (base_at old place) m.course m'.course k.1).2) d h

delivers_at : {H : Type 0} (meaning : H → Meaning) (place at : ℕ) (o : Option Brought) (old new : Engine H) → DeliversIf meaning place at o old new → AllReplay old → AllReplay new
delivers_at meaning place at None old new d h = subst AllReplay (sym d) h
delivers_at meaning place at (Some b) old new d h = changes place (DeliversTo meaning at b) old new (delivers meaning at b) d h

stopped_replays : {H : Type 0} (it : Invocation H) → Replays it → Replays (stopped_in it)
stopped_replays {H} it r = by it.member refl r
  where
    by : (o : Option (MemberView H)) → it.member ≡ o → ReplaysIn it.member → ReplaysIn (option_map stopped it.member)
    by None e h = subst (λ x. ReplaysIn (option_map stopped x)) (sym e) tt
    by (Some m) e h = subst (λ x. ReplaysIn (option_map stopped x)) (sym e) (subst ReplaysIn e h)

happening_replays : {H : Type 0} (meaning : H → Meaning) (h : Happening) (old new : Engine H) → HappeningDoes meaning h old new → AllReplay old → AllReplay new
happening_replays meaning (happening.Submit order) old new d r = orders_of (handler_named old.targets.now order.service order.handler) order None d.0 old new d.1 r
happening_replays meaning (happening.Begin place) old new d r = begins (may_begin old place) place old new d r
happening_replays meaning (happening.Act place e) old new d r = member_changes place (λ (m : MemberView _). Acts (meaning m.course.handler) e m) old new (λ m m' k. options_of m m' (acts_same (meaning m.course.handler) e m m' k)) d r
happening_replays meaning (happening.Deliver place at) old new d r = delivers_at meaning place at (brought_at old place at) old new d r
happening_replays meaning (happening.Store place) old new d r = performs place d.asks d.mid new d.performs (changes place (StoresIn meaning d.asks) old d.mid (stores meaning d.asks) d.stores r)
happening_replays meaning (happening.Stop place) old new d r = member_changes place (λ a b. b ≡ stopped a) old new (λ m m' is. ap (λ (z : MemberView _). z.course.setting.options) is) d r
happening_replays meaning happening.StopAll old new d r = record {
  later = subst ReplaysAndQueues (sym (options_same old new d.0)) r.later;
  each = subst (AllByRecursion Replays) (sym d.1) (all_map Replays stopped_in old.invocations.items stopped_replays r.each);
}
happening_replays meaning (happening.Clock t) old new d r = record {
  later = subst ReplaysAndQueues (sym (ap (λ (z : Engine _). z.options) d)) r.later;
  each = subst (AllByRecursion Replays) (sym (ap (λ (z : Engine _). z.invocations.items) d)) r.each;
}

-- over all events all attempts replay and queue
pub all_replay : {H : Type 0} (meaning : H → Meaning) (es : List Happening) (old new : Engine H) → AllHappen meaning es old new → AllReplay old → AllReplay new
all_replay meaning [] old new d r = subst AllReplay (sym d) r
all_replay meaning (e ∷ es) old new (mid, first, more) r = all_replay meaning es mid new more (happening_replays meaning e old mid first r)

-- those of an engine without an invocation do
pub none_replays : {H : Type 0} (e : Engine H) (options : VMOptions) → e.invocations.items ≡ [] → e.options ≡ options → ReplaysAndQueues options → AllReplay e
none_replays e options none is r = record { later = subst ReplaysAndQueues (sym is) r; each = subst (AllByRecursion Replays) (sym none) tt }

-- what is stored at a place is of attempts that do
pub one_replays : {H : Type 0} (e : Engine H) (place : ℕ) (it : Invocation H) (o : Option (MemberView H)) (m : MemberView H) → place < length e.invocations.items → it ≡ slice_index_or e.invocations.items place it → o ≡ it.member → o ≡ Some m → AllReplay e → ReplaysAndQueues m.course.setting.options
one_replays e place it o m lt is value some r = subst ReplaysIn (sym value ∙ some) (all_at Replays e.invocations.items place it lt is r.each)

-- ---- faults

pub no_arrival_so : (f : EngineFault) → IsMemoryOrFull f → IsNoArrival f
no_arrival_so f (inl e) = subst IsNoArrival (sym e) tt
no_arrival_so f (inr e) = subst IsNoArrival (sym e) tt

pub no_arrival : {A : Type 0} (r : Result A EngineFault) → IfErr r IsMemoryOrFull → IfErr r IsNoArrival
no_arrival (Ok a) h = tt
no_arrival (Err f) h = no_arrival_so f h

pub under_premise : {A : Type 0} (P : Type 0) (r : Result A EngineFault) → IfErr r IsMemoryOrFull → IfErr r (λ f. P → IsMemoryOrFull f)
under_premise P (Ok a) h = tt
under_premise P (Err f) h = λ p. h

pub premise_then : {A : Type 0} (P Q : Type 0) (r : Result A EngineFault) → (Q → P) → IfErr r (λ f. P → IsMemoryOrFull f) → IfErr r (λ f. Q → IsMemoryOrFull f)
premise_then P Q (Ok a) g h = tt
premise_then P Q (Err f) g h = λ q. h (g q)
