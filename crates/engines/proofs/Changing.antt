-- How the invocation at a place changes.
use Rattle.std.proofs.Common.{◌≡◌, ◌⊎◌, inl, inr, ◌≤◌, ◌<◌, ℕ, ◌+◌, ◌-◌, Bool, List, [], ◌∷◌, ◌++◌, take, drop, map, length, slice_index_or, slice_set, true, false, Option, Some, None, refl, sym, ap, ◌∙◌, subst, arith}
use Rattle.std.specs.Prelude.{is_some, slice_get}
use Rattle.std.specs.Option.{option_map}
use Rattle.std.proofs.lemmas.List.{append_assoc, drop_more, get_or_at, length-append, length-drop, length-map, length-take-le, map_more, set_at, take_all}
use Rattle.journal_store.specs.declared.effect.Sent.{Sent}
use Rattle.engine_inboxes.specs.declared.order.Begun.{Begun}
use Rattle.engine_inboxes.specs.declared.order.Callee.{Callee}
use Rattle.engine_inboxes.specs.declared.order.Order.{Order}
use Rattle.engine_inboxes.specs.declared.target.Target.{Target}
use Rattle.world_rounds.specs.declared.types.Setting.{Setting}
use Rattle.engine_inboxes.specs.Targets.{handler_named}
use Rattle.engines.specs.Lookups.{id_of_place, may_begin, place_of, same_as}
use Rattle.world_rounds.proofs.Lists.{split_at}
use Rattle.engines.specs.declared.types.Happening.{Happening}
use Rattle.journal_protocol.specs.ValueOrFailure.{ValueOrFailure}
use Rattle.journal_store.specs.declared.effect.Effect.TheVariants as effect
use Rattle.engines.specs.declared.engine.Engine.{Engine}
use Rattle.engines.specs.declared.engine.Invocation.{Invocation}
use Rattle.vm_model.specs.Calls.{Meaning}
use Rattle.journal_store.specs.declared.effect.Effect.{Effect}
use Rattle.engine_inboxes.specs.declared.types.Brought.{Brought}
use Rattle.engines.specs.HandedOn.{BeginsHanded, base_at}
use Rattle.engines.specs.Members.{Delivers, GoesBy, MemberView, StoresNextEntry, stopped, with_signal}
use Rattle.engines.specs.Beginnings.{IsWholeInput, entry_of_input}
use Rattle.engines.specs.Engines.{AddsCallee, AllHappen, BeginsIf, ChangesAt, ChangesOne, DeliversAt, DeliversIf, DeliversTo, DeliversUnless, DoesEffect, EndsWith, FindsOrMakes, GoesIn, HappeningDoes, MakesInvocation, MemberGoes, NoneAt, Orders, OrdersOf, PerformsIf, Sends, SendsToPlace, StoresAndPerforms, StoresIn, StoresInMember, StoresUnless, brought_at, new_setting, stopped_in, whole_round}

module _ {H : Type 0} (R : MemberView H → MemberView H → Type 0) (old : List (Invocation H)) (place : ℕ) (it : Invocation H) (lt : place < length old) (is : it ≡ slice_index_or old place it) where
  -- its rounds are away, so nothing happens
  pub none_goes : (o left : Option (MemberView H)) → o ≡ it.member → o ≡ None → left ≡ None → ChangesOne place (MemberGoes R) old (slice_set old place (record it { member = left }))
  none_goes o left value none after = record {
    before = it;
    after = record it { member = left };
    there = lt;
    is = is;
    becomes = refl;
    does =
        let e : it.member ≡ None = sym value ∙ none in
        subst (λ x. GoesIn R x it (record it { member = left })) (sym e) (ap (λ x. record it { member = x }) (after ∙ sym e));
  }

  -- its rounds go on
  pub some_goes : (o : Option (MemberView H)) (m m' : MemberView H) → o ≡ it.member → o ≡ Some m → R m m' → ChangesOne place (MemberGoes R) old (slice_set old place (record it { member = Some m' }))
  some_goes o m m' value some does = record {
    before = it;
    after = record it { member = Some m' };
    there = lt;
    is = is;
    becomes = refl;
    does = subst (λ x. GoesIn R x it (record it { member = Some m' })) (sym some ∙ value) (m', refl, does);
  }

-- a change that says more
pub changes_then : {H : Type 0} (R S : Invocation H → Invocation H → Type 0) (place : ℕ) (old new : List (Invocation H)) (c : ChangesOne place R old new) → (R c.before c.after → S c.before c.after) → ChangesOne place S old new
changes_then R S place old new c f = record { before = c.before; after = c.after; there = c.there; is = c.is; becomes = c.becomes; does = f c.does }

module _ {H : Type 0} (meaning : H → Meaning) (old : List (Invocation H)) (place : ℕ) (it : Invocation H) (lt : place < length old) (is : it ≡ slice_index_or old place it) where
  -- it has ended, so nothing is stored
  pub ended_stores : is_some it.ended ≡ true → ChangesOne place (StoresIn meaning None) old (slice_set old place it)
  ended_stores e = record {
    before = it;
    after = it;
    there = lt;
    is = is;
    becomes = refl;
    does = subst (λ b. StoresUnless b meaning None it it) (sym e) (refl, refl);
  }

  pub none_stores : (o left : Option (MemberView H)) → is_some it.ended ≡ false → o ≡ it.member → o ≡ None → left ≡ None → ChangesOne place (StoresIn meaning None) old (slice_set old place (record it { member = left }))
  none_stores o left e value none after = record {
    before = it;
    after = record it { member = left };
    there = lt;
    is = is;
    becomes = refl;
    does =
        let h : it.member ≡ None = sym value ∙ none in
        subst (λ b. StoresUnless b meaning None it (record it { member = left })) (sym e)
        (subst (λ x. StoresInMember meaning None x it (record it { member = left })) (sym h) (ap (λ x. record it { member = x }) (after ∙ sym h), refl));
  }

  pub some_stores : (o : Option (MemberView H)) (m m' : MemberView H) (asks : Option Effect) → is_some it.ended ≡ false → o ≡ it.member → o ≡ Some m → StoresNextEntry (meaning m.course.handler) m m' asks → ChangesOne place (StoresIn meaning asks) old (slice_set old place (record it { member = Some m' }))
  some_stores o m m' asks e value some does = record {
    before = it;
    after = record it { member = Some m' };
    there = lt;
    is = is;
    becomes = refl;
    does =
        subst (λ b. StoresUnless b meaning asks it (record it { member = Some m' })) (sym e)
        (subst (λ x. StoresInMember meaning asks x it (record it { member = Some m' })) (sym some ∙ value) (m', refl, does));
  }

-- it becomes this
pub becomes_so : {H : Type 0} (f : Invocation H → Invocation H) (old : List (Invocation H)) (place : ℕ) (it : Invocation H) → place < length old → it ≡ slice_index_or old place it → ChangesOne place (λ a b. b ≡ f a) old (slice_set old place (f it))
becomes_so f old place it lt is = record { before = it; after = f it; there = lt; is = is; becomes = refl; does = refl }

module _ {H : Type 0} (meaning : H → Meaning) (at : ℕ) (b : Brought) (old : List (Invocation H)) (place : ℕ) (it : Invocation H) (lt : place < length old) (is : it ≡ slice_index_or old place it) where
  abbrev By : MemberView H → MemberView H → Type 0
  By m = Delivers at b (meaning m.course.handler) m

  -- it has ended, so nothing comes
  pub ended_delivers : is_some it.ended ≡ true → ChangesOne place (DeliversTo meaning at b) old (slice_set old place it)
  ended_delivers e = record {
    before = it;
    after = it;
    there = lt;
    is = is;
    becomes = refl;
    does = subst (λ x. DeliversUnless x meaning at b it it) (sym e) refl;
  }

  pub none_delivers : (o left : Option (MemberView H)) → is_some it.ended ≡ false → o ≡ it.member → o ≡ None → left ≡ None → ChangesOne place (DeliversTo meaning at b) old (slice_set old place (record it { member = left }))
  unfolding none_goes
  none_delivers o left e value none after = changes_then (MemberGoes By) (DeliversTo meaning at b) place old (slice_set old place (record it { member = left })) (none_goes By old place it lt is o left value none after)
      (λ d. subst (λ x. DeliversUnless x meaning at b it (record it { member = left })) (sym e) d)

  pub some_delivers : (o : Option (MemberView H)) (m m' : MemberView H) → is_some it.ended ≡ false → o ≡ it.member → o ≡ Some m → Delivers at b (meaning m.course.handler) m m' → ChangesOne place (DeliversTo meaning at b) old (slice_set old place (record it { member = Some m' }))
  unfolding some_goes
  some_delivers o m m' e value some does = changes_then (MemberGoes By) (DeliversTo meaning at b) place old (slice_set old place (record it { member = Some m' })) (some_goes By old place it lt is o m m' value some does)
      (λ d. subst (λ x. DeliversUnless x meaning at b it (record it { member = Some m' })) (sym e) d)

-- the result that was stored ends it
pub ends_so : {H : Type 0} (by : ℕ) (asks : Effect) (ends : ValueOrFailure) (old new : Engine H) → asks ≡ effect.Result ends → ChangesAt by (EndsWith ends) old new → DoesEffect by asks old new
ends_so by asks ends old new is h = subst (λ x. DoesEffect by x old new) (sym is) h

-- the next entry was stored, and what it asks for was done
pub stored_then : {H : Type 0} (meaning : H → Meaning) (place : ℕ) (o : Option Effect) (asks : Effect) (old mid new : Engine H) → o ≡ Some asks → (length old.invocations.items ≤ place → o ≡ None) → ChangesAt place (StoresIn meaning o) old mid → DoesEffect place asks mid new → StoresAndPerforms meaning place old new
stored_then meaning place o asks old mid new is nobody stores h = record { mid = mid; asks = o; nobody = nobody; stores = stores; performs = subst (λ x. PerformsIf place x mid new) (sym is) h }

pub stored_alone : {H : Type 0} (meaning : H → Meaning) (place : ℕ) (o : Option Effect) (old new : Engine H) → o ≡ None → ChangesAt place (StoresIn meaning o) old new → StoresAndPerforms meaning place old new
stored_alone meaning place o old new is stores = record { mid = new; asks = o; nobody = λ le. is; stores = stores; performs = subst (λ x. PerformsIf place x new new) (sym is) refl }

-- ---- a round begins

pub may_not : {H : Type 0} (b : Bool) (place : ℕ) (old : Engine H) → b ≡ may_begin old place → b ≡ false → BeginsIf (may_begin old place) place old old
may_not b place old is e = subst (λ z. BeginsIf z place old old) (sym e ∙ is) refl

pub may_so : {H : Type 0} (b : Bool) (place : ℕ) (old new : Engine H) → b ≡ may_begin old place → b ≡ true → ChangesAt place (MemberGoes (GoesBy (BeginsHanded whole_round (base_at old place)))) old new → BeginsIf (may_begin old place) place old new
may_so b place old new is e h = subst (λ z. BeginsIf z place old new) (sym e ∙ is) h

-- ---- a delivery

pub brings_none : {H : Type 0} (meaning : H → Meaning) (place at : ℕ) (o : Option Brought) (old : Engine H) → o ≡ brought_at old place at → o ≡ None → DeliversAt meaning place at old old
brings_none meaning place at o old is e = subst (λ z. DeliversIf meaning place at z old old) (sym e ∙ is) refl

pub brings_some : {H : Type 0} (meaning : H → Meaning) (place at : ℕ) (o : Option Brought) (b : Brought) (old new : Engine H) → o ≡ brought_at old place at → o ≡ Some b → ChangesAt place (DeliversTo meaning at b) old new → DeliversAt meaning place at old new
brings_some meaning place at o b old new is e h = subst (λ z. DeliversIf meaning place at z old new) (sym e ∙ is) h

-- ---- a signal is sent

pub sends_none : {H : Type 0} (sent : Sent) (o : Option ℕ) (old : Engine H) → o ≡ place_of old.invocations.items sent.to → o ≡ None → Sends sent old old
sends_none sent o old is e = subst (λ z. SendsToPlace z sent old old) (sym e ∙ is) refl

pub sends_some : {H : Type 0} (sent : Sent) (o : Option ℕ) (p : ℕ) (old new : Engine H) → o ≡ place_of old.invocations.items sent.to → o ≡ Some p → ChangesAt p (MemberGoes (λ a b. b ≡ with_signal sent.signal sent.brings a)) old new → Sends sent old new
sends_some sent o p old new is e h = subst (λ z. SendsToPlace z sent old new) (sym e ∙ is) h

-- ---- an invocation is asked for

pub orders_none : {H : Type 0} (order : Order) (begun : Option Begun) (o : Option ℕ) (old : Engine H) → o ≡ handler_named old.targets.now order.service order.handler → o ≡ None → Orders order begun None old old
orders_none order begun o old is e = subst (λ z. OrdersOf z order begun None old old) (sym e ∙ is) (refl, refl)

pub orders_some : {H : Type 0} (order : Order) (begun : Option Begun) (o : Option ℕ) (target : ℕ) (place : Option ℕ) (old new : Engine H) → o ≡ handler_named old.targets.now order.service order.handler → o ≡ Some target → FindsOrMakes (same_as old.invocations.items target order) target order begun place old new → Orders order begun place old new
orders_some order begun o target place old new is e h = subst (λ z. OrdersOf z order begun place old new) (sym e ∙ is) h

pub finds : {H : Type 0} (target : ℕ) (order : Order) (begun : Option Begun) (o : Option ℕ) (p : ℕ) (old : Engine H) → o ≡ same_as old.invocations.items target order → o ≡ Some p → FindsOrMakes (same_as old.invocations.items target order) target order begun (Some p) old old
finds target order begun o p old is e = subst (λ z. FindsOrMakes z target order begun (Some p) old old) (sym e ∙ is) (refl, refl)

pub makes_it : {H : Type 0} (target : ℕ) (order : Order) (begun : Option Begun) (o : Option ℕ) (place : ℕ) (old new : Engine H) → o ≡ same_as old.invocations.items target order → o ≡ None → place ≡ length old.invocations.items → MakesInvocation target order begun old new → FindsOrMakes (same_as old.invocations.items target order) target order begun (Some place) old new
makes_it target order begun o place old new is e at h = subst (λ z. FindsOrMakes z target order begun (Some place) old new) (sym e ∙ is) (ap (λ n. Some n) at, h)

-- the last one is made
pub made_so : {H : Type 0} (old new : Engine H) (target : ℕ) (of : Target H) (order : Order) (begun : Option Begun) (place : ℕ) (id : List ℕ) (setting : Setting) (journal : List (List ℕ)) (made : Invocation H) → slice_get old.targets.now target ≡ Some of → place ≡ length old.invocations.items → id ≡ id_of_place place → setting ≡ new_setting old id order → journal ≡ entry_of_input order.parameter ∷ [] → made ≡ record { id = id; target = target; key = order.key; idempotency_key = order.idempotency_key; begins = order.begins; begun = begun; callees = made.callees; ended = None; member = Some (record { course = record { handler = of.code; setting = setting; given = length journal; journal = journal; live = None }; waiting = []; next = 0 }) } → made.callees.items ≡ [] → IsWholeInput order.parameter → new ≡ record old { invocations = new.invocations } → new.invocations.items ≡ old.invocations.items ++ made ∷ [] → MakesInvocation target order begun old new
made_so old new target of order begun place id setting journal made called at named set stored is none whole engine last =
    let p : id ≡ id_of_place (length old.invocations.items) = named ∙ ap id_of_place at in
    let q : setting ≡ new_setting old (id_of_place (length old.invocations.items)) order = set ∙ ap (λ x. new_setting old x order) p in
    record {
      of = of;
      called = called;
      made = made;
      as_asked = is ∙ (λ i. record { id = p i; target = target; key = order.key; idempotency_key = order.idempotency_key; begins = order.begins; begun = begun; callees = made.callees; ended = None; member = Some (record { course = record { handler = of.code; setting = q i; given = length (stored i); journal = stored i; live = None }; waiting = []; next = 0 }) });
      calls_none = none;
      whole = whole;
      engine = engine;
      last = last;
    }

-- a row more
pub row_added : {H : Type 0} (row : Callee) (old : List (Invocation H)) (place : ℕ) (it after : Invocation H) → place < length old → it ≡ slice_index_or old place it → after ≡ record it { callees = after.callees } → after.callees.items ≡ it.callees.items ++ row ∷ [] → ChangesOne place (AddsCallee row) old (slice_set old place after)
row_added row old place it after lt is e more = record { before = it; after = after; there = lt; is = is; becomes = refl; does = (e, more) }

-- ---- all attempts are lost

goes_stopped : {H : Type 0} (before after : Invocation H) → MemberGoes (λ a b. b ≡ stopped a) before after → after ≡ stopped_in before
goes_stopped {H} before after h = of before.member refl h
  where
    of : (o : Option (MemberView H)) → before.member ≡ o → GoesIn (λ a b. b ≡ stopped a) o before after → after ≡ stopped_in before
    of None e h = h ∙ ap (λ x. record before { member = x }) (e ∙ sym (ap (option_map stopped) e))
    of (Some m) e (m', is, does) = is ∙ ap (λ x. record before { member = x }) (ap (λ x. Some x) does ∙ sym (ap (option_map stopped) e))

-- the first of them are stopped
pub stops_more : {H : Type 0} (all cur new : List (Invocation H)) (i : ℕ) → i < length all → cur ≡ map stopped_in (take i all) ++ drop i all → NoneAt i cur new ⊎ ChangesOne i (MemberGoes (λ a b. b ≡ stopped a)) cur new → new ≡ map stopped_in (take (i + 1) all) ++ drop (i + 1) all
stops_more all cur new i lt e (inl n) =
    let h : length cur ≡ length all = ap length e ∙ length-append (map stopped_in (take i all)) (drop i all) ∙ (λ j. length-map (take i all) stopped_in j + length-drop i all j) ∙ (ap (λ n. n + (length all - i)) (length-take-le i all (omega (arith, lt)))) ∙ omega (arith, lt) in
    absurd (omega (arith, n.0, h, lt))
stops_more all cur new i lt e (inr c) =
    let d = c.before in
    let head = map stopped_in (take i all) in
    let size : length head ≡ i = length-map (take i all) stopped_in ∙ length-take-le i all (omega (arith, lt)) in
    let rest : drop i all ≡ slice_index_or all i d ∷ drop (i + 1) all = drop_more all i d lt in
    let shape : cur ≡ head ++ slice_index_or all i d ∷ drop (i + 1) all = e ∙ ap (λ l. head ++ l) rest in
    let was : d ≡ slice_index_or all i d = c.is ∙ ap (λ l. slice_index_or l i d) shape ∙ get_or_at head (slice_index_or all i d) (drop (i + 1) all) d i size in
    c.becomes ∙ ap (λ l. slice_set l i c.after) shape ∙ set_at head (slice_index_or all i d) (drop (i + 1) all) c.after i size
    ∙ ap (λ z. head ++ z ∷ drop (i + 1) all) (goes_stopped c.before c.after c.does ∙ ap stopped_in was)
    ∙ sym (append_assoc head (stopped_in (slice_index_or all i d) ∷ []) (drop (i + 1) all))
    ∙ ap (λ l. l ++ drop (i + 1) all) (sym (map_more stopped_in all i d lt))

-- ---- events, one after another

pub happens_then : {H : Type 0} (meaning : H → Meaning) (es : List Happening) (e : Happening) (a b c : Engine H) → AllHappen meaning es a b → HappeningDoes meaning e b c → AllHappen meaning (es ++ e ∷ []) a c
happens_then meaning [] e a b c h d = (c, subst (λ x. HappeningDoes meaning e x c) h d, refl)
happens_then meaning (x ∷ es) e a b c (mid, first, more) d = (mid, first, happens_then meaning es e mid b c more d)

pub happens_more : {H : Type 0} (meaning : H → Meaning) (events : List Happening) (a b c : Engine H) (i : ℕ) (e : Happening) → i < length events → e ≡ slice_index_or events i e → AllHappen meaning (take i events) a b → HappeningDoes meaning e b c → AllHappen meaning (take (i + 1) events) a c
happens_more meaning events a b c i e lt is h d = subst (λ es. AllHappen meaning es a c) (sym (split_at events i e lt is)) (happens_then meaning (take i events) e a b c h d)

pub happens_all : {H : Type 0} (meaning : H → Meaning) (events : List Happening) (a b : Engine H) (i : ℕ) → length events ≤ i → AllHappen meaning (take i events) a b → AllHappen meaning events a b
happens_all meaning events a b i le h = subst (λ es. AllHappen meaning es a b) (take_all i events le) h
