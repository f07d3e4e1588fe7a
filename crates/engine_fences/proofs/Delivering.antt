-- Deliveries of all that waits for an invocation, one after another, leave nothing that can come.
use Rattle.std.proofs.Common.{◌≡◌, ◌⊎◌, inl, inr, ℕ, zero, suc, ◌+◌, ◌<◌, ◌≤◌, slice_index_or, true, false, List, [], ◌∷◌, ◌++◌, length, Option, Some, None, refl, sym, ap, ◌∙◌, subst, arith}
use Rattle.std.specs.Prelude.{if◌then◌else◌, is_some, nat_lt, slice_get}
use Rattle.std.specs.List.{remove}
use Rattle.std.specs.Option.{option_and_then, option_map}
use Rattle.std.proofs.lemmas.Bool.{cases_eq}
use Rattle.std.proofs.lemmas.Bool.Decides.{nat_tests}
use Rattle.std.proofs.lemmas.Option.{get_or_from_slice_get}
use Rattle.journal_protocol.specs.Notification.{Notification}
use Rattle.journal_entries.specs.Entries.{note_in}
use Rattle.vm_model.specs.Calls.{Meaning}
use Rattle.world_rounds.specs.declared.types.Event.{Event}
use Rattle.world_rounds.specs.declared.types.Event.TheVariants as event
use Rattle.world_rounds.specs.Course.{CourseView, HappensTo}
use Rattle.world_rounds.specs.Rounds.{Now}
use Rattle.engine_inboxes.specs.declared.order.Callee.{Callee}
use Rattle.engine_inboxes.specs.declared.types.Brought.{Brought}
use Rattle.engine_inboxes.specs.declared.types.Brought.TheVariants as brought
use Rattle.engine_inboxes.specs.declared.types.Waiting.{Waiting}
use Rattle.engine_inboxes.specs.declared.types.Waiting.TheVariants as waiting
use Rattle.engine_inboxes.specs.Notes.{note_by}
use Rattle.engine_inboxes.proofs.Coming.{none_some}
use Rattle.engines.specs.declared.engine.Engine.{Engine}
use Rattle.engines.specs.declared.engine.Invocation.{Invocation}
use Rattle.engines.specs.declared.types.Happening.{Happening}
use Rattle.engines.specs.declared.types.Happening.TheVariants as happening
use Rattle.engines.specs.Between.{IsOneOf}
use Rattle.engines.specs.Deliveries.{AllDelivered, AreDelivered, inbox_at, next_at, waiting_in, waiting_of}
use Rattle.engines.specs.Engines.{AllHappen, ChangesAt, DeliversAt, DeliversIf, DeliversTo, DeliversUnless, GoesIn, brought_at, brought_in, brought_of}
use Rattle.engines.specs.Lookups.{brought_for, callee_id, callee_in, callee_of, callee_result}
use Rattle.engines.specs.Members.{Delivers, MemberView}
use Rattle.engines.proofs.Among.{get_within}
use Rattle.engines.proofs.Changing.{happens_then}
use Rattle.engines.proofs.Growing.{Seen, seen_one, some_in}
use Rattle.engine_fences.specs.Causes.{CanComeOrHasToWait, HasToWait, note_now}
use Rattle.engine_fences.specs.Deliveries.{AllHaveToWait, HasComeAt, HasLiveAttempt, NothingCanCome, WhatCanComes}
use Rattle.engine_fences.proofs.Events.{brought_is}
use Rattle.engine_fences.proofs.Inboxes.{inboxes_caused}

-- ---- what is there for what waits

-- an invocation without its rounds
abbrev plain : {H : Type 0} → Invocation H → Invocation H
plain it = record it { member = None }

-- The clock is the same, and so is each invocation except for its rounds.
record Alike {H : Type 0} (old new : Engine H) : Type 0 where
  clock : new.clock ≡ old.clock
  each : (i : ℕ) → option_map plain (slice_get new.invocations.items i) ≡ option_map plain (slice_get old.invocations.items i)

module _ {H B : Type 0} where
  then_plain : (f : Invocation H → Option B) → ((it : Invocation H) → f (plain it) ≡ f it) → (o : Option (Invocation H)) → option_and_then f (option_map plain o) ≡ option_and_then f o
  then_plain f same None = refl
  then_plain f same (Some it) = same it

  then_alike : (f : Invocation H → Option B) → ((it : Invocation H) → f (plain it) ≡ f it) → (a b : Option (Invocation H)) → option_map plain a ≡ option_map plain b → option_and_then f a ≡ option_and_then f b
  then_alike f same a b e = sym (then_plain f same a) ∙ ap (option_and_then f) e ∙ then_plain f same b

  map_plain : (f : Invocation H → B) → ((it : Invocation H) → f (plain it) ≡ f it) → (o : Option (Invocation H)) → option_map f (option_map plain o) ≡ option_map f o
  map_plain f same None = refl
  map_plain f same (Some it) = ap (λ x. Some x) (same it)

  map_alike : (f : Invocation H → B) → ((it : Invocation H) → f (plain it) ≡ f it) → (a b : Option (Invocation H)) → option_map plain a ≡ option_map plain b → option_map f a ≡ option_map f b
  map_alike f same a b e = sym (map_plain f same a) ∙ ap (option_map f) e ∙ map_plain f same b

then_same : {A B : Type 0} (f g : A → Option B) → ((x : A) → f x ≡ g x) → (o : Option A) → option_and_then f o ≡ option_and_then g o
then_same f g same None = refl
then_same f g same (Some x) = same x

module _ {H : Type 0} (old new : Engine H) (a : Alike old new) where
  callee_alike : (by call : ℕ) → callee_of new.invocations.items by call ≡ callee_of old.invocations.items by call
  callee_alike by call = then_alike (λ (it : Invocation H). callee_in call it.callees.items) (λ it. refl) (slice_get new.invocations.items by) (slice_get old.invocations.items by) (a.each by)

  id_alike : (place : Option ℕ) → callee_id new.invocations.items place ≡ callee_id old.invocations.items place
  id_alike None = refl
  id_alike (Some place) = map_alike (λ (it : Invocation H). it.id) (λ it. refl) (slice_get new.invocations.items place) (slice_get old.invocations.items place) (a.each place)

  result_alike : (place : Option ℕ) → callee_result new.invocations.items place ≡ callee_result old.invocations.items place
  result_alike None = refl
  result_alike (Some place) = then_alike (λ (it : Invocation H). it.ended) (λ it. refl) (slice_get new.invocations.items place) (slice_get old.invocations.items place) (a.each place)

  brought_alike : (by : ℕ) (w : Waiting) → brought_for new by w ≡ brought_for old by w
  brought_alike by (waiting.Clock timer) = ap (λ t. Some (brought.Time t)) a.clock
  brought_alike by (waiting.Signal s r) = ap (λ t. Some (brought.Time t)) a.clock
  brought_alike by (waiting.Id call) =
      ap (option_and_then (λ (row : Callee). option_map brought.Id (callee_id new.invocations.items row.place))) (callee_alike by call)
      ∙ then_same (λ (row : Callee). option_map brought.Id (callee_id new.invocations.items row.place)) (λ (row : Callee). option_map brought.Id (callee_id old.invocations.items row.place)) (λ row. ap (option_map brought.Id) (id_alike row.place)) (callee_of old.invocations.items by call)
  brought_alike by (waiting.Outcome id call) =
      ap (option_and_then (λ (row : Callee). option_map brought.Outcome (callee_result new.invocations.items row.place))) (callee_alike by call)
      ∙ then_same (λ (row : Callee). option_map brought.Outcome (callee_result new.invocations.items row.place)) (λ (row : Callee). option_map brought.Outcome (callee_result old.invocations.items row.place)) (λ row. ap (option_map brought.Outcome) (result_alike row.place)) (callee_of old.invocations.items by call)

  note_alike : (by : ℕ) (w : Waiting) → note_now new by w ≡ note_now old by w
  note_alike by w = ap (option_and_then (note_by w)) (brought_alike by w)

-- ---- one delivery

still_lives : {H : Type 0} (f : Meaning) (e : Event) (live : Option Now) (old new : CourseView H) → is_some live ≡ true → HappensTo f e live old new → is_some new.live ≡ true
still_lives f e None old new lives h = absurd (let x : false ≡ true = lives in cc)
still_lives f e (Some now) old new lives (is, (next, h, seen)) = ap (λ (c : CourseView _). is_some c.live) seen

-- nothing stands at a place of the inbox that can come, and what waits stays
abbrev StaysThere : {H : Type 0} → Engine H → ℕ → ℕ → MemberView H → MemberView H → Type 0
StaysThere e place at m m' = (m'.waiting ≡ m.waiting) × ((w : Waiting) → slice_get m.waiting at ≡ Some w → note_now e place w ≡ None)

-- what stands there has come
record CameFrom {H : Type 0} (e : Engine H) (place at : ℕ) (m m' : MemberView H) : Type 0 where
  w : Waiting
  n : Notification
  there : slice_get m.waiting at ≡ Some w
  can : note_now e place w ≡ Some n
  entry : List ℕ
  reads : note_in entry ≡ Some n
  stored : m'.course.journal ≡ m.course.journal ++ entry ∷ []
  rest : m'.waiting ≡ remove m.waiting at

record Delivered {H : Type 0} (place at : ℕ) (old : Engine H) (live : HasLiveAttempt old place) (new : Engine H) : Type 0 where
  alike : Alike old new
  after : HasLiveAttempt new place
  left : StaysThere old place at live.rounds after.rounds ⊎ CameFrom old place at live.rounds after.rounds

brought_here : {H : Type 0} (e : Engine H) (place at : ℕ) (it : Invocation H) (m : MemberView H) (w : Waiting) → slice_get e.invocations.items place ≡ Some it → it.member ≡ Some m → slice_get m.waiting at ≡ Some w → brought_for e place w ≡ brought_at e place at
brought_here e place at it m w there is got = sym (ap (brought_of e place at) there ∙ ap (brought_in e place at) is ∙ ap (option_and_then (brought_for e place)) got)

module _ {H : Type 0} (meaning : H → Meaning) (place at : ℕ) (old new : Engine H) (live : HasLiveAttempt old place) where
  -- the notification that it becomes now
  now_by : (w : Waiting) (o : Option Brought) → slice_get live.rounds.waiting at ≡ Some w → brought_at old place at ≡ o → note_now old place w ≡ option_and_then (note_by w) o
  now_by w o got is = ap (option_and_then (note_by w)) (brought_here old place at live.it live.rounds w live.there live.is got ∙ is)

  stands : (w : Waiting) → slice_get live.rounds.waiting at ≡ Some w → w ≡ slice_index_or live.rounds.waiting at w
  stands w got = sym (get_or_from_slice_get live.rounds.waiting at w w got)

  nothing : new ≡ old → brought_at old place at ≡ None → Delivered place at old live new
  nothing same is = subst (Delivered place at old live) (sym same) (record { alike = record { clock = refl; each = λ i. refl }; after = live; left = inl (refl, λ w got. now_by w None got is) })

  module _ (b : Brought) (is : brought_at old place at ≡ Some b) (e : new ≡ record old { invocations = new.invocations }) (s : Seen place (DeliversTo meaning at b) old.invocations.items new.invocations.items) (m' : MemberView H) (becomes : s.after ≡ record live.it { member = Some m' }) where
    now_alike : Alike old new
    now_alike = record {
      clock = ap (λ (z : Engine H). z.clock) e;
      each = λ i. elim (cases_eq i place) as (λ _. option_map plain (slice_get new.invocations.items i) ≡ option_map plain (slice_get old.invocations.items i)) [
        | inl same ↦
            ap (λ k. option_map plain (slice_get new.invocations.items k)) same ∙ ap (option_map plain) s.is ∙ ap (λ (z : Invocation H). Some (plain z)) becomes
            ∙ sym (ap (option_map plain) live.there) ∙ sym (ap (λ k. option_map plain (slice_get old.invocations.items k)) same)
        | inr ne ↦ ap (option_map plain) (s.others i ne)
      ];
    }

    live_after : is_some m'.course.live ≡ true → HasLiveAttempt new place
    live_after lives = record {
      it = s.after;
      there = s.is;
      goes_on = ap (λ (z : Invocation H). z.ended) becomes ∙ live.goes_on;
      rounds = m';
      is = ap (λ (z : Invocation H). z.member) becomes;
      lives = lives;
    }

    rounds_delivered : Delivers at b (meaning live.rounds.course.handler) live.rounds m' → Delivered place at old live new
    unfolding live_after
    rounds_delivered (inl cant) = record {
      alike = now_alike;
      after = live_after (subst (λ (z : MemberView H). is_some z.course.live ≡ true) (sym cant.1) live.lives);
      left = inl (ap (λ (z : MemberView H). z.waiting) cant.1, λ w got. now_by w (Some b) got is ∙ sym (cant.0 live.lives (get_within live.rounds.waiting at w got) w (stands w got)));
    }
    rounds_delivered (inr a) =
        let (w, got) = brought_is old place at live.it live.rounds b live.there live.is is in
        record {
          alike = now_alike;
          after = live_after (still_lives (meaning live.rounds.course.handler) (event.Arrive a.entry) live.rounds.course.live live.rounds.course m'.course live.lives a.arrived);
          left = inr (record { w = w; n = a.note; there = got; can = now_by w (Some b) got is ∙ sym (a.becomes w (stands w got)); entry = a.entry; reads = a.reads; stored = a.stored; rest = a.rest.0 });
        }

  changed : (b : Brought) → brought_at old place at ≡ Some b → ChangesAt place (DeliversTo meaning at b) old new → Delivered place at old live new
  changed b is (e, inl none) =
      let lt : place < length old.invocations.items = get_within old.invocations.items place live.it live.there in
      let le : length old.invocations.items ≤ place = none.0 in
      absurd (omega (arith, lt, le))
  changed b is (e, inr c) =
      let s : Seen place (DeliversTo meaning at b) old.invocations.items new.invocations.items = seen_one place (DeliversTo meaning at b) old.invocations.items new.invocations.items c in
      let does : DeliversTo meaning at b live.it s.after = subst (λ x. DeliversTo meaning at b x s.after) (some_in (slice_get old.invocations.items place) s.before live.it s.was live.there) s.does in
      let goes : DeliversUnless false meaning at b live.it s.after = subst (λ x. DeliversUnless x meaning at b live.it s.after) (ap is_some live.goes_on) does in
      let (m', becomes, d) = subst (λ o. GoesIn (λ (m : MemberView H). Delivers at b (meaning m.course.handler) m) o live.it s.after) live.is goes in
      rounds_delivered b is e s m' becomes d

  delivered : DeliversAt meaning place at old new → Delivered place at old live new
  delivered d = of (brought_at old place at) refl d
    where
      of : (o : Option Brought) → brought_at old place at ≡ o → DeliversIf meaning place at o old new → Delivered place at old live new
      of None is same = nothing same is
      of (Some b) is h = changed b is h

pub what_can_comes : {H : Type 0} (meaning : H → Meaning) (e : Engine H) → WhatCanComes meaning e
what_can_comes meaning e place at new live w n got can d = of (delivered meaning place at e new live d)
  where
    come : (r : Delivered place at e live new) → StaysThere e place at live.rounds r.after.rounds ⊎ CameFrom e place at live.rounds r.after.rounds → HasComeAt place at n live.rounds new
    come r (inl stays) = absurd (none_some n (sym (stays.1 w got) ∙ can))
    come r (inr c) =
        let same : c.w ≡ w = some_in (slice_get live.rounds.waiting at) c.w w c.there got in
        let note : c.n ≡ n = some_in (note_now e place w) c.n n (subst (λ v. note_now e place v ≡ Some c.n) same c.can) can in
        record { live = r.after; entry = c.entry; reads = c.reads ∙ ap (λ x. Some x) note; stored = c.stored; rest = c.rest }

    of : Delivered place at e live new → HasComeAt place at n live.rounds new
    of r = come r r.left

-- ---- all that waits

one_at : {A : Type 0} (x : A) (xs : List A) → IsOneOf x xs → (i : ℕ) × (slice_get xs i ≡ Some x)
one_at x [] h = absurd h
one_at x (y ∷ ys) (inl e) = (0, ap (λ z. Some z) (sym e))
one_at x (y ∷ ys) (inr h) = let (i, got) = one_at x ys h in (suc i, got)

get_kept : {A : Type 0} (xs : List A) (n i : ℕ) (x : A) → i < n → slice_get (remove xs n) i ≡ Some x → slice_get xs i ≡ Some x
get_kept xs zero i x lt e = absurd (omega (arith, lt))
get_kept [] (suc n) i x lt e = e
get_kept (y ∷ ys) (suc n) zero x lt e = e
get_kept (y ∷ ys) (suc n) (suc i) x lt e = get_kept ys n i x (omega (arith, lt)) e

length_removed : {A : Type 0} (xs : List A) (n : ℕ) (x : A) → slice_get xs n ≡ Some x → length xs ≡ length (remove xs n) + 1
length_removed [] n x e = absurd (none_some x e)
length_removed (y ∷ ys) zero x e = omega arith
length_removed (y ∷ ys) (suc n) x e = let h : length ys ≡ length (remove ys n) + 1 = length_removed ys n x e in omega (arith, h)

not_less : (a b : ℕ) → a ≡ b → nat_lt a b ≡ false
not_less a b e = grind (arith, nat_tests)

is_less : (a b : ℕ) → b ≡ a + 1 → nat_lt a b ≡ true
is_less a b e = grind (arith, nat_tests)

inbox_is : {H : Type 0} (e : Engine H) (place : ℕ) (live : HasLiveAttempt e place) → inbox_at e place ≡ live.rounds.waiting
inbox_is e place live = ap waiting_of live.there ∙ ap waiting_in live.is

-- none of what stands before a place of the inbox can come
abbrev NoneBefore : {H : Type 0} → Engine H → ℕ → ℕ → List Waiting → Type 0
NoneBefore e place at ws = (i : ℕ) (w : Waiting) → i < at → slice_get ws i ≡ Some w → note_now e place w ≡ None

module _ {H : Type 0} (meaning : H → Meaning) (place count at : ℕ) (old mid new : Engine H) (live : HasLiveAttempt old place) (none : NoneBefore old place at live.rounds.waiting) (few : length live.rounds.waiting ≤ at + suc count) (more : AreDelivered meaning place count (next_at place at old mid) mid new)
    (go : (k : ℕ) (l : HasLiveAttempt mid place) → NoneBefore mid place k l.rounds.waiting → length l.rounds.waiting ≤ k + count → AreDelivered meaning place count k mid new → NothingCanCome new place) where
  after_one : (r : Delivered place at old live mid) → StaysThere old place at live.rounds r.after.rounds ⊎ CameFrom old place at live.rounds r.after.rounds → NothingCanCome new place
  after_one r (inl stays) =
      let same : length (inbox_at mid place) ≡ length (inbox_at old place) = ap length (inbox_is mid place r.after ∙ stays.0 ∙ sym (inbox_is old place live)) in
      let next : next_at place at old mid ≡ suc at = ap (λ b. if b then at else suc at) (not_less (length (inbox_at mid place)) (length (inbox_at old place)) same) in
      let count_is : length r.after.rounds.waiting ≡ length live.rounds.waiting = ap length stays.0 in
      go (suc at) r.after before (omega (arith, few, count_is)) (subst (λ k. AreDelivered meaning place count k mid new) next more)
    where
      before : NoneBefore mid place (suc at) r.after.rounds.waiting
      before i w lt got =
          let there : slice_get live.rounds.waiting i ≡ Some w = ap (λ l. slice_get l i) (sym stays.0) ∙ got in
          note_alike old mid r.alike place w ∙ (elim (cases_eq i at) as (λ _. note_now old place w ≡ None) [
            | inl e ↦ stays.1 w (ap (slice_get live.rounds.waiting) (sym e) ∙ there)
            | inr ne ↦ none i w (below i at lt ne) there
          ])
        where
          below : (i at : ℕ) → i < suc at → (i ≡ at → ⊥) → i < at
          below i at lt ne = grind (arith, nat_tests)
  after_one r (inr c) =
      let shorter : length live.rounds.waiting ≡ length r.after.rounds.waiting + 1 = length_removed live.rounds.waiting at c.w c.there ∙ ap (λ l. length l + 1) (sym c.rest) in
      let old_is : length (inbox_at old place) ≡ length live.rounds.waiting = ap length (inbox_is old place live) in
      let mid_is : length (inbox_at mid place) ≡ length r.after.rounds.waiting = ap length (inbox_is mid place r.after) in
      let next : next_at place at old mid ≡ at = ap (λ b. if b then at else suc at) (is_less (length (inbox_at mid place)) (length (inbox_at old place)) (omega (arith, shorter, old_is, mid_is))) in
      go at r.after
      (λ i w lt got. note_alike old mid r.alike place w ∙ none i w lt (get_kept live.rounds.waiting at i w lt (ap (λ l. slice_get l i) (sym c.rest) ∙ got)))
      (omega (arith, few, shorter)) (subst (λ k. AreDelivered meaning place count k mid new) next more)

nothing_left : {H : Type 0} (e : Engine H) (place at : ℕ) (live : HasLiveAttempt e place) → NoneBefore e place at live.rounds.waiting → length live.rounds.waiting ≤ at → NothingCanCome e place
nothing_left e place at live none few w among =
    let (i, got) = one_at w live.rounds.waiting (subst (IsOneOf w) (inbox_is e place live) among) in
    let lt : i < length live.rounds.waiting = get_within live.rounds.waiting i w got in
    none i w (omega (arith, lt, few)) got

all_come : {H : Type 0} (meaning : H → Meaning) (place count at : ℕ) (old new : Engine H) (live : HasLiveAttempt old place) → NoneBefore old place at live.rounds.waiting → length live.rounds.waiting ≤ at + count → AreDelivered meaning place count at old new → NothingCanCome new place
all_come {H} meaning place zero at old new live none few same = subst (λ (e : Engine H). NothingCanCome e place) (sym same) (nothing_left old place at live none (omega (arith, few)))
all_come meaning place (suc count) at old new live none few (mid, first, more) =
    let r = delivered meaning place at old mid live first in
    after_one meaning place count at old mid new live none few more (λ k l before short d. all_come meaning place count k mid new l before short d) r r.left

pub all_delivered : {H : Type 0} (meaning : H → Meaning) (place : ℕ) (old new : Engine H) → HasLiveAttempt old place → AllDelivered meaning place old new → NothingCanCome new place
all_delivered meaning place old new live d =
    let count_is : length (inbox_at old place) ≡ length live.rounds.waiting = ap length (inbox_is old place live) in
    all_come meaning place (length (inbox_at old place)) 0 old new live (λ i w lt got. absurd (omega (arith, lt))) (omega (arith, count_is)) d

-- ---- causes

-- deliveries are events
delivered_events : {H : Type 0} (meaning : H → Meaning) (place count at : ℕ) (es : List Happening) (first old new : Engine H) → AllHappen meaning es first old → AreDelivered meaning place count at old new → (all : List Happening) × AllHappen meaning all first new
delivered_events meaning place zero at es first old new h same = (es, subst (AllHappen meaning es first) (sym same) h)
delivered_events meaning place (suc count) at es first old new h (mid, one, more) =
    delivered_events meaning place count (next_at place at old mid) (es ++ happening.Deliver place at ∷ []) first mid new (happens_then meaning es (happening.Deliver place at) first old mid h one) more

has_to : {H : Type 0} (e : Engine H) (place : ℕ) (w : Waiting) → note_now e place w ≡ None → CanComeOrHasToWait e place w → HasToWait e place w
has_to e place w none (inl can) = absurd (let x : false ≡ true = sym (ap is_some none) ∙ can in cc)
has_to e place w none (inr waits) = waits

waiting_is : {H : Type 0} (it : Invocation H) (w : Waiting) → IsOneOf w (waiting_in it.member) → (m : MemberView H) × (it.member ≡ Some m) × IsOneOf w m.waiting
waiting_is {H} it w among = of it.member refl among
  where
    of : (o : Option (MemberView H)) → it.member ≡ o → IsOneOf w (waiting_in o) → (m : MemberView H) × (it.member ≡ Some m) × IsOneOf w m.waiting
    of None is h = absurd h
    of (Some m) is h = (m, is, h)

pub all_have_to_wait : {H : Type 0} (meaning : H → Meaning) (es : List Happening) (first mid new : Engine H) (place : ℕ) → first.invocations.items ≡ [] → AllHappen meaning es first mid → HasLiveAttempt mid place → AllDelivered meaning place mid new → AllHaveToWait new place
all_have_to_wait {H} meaning es first mid new place none h live d w among =
    has_to new place w (all_delivered meaning place mid new live d w among) (of (slice_get new.invocations.items place) refl among)
  where
    of : (o : Option (Invocation H)) → slice_get new.invocations.items place ≡ o → IsOneOf w (waiting_of o) → CanComeOrHasToWait new place w
    of None was a = absurd a
    of (Some it) was a =
        let (m, is, waits) = waiting_is it w a in
        let (all, happen) = delivered_events meaning place (length (inbox_at mid place)) 0 es first mid new h d in
        inboxes_caused meaning all first new none happen place it m was is w waits
