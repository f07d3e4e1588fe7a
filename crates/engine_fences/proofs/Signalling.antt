-- Signals come once: what an event does to those that have come, that wait and that were sent.
use Rattle.std.proofs.Common.{◌≡◌, ◌⊎◌, inl, inr, ℕ, ◌+◌, ◌<◌, ◌≤◌, Bool, true, false, List, [], ◌∷◌, ◌++◌, length, map, Option, Some, None, refl, sym, ap, ◌∙◌, subst, arith, append-nil}
use Rattle.std.specs.Prelude.{◌&&◌, if◌then◌else◌, is_some, nat_le, slice_get, slice_index_or, slice_set}
use Rattle.std.specs.List.{remove, sum_by}
use Rattle.std.specs.Option.{option_map}
use Rattle.std.specs.Cmp.Lexicographic.{same_text}
use Rattle.std.proofs.lemmas.Bool.{cases_eq}
use Rattle.std.proofs.lemmas.List.Quantifiers.{position-Some}
use Rattle.std.proofs.lemmas.List.Sums.{sum_by-cons, sum_by-remove, sum_by-set, sum_by_push}
use Rattle.std.proofs.lemmas.Option.{get_or_from_slice_get, slice_get-map, slice_get_within}
use Rattle.journal_protocol.specs.Notification.{Notification}
use Rattle.journal_protocol.specs.NotificationId.TheVariants.{CompletionId}
use Rattle.journal_protocol.specs.NotificationResult.{NotificationResult}
use Rattle.journal_protocol.specs.NotificationResult.TheVariants as result
use Rattle.journal_protocol.specs.Signal.{Signal}
use Rattle.journal_protocol.specs.Signal.TheVariants as signal
use Rattle.journal_protocol.specs.Version.{Version}
use Rattle.journal_entries.specs.Entries.{note_in}
use Rattle.journal_entries.specs.declared.storing.Written.{Written}
use Rattle.journal_entries.specs.declared.storing.Written.TheVariants.{Command, Proposal}
use Rattle.journal_entries.specs.Storing.{stored_as}
use Rattle.vm_model.specs.Calls.{Meaning}
use Rattle.journal_store.specs.Effects.{completing_result}
use Rattle.journal_store.specs.declared.effect.Effect.{Effect}
use Rattle.journal_store.specs.declared.effect.Effect.TheVariants as effect
use Rattle.journal_store.specs.declared.effect.Sent.{Sent}
use Rattle.engine_inboxes.specs.declared.types.Brought.{Brought}
use Rattle.engine_inboxes.specs.declared.types.Brought.TheVariants as brought
use Rattle.engine_inboxes.specs.declared.types.Waiting.{Waiting}
use Rattle.engine_inboxes.specs.declared.types.Waiting.TheVariants as waiting
use Rattle.engine_inboxes.specs.Notes.{completion, note_by, signal_id, signal_note}
use Rattle.engine_inboxes.specs.Deliverable.{effect_at, waited_by, waits_for_outcome}
use Rattle.engine_inboxes.proofs.Coming.{none_some, note_said, some_same}
use Rattle.world_rounds.specs.declared.types.Event.{Event}
use Rattle.world_rounds.specs.declared.types.Event.TheVariants as event
use Rattle.world_rounds.specs.Course.{CourseView, HappensTo}
use Rattle.world_rounds.specs.Rounds.{Now}
use Rattle.world_rounds.proofs.Settled.{IsItem, command_unread, completion_read}
use Rattle.engines.specs.declared.engine.Engine.{Engine}
use Rattle.engines.specs.declared.engine.Invocation.{Invocation}
use Rattle.engine_inboxes.specs.declared.order.Begun.{Begun}
use Rattle.engines.specs.declared.types.Happening.{Happening}
use Rattle.engines.specs.declared.types.Happening.TheVariants as happening
use Rattle.engine_inboxes.specs.declared.order.Order.{Order}
use Rattle.engines.specs.Beginnings.{entry_of_input}
use Rattle.engines.specs.Engines.{AddsCallee, AllHappen, BeginsIf, ChangesAt, ChangesOne, DeliversIf, DeliversTo, DeliversUnless, DoesEffect, EndsWith, FindsOrMakes, GoesIn, HappeningDoes, MakesInvocation, MemberGoes, NoneAt, OrdersOf, PerformsIf, SendsToPlace, StoresIn, StoresInMember, StoresUnless, brought_at, new_member, order_of, stopped_in, whole_round}
use Rattle.engine_inboxes.specs.Targets.{handler_named, is_text}
use Rattle.engines.specs.Lookups.{id_of_place, may_begin, place_of, same_as}
use Rattle.engines.specs.HandedOn.{BeginsHanded, base_at}
use Rattle.engines.specs.Members.{Acts, ArrivesFromInbox, Delivers, GoesBy, MemberView, NoEntry, StoresEntry, StoresNextEntry, stopped, with_signal}
use Rattle.engine_fences.specs.Signals.{NoneFromNowhere, SignalTest, SignalsComeOnce, passing, signals_of, signals_to}
use Rattle.engines.proofs.Beginnings.{begins_leaves}
use Rattle.engines.proofs.Among.{get_left, get_pushed}
use Rattle.engines.proofs.Books.{nothing_asked}
use Rattle.engines.proofs.Growing.{some_in}
use Rattle.engines.proofs.Keeping.{brought_is}
use Rattle.engines.proofs.Storing.{input_note, input_quiet, own_leaves}
use Rattle.engine_fences.proofs.Places.{SameIds, after_at, before_at, others_at, place_stays}
use Rattle.engine_fences.proofs.Stores.{store_so}
use Rattle.engine_fences.proofs.Counting.{come_in, comes_by, count_of, count_to, passes, passes_by, sends_by, sent_from, sent_in, sent_to_id, signals_for, wait_in, signal_waits}

-- ---- sums

even : (a b s t : ℕ) → a ≡ b → t ≡ s → a + s ≡ b + t
even a b s t e f = omega (arith, e, f)

same_most : (a b : ℕ) → a ≡ b → a ≤ b
same_most a b e = omega (arith, e)

plus_none : (a b : ℕ) → b ≡ 0 → a + b ≡ a
plus_none a b e = omega (arith, e)

both_plus : (a b c d : ℕ) → a ≡ b → c ≡ d → a + c ≡ b + d
both_plus a b c d e f = omega (arith, e, f)

-- ---- one entry more, one that waits no longer

come_more : (test : SignalTest) (journal : List (List ℕ)) (x : List ℕ) → come_in test (journal ++ x ∷ []) ≡ come_in test journal + comes_by test (note_in x)
come_more test journal x = sum_by_push (λ entry. comes_by test (note_in entry)) journal x

sent_more : (test : SignalTest) (id : List ℕ) (journal : List (List ℕ)) (x : List ℕ) → sent_in test id (journal ++ x ∷ []) ≡ sent_in test id journal + sends_by test id (effect_at x)
sent_more test id journal x = sum_by_push (λ entry. sends_by test id (effect_at entry)) journal x

wait_more : (test : SignalTest) (ws : List Waiting) (w : Waiting) → wait_in test (ws ++ w ∷ []) ≡ wait_in test ws + signal_waits test w
wait_more test ws w = sum_by_push (signal_waits test) ws w

-- what a stored command waits for is no signal
waits_on : (test : SignalTest) (ws : List Waiting) (o : Option Effect) → wait_in test (ws ++ waited_by o) ≡ wait_in test ws
waits_on test ws None = ap (wait_in test) (append-nil ws)
waits_on test ws (Some (effect.Wait timer)) = wait_more test ws (waiting.Clock timer) ∙ plus_none (wait_in test ws) 0 refl
waits_on test ws (Some (effect.Send s)) = ap (wait_in test) (append-nil ws)
waits_on test ws (Some (effect.Result r)) = ap (wait_in test) (append-nil ws)
waits_on test ws (Some (effect.Begin b)) = by b.result_completes
  where
    first : wait_in test (ws ++ waiting.Id b.id_completes ∷ []) ≡ wait_in test ws
    first = wait_more test ws (waiting.Id b.id_completes) ∙ plus_none (wait_in test ws) 0 refl

    by : (o : Option ℕ) → wait_in test (ws ++ waiting.Id b.id_completes ∷ waits_for_outcome b.id_completes o) ≡ wait_in test ws
    by None = first
    by (Some id) =
        ap (wait_in test) (sym (append_two ws (waiting.Id b.id_completes) (waiting.Outcome id b.id_completes)))
        ∙ wait_more test (ws ++ waiting.Id b.id_completes ∷ []) (waiting.Outcome id b.id_completes) ∙ plus_none (wait_in test (ws ++ waiting.Id b.id_completes ∷ [])) 0 refl ∙ first
      where
        append_two : (xs : List Waiting) (x y : Waiting) → (xs ++ x ∷ []) ++ y ∷ [] ≡ xs ++ x ∷ y ∷ []
        append_two [] x y = refl
        append_two (z ∷ zs) x y = ap (λ l. z ∷ l) (append_two zs x y)

-- what comes is what waited: a signal, if it was one
signal_passes : (test : SignalTest) (s : Signal) (r : NotificationResult) → passes_by test (signal_id s) (signal_note s r) ≡ passes test (signal_note s r)
signal_passes test (signal.Index index) r = refl
signal_passes test (signal.Name name) r = refl

-- a signal comes as it was sent, and anything else as a completion
abbrev pub ComesAs : Waiting → Notification → Type 0
ComesAs (waiting.Id call) n = (id : ℕ) × (n.id ≡ CompletionId id)
ComesAs (waiting.Outcome id call) n = (id : ℕ) × (n.id ≡ CompletionId id)
ComesAs (waiting.Clock timer) n = (id : ℕ) × (n.id ≡ CompletionId id)
ComesAs (waiting.Signal s r) n = n ≡ signal_note s r

completes : (id : ℕ) (r : NotificationResult) (n : Notification) → Some (completion id r) ≡ Some n → (id : ℕ) × (n.id ≡ CompletionId id)
completes id r n e = (id, ap (λ (x : Notification). x.id) (sym (some_same (completion id r) n e)))

pub came_as : (w : Waiting) (b : Brought) (n : Notification) → note_by w b ≡ Some n → ComesAs w n
came_as (waiting.Id own) (brought.Id text) n e = completes own (result.InvocationId text) n e
came_as (waiting.Id own) (brought.Outcome r) n e = absurd (none_some n e)
came_as (waiting.Id own) (brought.Time t) n e = absurd (none_some n e)
came_as (waiting.Outcome own call) (brought.Id text) n e = absurd (none_some n e)
came_as (waiting.Outcome own call) (brought.Outcome r) n e = completes own (completing_result r) n e
came_as (waiting.Outcome own call) (brought.Time t) n e = absurd (none_some n e)
came_as (waiting.Clock timer) (brought.Id text) n e = absurd (none_some n e)
came_as (waiting.Clock timer) (brought.Outcome r) n e = absurd (none_some n e)
came_as (waiting.Clock timer) (brought.Time t) n e = by (nat_le timer.due t) e
  where
    by : (z : Bool) → (if z then Some (completion timer.completes result.Void) else None) ≡ Some n → (id : ℕ) × (n.id ≡ CompletionId id)
    by true g = completes timer.completes result.Void n g
    by false g = absurd (none_some n g)
came_as (waiting.Signal s r) (brought.Id text) n e = absurd (none_some n e)
came_as (waiting.Signal s r) (brought.Outcome q) n e = absurd (none_some n e)
came_as (waiting.Signal s r) (brought.Time t) n e = sym (some_same (signal_note s r) n e)

came_by : (test : SignalTest) (w : Waiting) (n : Notification) → ComesAs w n → passes_by test n.id n ≡ signal_waits test w
came_by test (waiting.Id own) n h = ap (λ i. passes_by test i n) h.1
came_by test (waiting.Outcome own call) n h = ap (λ i. passes_by test i n) h.1
came_by test (waiting.Clock timer) n h = ap (λ i. passes_by test i n) h.1
came_by test (waiting.Signal s r) n h = ap (λ (x : Notification). passes_by test x.id x) h ∙ signal_passes test s r

-- ---- an entry that an attempt wrote is no signal

-- it is none
abbrev pub IsApart : Option Notification → Type 0
IsApart o = (test : SignalTest) → comes_by test o ≡ 0

item_apart : (version : Version) (w : Written) → IsItem version w → IsApart (note_in (stored_as w))
item_apart version (Command raw) item = subst IsApart (sym (command_unread raw item.0 item.1)) (λ test. refl)
item_apart version (Proposal p) item = subst IsApart (sym (completion_read p item.0)) (λ test. refl)

pub store_apart : {H : Type 0} (m : Meaning) (live : Option Now) (old new : CourseView H) (x : List ℕ) → HappensTo m (event.Store 1) live old new → new.journal ≡ old.journal ++ x ∷ [] → IsApart (note_in x)
store_apart m live old new x happens more = store_so IsApart item_apart m live old new x happens more

-- ---- what an event does to all signals

-- an invocation was at this place, with its rounds
abbrev Before : {H : Type 0} → List (Invocation H) → ℕ → Type 0
Before {H} old i = (it : Invocation H) × (m : MemberView H) × (slice_get old i ≡ Some it) × (it.member ≡ Some m)

-- The same invocations are there, each with as many signals as before; stored commands have sent this number more.
record Sending {H : Type 0} (old new : List (Invocation H)) (more : SignalTest → List ℕ → ℕ) : Type 0 where
  ids : SameIds old new
  each : (i : ℕ) (it : Invocation H) (m : MemberView H) → slice_get old i ≡ Some it → it.member ≡ Some m → (it' : Invocation H) × (m' : MemberView H) × (slice_get new i ≡ Some it') × (it'.member ≡ Some m') × ((test : SignalTest) → signals_for test m' ≡ signals_for test m)
  back : (i : ℕ) (it' : Invocation H) (m' : MemberView H) → slice_get new i ≡ Some it' → it'.member ≡ Some m' → Before old i
  sent : (test : SignalTest) (id : List ℕ) → sent_to_id test id new ≡ sent_to_id test id old + more test id

-- An invocation has got no more signals than were sent to it, and just these if it is the one of its id.
record Balance {H : Type 0} (i : ℕ) (id : List ℕ) (m m' : MemberView H) (old new : List (Invocation H)) : Type 0 where
  most : (test : SignalTest) → signals_for test m' + sent_to_id test id old ≤ signals_for test m + sent_to_id test id new
  just_so : place_of old id ≡ Some i → (test : SignalTest) → signals_for test m' + sent_to_id test id old ≡ signals_for test m + sent_to_id test id new

abbrev EachBalances : {H : Type 0} → List (Invocation H) → List (Invocation H) → Type 0
EachBalances {H} old new = (i : ℕ) (it : Invocation H) (m : MemberView H) → slice_get old i ≡ Some it → it.member ≡ Some m → (it' : Invocation H) × (m' : MemberView H) × (slice_get new i ≡ Some it') × (it'.member ≡ Some m') × Balance i it.id m m' old new

-- it was there, or has no signals
abbrev WasThere : {H : Type 0} → List (Invocation H) → ℕ → MemberView H → Type 0
WasThere old i m' = Before old i ⊎ ((test : SignalTest) → signals_for test m' ≡ 0)

-- no more have come or wait than were sent
abbrev AtMost : {H : Type 0} → List (Invocation H) → Type 0
AtMost {H} its = (i : ℕ) (it : Invocation H) (m : MemberView H) → slice_get its i ≡ Some it → it.member ≡ Some m → (test : SignalTest) → signals_for test m ≤ sent_to_id test it.id its

record Fair {H : Type 0} (old new : List (Invocation H)) : Type 0 where
  ids : SameIds old new
  each : EachBalances old new
  most : AtMost old → AtMost new

abbrev nothing_more : SignalTest → List ℕ → ℕ
nothing_more = λ test id. 0

member_is : {H : Type 0} (it x : Invocation H) (o : Option (Invocation H)) (m : MemberView H) → o ≡ Some it → o ≡ Some x → it.member ≡ Some m → x.member ≡ Some m
member_is it x o m e f is = ap (λ (z : Invocation _). z.member) (some_in o x it f e) ∙ is

below_most : (a m s t : ℕ) → a + s ≤ m + t → m ≤ s → a ≤ t
below_most a m s t e f = omega (arith, e, f)

none_most : (a b : ℕ) → a ≡ 0 → a ≤ b
none_most a b e = omega (arith, e)

fair_from : {H : Type 0} (old new : List (Invocation H)) → SameIds old new → EachBalances old new → ((i : ℕ) (it' : Invocation H) (m' : MemberView H) → slice_get new i ≡ Some it' → it'.member ≡ Some m' → WasThere old i m') → Fair old new
fair_from {H} old new ids each back = record {
  ids = ids;
  each = each;
  most = λ all i it' m' was is test. by all i it' m' was is test (back i it' m' was is);
}
  where
    by : AtMost old → (i : ℕ) (it' : Invocation H) (m' : MemberView H) → slice_get new i ≡ Some it' → it'.member ≡ Some m' → (test : SignalTest) → WasThere old i m' → signals_for test m' ≤ sent_to_id test it'.id new
    by all i it' m' was is test (inr none) = none_most (signals_for test m') (sent_to_id test it'.id new) (none test)
    by all i it' m' was is test (inl (it, m, had, lives)) =
        let (x, y, there, is_x, b) = each i it m had lives in
        let (z, found, alike) = ids i it had in
        let same : y ≡ m' = some_in x.member y m' is_x (member_is it' x (slice_get new i) m' was there is) in
        let id : it'.id ≡ it.id = ap (λ (v : Invocation H). v.id) (some_in (slice_get new i) it' z was found) ∙ alike in
        subst (λ t. signals_for test m' ≤ sent_to_id test t new) (sym id)
        (subst (λ (v : MemberView H). signals_for test v ≤ sent_to_id test it.id new) same
        (below_most (signals_for test y) (signals_for test m) (sent_to_id test it.id old) (sent_to_id test it.id new) (b.most test) (all i it m had lives test)))

-- if nothing is sent nothing is got
fair_quiet : {H : Type 0} (old new : List (Invocation H)) → Sending old new nothing_more → Fair old new
fair_quiet {H} old new s = fair_from old new s.ids each (λ i it m was is. inl (s.back i it m was is))
  where
    each : EachBalances old new
    each i it m was is =
        let (it', m', there, is', same) = s.each i it m was is in
        let alike : (test : SignalTest) → sent_to_id test it.id new ≡ sent_to_id test it.id old = λ test. s.sent test it.id ∙ plus_none (sent_to_id test it.id old) 0 refl in (
          it',
          m',
          there,
          is',
          record {
            most = λ test. same_most (signals_for test m' + sent_to_id test it.id old) (signals_for test m + sent_to_id test it.id new) (even (signals_for test m') (signals_for test m) (sent_to_id test it.id old) (sent_to_id test it.id new) (same test) (alike test));
            just_so = λ place test. even (signals_for test m') (signals_for test m) (sent_to_id test it.id old) (sent_to_id test it.id new) (same test) (alike test);
          },
        )

sending_none : {H : Type 0} (old new : List (Invocation H)) → new ≡ old → Sending old new nothing_more
sending_none old new same = subst (λ l. Sending old l nothing_more) (sym same) (record {
  ids = λ i it is. (it, is, refl);
  each = λ i it m was is. (it, m, was, is, λ test. refl);
  back = λ i it m was is. (it, m, was, is);
  sent = λ test id. sym (plus_none (sent_to_id test id old) 0 refl);
})

most_then : (a b h s t u : ℕ) → a + s ≤ h + t → b + t ≤ a + u → b + s ≤ h + u
most_then a b h s t u e f = omega (arith, e, f)

exact_then : (a b h s t u : ℕ) → a + s ≡ h + t → b + t ≡ a + u → b + s ≡ h + u
exact_then a b h s t u e f = omega (arith, e, f)

ids_then : {H : Type 0} (old mid new : List (Invocation H)) → SameIds old mid → SameIds mid new → SameIds old new
ids_then old mid new f g i it is =
    let (x, there, same) = f i it is in
    let (y, after, alike) = g i x there in
    (y, after, alike ∙ same)

fair_then : {H : Type 0} (old mid new : List (Invocation H)) → Fair old mid → Fair mid new → Fair old new
fair_then {H} old mid new f g = record { ids = ids_then old mid new f.ids g.ids; each = each; most = λ all. g.most (f.most all) }
  where
    each : EachBalances old new
    each i it m was is =
        let (x, a, there, is_x, p) = f.each i it m was is in
        let (y, b, after, is_y, q) = g.each i x a there is_x in
        let (z, found, same) = f.ids i it was in
        let id : x.id ≡ it.id = ap (λ (v : Invocation H). v.id) (some_in (slice_get mid i) x z there found) ∙ same in
        let r : Balance i it.id a b mid new = subst (λ t. Balance i t a b mid new) id q in (
          y,
          b,
          after,
          is_y,
          record {
            most = λ test. most_then (signals_for test a) (signals_for test b) (signals_for test m) (sent_to_id test it.id old) (sent_to_id test it.id mid) (sent_to_id test it.id new) (p.most test) (r.most test);
            just_so = λ place test. exact_then (signals_for test a) (signals_for test b) (signals_for test m) (sent_to_id test it.id old) (sent_to_id test it.id mid) (sent_to_id test it.id new) (p.just_so place test) (r.just_so (place_stays old mid it.id i f.ids place) test);
          },
        )

-- ---- one invocation changes

-- Its id stays, it has as many signals as before, and its commands have sent this number more.
record Alike {H : Type 0} (more : SignalTest → List ℕ → ℕ) (a b : Invocation H) : Type 0 where
  id : b.id ≡ a.id
  each : (m : MemberView H) → a.member ≡ Some m → (m' : MemberView H) × (b.member ≡ Some m') × ((test : SignalTest) → signals_for test m' ≡ signals_for test m)
  back : (m' : MemberView H) → b.member ≡ Some m' → (m : MemberView H) × (a.member ≡ Some m)
  sent : (test : SignalTest) (id : List ℕ) → sent_from test id b.member ≡ sent_from test id a.member + more test id

alike_same : {H : Type 0} (a b : Invocation H) → b.id ≡ a.id → b.member ≡ a.member → Alike nothing_more a b
alike_same a b id same = record {
  id = id;
  each = λ m is. (m, same ∙ is, λ test. refl);
  back = λ m' is. (m', sym same ∙ is);
  sent = λ test id. ap (sent_from test id) same ∙ sym (plus_none (sent_from test id a.member) 0 refl);
}

added : (new was old now more : ℕ) → new + was ≡ old + now → now ≡ was + more → new ≡ old + more
added new was old now more e f = omega (arith, e, f)

sending_change : {H : Type 0} (place : ℕ) (R : Invocation H → Invocation H → Type 0) (old new : List (Invocation H)) (more : SignalTest → List ℕ → ℕ) → ((a b : Invocation H) → slice_get old place ≡ Some a → R a b → Alike more a b) → ChangesOne place R old new → Sending old new more
sending_change {H} place R old new more f c = record {
  ids = λ i it was. elim (cases_eq i place) as (λ _. (it' : Invocation H) × (slice_get new i ≡ Some it') × (it'.id ≡ it.id)) [
    | inl same ↦ (c.after, is_here i same, l.id ∙ ap (λ (z : Invocation H). z.id) (before_is i it same was))
    | inr ne ↦ (it, others_at place R old new c i ne ∙ was, refl)
  ];
  each = λ i it m was is. elim (cases_eq i place) as (λ _. (it' : Invocation H) × (m' : MemberView H) × (slice_get new i ≡ Some it') × (it'.member ≡ Some m') × ((test : SignalTest) → signals_for test m' ≡ signals_for test m)) [
    | inl same ↦
        let (m', is', alike) = l.each m (ap (λ (z : Invocation H). z.member) (before_is i it same was) ∙ is) in
        (c.after, m', is_here i same, is', alike)
    | inr ne ↦ (it, m, others_at place R old new c i ne ∙ was, is, λ test. refl)
  ];
  back = λ i it' m' now is. elim (cases_eq i place) as (λ _. Before old i) [
    | inl same ↦
        let (m, lives) = l.back m' (ap (λ (z : Invocation H). z.member) (some_in (slice_get new i) c.after it' (is_here i same) now) ∙ is) in
        (c.before, m, ap (slice_get old) same ∙ before_at place R old new c, lives)
    | inr ne ↦ (it', m', sym (others_at place R old new c i ne) ∙ now, is)
  ];
  sent = λ test id. added (sent_to_id test id new) (sent_from test id c.before.member) (sent_to_id test id old) (sent_from test id c.after.member) (more test id) (sums test id) (l.sent test id);
}
  where
    l : Alike more c.before c.after
    l = f c.before c.after (before_at place R old new c) c.does

    is_here : (i : ℕ) → i ≡ place → slice_get new i ≡ Some c.after
    is_here i same = ap (slice_get new) same ∙ after_at place R old new c

    before_is : (i : ℕ) (it : Invocation H) → i ≡ place → slice_get old i ≡ Some it → c.before ≡ it
    before_is i it same was = some_in (slice_get old i) c.before it (ap (slice_get old) same ∙ before_at place R old new c) was

    sums : (test : SignalTest) (id : List ℕ) → sent_to_id test id new + sent_from test id c.before.member ≡ sent_to_id test id old + sent_from test id c.after.member
    sums test id =
        let g : Invocation H → ℕ = λ it. sent_from test id it.member in
        ap (λ xs. sum_by g xs + g c.before) c.becomes ∙ ap (λ x. sum_by g (slice_set old place c.after) + g x) c.is ∙ sum_by-set g old place c.after c.before c.there

sending_at : {H : Type 0} (place : ℕ) (R : Invocation H → Invocation H → Type 0) (old new : List (Invocation H)) → ((a b : Invocation H) → slice_get old place ≡ Some a → R a b → Alike nothing_more a b) → NoneAt place old new ⊎ ChangesOne place R old new → Sending old new nothing_more
sending_at place R old new f (inl h) = sending_none old new h.1
sending_at place R old new f (inr c) = sending_change place R old new nothing_more f c

fair_changes : {H : Type 0} (place : ℕ) (R : Invocation H → Invocation H → Type 0) (old new : Engine H) → ((a b : Invocation H) → slice_get old.invocations.items place ≡ Some a → R a b → Alike nothing_more a b) → ChangesAt place R old new → Fair old.invocations.items new.invocations.items
fair_changes place R old new f d = fair_quiet old.invocations.items new.invocations.items (sending_at place R old.invocations.items new.invocations.items f d.1)

-- ---- its rounds change

-- it has as many signals as before, and has sent no more
abbrev Still : {H : Type 0} → MemberView H → MemberView H → Type 0
Still m m' = ((test : SignalTest) → signals_for test m' ≡ signals_for test m) × ((test : SignalTest) (id : List ℕ) → sent_in test id m'.course.journal ≡ sent_in test id m.course.journal)

still_same : {H : Type 0} (m m' : MemberView H) → m'.course.journal ≡ m.course.journal → m'.waiting ≡ m.waiting → Still m m'
still_same m m' journal waits = (λ test. both_plus (come_in test m'.course.journal) (come_in test m.course.journal) (wait_in test m'.waiting) (wait_in test m.waiting) (ap (come_in test) journal) (ap (wait_in test) waits), λ test id. ap (sent_in test id) journal)

member_alike : {H : Type 0} (more : SignalTest → List ℕ → ℕ) (a b : Invocation H) (m m' : MemberView H) → a.member ≡ Some m → b ≡ record a { member = Some m' } → ((test : SignalTest) → signals_for test m' ≡ signals_for test m) → ((test : SignalTest) (id : List ℕ) → sent_in test id m'.course.journal ≡ sent_in test id m.course.journal + more test id) → Alike more a b
member_alike {H} more a b m m' was is same sent = record {
  id = ap (λ (z : Invocation H). z.id) is;
  each = λ x is_x. (m', ap (λ (z : Invocation H). z.member) is, λ test. same test ∙ ap (signals_for test) (some_in a.member m x was is_x));
  back = λ x is_x. (m, was);
  sent = λ test id. ap (sent_from test id) (ap (λ (z : Invocation H). z.member) is) ∙ sent test id ∙ ap (λ o. sent_from test id o + more test id) (sym was);
}

goes_alike : {H : Type 0} (R : MemberView H → MemberView H → Type 0) (a b : Invocation H) → ((m m' : MemberView H) → R m m' → Still m m') → MemberGoes R a b → Alike nothing_more a b
goes_alike {H} R a b f d = by a.member refl d
  where
    by : (o : Option (MemberView H)) → a.member ≡ o → GoesIn R o a b → Alike nothing_more a b
    by None was same = alike_same a b (ap (λ (z : Invocation H). z.id) same) (ap (λ (z : Invocation H). z.member) same)
    by (Some m) was (m', is, does) =
        let still = f m m' does in
        member_alike nothing_more a b m m' was is still.0 (λ test id. still.1 test id ∙ sym (plus_none (sent_in test id m.course.journal) 0 refl))

begins_still : {H : Type 0} (base : List (List ℕ × List ℕ)) (m m' : MemberView H) → GoesBy (BeginsHanded whole_round base) m m' → Still m m'
begins_still base m m' h = still_same m m' (begins_leaves whole_round base m.course m'.course h.1).0 (ap (λ (z : MemberView _). z.waiting) h.0)

acts_still : {H : Type 0} (f : Meaning) (e : Event) (m m' : MemberView H) → Acts f e m m' → Still m m'
acts_still f (event.Arrive x) m m' h = still_same m m' (ap (λ (z : MemberView _). z.course.journal) h) (ap (λ (z : MemberView _). z.waiting) h)
acts_still f (event.Store n) m m' h = still_same m m' (ap (λ (z : MemberView _). z.course.journal) h) (ap (λ (z : MemberView _). z.waiting) h)
acts_still f (event.Piece n) m m' h = still_same m m' (own_leaves f (event.Piece n) m.course.live m.course m'.course tt h.1) (ap (λ (z : MemberView _). z.waiting) h.0)
acts_still f event.Close m m' h = still_same m m' (own_leaves f event.Close m.course.live m.course m'.course tt h.1) (ap (λ (z : MemberView _). z.waiting) h.0)
acts_still f event.Step m m' h = still_same m m' (own_leaves f event.Step m.course.live m.course m'.course tt h.1) (ap (λ (z : MemberView _). z.waiting) h.0)
acts_still f (event.Steps n) m m' h = still_same m m' (own_leaves f (event.Steps n) m.course.live m.course m'.course tt h.1) (ap (λ (z : MemberView _). z.waiting) h.0)
acts_still f (event.RunResult handle exit policy) m m' h = still_same m m' (own_leaves f (event.RunResult handle exit policy) m.course.live m.course m'.course tt h.1) (ap (λ (z : MemberView _). z.waiting) h.0)

fair_goes : {H : Type 0} (place : ℕ) (R : MemberView H → MemberView H → Type 0) (old new : Engine H) → ((m m' : MemberView H) → R m m' → Still m m') → ChangesAt place (MemberGoes R) old new → Fair old.invocations.items new.invocations.items
fair_goes place R old new f d = fair_changes place (MemberGoes R) old new (λ a b was h. goes_alike R a b f h) d

-- what waited has come
arrived_sum : (come' come wait' left wait w : ℕ) → come' ≡ come + w → wait' ≡ left → left + w ≡ wait → come' + wait' ≡ come + wait
arrived_sum come' come wait' left wait w e f g = omega (arith, e, f, g)

arrived_still : {H : Type 0} (at : ℕ) (b : Brought) (f : Meaning) (m m' : MemberView H) (w : Waiting) → slice_get m.waiting at ≡ Some w → ArrivesFromInbox at b f m m' → Still m m'
arrived_still at b f m m' w there a =
    let lt : at < length m.waiting = slice_get_within m.waiting at w there in
    let is_at : w ≡ slice_index_or m.waiting at w = sym (get_or_from_slice_get m.waiting at w w there) in
    let becomes : note_by w b ≡ Some a.note = sym (a.becomes w is_at) in
    let nothing : effect_at a.entry ≡ None = nothing_asked a.entry (note_said a.entry a.note a.reads) in (
      λ test.
          let gone : wait_in test (remove m.waiting at) + signal_waits test w ≡ wait_in test m.waiting = ap (λ v. wait_in test (remove m.waiting at) + signal_waits test v) is_at ∙ sum_by-remove (signal_waits test) m.waiting at w lt in
          let come : come_in test m'.course.journal ≡ come_in test m.course.journal + signal_waits test w = ap (come_in test) a.stored ∙ come_more test m.course.journal a.entry ∙ ap (λ o. come_in test m.course.journal + comes_by test o) a.reads ∙ ap (λ n. come_in test m.course.journal + n) (came_by test w a.note (came_as w b a.note becomes)) in
          arrived_sum (come_in test m'.course.journal) (come_in test m.course.journal) (wait_in test m'.waiting) (wait_in test (remove m.waiting at)) (wait_in test m.waiting) (signal_waits test w) come (ap (wait_in test) a.rest.0) gone,
      λ test id. ap (sent_in test id) a.stored ∙ sent_more test id m.course.journal a.entry ∙ ap (λ o. sent_in test id m.course.journal + sends_by test id o) nothing ∙ plus_none (sent_in test id m.course.journal) 0 refl,
    )

delivers_alike : {H : Type 0} (meaning : H → Meaning) (old : Engine H) (place at : ℕ) (b : Brought) → brought_at old place at ≡ Some b → (x y : Invocation H) → slice_get old.invocations.items place ≡ Some x → DeliversTo meaning at b x y → Alike nothing_more x y
delivers_alike {H} meaning old place at b brings x y was d = by (is_some x.ended) d
  where
    still : (m m' : MemberView H) → x.member ≡ Some m → Delivers at b (meaning m.course.handler) m m' → Still m m'
    still m m' is (inl c) = still_same m m' (ap (λ (z : MemberView H). z.course.journal) c.1) (ap (λ (z : MemberView H). z.waiting) c.1)
    still m m' is (inr a) =
        let (w, there, gives) = brought_is old place at x m b was is brings in
        arrived_still at b (meaning m.course.handler) m m' w there a

    in_member : (o : Option (MemberView H)) → x.member ≡ o → GoesIn (λ (m : MemberView H). Delivers at b (meaning m.course.handler) m) o x y → Alike nothing_more x y
    in_member None is same = alike_same x y (ap (λ (z : Invocation H). z.id) same) (ap (λ (z : Invocation H). z.member) same)
    in_member (Some m) is (m', becomes, does) =
        let s = still m m' is does in
        member_alike nothing_more x y m m' is becomes s.0 (λ test id. s.1 test id ∙ sym (plus_none (sent_in test id m.course.journal) 0 refl))

    by : (ended : Bool) → DeliversUnless ended meaning at b x y → Alike nothing_more x y
    by true same = alike_same x y (ap (λ (z : Invocation H). z.id) same) (ap (λ (z : Invocation H). z.member) same)
    by false d = in_member x.member refl d

fair_delivers : {H : Type 0} (meaning : H → Meaning) (place at : ℕ) (o : Option Brought) (old new : Engine H) → brought_at old place at ≡ o → DeliversIf meaning place at o old new → Fair old.invocations.items new.invocations.items
fair_delivers meaning place at None old new is same = fair_quiet old.invocations.items new.invocations.items (sending_none old.invocations.items new.invocations.items (ap (λ (z : Engine _). z.invocations.items) same))
fair_delivers meaning place at (Some b) old new is d = fair_changes place (DeliversTo meaning at b) old new (delivers_alike meaning old place at b is) d

-- ---- an invocation is made

sum_of_none : (a b : ℕ) → a ≡ 0 → b ≡ 0 → a + b ≡ 0
sum_of_none a b e f = omega (arith, e, f)

new_has_none : {H : Type 0} (e : Engine H) (code : H) (id : List ℕ) (order : Order) → note_in (entry_of_input order.parameter) ≡ None → (test : SignalTest) → signals_for test (new_member e code id order) ≡ 0
new_has_none e code id order none test =
    sum_of_none (come_in test (entry_of_input order.parameter ∷ [])) (wait_in test []) (come_more test [] (entry_of_input order.parameter) ∙ ap (λ o. come_in test [] + comes_by test o) none ∙ refl) refl

new_sends_none : (test : SignalTest) (id parameter : List ℕ) → effect_at (entry_of_input parameter) ≡ None → sent_in test id (entry_of_input parameter ∷ []) ≡ 0
new_sends_none test id parameter none = sent_more test id [] (entry_of_input parameter) ∙ ap (λ o. sent_in test id [] + sends_by test id o) none ∙ refl

fair_pushed : {H : Type 0} (old new : List (Invocation H)) (made : Invocation H) (m : MemberView H) → new ≡ old ++ made ∷ [] → made.member ≡ Some m → ((test : SignalTest) → signals_for test m ≡ 0) → ((test : SignalTest) (id : List ℕ) → sent_in test id m.course.journal ≡ 0) → Fair old new
fair_pushed {H} old new made m last is none quiet = subst (Fair old) (sym last) (fair_from old (old ++ made ∷ []) ids each back)
  where
    ids : SameIds old (old ++ made ∷ [])
    ids i it was = (it, get_left old (made ∷ []) i it was, refl)

    sent : (test : SignalTest) (id : List ℕ) → sent_to_id test id (old ++ made ∷ []) ≡ sent_to_id test id old
    sent test id = sum_by_push (λ (it : Invocation H). sent_from test id it.member) old made ∙ plus_none (sent_to_id test id old) (sent_from test id made.member) (ap (sent_from test id) is ∙ quiet test id)

    each : EachBalances old (old ++ made ∷ [])
    each i it x was has = (
      it,
      x,
      get_left old (made ∷ []) i it was,
      has,
      record {
        most = λ test. same_most (signals_for test x + sent_to_id test it.id old) (signals_for test x + sent_to_id test it.id (old ++ made ∷ [])) (even (signals_for test x) (signals_for test x) (sent_to_id test it.id old) (sent_to_id test it.id (old ++ made ∷ [])) refl (sent test it.id));
        just_so = λ place test. even (signals_for test x) (signals_for test x) (sent_to_id test it.id old) (sent_to_id test it.id (old ++ made ∷ [])) refl (sent test it.id);
      },
    )

    back : (i : ℕ) (it' : Invocation H) (m' : MemberView H) → slice_get (old ++ made ∷ []) i ≡ Some it' → it'.member ≡ Some m' → WasThere old i m'
    back i it' m' now has = by (get_pushed old made i it' now)
      where
        by : (slice_get old i ≡ Some it') ⊎ ((i ≡ length old) × (made ≡ it')) → WasThere old i m'
        by (inl was) = inl (it', m', was, has)
        by (inr new) = inr (λ test. ap (signals_for test) (some_in it'.member m' m has (ap (λ (z : Invocation H). z.member) (sym new.1) ∙ is)) ∙ none test)

fair_made : {H : Type 0} (target : ℕ) (order : Order) (begun : Option Begun) (old new : Engine H) → MakesInvocation target order begun old new → Fair old.invocations.items new.invocations.items
fair_made {H} target order begun old new m =
    fair_pushed old.invocations.items new.invocations.items m.made (new_member old m.of.code (id_of_place (length old.invocations.items)) order) m.last (ap (λ (z : Invocation H). z.member) m.as_asked)
    (new_has_none old m.of.code (id_of_place (length old.invocations.items)) order (input_note order.parameter m.whole))
    (λ test id. new_sends_none test id order.parameter (input_quiet order.parameter m.whole))

fair_same : {H : Type 0} (old new : Engine H) → new ≡ old → Fair old.invocations.items new.invocations.items
fair_same old new same = fair_quiet old.invocations.items new.invocations.items (sending_none old.invocations.items new.invocations.items (ap (λ (z : Engine _). z.invocations.items) same))

fair_found : {H : Type 0} (o : Option ℕ) (target : ℕ) (order : Order) (begun : Option Begun) (place : Option ℕ) (old new : Engine H) → FindsOrMakes o target order begun place old new → Fair old.invocations.items new.invocations.items
fair_found (Some same) target order begun place old new d = fair_same old new d.1
fair_found None target order begun place old new d = fair_made target order begun old new d.1

fair_orders : {H : Type 0} (o : Option ℕ) (order : Order) (begun : Option Begun) (place : Option ℕ) (old new : Engine H) → OrdersOf o order begun place old new → Fair old.invocations.items new.invocations.items
fair_orders None order begun place old new d = fair_same old new d.1
fair_orders (Some target) order begun place old new d = fair_found (same_as old.invocations.items target order) target order begun place old new d

-- ---- an entry is stored

-- how many a stored entry sends that asks for this
abbrev sent_so : Option Effect → SignalTest → List ℕ → ℕ
sent_so asks = λ test id. sends_by test id asks

asked_none : {H : Type 0} (asks : Option Effect) (x y : Invocation H) → asks ≡ None → Alike nothing_more x y → Alike (sent_so asks) x y
asked_none asks x y none a = subst (λ o. Alike (sent_so o) x y) (sym none) a

stores_alike : {H : Type 0} (meaning : H → Meaning) (asks : Option Effect) (x y : Invocation H) → StoresIn meaning asks x y → Alike (sent_so asks) x y
stores_alike {H} meaning asks x y d = by (is_some x.ended) d
  where
    stays : (y ≡ x) × (asks ≡ None) → Alike (sent_so asks) x y
    stays h = asked_none asks x y h.1 (alike_same x y (ap (λ (z : Invocation H). z.id) h.0) (ap (λ (z : Invocation H). z.member) h.0))

    entry : (m m' : MemberView H) → x.member ≡ Some m → y ≡ record x { member = Some m' } → StoresNextEntry (meaning m.course.handler) m m' asks → NoEntry m m' asks ⊎ StoresEntry m m' asks → Alike (sent_so asks) x y
    entry m m' is becomes does (inl n) =
        let s = still_same m m' n.stored n.stays.0 in
        asked_none asks x y n.effect (member_alike nothing_more x y m m' is becomes s.0 (λ test id. s.1 test id ∙ sym (plus_none (sent_in test id m.course.journal) 0 refl)))
    entry m m' is becomes does (inr n) =
        let apart = store_apart (meaning m.course.handler) m.course.live m.course m'.course n.entry does.course n.stored in
        member_alike (sent_so asks) x y m m' is becomes
        (λ test. both_plus (come_in test m'.course.journal) (come_in test m.course.journal) (wait_in test m'.waiting) (wait_in test m.waiting)
        (ap (come_in test) n.stored ∙ come_more test m.course.journal n.entry ∙ plus_none (come_in test m.course.journal) (comes_by test (note_in n.entry)) (apart test))
        (ap (wait_in test) n.entered.waits ∙ waits_on test m.waiting (effect_at n.entry)))
        (λ test id. ap (sent_in test id) n.stored ∙ sent_more test id m.course.journal n.entry ∙ ap (λ o. sent_in test id m.course.journal + sends_by test id o) (sym n.effect))

    in_member : (o : Option (MemberView H)) → x.member ≡ o → StoresInMember meaning asks o x y → Alike (sent_so asks) x y
    in_member None is h = stays h
    in_member (Some m) is (m', becomes, does) = entry m m' is becomes does does.entry

    by : (ended : Bool) → StoresUnless ended meaning asks x y → Alike (sent_so asks) x y
    by true h = stays h
    by false h = in_member x.member refl h

sending_stores : {H : Type 0} (meaning : H → Meaning) (place : ℕ) (asks : Option Effect) (old mid : Engine H) → (length old.invocations.items ≤ place → asks ≡ None) → ChangesAt place (StoresIn meaning asks) old mid → Sending old.invocations.items mid.invocations.items (sent_so asks)
sending_stores {H} meaning place asks old mid nobody d = by d.1
  where
    by : NoneAt place old.invocations.items mid.invocations.items ⊎ ChangesOne place (StoresIn meaning asks) old.invocations.items mid.invocations.items → Sending old.invocations.items mid.invocations.items (sent_so asks)
    by (inl h) = subst (λ o. Sending old.invocations.items mid.invocations.items (sent_so o)) (sym (nobody h.0)) (sending_none old.invocations.items mid.invocations.items h.1)
    by (inr c) = sending_change place (StoresIn meaning asks) old.invocations.items mid.invocations.items (sent_so asks) (λ a b was h. stores_alike meaning asks a b h) c

-- ---- a signal is sent

-- one signal more waits
record Gets {H : Type 0} (s : Sent) (a b : Invocation H) : Type 0 where
  id : b.id ≡ a.id
  each : (m : MemberView H) → a.member ≡ Some m → (m' : MemberView H) × (b.member ≡ Some m') × ((test : SignalTest) → signals_for test m' ≡ signals_for test m + passes test (signal_note s.signal s.brings))
  back : (m' : MemberView H) → b.member ≡ Some m' → (m : MemberView H) × (a.member ≡ Some m)
  sent : (test : SignalTest) (id : List ℕ) → sent_from test id b.member ≡ sent_from test id a.member

sum_more : (come wait wait' n : ℕ) → wait' ≡ wait + n → come + wait' ≡ (come + wait) + n
sum_more come wait wait' n e = omega (arith, e)

gets : {H : Type 0} (s : Sent) (a b : Invocation H) → MemberGoes (λ x y. y ≡ with_signal s.signal s.brings x) a b → Gets s a b
gets {H} s a b d = by a.member refl d
  where
    by : (o : Option (MemberView H)) → a.member ≡ o → GoesIn (λ x y. y ≡ with_signal s.signal s.brings x) o a b → Gets s a b
    by None was same = record {
      id = ap (λ (z : Invocation H). z.id) same;
      each = λ m is. absurd (none_some m (sym was ∙ is));
      back = λ m is. absurd (none_some m (sym was ∙ sym (ap (λ (z : Invocation H). z.member) same) ∙ is));
      sent = λ test id. ap (λ (z : Invocation H). sent_from test id z.member) same;
    }
    by (Some m) was (m', is, becomes) = record {
      id = ap (λ (z : Invocation H). z.id) is;
      each = λ x is_x. (
        m',
        ap (λ (z : Invocation H). z.member) is,
        λ test. ap (signals_for test) becomes ∙ sum_more (come_in test m.course.journal) (wait_in test m.waiting) (wait_in test (m.waiting ++ waiting.Signal s.signal s.brings ∷ [])) (passes test (signal_note s.signal s.brings)) (wait_more test m.waiting (waiting.Signal s.signal s.brings))
            ∙ ap (λ (z : MemberView H). signals_for test z + passes test (signal_note s.signal s.brings)) (some_in a.member m x was is_x),
      );
      back = λ x is_x. (m, was);
      sent = λ test id. ap (λ (z : Invocation H). sent_from test id z.member) is ∙ ap (λ (z : MemberView H). sent_in test id z.course.journal) becomes ∙ ap (sent_from test id) (sym was);
    }

got_most : (a h s t n : ℕ) → a ≡ h → t ≡ s + n → a + s ≤ h + t
got_most a h s t n e f = omega (arith, e, f)

got_exact : (a h s t n : ℕ) → a ≡ h → t ≡ s + n → n ≡ 0 → a + s ≡ h + t
got_exact a h s t n e f g = omega (arith, e, f, g)

got_one : (b a h s t n p : ℕ) → b ≡ a + p → a ≡ h → t ≡ s + n → n ≡ p → b + s ≡ h + t
got_one b a h s t n p e f g k = omega (arith, e, f, g, k)

kept_sum : (new was old now : ℕ) → new + was ≡ old + now → now ≡ was → new ≡ old
kept_sum new was old now e f = omega (arith, e, f)

same_place : (a b : ℕ) → Some a ≡ Some b → a ≡ b
same_place a b e = cc

module _ {H : Type 0} (old mid new : List (Invocation H)) (s : Sent) (z : Sending old mid (sent_so (Some (effect.Send s)))) where
  abbrev sends : SignalTest → List ℕ → ℕ
  sends test id = sends_by test id (Some (effect.Send s))

  not_to : (id : List ℕ) → is_text id s.to ≡ false → (test : SignalTest) → sends test id ≡ 0
  not_to id e test = ap (λ b. if b && test (signal_note s.signal s.brings) then 1 else 0) e

  just_to : (id : List ℕ) → is_text id s.to ≡ true → (test : SignalTest) → sends test id ≡ passes test (signal_note s.signal s.brings)
  just_to id e test = ap (λ b. if b && test (signal_note s.signal s.brings) then 1 else 0) e

  -- it isn't sent to one that isn't the first of the id that it names
  apart : (id : List ℕ) (i : ℕ) → (place_of mid s.to ≡ Some i → ⊥) → place_of old id ≡ Some i → (test : SignalTest) → sends test id ≡ 0
  apart id i other place = by (is_text id s.to) refl
    where
      by : (b : Bool) → is_text id s.to ≡ b → (test : SignalTest) → sends test id ≡ 0
      by false e = not_to id e
      by true e = absurd (other (ap (place_of mid) (sym (same_text id s.to (sym e))) ∙ place_stays old mid id i z.ids place))

  -- nobody gets it
  sent_to_nobody : place_of mid s.to ≡ None → new ≡ mid → Fair old new
  sent_to_nobody none same = subst (Fair old) (sym same) (fair_from old mid z.ids each (λ i it m was is. inl (z.back i it m was is)))
    where
      each : EachBalances old mid
      each i it m was is =
          let (x, a, there, is_x, alike) = z.each i it m was is in (
            x,
            a,
            there,
            is_x,
            record {
              most = λ test. got_most (signals_for test a) (signals_for test m) (sent_to_id test it.id old) (sent_to_id test it.id mid) (sends test it.id) (alike test) (z.sent test it.id);
              just_so = λ place test. got_exact (signals_for test a) (signals_for test m) (sent_to_id test it.id old) (sent_to_id test it.id mid) (sends test it.id) (alike test) (z.sent test it.id) (apart it.id i (λ e. none_some i (sym none ∙ e)) place test);
            },
          )

  -- the one at its place gets it
  module _ (place : ℕ) (first : place_of mid s.to ≡ Some place) (c : ChangesOne place (MemberGoes (λ x y. y ≡ with_signal s.signal s.brings x)) mid new) where
    abbrev Waits : Invocation H → Invocation H → Type 0
    Waits = MemberGoes (λ x y. y ≡ with_signal s.signal s.brings x)

    got : Gets s c.before c.after
    got = gets s c.before c.after c.does

    named : is_text c.before.id s.to ≡ true
    named = ap (λ (x : Invocation H). is_text x.id s.to) c.is ∙ (position-Some (λ (it : Invocation H). is_text it.id s.to) mid place c.before first).1

    sent_on : (test : SignalTest) (id : List ℕ) → sent_to_id test id new ≡ sent_to_id test id mid
    sent_on test id =
        let g : Invocation H → ℕ = λ it. sent_from test id it.member in
        kept_sum (sent_to_id test id new) (g c.before) (sent_to_id test id mid) (g c.after) (ap (λ xs. sum_by g xs + g c.before) c.becomes ∙ ap (λ x. sum_by g (slice_set mid place c.after) + g x) c.is ∙ sum_by-set g mid place c.after c.before c.there) (got.sent test id)

    sent_all : (test : SignalTest) (id : List ℕ) → sent_to_id test id new ≡ sent_to_id test id old + sends test id
    sent_all test id = sent_on test id ∙ z.sent test id

    is_before : (i : ℕ) (x : Invocation H) → i ≡ place → slice_get mid i ≡ Some x → c.before ≡ x
    is_before i x same there = some_in (slice_get mid i) c.before x (ap (slice_get mid) same ∙ before_at place Waits mid new c) there

    is_after : (i : ℕ) → i ≡ place → slice_get new i ≡ Some c.after
    is_after i same = ap (slice_get new) same ∙ after_at place Waits mid new c

    ids_on : SameIds mid new
    ids_on i x there = elim (cases_eq i place) as (λ _. (y : Invocation H) × (slice_get new i ≡ Some y) × (y.id ≡ x.id)) [
      | inl same ↦ (c.after, is_after i same, got.id ∙ ap (λ (v : Invocation H). v.id) (is_before i x same there))
      | inr ne ↦ (x, others_at place Waits mid new c i ne ∙ there, refl)
    ]

    each_on : EachBalances old new
    each_on i it m was is =
        let (x, a, there, is_x, alike) = z.each i it m was is in
        let (w, found, as_id) = z.ids i it was in
        let id : x.id ≡ it.id = ap (λ (v : Invocation H). v.id) (some_in (slice_get mid i) x w there found) ∙ as_id in
        elim (cases_eq i place) as (λ _. (y : Invocation H) × (b : MemberView H) × (slice_get new i ≡ Some y) × (y.member ≡ Some b) × Balance i it.id m b old new) [
          | inl same ↦
              let (b, is_b, one) = got.each a (ap (λ (v : Invocation H). v.member) (is_before i x same there) ∙ is_x) in
              let to_it : is_text it.id s.to ≡ true = ap (λ t. is_text t s.to) (sym id ∙ sym (ap (λ (v : Invocation H). v.id) (is_before i x same there))) ∙ named in
              let just : (test : SignalTest) → signals_for test b + sent_to_id test it.id old ≡ signals_for test m + sent_to_id test it.id new = λ test. got_one (signals_for test b) (signals_for test a) (signals_for test m) (sent_to_id test it.id old) (sent_to_id test it.id new) (sends test it.id) (passes test (signal_note s.signal s.brings)) (one test) (alike test) (sent_all test it.id) (just_to it.id to_it test) in (
                c.after,
                b,
                is_after i same,
                is_b,
                record {
                  most = λ test. same_most (signals_for test b + sent_to_id test it.id old) (signals_for test m + sent_to_id test it.id new) (just test);
                  just_so = λ at test. just test;
                },
              )
          | inr ne ↦ (
            x,
            a,
            others_at place Waits mid new c i ne ∙ there,
            is_x,
            record {
              most = λ test. got_most (signals_for test a) (signals_for test m) (sent_to_id test it.id old) (sent_to_id test it.id new) (sends test it.id) (alike test) (sent_all test it.id);
              just_so = λ at test. got_exact (signals_for test a) (signals_for test m) (sent_to_id test it.id old) (sent_to_id test it.id new) (sends test it.id) (alike test) (sent_all test it.id) (apart it.id i (λ e. ne (same_place i place (sym e ∙ first))) at test);
            },
          )
        ]

    back_on : (i : ℕ) (y : Invocation H) (b : MemberView H) → slice_get new i ≡ Some y → y.member ≡ Some b → Before old i
    back_on i y b now is = elim (cases_eq i place) as (λ _. Before old i) [
      | inl same ↦
          let (a, lives) = got.back b (ap (λ (v : Invocation H). v.member) (some_in (slice_get new i) c.after y (is_after i same) now) ∙ is) in
          z.back i c.before a (ap (slice_get mid) same ∙ before_at place Waits mid new c) lives
      | inr ne ↦ z.back i y b (sym (others_at place Waits mid new c i ne) ∙ now) is
    ]

    sent_to_one : Fair old new
    sent_to_one = fair_from old new (ids_then old mid new z.ids ids_on) each_on (λ i y b now is. inl (back_on i y b now is))

place_within : {H : Type 0} (its : List (Invocation H)) (id : List ℕ) (place : ℕ) → place_of its id ≡ Some place → place < length its
place_within [] id place e = absurd (cc)
place_within {H} (x ∷ xs) id place e = (position-Some (λ (it : Invocation H). is_text it.id id) (x ∷ xs) place x e).0

fair_sends : {H : Type 0} (o : Option ℕ) (s : Sent) (old : List (Invocation H)) (mid new : Engine H) → Sending old mid.invocations.items (sent_so (Some (effect.Send s))) → place_of mid.invocations.items s.to ≡ o → SendsToPlace o s mid new → Fair old new.invocations.items
fair_sends None s old mid new z none same = sent_to_nobody old mid.invocations.items new.invocations.items s z none (ap (λ (e : Engine _). e.invocations.items) same)
fair_sends {H} (Some place) s old mid new z first d = by d.1
  where
    by : NoneAt place mid.invocations.items new.invocations.items ⊎ ChangesOne place (MemberGoes (λ x y. y ≡ with_signal s.signal s.brings x)) mid.invocations.items new.invocations.items → Fair old new.invocations.items
    by (inl h) =
        let lt : place < length mid.invocations.items = place_within mid.invocations.items s.to place first in
        absurd (omega (arith, lt, h.0))
    by (inr c) = sent_to_one old mid.invocations.items new.invocations.items s z place first c

-- ---- what a stored entry asks for is done

fair_effect : {H : Type 0} (by : ℕ) (asks : Effect) (old : List (Invocation H)) (mid new : Engine H) → Sending old mid.invocations.items (sent_so (Some asks)) → DoesEffect by asks mid new → Fair old new.invocations.items
fair_effect by (effect.Wait timer) old mid new z d = fair_then old mid.invocations.items new.invocations.items (fair_quiet old mid.invocations.items z) (fair_same mid new d)
fair_effect by (effect.Result ends) old mid new z d = fair_then old mid.invocations.items new.invocations.items (fair_quiet old mid.invocations.items z)
    (fair_changes by (EndsWith ends) mid new (λ a b was is. alike_same a b (ap (λ (v : Invocation _). v.id) is) (ap (λ (v : Invocation _). v.member) is)) d)
fair_effect by (effect.Send s) old mid new z d = fair_sends (place_of mid.invocations.items s.to) s old mid new z refl d
fair_effect by (effect.Begin begun) old mid new z d = fair_then old mid.invocations.items new.invocations.items (fair_quiet old mid.invocations.items z)
    (fair_then mid.invocations.items d.mid.invocations.items new.invocations.items (fair_orders (handler_named mid.targets.now begun.service begun.handler) (order_of begun) (Some (record { by = by; call = begun.id_completes })) d.place mid d.mid d.orders)
    (fair_changes by (AddsCallee (record { call = begun.id_completes; place = d.place })) d.mid new (λ a b was h. alike_same a b (ap (λ (v : Invocation _). v.id) h.0) (ap (λ (v : Invocation _). v.member) h.0)) d.row))

fair_performs : {H : Type 0} (by : ℕ) (asks : Option Effect) (old : List (Invocation H)) (mid new : Engine H) → Sending old mid.invocations.items (sent_so asks) → PerformsIf by asks mid new → Fair old new.invocations.items
fair_performs by None old mid new z d = fair_then old mid.invocations.items new.invocations.items (fair_quiet old mid.invocations.items z) (fair_same mid new d)
fair_performs by (Some asks) old mid new z d = fair_effect by asks old mid new z d

-- ---- an event

stopped_alike : {H : Type 0} (it : Invocation H) (m : MemberView H) → it.member ≡ Some m → (stopped_in it).member ≡ Some (stopped m)
stopped_alike it m is = ap (option_map stopped) is

stopped_sends : {H : Type 0} (test : SignalTest) (id : List ℕ) (its : List (Invocation H)) → sent_to_id test id (map stopped_in its) ≡ sent_to_id test id its
stopped_sends test id [] = refl
stopped_sends {H} test id (x ∷ xs) =
    let g : Invocation H → ℕ = λ it. sent_from test id it.member in
    sum_by-cons g (stopped_in x) (map stopped_in xs) ∙ both_plus (g (stopped_in x)) (g x) (sum_by g (map stopped_in xs)) (sum_by g xs) (one x.member) (stopped_sends test id xs) ∙ sym (sum_by-cons g x xs)
  where
    one : (o : Option (MemberView H)) → sent_from test id (option_map stopped o) ≡ sent_from test id o
    one None = refl
    one (Some m) = refl

fair_stopped : {H : Type 0} (old new : List (Invocation H)) → new ≡ map stopped_in old → Fair old new
fair_stopped {H} old new all = fair_quiet old new (record {
  ids = λ i it was. (stopped_in it, at i ∙ ap (option_map stopped_in) was, refl);
  each = λ i it m was is. (stopped_in it, stopped m, at i ∙ ap (option_map stopped_in) was, stopped_alike it m is, λ test. refl);
  back = λ i it' m' now is. by i it' m' (slice_get old i) refl (sym (at i) ∙ now) is;
  sent = λ test id. ap (sent_to_id test id) all ∙ stopped_sends test id old ∙ sym (plus_none (sent_to_id test id old) 0 refl);
})
  where
    at : (i : ℕ) → slice_get new i ≡ option_map stopped_in (slice_get old i)
    at i = ap (λ l. slice_get l i) all ∙ slice_get-map stopped_in old i

    of : (x : Invocation H) (m' : MemberView H) (o : Option (MemberView H)) → x.member ≡ o → option_map stopped o ≡ Some m' → (m : MemberView H) × (x.member ≡ Some m)
    of x m' None was is = absurd (none_some m' is)
    of x m' (Some m) was is = (m, was)

    by : (i : ℕ) (it' : Invocation H) (m' : MemberView H) (o : Option (Invocation H)) → slice_get old i ≡ o → option_map stopped_in o ≡ Some it' → it'.member ≡ Some m' → Before old i
    by i it' m' None was now is = absurd (none_some it' now)
    by i it' m' (Some x) was now is =
        let (m, has) = of x m' x.member refl (ap (λ (z : Invocation H). z.member) (some_same _ it' now) ∙ is) in
        (x, m, was, has)

fair_begins : {H : Type 0} (may : Bool) (place : ℕ) (old new : Engine H) → BeginsIf may place old new → Fair old.invocations.items new.invocations.items
fair_begins false place old new d = fair_same old new d
fair_begins true place old new d = fair_goes place (GoesBy (BeginsHanded whole_round (base_at old place))) old new (begins_still (base_at old place)) d

fair_event : {H : Type 0} (meaning : H → Meaning) (h : Happening) (old new : Engine H) → HappeningDoes meaning h old new → Fair old.invocations.items new.invocations.items
fair_event meaning (happening.Submit order) old new d = fair_orders (handler_named old.targets.now order.service order.handler) order None d.0 old new d.1
fair_event meaning (happening.Begin place) old new d = fair_begins (may_begin old place) place old new d
fair_event meaning (happening.Act place e) old new d = fair_goes place (λ (m : MemberView _). Acts (meaning m.course.handler) e m) old new (λ m m' k. acts_still (meaning m.course.handler) e m m' k) d
fair_event meaning (happening.Deliver place at) old new d = fair_delivers meaning place at (brought_at old place at) old new refl d
fair_event meaning (happening.Store place) old new d = fair_performs place d.asks old.invocations.items d.mid new (sending_stores meaning place d.asks old d.mid d.nobody d.stores) d.performs
fair_event meaning (happening.Stop place) old new d = fair_goes place (λ a b. b ≡ stopped a) old new (λ m m' is. still_same m m' (ap (λ (z : MemberView _). z.course.journal) is) (ap (λ (z : MemberView _). z.waiting) is)) d
fair_event meaning happening.StopAll old new d = fair_stopped old.invocations.items new.invocations.items d.1
fair_event meaning (happening.Clock t) old new d = fair_quiet old.invocations.items new.invocations.items (sending_none old.invocations.items new.invocations.items (ap (λ (z : Engine _). z.invocations.items) d))

all_fair : {H : Type 0} (meaning : H → Meaning) (es : List Happening) (old new : Engine H) → AllHappen meaning es old new → Fair old.invocations.items new.invocations.items
all_fair meaning [] old new d = fair_same old new d
all_fair meaning (e ∷ es) old new (mid, first, more) = fair_then old.invocations.items mid.invocations.items new.invocations.items (fair_event meaning e old mid first) (all_fair meaning es mid new more)

counted_so : (a b c d a' b' c' d' : ℕ) → a ≡ a' → b ≡ b' → c ≡ c' → d ≡ d' → a' + b' ≡ c' + d' → a + b ≡ c + d
counted_so a b c d a' b' c' d' e f g h k = omega (arith, e, f, g, h, k)

counted_most : (a b a' b' : ℕ) → a ≡ a' → b ≡ b' → a' ≤ b' → a ≤ b
counted_most a b a' b' e f k = omega (arith, e, f, k)

-- over all events each signal comes once
pub signals_come : {H : Type 0} (meaning : H → Meaning) (es : List Happening) (old new : Engine H) → AllHappen meaning es old new → SignalsComeOnce old new
signals_come meaning es old new d by it m was is first =
    let (later, rounds, there, has, b) = (all_fair meaning es old new d).each by it m was is in
    record {
      later = later;
      there = there;
      rounds = rounds;
      is = has;
      once = λ test. counted_so (passing test (signals_of rounds)) (passing test (signals_to it.id old.invocations.items)) (passing test (signals_of m)) (passing test (signals_to it.id new.invocations.items))
          (signals_for test rounds) (sent_to_id test it.id old.invocations.items) (signals_for test m) (sent_to_id test it.id new.invocations.items)
          (count_of test rounds) (count_to test it.id old.invocations.items) (count_of test m) (count_to test it.id new.invocations.items) (b.just_so first test);
    }

-- and none comes from nowhere
pub none_from_nowhere : {H : Type 0} (meaning : H → Meaning) (es : List Happening) (old new : Engine H) → old.invocations.items ≡ [] → AllHappen meaning es old new → NoneFromNowhere new
none_from_nowhere meaning es old new none d by it m was is test = counted_most (passing test (signals_of m)) (passing test (signals_to it.id new.invocations.items)) (signals_for test m) (sent_to_id test it.id new.invocations.items)
    (count_of test m) (count_to test it.id new.invocations.items)
    ((all_fair meaning es old new d).most (λ i x y at has. absurd (none_some x (ap (λ l. slice_get l i) (sym none) ∙ at))) by it m was is test)
