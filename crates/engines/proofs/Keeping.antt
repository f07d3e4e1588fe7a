-- Calls are kept over each event of an engine.
use Rattle.std.proofs.Common.{◌≡◌, ◌⊎◌, inl, inr, ℕ, ◌<◌, ◌≤◌, max, Bool, true, false, cond, List, [], ◌∷◌, ◌++◌, length, map, Option, Some, None, refl, sym, ap, ◌∙◌, subst, arith, append-nil}
use Rattle.std.specs.Prelude.{slice_get, slice_index_or, flat_map, position, ◌==◌, if◌then◌else◌, is_some, nat_le, nat_lt}
use Rattle.std.specs.List.{AllByRecursion, AllZip, remove}
use Rattle.std.specs.Option.{option_and_then, option_map, option_or}
use Rattle.std.proofs.lemmas.Bool.{cases_eq}
use Rattle.std.proofs.lemmas.Bool.Decides.{nat_tests}
use Rattle.std.proofs.lemmas.List.Folds.{find-append}
use Rattle.std.proofs.lemmas.List.Quantifiers.{position-Some}
use Rattle.std.proofs.lemmas.Option.{get_or_from_slice_get, slice_get-get_or, slice_get-map}
use Rattle.journal_protocol.specs.Frames.{IsWhole}
use Rattle.journal_protocol.specs.Message.{Message}
use Rattle.journal_protocol.specs.Message.TheVariants as message
use Rattle.journal_protocol.specs.Notification.{Notification}
use Rattle.journal_protocol.specs.NotificationResult.TheVariants as result
use Rattle.journal_protocol.specs.ValueOrFailure.{ValueOrFailure}
use Rattle.journal_entries.specs.declared.completions.Completes.{Completes}
use Rattle.journal_entries.specs.Entries.{note_in, notes_in, said_at}
use Rattle.journal_entries.specs.JournalFrames.{notified_by}
use Rattle.journal_entries.proofs.Framing.{notes_append}
use Rattle.vm_model.specs.Calls.{Meaning}
use Rattle.journal_store.specs.Effects.{effect_of}
use Rattle.journal_store.specs.declared.effect.Beginning.{Beginning}
use Rattle.journal_store.specs.declared.effect.Effect.{Effect}
use Rattle.journal_store.specs.declared.effect.Effect.TheVariants as effect
use Rattle.engine_inboxes.specs.declared.types.Brought.{Brought}
use Rattle.engine_inboxes.specs.declared.types.Brought.TheVariants as brought
use Rattle.engine_inboxes.specs.declared.types.Waiting.{Waiting}
use Rattle.engine_inboxes.specs.declared.types.Waiting.TheVariants as waiting
use Rattle.engine_inboxes.specs.Notes.{completion, note_by}
use Rattle.engine_inboxes.specs.Deliverable.{CanAllCome, CanCome, Entered, IsProposedApart, IsUnknownFrom, IsUnwaited, Known, MayBeStored, effect_at, effect_said, id_is_waited, kind_of, kinds_in, past_said, waited_by, waits_for_id}
use Rattle.engine_inboxes.proofs.Coming.{FitsId, command_adds, fits, none_some, note_said, said_note, some_same}
use Rattle.world_rounds.specs.declared.types.Event.{Event}
use Rattle.world_rounds.specs.declared.types.Event.TheVariants as event
use Rattle.journal_store.specs.declared.effect.Sent.{Sent}
use Rattle.world_rounds.specs.Course.{CourseView, HappensTo}
use Rattle.world_rounds.specs.Rounds.{Now}
use Rattle.engines.specs.declared.engine.Engine.{Engine}
use Rattle.engines.specs.declared.engine.Invocation.{Invocation}
use Rattle.engine_inboxes.specs.declared.order.Begun.{Begun}
use Rattle.engine_inboxes.specs.declared.order.Callee.{Callee}
use Rattle.engines.specs.declared.types.Happening.{Happening}
use Rattle.engines.specs.declared.types.Happening.TheVariants as happening
use Rattle.engine_inboxes.specs.declared.order.Order.{Order}
use Rattle.engines.specs.Between.{AllKept, GetsId, GetsResult, HasBegun, HasTurn, IsOneOf, IsBegunOnce, IsCalleeOf, IsRight, IsRightNote, IsRowOf, KeepsCalls, WasBegun, called_by, called_in, stored_result, results_by, waited_in}
use Rattle.engines.specs.Beginnings.{entry_of_input}
use Rattle.engines.specs.Engines.{AddsCallee, AllHappen, BeginsFor, BeginsIf, ChangesAt, DeliversIf, DeliversTo, DeliversUnless, EndsWith, FindsOrMakes, GoesIn, HappeningDoes, MakesInvocation, MemberGoes, Orders, OrdersOf, PerformsIf, SendsToPlace, StoresAndPerforms, StoresIn, StoresInMember, StoresUnless, brought_at, brought_in, brought_of, new_member, order_of, stopped_in, whole_round}
use Rattle.engine_inboxes.specs.Targets.{handler_named}
use Rattle.engines.specs.Lookups.{brought_for, callee_in, callee_of, callee_id, id_of_place, is_same, may_begin, place_of, callee_result, same_as, same_by}
use Rattle.engines.specs.HandedOn.{BeginsHanded, base_at}
use Rattle.engines.specs.Members.{Acts, ArrivesFromInbox, Delivers, GoesBy, MemberView, NoEntry, StoresEntry, StoresNextEntry, with_signal, stopped}
use Rattle.engines.proofs.Among.{all_among, all_push, all_with, among_at, among_either, get_last, get_left, get_pushed, get_within, first_none, one_each, waited_among, zip_push, zip_with}
use Rattle.engines.proofs.Beginnings.{begins_leaves}
use Rattle.engines.proofs.Books.{Book, book_came, book_command, book_proposal, book_signal, called_more, called_same, done_true, nothing_asked, results_more, waited_more, waited_same}
use Rattle.engines.proofs.Growing.{Grows, GrowsOne, HasFirst, Seen, begins_in_turn, grows_not, grows_same, grows_seen, grows_then, once_grows, one_then, place_grows, right_grows, row_grows, seen_at, some_in, turn_grows}
use Rattle.engines.proofs.Storing.{IsUndone, IsUndoneId, input_note, input_quiet, input_unknown, own_leaves, stored_facts}

-- An invocation keeps calls, and what waits for it is in order.
pub record Kept {H : Type 0} (e : Engine H) (by : ℕ) (it : Invocation H) : Type 0 where
  pub rounds : MemberView H
  pub there : it.member ≡ Some rounds
  pub keeps : KeepsCalls e by it.callees.items it.ended it.begun rounds.course.journal
  pub book : Book rounds.course.journal rounds.waiting rounds.next
  pub turn : HasBegun rounds → HasTurn e by it

abbrev pub Keeps : {H : Type 0} → Engine H → Type 0
Keeps {H} e = (by : ℕ) (it : Invocation H) → slice_get e.invocations.items by ≡ Some it → Kept e by it

pub all_kept : {H : Type 0} (e : Engine H) → Keeps e → AllKept e
all_kept e k by it is = let h = k by it is in record { rounds = h.rounds; there = h.there; keeps = h.keeps; turn = h.turn }

-- ---- the others

keeps_grows : {H : Type 0} (old new : Engine H) (by : ℕ) (rows : List Callee) (ended : Option ValueOrFailure) (begun : Option Begun) (journal : List (List ℕ)) → Grows old new → KeepsCalls old by rows ended begun journal → KeepsCalls new by rows ended begun journal
keeps_grows old new by rows ended begun journal g k = record {
  calls = zip_with (IsRowOf old by) (IsRowOf new by) (called_in journal) rows (λ b row h. row_grows old new by b row g h) k.calls;
  once = k.once;
  notes = all_with (IsRightNote old by (waited_in journal)) (IsRightNote new by (waited_in journal)) (notes_in journal) (λ n _ h w id a e f. right_grows old new by w n.result g (h w id a e f)) k.notes;
  result = k.result;
  beginning = once_grows old new by begun g k.beginning;
}

kept_grows : {H : Type 0} (old new : Engine H) (by : ℕ) (it : Invocation H) → Grows old new → Kept old by it → Kept new by it
kept_grows old new by it g k = record { rounds = k.rounds; there = k.there; keeps = keeps_grows old new by it.callees.items it.ended it.begun k.rounds.course.journal g k.keeps; book = k.book; turn = λ b. turn_grows old new by it it g (grows_not it) (k.turn b) }

kept_same : {H : Type 0} (old new : Engine H) → old.clock ≤ new.clock → new.targets ≡ old.targets → new.invocations.items ≡ old.invocations.items → Keeps old → Keeps new
kept_same old new clock targets same k by it e = kept_grows old new by it (grows_same old new clock targets same) (k by it (ap (λ l. slice_get l by) (sym same) ∙ e))

kept_seen : {H : Type 0} (place : ℕ) (R : Invocation H → Invocation H → Type 0) (old new : Engine H) → Keeps old → Grows old new → (s : Seen place R old.invocations.items new.invocations.items) → Kept new place s.after → Keeps new
kept_seen place R old new k g s here by it e = elim (cases_eq by place) as (λ _. Kept new by it) [
  | inl same ↦
      let a : s.after ≡ it = some_in (slice_get new.invocations.items place) s.after it s.is (ap (slice_get new.invocations.items) (sym same) ∙ e) in
      subst (λ p. Kept new p it) (sym same) (subst (λ z. Kept new place z) a here)
  | inr ne ↦ kept_grows old new by it g (k by it (sym (s.others by ne) ∙ e))
]

-- ---- changes of the rounds alone

clock_le : {H : Type 0} (old new : Engine H) → new ≡ record old { invocations = new.invocations } → old.clock ≤ new.clock
clock_le old new e = let h : new.clock ≡ old.clock = ap (λ (z : Engine _). z.clock) e in omega (arith, h)

targets_same : {H : Type 0} (old new : Engine H) → new ≡ record old { invocations = new.invocations } → new.targets ≡ old.targets
targets_same old new e = ap (λ (z : Engine _). z.targets) e

-- the journal begins as it did
abbrev BeginsAlike : {H : Type 0} → MemberView H → MemberView H → Type 0
BeginsAlike m m' = (x : List ℕ) → slice_get m.course.journal 0 ≡ Some x → slice_get m'.course.journal 0 ≡ Some x

member_grows : {H : Type 0} (before after : Invocation H) (m m' : MemberView H) → before.member ≡ Some m → after ≡ record before { member = Some m' } → BeginsAlike m m' → GrowsOne before after
member_grows before after m m' there is alike = subst (λ z. GrowsOne before z) (sym is) (record {
  same = refl;
  rows = λ call row e. e;
  ended = λ r e. e;
  first = λ x h. alike x (subst (HasFirst x) there h);
})

-- neither the journal nor what waits for an id changes
abbrev Quiet : {H : Type 0} → MemberView H → MemberView H → Type 0
Quiet m m' = (m'.course.journal ≡ m.course.journal)
    × (Book m.course.journal m.waiting m.next → Book m.course.journal m'.waiting m'.next)

quiet_alike : {H : Type 0} (m m' : MemberView H) → Quiet m m' → BeginsAlike m m'
quiet_alike m m' q x e = ap (λ l. slice_get l 0) q.0 ∙ e

kept_quiet : {H : Type 0} (old new : Engine H) (place : ℕ) (before after : Invocation H) (m' : MemberView H) → Grows old new → (k : Kept old place before) → after ≡ record before { member = Some m' } → Quiet k.rounds m' → (HasBegun m' → HasTurn old place before) → Kept new place after
kept_quiet old new place before after m' g k is q turn = subst (λ z. Kept new place z) (sym is) (record {
  rounds = m';
  there = refl;
  keeps = subst (λ j. KeepsCalls new place before.callees.items before.ended before.begun j) (sym q.0) (keeps_grows old new place before.callees.items before.ended before.begun k.rounds.course.journal g k.keeps);
  book = subst (λ j. Book j m'.waiting m'.next) (sym q.0) (q.1 k.book);
  turn = λ b. turn_grows old new place before (record before { member = Some m' }) g (member_grows before (record before { member = Some m' }) k.rounds m' k.there refl (quiet_alike k.rounds m' q)) (turn b);
})

-- if it has begun then, it had, or it is its turn
abbrev Turns : {H : Type 0} → ℕ → (MemberView H → MemberView H → Type 0) → Engine H → Type 0
Turns {H} place R old = (before : Invocation H) (m m' : MemberView H) → slice_get old.invocations.items place ≡ Some before → R m m' → HasBegun m' → HasBegun m ⊎ HasTurn old place before

-- by the same rounds it had begun, or hadn't
pub begun_same : {H : Type 0} (m m' : MemberView H) → m'.course ≡ m.course → HasBegun m' → HasBegun m
begun_same m m' e b = subst (λ (c : CourseView _). (is_some c.live ≡ true) ⊎ (1 < length c.journal)) e b

-- an event happens only to what has begun
pub begun_before : {H : Type 0} (f : Meaning) (e : Event) (m m' : MemberView H) → HappensTo f e m.course.live m.course m'.course → HasBegun m' → HasBegun m
begun_before {H} f e m m' h b = of m.course.live refl h
  where
    of : (o : Option Now) → m.course.live ≡ o → HappensTo f e o m.course m'.course → HasBegun m
    of None was same = begun_same m m' same b
    of (Some now) was x = inl (ap is_some was)

quiet_changes : {H : Type 0} (place : ℕ) (R : MemberView H → MemberView H → Type 0) (old new : Engine H) → ((m m' : MemberView H) → R m m' → Quiet m m') → Turns place R old → ChangesAt place (MemberGoes R) old new → Keeps old → Keeps new
quiet_changes place R old new quiet turns (e, which) k = elim (seen_at place (MemberGoes R) old.invocations.items new.invocations.items which) as (λ _. Keeps new) [
  | inl u ↦ kept_same old new (clock_le old new e) (targets_same old new e) u.same k
  | inr s ↦
      let b = k place s.before s.was in
      let (m', is, r) = subst (λ o. GoesIn R o s.before s.after) b.there s.does in
      let q = quiet b.rounds m' r in
      let g = grows_seen place (MemberGoes R) old new (clock_le old new e) (targets_same old new e) s (member_grows s.before s.after b.rounds m' b.there is (quiet_alike b.rounds m' q)) in
      kept_seen place (MemberGoes R) old new k g s (kept_quiet old new place s.before s.after m' g b is q (λ begun. elim (turns s.before b.rounds m' s.was r begun) as (λ _. HasTurn old place s.before) [ inl h ↦ b.turn h | inr h ↦ h ]))
]

goes_quiet : {H : Type 0} (m m' : MemberView H) → m' ≡ record m { course = m'.course } → m'.course.journal ≡ m.course.journal → Quiet m m'
goes_quiet m m' e j = (j, λ b. subst (λ (z : MemberView _). Book m.course.journal z.waiting z.next) (sym e) b)

same_quiet : {H : Type 0} (m m' : MemberView H) → m' ≡ m → Quiet m m'
same_quiet m m' e = (ap (λ (z : MemberView _). z.course.journal) e, λ b. subst (λ (z : MemberView _). Book m.course.journal z.waiting z.next) (sym e) b)

acts_quiet : {H : Type 0} (f : Meaning) (e : Event) (m m' : MemberView H) → Acts f e m m' → Quiet m m'
acts_quiet f (event.Arrive x) m m' h = same_quiet m m' h
acts_quiet f (event.Store n) m m' h = same_quiet m m' h
acts_quiet f (event.Piece n) m m' h = goes_quiet m m' h.0 (own_leaves f (event.Piece n) m.course.live m.course m'.course tt h.1)
acts_quiet f event.Close m m' h = goes_quiet m m' h.0 (own_leaves f event.Close m.course.live m.course m'.course tt h.1)
acts_quiet f event.Step m m' h = goes_quiet m m' h.0 (own_leaves f event.Step m.course.live m.course m'.course tt h.1)
acts_quiet f (event.Steps n) m m' h = goes_quiet m m' h.0 (own_leaves f (event.Steps n) m.course.live m.course m'.course tt h.1)
acts_quiet f (event.RunResult handle exit policy) m m' h = goes_quiet m m' h.0 (own_leaves f (event.RunResult handle exit policy) m.course.live m.course m'.course tt h.1)

pub acts_begun : {H : Type 0} (f : Meaning) (e : Event) (m m' : MemberView H) → Acts f e m m' → HasBegun m' → HasBegun m
acts_begun f (event.Arrive x) m m' h b = begun_same m m' (ap (λ (z : MemberView _). z.course) h) b
acts_begun f (event.Store n) m m' h b = begun_same m m' (ap (λ (z : MemberView _). z.course) h) b
acts_begun f (event.Piece n) m m' h b = begun_before f (event.Piece n) m m' h.1 b
acts_begun f event.Close m m' h b = begun_before f event.Close m m' h.1 b
acts_begun f event.Step m m' h b = begun_before f event.Step m m' h.1 b
acts_begun f (event.Steps n) m m' h b = begun_before f (event.Steps n) m m' h.1 b
acts_begun f (event.RunResult handle exit policy) m m' h b = begun_before f (event.RunResult handle exit policy) m m' h.1 b

-- ---- a delivery

-- what something becomes by what is there for it is right
right_by : {H : Type 0} (e : Engine H) (by : ℕ) (w : Waiting) (b : Brought) (n : Notification) → brought_for e by w ≡ Some b → note_by w b ≡ Some n → IsRight e by w n.result
right_by {H} e by (waiting.Signal s r) b n h f = tt
right_by {H} e by (waiting.Clock timer) b n h f = of (nat_le timer.due e.clock) refl (ap (note_by (waiting.Clock timer)) (some_same _ b h) ∙ f)
  where
    of : (z : Bool) → nat_le timer.due e.clock ≡ z → (if z then Some (completion timer.completes result.Void) else None) ≡ Some n → (n.result ≡ result.Void) × (timer.due ≤ e.clock)
    of true t g = (sym (ap (λ (x : Notification). x.result) (some_same _ n g)), grind (arith, nat_tests))
    of false t g = absurd (none_some n g)
right_by {H} e by (waiting.Id call) b n h f = of (callee_of e.invocations.items by call) refl h
  where
    named : (row : Callee) (o : Option (List ℕ)) → callee_of e.invocations.items by call ≡ Some row → callee_id e.invocations.items row.place ≡ o → option_map brought.Id o ≡ Some b → GetsId e by call n.result
    named row None c i g = absurd (none_some b g)
    named row (Some text) c i g = record {
      row = row;
      called = c;
      text = text;
      named = i;
      gets = sym (ap (λ (x : Notification). x.result) (some_same _ n (ap (note_by (waiting.Id call)) (some_same _ b g) ∙ f)));
    }

    of : (o : Option Callee) → callee_of e.invocations.items by call ≡ o → option_and_then (λ row. option_map brought.Id (callee_id e.invocations.items row.place)) o ≡ Some b → GetsId e by call n.result
    of None c g = absurd (none_some b g)
    of (Some row) c g = named row (callee_id e.invocations.items row.place) c refl g
right_by {H} e by (waiting.Outcome id call) b n h f = of (callee_of e.invocations.items by call) refl h
  where
    ended : (row : Callee) (o : Option ValueOrFailure) → callee_of e.invocations.items by call ≡ Some row → callee_result e.invocations.items row.place ≡ o → option_map brought.Outcome o ≡ Some b → GetsResult e by call n.result
    ended row None c i g = absurd (none_some b g)
    ended row (Some ends) c i g = record {
      row = row;
      called = c;
      ends = ends;
      ended = i;
      gets = sym (ap (λ (x : Notification). x.result) (some_same _ n (ap (note_by (waiting.Outcome id call)) (some_same _ b g) ∙ f)));
    }

    of : (o : Option Callee) → callee_of e.invocations.items by call ≡ o → option_and_then (λ row. option_map brought.Outcome (callee_result e.invocations.items row.place)) o ≡ Some b → GetsResult e by call n.result
    of None c g = absurd (none_some b g)
    of (Some row) c g = ended row (callee_result e.invocations.items row.place) c refl g

-- the notifications after one more, of which the new one is right
notes_came : {H : Type 0} (e : Engine H) (by : ℕ) (journal : List (List ℕ)) (entry : List ℕ) (ws : List Waiting) (next i : ℕ) (w : Waiting) (b : Brought) (n : Notification) → i < length ws → w ≡ slice_index_or ws i w → note_by w b ≡ Some n → note_in entry ≡ Some n → Book journal ws next → IsRight e by w n.result → AllByRecursion (IsRightNote e by (waited_in journal)) (notes_in journal) → AllByRecursion (IsRightNote e by (waited_in (journal ++ entry ∷ []))) (notes_in (journal ++ entry ∷ []))
notes_came e by journal entry ws next i w b n lt at becomes noted book right notes =
    let same : waited_in (journal ++ entry ∷ []) ≡ waited_in journal = waited_same journal entry (nothing_asked entry (note_said entry n noted)) in
    let more : notes_in (journal ++ entry ∷ []) ≡ notes_in journal ++ n ∷ [] = notes_append journal (entry ∷ []) ∙ ap (λ o. notes_in journal ++ notified_by o []) noted in
    let own : IsRightNote e by (waited_in journal) n = λ v id h is f.
    let fit = subst (λ i. FitsId w i n.result) is (fits w b n becomes) in
    let v_is : v ≡ w = one_each (waited_in journal) v w id book.ever.once h (book.from w id (among_at ws i w lt at) fit.0) f fit.0 in
    subst (λ z. IsRight e by z n.result) (sym v_is) right in
    subst (λ l. AllByRecursion (IsRightNote e by l) (notes_in (journal ++ entry ∷ []))) (sym same)
    (subst (λ l. AllByRecursion (IsRightNote e by (waited_in journal)) l) (sym more) (all_push (IsRightNote e by (waited_in journal)) (notes_in journal) n notes own))

results_same : (journal : List (List ℕ)) (entry : List ℕ) → results_by (effect_at entry) ≡ [] → stored_result (journal ++ entry ∷ []) ≡ stored_result journal
results_same journal entry e = ap (λ l. slice_get l 0) (results_more journal entry ∙ ap (λ l. flat_map (λ x. results_by (effect_at x)) journal ++ l) e ∙ append-nil (flat_map (λ x. results_by (effect_at x)) journal))

begins_on : (journal : List (List ℕ)) (entry x : List ℕ) → slice_get journal 0 ≡ Some x → slice_get (journal ++ entry ∷ []) 0 ≡ Some x
begins_on journal entry x e = get_left journal (entry ∷ []) 0 x e

-- what is there, where the invocation and its rounds are
pub brought_is : {H : Type 0} (e : Engine H) (place at : ℕ) (it : Invocation H) (m : MemberView H) (b : Brought) → slice_get e.invocations.items place ≡ Some it → it.member ≡ Some m → brought_at e place at ≡ Some b → (w : Waiting) × (slice_get m.waiting at ≡ Some w) × (brought_for e place w ≡ Some b)
brought_is {H} e place at it m b was there h = of (slice_get m.waiting at) (sym (ap (brought_in e place at) there) ∙ sym (ap (brought_of e place at) was) ∙ h)
  where
    of : (o : Option Waiting) → option_and_then (brought_for e place) o ≡ Some b → (w : Waiting) × (o ≡ Some w) × (brought_for e place w ≡ Some b)
    of None g = absurd (none_some b g)
    of (Some w) g = (w, refl, g)

arrived_kept : {H : Type 0} (old new : Engine H) (place at : ℕ) (b : Brought) (f : Meaning) (before after : Invocation H) (m' : MemberView H) → Grows old new → (k : Kept old place before) → slice_get old.invocations.items place ≡ Some before → brought_at old place at ≡ Some b → after ≡ record before { member = Some m' } → ArrivesFromInbox at b f k.rounds m' → Kept new place after
arrived_kept old new place at b f before after m' g k was there is a =
    let m = k.rounds in
    let (w, got, brings) = brought_is old place at before m b was k.there there in
    let lt : at < length m.waiting = get_within m.waiting at w got in
    let is_at : w ≡ slice_index_or m.waiting at w = sym (get_or_from_slice_get m.waiting at w w got) in
    let becomes : note_by w b ≡ Some a.note = sym (a.becomes w is_at) in
    let kept = keeps_grows old new place before.callees.items before.ended before.begun m.course.journal g k.keeps in
    let nothing : effect_at a.entry ≡ None = nothing_asked a.entry (note_said a.entry a.note a.reads) in
    let book : Book (m.course.journal ++ a.entry ∷ []) (remove m.waiting at) m.next = book_came m.course.journal a.entry m.waiting m.next at w b a.note lt is_at becomes a.reads k.book in
    let keeps : KeepsCalls new place before.callees.items before.ended before.begun (m.course.journal ++ a.entry ∷ []) = record {
      calls = subst (λ l. AllZip (IsRowOf new place) l before.callees.items) (sym (called_same m.course.journal a.entry nothing)) kept.calls;
      once = book.ever.once;
      notes = notes_came new place m.course.journal a.entry m.waiting m.next at w b a.note lt is_at becomes a.reads k.book (right_grows old new place w a.note.result g (right_by old place w b a.note brings becomes)) kept.notes;
      result = kept.result ∙ sym (results_same m.course.journal a.entry (ap results_by nothing));
      beginning = kept.beginning;
    } in
    subst (λ z. Kept new place z) (sym is) (record {
      rounds = m';
      there = refl;
      keeps = subst (λ j. KeepsCalls new place before.callees.items before.ended before.begun j) (sym a.stored) keeps;
      book = subst (λ j. Book j m'.waiting m'.next) (sym a.stored) (subst (λ n. Book (m.course.journal ++ a.entry ∷ []) m'.waiting n) (sym a.rest.1) (subst (λ l. Book (m.course.journal ++ a.entry ∷ []) l m.next) (sym a.rest.0) book));
      turn = λ begun. turn_grows old new place before (record before { member = Some m' }) g (member_grows before (record before { member = Some m' }) m m' k.there refl (λ x h. ap (λ j. slice_get j 0) a.stored ∙ begins_on m.course.journal a.entry x h)) (k.turn (begun_before f (event.Arrive a.entry) m m' a.arrived begun));
    })

-- nothing of the invocation changes
unchanged : {H : Type 0} (place : ℕ) (R : Invocation H → Invocation H → Type 0) (old new : Engine H) → new ≡ record old { invocations = new.invocations } → (s : Seen place R old.invocations.items new.invocations.items) → s.after ≡ s.before → Keeps old → Keeps new
unchanged place R old new e s same k =
    let g = grows_seen place R old new (clock_le old new e) (targets_same old new e) s (subst (λ z. GrowsOne s.before z) (sym same) (grows_not s.before)) in
    kept_seen place R old new k g s (subst (λ z. Kept new place z) (sym same) (kept_grows old new place s.before g (k place s.before s.was)))

delivered : {H : Type 0} (meaning : H → Meaning) (place at : ℕ) (b : Brought) (old new : Engine H) → brought_at old place at ≡ Some b → ChangesAt place (DeliversTo meaning at b) old new → Keeps old → Keeps new
delivered {H} meaning place at b old new there (e, which) k = elim (seen_at place (DeliversTo meaning at b) old.invocations.items new.invocations.items which) as (λ _. Keeps new) [
  | inl u ↦ kept_same old new (clock_le old new e) (targets_same old new e) u.same k
  | inr s ↦ by_end s (is_some s.before.ended) s.does
]
  where
    goes : (s : Seen place (DeliversTo meaning at b) old.invocations.items new.invocations.items) (q : Kept old place s.before) (m' : MemberView H) → s.after ≡ record s.before { member = Some m' } → Delivers at b (meaning q.rounds.course.handler) q.rounds m' → Keeps new
    goes s q m' is (inl c) =
        let quiet = same_quiet q.rounds m' c.1 in
        let g = grows_seen place (DeliversTo meaning at b) old new (clock_le old new e) (targets_same old new e) s (member_grows s.before s.after q.rounds m' q.there is (quiet_alike q.rounds m' quiet)) in
        kept_seen place (DeliversTo meaning at b) old new k g s (kept_quiet old new place s.before s.after m' g q is quiet (λ b. q.turn (begun_same q.rounds m' (ap (λ (z : MemberView _). z.course) c.1) b)))
    goes s q m' is (inr a) =
        let g = grows_seen place (DeliversTo meaning at b) old new (clock_le old new e) (targets_same old new e) s (member_grows s.before s.after q.rounds m' q.there is (λ x f. ap (λ j. slice_get j 0) a.stored ∙ begins_on q.rounds.course.journal a.entry x f)) in
        kept_seen place (DeliversTo meaning at b) old new k g s (arrived_kept old new place at b (meaning q.rounds.course.handler) s.before s.after m' g q s.was there is a)

    by_end : (s : Seen place (DeliversTo meaning at b) old.invocations.items new.invocations.items) (z : Bool) → DeliversUnless z meaning at b s.before s.after → Keeps new
    by_end s true d = unchanged place (DeliversTo meaning at b) old new e s d k
    by_end s false d =
        let q = k place s.before s.was in
        let (m', is, r) = subst (λ o. GoesIn (λ (m : MemberView H). Delivers at b (meaning m.course.handler) m) o s.before s.after) q.there d in
        goes s q m' is r

-- ---- an entry is stored

-- the notifications after an entry that an attempt wrote
notes_stored : {H : Type 0} (e : Engine H) (by : ℕ) (journal : List (List ℕ)) (entry : List ℕ) (ws : List Waiting) (next : ℕ) (new : List Waiting) (next' : ℕ) → Entered entry ws next new next' → IsProposedApart entry ws → IsUndone (note_in entry) journal → Book journal ws next → AllByRecursion (IsRightNote e by (waited_in journal)) (notes_in journal) → AllByRecursion (IsRightNote e by (waited_in (journal ++ entry ∷ []))) (notes_in (journal ++ entry ∷ []))
notes_stored {H} e by journal entry ws next new next' h apart undone book notes = of (said_at entry) refl
  where
    command : (m : Message) → said_at entry ≡ Some m → AllByRecursion (IsRightNote e by (waited_in (journal ++ entry ∷ []))) (notes_in (journal ++ entry ∷ []))
    command m said =
        let asks : effect_at entry ≡ effect_of m = ap effect_said said in
        let waited : waited_in (journal ++ entry ∷ []) ≡ waited_in journal ++ waited_by (effect_of m) = waited_more journal entry ∙ ap (λ o. waited_in journal ++ waited_by o) asks in
        let noted : notes_in (journal ++ entry ∷ []) ≡ notes_in journal = notes_append journal (entry ∷ []) ∙ ap (λ o. notes_in journal ++ notified_by o []) (said_note entry m said) ∙ append-nil (notes_in journal) in
        let ids = (command_adds journal entry m (waited_in journal) next next' said h.past book.ever).1 in
        let each : AllByRecursion (IsRightNote e by (waited_in journal ++ waited_by (effect_of m))) (notes_in journal) =
        all_with (IsRightNote e by (waited_in journal)) (IsRightNote e by (waited_in journal ++ waited_by (effect_of m))) (notes_in journal)
        (λ n among right w id a is f. elim (among_either (waited_in journal) (waited_by (effect_of m)) w a) as (λ _. IsRight e by w n.result) [
          | inl b ↦ right w id b is f
          | inr b ↦
              let le : next ≤ id = all_among (λ v. (q : ℕ) → waits_for_id q v ≡ true → next ≤ q) (waited_by (effect_of m)) w ids b id f in
              let no : true ≡ false = sym (done_true (notes_in journal) n id among is) ∙ (book.deliverable.new id le).1 in
              absurd (cc)
        ]) notes in
        subst (λ l. AllByRecursion (IsRightNote e by l) (notes_in (journal ++ entry ∷ []))) (sym waited) (subst (λ l. AllByRecursion (IsRightNote e by (waited_in journal ++ waited_by (effect_of m))) l) (sym noted) each)

    same : said_at entry ≡ None → waited_in (journal ++ entry ∷ []) ≡ waited_in journal
    same quiet = waited_same journal entry (nothing_asked entry quiet)

    more : (o : Option Notification) → note_in entry ≡ o → notes_in (journal ++ entry ∷ []) ≡ notes_in journal ++ notified_by o []
    more o is = notes_append journal (entry ∷ []) ∙ ap (λ o. notes_in journal ++ notified_by o []) is

    -- a proposal completes nothing that is waited for
    free : (n : Notification) → id_is_waited n.id ws ≡ false → IsUndone (Some n) journal → IsRightNote e by (waited_in journal) n
    free n unwaited going w id a is f = elim (book.pending w id a f) as (λ _. IsRight e by w n.result) [
      | inl b ↦
          let no : true ≡ false = sym (waited_among ws w id b f) ∙ subst (λ i. id_is_waited i ws ≡ false) is unwaited in
          absurd (cc)
      | inr d ↦
          let no : true ≡ false = sym d ∙ subst (λ i. IsUndoneId i journal) is going in
          absurd (cc)
    ]

    proposal : (o : Option Notification) → note_in entry ≡ o → said_at entry ≡ None → IsUnwaited o ws → IsUndone o journal → AllByRecursion (IsRightNote e by (waited_in journal)) (notes_in (journal ++ entry ∷ []))
    proposal None is quiet unwaited going = subst (λ l. AllByRecursion (IsRightNote e by (waited_in journal)) l) (sym (more None is ∙ append-nil (notes_in journal))) notes
    proposal (Some n) is quiet unwaited going = subst (λ l. AllByRecursion (IsRightNote e by (waited_in journal)) l) (sym (more (Some n) is)) (all_push (IsRightNote e by (waited_in journal)) (notes_in journal) n notes (free n unwaited going))

    of : (o : Option Message) → said_at entry ≡ o → AllByRecursion (IsRightNote e by (waited_in (journal ++ entry ∷ []))) (notes_in (journal ++ entry ∷ []))
    of None quiet = subst (λ l. AllByRecursion (IsRightNote e by l) (notes_in (journal ++ entry ∷ []))) (sym (same quiet)) (proposal (note_in entry) refl quiet (apart quiet) undone)
    of (Some m) said = command m said

-- what waits after it
book_stored : (journal : List (List ℕ)) (entry : List ℕ) (ws : List Waiting) (next : ℕ) (new : List Waiting) (next' : ℕ) → Entered entry ws next new next' → IsProposedApart entry ws → MayBeStored entry journal → Book journal ws next → Book (journal ++ entry ∷ []) new next'
book_stored journal entry ws next new next' h apart may book = of (said_at entry) refl
  where
    of : (o : Option Message) → said_at entry ≡ o → Book (journal ++ entry ∷ []) new next'
    of (Some m) said = book_command journal entry m ws next new next' said h book
    of None quiet =
        let waits : new ≡ ws = h.waits ∙ ap (λ o. ws ++ waited_by o) (nothing_asked entry quiet) ∙ append-nil ws in
        let past : next ≡ next' = some_same _ _ (sym (ap (past_said next) quiet) ∙ h.past) in
        subst (λ n. Book (journal ++ entry ∷ []) new n) past (subst (λ l. Book (journal ++ entry ∷ []) l next) (sym waits) (book_proposal journal entry ws next quiet (apart quiet) may book))

-- What is so of an invocation over whose journal one entry more is stored, whichever its effect is.
record Stored {H : Type 0} (new : Engine H) (place : ℕ) (before : Invocation H) (m m' : MemberView H) (entry : List ℕ) : Type 0 where
  pub stored : m'.course.journal ≡ m.course.journal ++ entry ∷ []
  pub book : Book (m.course.journal ++ entry ∷ []) m'.waiting m'.next
  pub notes : AllByRecursion (IsRightNote new place (waited_in (m.course.journal ++ entry ∷ []))) (notes_in (m.course.journal ++ entry ∷ []))
  pub calls : AllZip (IsRowOf new place) (called_in m.course.journal) before.callees.items
  pub result : before.ended ≡ stored_result m.course.journal
  pub beginning : IsBegunOnce new place before.begun

stored_so : {H : Type 0} (f : Meaning) (old new : Engine H) (place : ℕ) (before : Invocation H) (m' : MemberView H) (asks : Option Effect) → Grows old new → (k : Kept old place before) → HappensTo f (event.Store 1) k.rounds.course.live k.rounds.course m'.course → (s : StoresEntry k.rounds m' asks) → Stored new place before k.rounds m' s.entry
stored_so f old new place before m' asks g k happens s =
    let m = k.rounds in
    let kept = keeps_grows old new place before.callees.items before.ended before.begun m.course.journal g k.keeps in
    let facts = stored_facts f m.course.live m.course m'.course s.entry happens s.stored in
    record {
      stored = s.stored;
      book = book_stored m.course.journal s.entry m.waiting m.next m'.waiting m'.next s.entered s.apart facts.0 k.book;
      notes = notes_stored new place m.course.journal s.entry m.waiting m.next m'.waiting m'.next s.entered s.apart facts.1 k.book kept.notes;
      calls = kept.calls;
      result = kept.result;
      beginning = kept.beginning;
    }

-- it is kept, if its rows and its result are those of the longer journal
stored_kept : {H : Type 0} (new : Engine H) (place : ℕ) (before after : Invocation H) (m m' : MemberView H) (entry : List ℕ) → Stored new place before m m' entry → after.member ≡ Some m' → after.begun ≡ before.begun → AllZip (IsRowOf new place) (called_in (m.course.journal ++ entry ∷ [])) after.callees.items → after.ended ≡ stored_result (m.course.journal ++ entry ∷ []) → (HasBegun m' → HasTurn new place after) → Kept new place after
stored_kept new place before after m m' entry s there begun calls result turn = record {
  rounds = m';
  there = there;
  keeps = subst (λ j. KeepsCalls new place after.callees.items after.ended after.begun j) (sym s.stored) (record {
    calls = calls;
    once = s.book.ever.once;
    notes = s.notes;
    result = result;
    beginning = subst (IsBegunOnce new place) (sym begun) s.beginning;
  });
  book = subst (λ j. Book j m'.waiting m'.next) (sym s.stored) s.book;
  turn = turn;
}

-- an entry that calls nobody and is no result
stored_plain : {H : Type 0} (new : Engine H) (place : ℕ) (before after : Invocation H) (m m' : MemberView H) (entry : List ℕ) → Stored new place before m m' entry → after ≡ record before { member = Some m' } → called_by (effect_at entry) ≡ [] → results_by (effect_at entry) ≡ [] → (HasBegun m' → HasTurn new place (record before { member = Some m' })) → Kept new place after
stored_plain new place before after m m' entry s is none plain turn = subst (λ z. Kept new place z) (sym is)
    (stored_kept new place before (record before { member = Some m' }) m m' entry s refl refl
    (subst (λ l. AllZip (IsRowOf new place) l before.callees.items) (sym (called_more m.course.journal entry ∙ ap (λ l. called_in m.course.journal ++ l) none ∙ append-nil (called_in m.course.journal))) s.calls)
    (s.result ∙ sym (results_same m.course.journal entry plain)) turn)

-- ---- whom an order means

-- it is the one that was made, by whom it says
record IsNew {H : Type 0} (e : Engine H) (order : Order) (begun : Option Begun) (it : Invocation H) : Type 0 where
  pub begun_is : it.begun ≡ begun
  pub begins : it.begins ≡ order.begins
  pub key : it.key ≡ order.key
  pub asked : it.idempotency_key ≡ order.idempotency_key
  pub target : handler_named e.targets.now order.service order.handler ≡ Some it.target
  pub rounds : MemberView H
  pub there : it.member ≡ Some rounds
  pub journal : rounds.course.journal ≡ entry_of_input order.parameter ∷ []
  pub waiting : rounds.waiting ≡ []
  pub next : rounds.next ≡ 0
  pub live : rounds.course.live ≡ None
  pub rows : it.callees.items ≡ []
  pub ended : it.ended ≡ None
  pub whole : IsWhole (message.Input (record { headers = []; value = order.parameter }))

new_is : {H : Type 0} (target : ℕ) (order : Order) (begun : Option Begun) (old new : Engine H) → handler_named old.targets.now order.service order.handler ≡ Some target → (m : MakesInvocation target order begun old new) → IsNew old order begun m.made
new_is target order begun old new named m = subst (λ z. IsNew old order begun z) (sym m.as_asked) (record {
  begun_is = refl;
  begins = refl;
  key = refl;
  asked = refl;
  target = named;
  rounds = new_member old m.of.code (id_of_place (length old.invocations.items)) order;
  there = refl;
  journal = refl;
  waiting = refl;
  next = refl;
  live = refl;
  rows = m.calls_none;
  ended = refl;
  whole = m.whole;
})

new_on : {H : Type 0} (old new : Engine H) (order : Order) (begun : Option Begun) (it : Invocation H) → new.targets ≡ old.targets → IsNew old order begun it → IsNew new order begun it
new_on old new order begun it same n = record {
  begun_is = n.begun_is;
  begins = n.begins;
  key = n.key;
  asked = n.asked;
  target = ap (λ t. handler_named t.now order.service order.handler) same ∙ n.target;
  rounds = n.rounds;
  there = n.there;
  journal = n.journal;
  waiting = n.waiting;
  next = n.next;
  live = n.live;
  rows = n.rows;
  ended = n.ended;
  whole = n.whole;
}

-- the first that passes is there, and passes
first_at : {A : Type 0} (p : A → Bool) (xs : List A) (i : ℕ) → position p xs ≡ Some i → (x : A) × (slice_get xs i ≡ Some x) × (p x ≡ true)
first_at p [] i h = absurd (cc)
first_at {A} p (y ∷ ys) i h =
    let s = position-Some p (y ∷ ys) i y h in
    let x : A = slice_index_or (y ∷ ys) i y in
    (x, slice_get-get_or (y ∷ ys) i y s.0, s.1)

-- What an order does: nobody is changed; the last may be new.
record Ordered {H : Type 0} (order : Order) (begun : Option Begun) (place : Option ℕ) (old new : Engine H) : Type 0 where
  pub grows : Grows old new
  pub old_stay : (i : ℕ) (it : Invocation H) → slice_get old.invocations.items i ≡ Some it → slice_get new.invocations.items i ≡ Some it
  pub each : (i : ℕ) (it : Invocation H) → slice_get new.invocations.items i ≡ Some it → (slice_get old.invocations.items i ≡ Some it) ⊎ ((place ≡ Some i) × IsNew new order begun it)

ordered_none : {H : Type 0} (order : Order) (begun : Option Begun) (place : Option ℕ) (old new : Engine H) → new ≡ old → Ordered order begun place old new
ordered_none order begun place old new e = subst (λ z. Ordered order begun place old z) (sym e) (record {
  grows = grows_same old old (omega arith) refl refl;
  old_stay = λ i it h. h;
  each = λ i it h. inl h;
})

ordered_made : {H : Type 0} (target : ℕ) (order : Order) (begun : Option Begun) (place : Option ℕ) (old new : Engine H) → handler_named old.targets.now order.service order.handler ≡ Some target → place ≡ Some (length old.invocations.items) → MakesInvocation target order begun old new → Ordered order begun place old new
ordered_made target order begun place old new named at m =
    let same : new.targets ≡ old.targets = targets_same old new m.engine in
    let stay : (i : ℕ) (it : Invocation _) → slice_get old.invocations.items i ≡ Some it → slice_get new.invocations.items i ≡ Some it = λ i it h. ap (λ l. slice_get l i) m.last ∙ get_left old.invocations.items (m.made ∷ []) i it h in
    record {
      grows = record { clock = clock_le old new m.engine; targets = same; each = λ i it h. (it, stay i it h, grows_not it) };
      old_stay = stay;
      each = λ i it h. elim (get_pushed old.invocations.items m.made i it (ap (λ l. slice_get l i) (sym m.last) ∙ h)) as (λ _. (slice_get old.invocations.items i ≡ Some it) ⊎ ((place ≡ Some i) × IsNew new order begun it)) [
        | inl a ↦ inl a
        | inr b ↦ inr (at ∙ ap (λ n. Some n) (sym b.0), subst (λ z. IsNew new order begun z) b.1 (new_on old new order begun m.made same (new_is target order begun old new named m)))
      ];
    }

ordered : {H : Type 0} (order : Order) (begun : Option Begun) (place : Option ℕ) (old new : Engine H) → Orders order begun place old new → Ordered order begun place old new
ordered {H} order begun place old new h = of (handler_named old.targets.now order.service order.handler) refl h
  where
    found : (target : ℕ) (o : Option ℕ) → handler_named old.targets.now order.service order.handler ≡ Some target → FindsOrMakes o target order begun place old new → Ordered order begun place old new
    found target (Some p) named d = ordered_none order begun place old new d.1
    found target None named d = ordered_made target order begun place old new named d.0 d.1

    of : (o : Option ℕ) → handler_named old.targets.now order.service order.handler ≡ o → OrdersOf o order begun place old new → Ordered order begun place old new
    of None named d = ordered_none order begun place old new d.1
    of (Some target) named d = found target (same_as old.invocations.items target order) named d

-- a call's callee is at the place that its order found
called_right : {H : Type 0} (by : ℕ) (b : Beginning) (place : Option ℕ) (old new : Engine H) → Orders (order_of b) (Some (record { by = by; call = b.id_completes })) place old new → IsCalleeOf new by b place
called_right {H} by b place old new h = of (handler_named old.targets.now b.service b.handler) refl h
  where
    made : (target : ℕ) → handler_named old.targets.now b.service b.handler ≡ Some target → place ≡ Some (length old.invocations.items) → (m : MakesInvocation target (order_of b) (Some (record { by = by; call = b.id_completes })) old new) → IsCalleeOf new by b place
    made target named at m =
        let same : new.targets ≡ old.targets = targets_same old new m.engine in
        subst (λ p. IsCalleeOf new by b p) (sym at) (record {
          target = target;
          called = ap (λ t. handler_named t.now b.service b.handler) same ∙ named;
          it = m.made;
          there = ap (λ l. slice_get l (length old.invocations.items)) m.last ∙ get_last old.invocations.items m.made;
          meant = inl (subst (λ z. WasBegun by target b z) (sym m.as_asked) (record {
            begun = refl;
            target_is = refl;
            begins = refl;
            key = refl;
            asked = refl;
            rounds = new_member old m.of.code (id_of_place (length old.invocations.items)) (order_of b);
            there = refl;
            input = refl;
          }));
        })

    same_one : (target p : ℕ) (o : Option (List ℕ)) → handler_named old.targets.now b.service b.handler ≡ Some target → b.idempotency_key ≡ o → same_by o old.invocations.items target b.key ≡ Some p → place ≡ Some p → new ≡ old → IsCalleeOf new by b place
    same_one target p None named keyed is at same = absurd (none_some p is)
    same_one target p (Some asked) named keyed is at same =
        let (it, got, passes) = first_at (is_same target b.key asked) old.invocations.items p is in
        subst (λ z. IsCalleeOf z by b place) (sym same) (subst (λ q. IsCalleeOf old by b q) (sym at) (record {
          target = target;
          called = named;
          it = it;
          there = got;
          meant = inr (record { asked = asked; keyed = keyed; same = passes });
        }))

    found : (target : ℕ) (o : Option ℕ) → handler_named old.targets.now b.service b.handler ≡ Some target → same_as old.invocations.items target (order_of b) ≡ o → FindsOrMakes o target (order_of b) (Some (record { by = by; call = b.id_completes })) place old new → IsCalleeOf new by b place
    found target (Some p) named is d = same_one target p b.idempotency_key named refl is d.0 d.1
    found target None named is d = made target named d.0 d.1

    of : (o : Option ℕ) → handler_named old.targets.now b.service b.handler ≡ o → OrdersOf o (order_of b) (Some (record { by = by; call = b.id_completes })) place old new → IsCalleeOf new by b place
    of None named d = subst (λ z. IsCalleeOf z by b place) (sym d.1) (subst (λ q. IsCalleeOf old by b q) (sym d.0) named)
    of (Some target) named d = found target (same_as old.invocations.items target (order_of b)) named refl d

-- a new invocation is kept, once the row of the call that began it is there
new_kept : {H : Type 0} (e new : Engine H) (order : Order) (begun : Option Begun) (i : ℕ) (it : Invocation H) → IsNew e order begun it → IsBegunOnce new i begun → Kept new i it
new_kept e new order begun i it n once =
    let quiet : effect_at (entry_of_input order.parameter) ≡ None = input_quiet order.parameter n.whole in
    let first : List (List ℕ) = entry_of_input order.parameter ∷ [] in
    let waited : waited_in first ≡ [] = ap (λ o. waited_by o ++ []) quiet in
    let called : called_in first ≡ [] = ap (λ o. called_by o ++ []) quiet in
    let noted : notes_in first ≡ [] = ap (λ o. notified_by o []) (input_note order.parameter n.whole) in
    let book : Book first [] 0 = record {
      deliverable = record { new = input_unknown order.parameter n.whole; come = tt; once = tt };
      ever = subst (λ l. CanAllCome (kinds_in first) l 0) (sym waited) (record { new = λ id le. ((input_unknown order.parameter n.whole id le).0, refl); come = tt; once = tt });
      from = λ w id h f. absurd h;
      pending = λ w id h f. absurd (subst (IsOneOf w) waited h);
    } in
    let keeps : KeepsCalls new i it.callees.items it.ended it.begun first = record {
      calls = subst (λ l. AllZip (IsRowOf new i) l it.callees.items) (sym called) (subst (λ l. AllZip (IsRowOf new i) [] l) (sym n.rows) tt);
      once = book.ever.once;
      notes = subst (λ l. AllByRecursion (IsRightNote new i (waited_in first)) l) (sym noted) tt;
      result = n.ended ∙ sym (ap (λ o. slice_get (results_by o ++ []) 0) quiet);
      beginning = subst (IsBegunOnce new i) (sym n.begun_is) once;
    } in
    record {
      rounds = n.rounds;
      there = n.there;
      keeps = subst (λ j. KeepsCalls new i it.callees.items it.ended it.begun j) (sym n.journal) keeps;
      book = subst (λ j. Book j n.rounds.waiting n.rounds.next) (sym n.journal) (subst (λ q. Book first n.rounds.waiting q) (sym n.next) (subst (λ l. Book first l 0) (sym n.waiting) book));
      turn = λ b. elim b as (λ _. HasTurn new i it) [
        | inl live ↦ let x : true ≡ false = sym live ∙ ap is_some n.live in absurd (cc)
        | inr long ↦ let x : length n.rounds.course.journal ≡ 1 = ap length n.journal in absurd (omega (arith, x, long))
      ];
    }

-- an invocation is asked for from outside
submitted : {H : Type 0} (order : Order) (place : Option ℕ) (old new : Engine H) → Orders order None place old new → Keeps old → Keeps new
submitted order place old new h k i it is =
    let o = ordered order None place old new h in
    elim (o.each i it is) as (λ _. Kept new i it) [
      | inl was ↦ kept_grows old new i it o.grows (k i it was)
      | inr n ↦ new_kept new new order None i it n.1 tt
    ]

-- ---- what a stored entry asks for is done

-- a call's row, and what it began
abbrev row_for : Beginning → Option ℕ → Callee
row_for b place = record { call = b.id_completes; place = place }

abbrev begun_for : ℕ → Beginning → Option Begun
begun_for by b = Some (record { by = by; call = b.id_completes })

-- a seen change, and then another
seen_then : {H : Type 0} (place : ℕ) (R S : Invocation H → Invocation H → Type 0) (old mid new : List (Invocation H)) → Seen place R old mid → Seen place S mid new → Seen place (λ a b. Unit {0}) old new
seen_then place R S old mid new s t = record {
  before = s.before;
  after = t.after;
  was = s.was;
  is = t.is;
  does = tt;
  others = λ k ne. t.others k ne ∙ s.others k ne;
}

result_first : (journal : List (List ℕ)) (entry : List ℕ) (r : ValueOrFailure) → stored_result journal ≡ None → results_by (effect_at entry) ≡ r ∷ [] → stored_result (journal ++ entry ∷ []) ≡ Some r
result_first journal entry r none is =
    ap (λ l. slice_get l 0) (results_more journal entry ∙ ap (λ l. flat_map (λ x. results_by (effect_at x)) journal ++ l) is ∙ ap (λ l. l ++ r ∷ []) (first_none (flat_map (λ x. results_by (effect_at x)) journal) none))

split_all : {A : Type 0} (P : A → Type 0) (xs ys : List A) → AllByRecursion P (xs ++ ys) → AllByRecursion P xs × AllByRecursion P ys
split_all P [] ys a = (tt, a)
split_all P (x ∷ xs) ys a = let h = split_all P xs ys a.1 in ((a.0, h.0), h.1)

join_all : {A : Type 0} (P : A → Type 0) (xs ys : List A) → AllByRecursion P xs → AllByRecursion P ys → AllByRecursion P (xs ++ ys)
join_all P [] ys a b = b
join_all P (x ∷ xs) ys a b = (a.0, join_all P xs ys a.1 b)

-- a call waits for its callee's id
called_one : (P : Waiting → Type 0) (o : Option Effect) → AllByRecursion P (waited_by o) → AllByRecursion (λ (b : Beginning). P (waiting.Id b.id_completes)) (called_by o)
called_one P None a = tt
called_one P (Some (effect.Begin b)) a = (a.0, tt)
called_one P (Some (effect.Wait timer)) a = tt
called_one P (Some (effect.Send x)) a = tt
called_one P (Some (effect.Result r)) a = tt

called_all : (P : Waiting → Type 0) (journal : List (List ℕ)) → AllByRecursion P (waited_in journal) → AllByRecursion (λ (b : Beginning). P (waiting.Id b.id_completes)) (called_in journal)
called_all P [] a = tt
called_all P (x ∷ journal) a =
    let h = split_all P (waited_by (effect_at x)) (waited_in journal) a in
    join_all (λ (b : Beginning). P (waiting.Id b.id_completes)) (called_by (effect_at x)) (called_in journal) (called_one P (effect_at x) h.0) (called_all P journal h.1)

is_itself : (n : ℕ) → (n == n) ≡ true
is_itself n = grind (arith, nat_tests)

is_other : (a b : ℕ) → a < b → (a == b) ≡ false
is_other a b lt = grind (arith, nat_tests)

-- an id that a command carries is below the next
known_below : (k : Known) (next id : ℕ) (kind : Completes) → IsUnknownFrom k next → k.kind id ≡ Some kind → id < next
known_below k next id kind new e = by (nat_lt id next) refl
  where
    by : (b : Bool) → nat_lt id next ≡ b → id < next
    by true t = grind (arith, nat_tests)
    by false t =
        let le : next ≤ id = grind (arith, nat_tests) in
        absurd (none_some kind (sym (new id le).0 ∙ e))

-- the calls of a journal are of ids below the next
called_below : (journal : List (List ℕ)) (ws : List Waiting) (next : ℕ) → Book journal ws next → AllByRecursion (λ (b : Beginning). (q : ℕ) → (b.id_completes == q) ≡ true → q < next) (called_in journal)
called_below journal ws next book =
    called_all (λ w. (q : ℕ) → waits_for_id q w ≡ true → q < next) journal
    (all_with (CanCome (kinds_in journal)) (λ w. (q : ℕ) → waits_for_id q w ≡ true → q < next) (waited_in journal) (λ w _ h q f. known_below (kinds_in journal) next q (kind_of w) book.ever.new (h q f).0) book.ever.come)

-- no row is of a new id
no_row : {H : Type 0} (e : Engine H) (place : ℕ) (bs : List Beginning) (rows : List Callee) (next call : ℕ) → AllZip (IsRowOf e place) bs rows → AllByRecursion (λ (b : Beginning). (q : ℕ) → (b.id_completes == q) ≡ true → q < next) bs → next ≤ call → callee_in call rows ≡ None
no_row e place [] [] next call z a le = refl
no_row e place [] (row ∷ rows) next call z a le = absurd z
no_row e place (b ∷ bs) [] next call z a le = absurd z
no_row e place (b ∷ bs) (row ∷ rows) next call z a le =
    let lt : b.id_completes < next = a.0 b.id_completes (is_itself b.id_completes) in
    let other : (row.call == call) ≡ false = ap (λ n. n == call) z.0.0 ∙ is_other b.id_completes call (omega (arith, lt, le)) in
    ap (λ t. cond t (Some row) (callee_in call rows)) other ∙ no_row e place bs rows next call z.1 a.1 le

-- the id of a call that is stored is a new one
call_new : (journal : List (List ℕ)) (entry : List ℕ) (ws : List Waiting) (next : ℕ) (new : List Waiting) (next' : ℕ) (b : Beginning) → Entered entry ws next new next' → Book journal ws next → effect_at entry ≡ Some (effect.Begin b) → next ≤ b.id_completes
call_new journal entry ws next new next' b h book asks = of (said_at entry) refl
  where
    of : (o : Option Message) → said_at entry ≡ o → next ≤ b.id_completes
    of None quiet = absurd (none_some (effect.Begin b) (sym (nothing_asked entry quiet) ∙ asks))
    of (Some m) said =
        let is : effect_of m ≡ Some (effect.Begin b) = sym (ap effect_said said) ∙ asks in
        let ids = (command_adds journal entry m (waited_in journal) next next' said h.past book.ever).1 in
        (subst (λ o. AllByRecursion (λ v. (q : ℕ) → waits_for_id q v ≡ true → next ≤ q) (waited_by o)) is ids).0 b.id_completes (is_itself b.id_completes)

-- the row of a new call is found
row_found : (rows : List Callee) (row : Callee) → callee_in row.call rows ≡ None → callee_in row.call (rows ++ row ∷ []) ≡ Some row
row_found rows row none =
    find-append (λ (r : Callee). r.call == row.call) rows (row ∷ []) ∙ ap (λ o. option_or o (callee_in row.call (row ∷ []))) none ∙ ap (λ t. cond t (Some row) None) (is_itself row.call)

rows_grow : (rows more : List Callee) (call : ℕ) (row : Callee) → callee_in call rows ≡ Some row → callee_in call (rows ++ more) ≡ Some row
rows_grow rows more call row is = find-append (λ (r : Callee). r.call == call) rows more ∙ ap (λ o. option_or o (callee_in call more)) is

row_grows_one : {H : Type 0} (row : Callee) (before after : Invocation H) → AddsCallee row before after → GrowsOne before after
row_grows_one row before after (e, more) = record {
  same = e ∙ (λ i. record before { callees = after.callees; ended = ap (λ (z : Invocation _). z.ended) (sym e) i; member = ap (λ (z : Invocation _). z.member) (sym e) i });
  rows = λ call r is. ap (callee_in call) more ∙ rows_grow before.callees.items (row ∷ []) call r is;
  ended = λ r is. ap (λ (z : Invocation _). z.ended) e ∙ is;
  first = λ x h. subst (HasFirst x) (ap (λ (z : Invocation _). z.member) (sym e)) h;
}

module _ {H : Type 0} (meaning : H → Meaning) (place : ℕ) (old mid new : Engine H) (asks : Option Effect) (k : Keeps old) (e : mid ≡ record old { invocations = mid.invocations }) (s : Seen place (StoresIn meaning asks) old.invocations.items mid.invocations.items) (m' : MemberView H) where
  -- an entry was stored
  module _ (going : is_some s.before.ended ≡ false) (is : s.after ≡ record s.before { member = Some m' }) (f : Meaning) (happens : HappensTo f (event.Store 1) (k place s.before s.was).rounds.course.live (k place s.before s.was).rounds.course m'.course) (n : StoresEntry (k place s.before s.was).rounds m' asks) where
    abbrev q : Kept old place s.before
    q = k place s.before s.was

    alike : BeginsAlike q.rounds m'
    alike x h = ap (λ j. slice_get j 0) n.stored ∙ begins_on q.rounds.course.journal n.entry x h

    -- it had its turn
    in_turn : (e' : Engine H) → Grows old e' → (after : Invocation H) → GrowsOne s.before after → HasBegun m' → HasTurn e' place after
    in_turn e' g after h b = turn_grows old e' place s.before after g h (q.turn (begun_before f (event.Store 1) q.rounds m' happens b))

    first_one : GrowsOne s.before s.after
    first_one = member_grows s.before s.after q.rounds m' q.there is alike

    first_step : Grows old mid
    first_step = grows_seen place (StoresIn meaning asks) old mid (clock_le old mid e) (targets_same old mid e) s
        first_one

    -- it calls nobody and is no result
    plainly : called_by (effect_at n.entry) ≡ [] → results_by (effect_at n.entry) ≡ [] → Keeps mid
    plainly none plain = kept_seen place (StoresIn meaning asks) old mid k first_step s
        (stored_plain mid place s.before s.after q.rounds m' n.entry (stored_so f old mid place s.before m' asks first_step q happens n) is none plain (in_turn mid first_step (record s.before { member = Some m' }) (member_grows s.before (record s.before { member = Some m' }) q.rounds m' q.there refl alike)))

    not_ended : s.before.ended ≡ None
    not_ended = of s.before.ended going
      where
        of : (o : Option ValueOrFailure) → is_some o ≡ false → o ≡ None
        of None h = refl
        of (Some r) h = let x : true ≡ false = h in absurd (cc)

    -- it is its result
    ends : (r : ValueOrFailure) → effect_at n.entry ≡ Some (effect.Result r) → ChangesAt place (EndsWith r) mid new → Keeps new
    unfolding seen_then
    ends r asked (b, which) = elim (seen_at place (EndsWith r) mid.invocations.items new.invocations.items which) as (λ _. Keeps new) [
      | inl u ↦ absurd (none_some s.after (sym u.none ∙ s.is))
      | inr t ↦
          let same : t.before ≡ s.after = some_in (slice_get mid.invocations.items place) t.before s.after t.was s.is in
          let after : t.after ≡ record s.before { member = Some m'; ended = Some r } = t.does ∙ ap (λ (z : Invocation _). record z { ended = Some r }) (same ∙ is) in
          let never : t.before.ended ≡ None = ap (λ (z : Invocation _). z.ended) (same ∙ is) ∙ not_ended in
          let grows : GrowsOne t.before t.after = subst (λ z. GrowsOne t.before z) (sym t.does) (record { same = refl; rows = λ c x h. h; ended = λ x h. absurd (none_some x (sym never ∙ h)); first = λ x h. h }) in
          let g = grows_then old mid new first_step (grows_seen place (EndsWith r) mid new (clock_le mid new b) (targets_same mid new b) t grows) in
          let both = seen_then place (StoresIn meaning asks) (EndsWith r) old.invocations.items mid.invocations.items new.invocations.items s t in
          let st = stored_so f old new place s.before m' asks g q happens n in
          let calls : called_in (q.rounds.course.journal ++ n.entry ∷ []) ≡ called_in q.rounds.course.journal = called_more q.rounds.course.journal n.entry ∙ ap (λ o. called_in q.rounds.course.journal ++ called_by o) asked ∙ append-nil (called_in q.rounds.course.journal) in
          kept_seen place (λ a b. Unit {0}) old new k g both (subst (λ z. Kept new place z) (sym after)
          (stored_kept new place s.before (record s.before { member = Some m'; ended = Some r }) q.rounds m' n.entry st refl refl
          (subst (λ l. AllZip (IsRowOf new place) l s.before.callees.items) (sym calls) st.calls)
          (sym (result_first q.rounds.course.journal n.entry r (sym st.result ∙ not_ended) (ap results_by asked)))
          (in_turn new g (record s.before { member = Some m'; ended = Some r }) (subst (λ z. GrowsOne s.before z) after (one_then s.before s.after t.after first_one (subst (λ z. GrowsOne z t.after) same grows))))))
    ]

    -- it begins an invocation
    begins : (b : Beginning) → effect_at n.entry ≡ Some (effect.Begin b) → BeginsFor place b mid new → Keeps new
    begins b asked d = elim (seen_at place (AddsCallee (row_for b d.place)) d.mid.invocations.items new.invocations.items d.row.1) as (λ _. Keeps new) [
      | inl u ↦ absurd (none_some s.after (sym u.none ∙ o.old_stay place s.after s.is))
      | inr t ↦ with_row t
    ]
      where
        o : Ordered (order_of b) (begun_for place b) d.place mid d.mid
        o = ordered (order_of b) (begun_for place b) d.place mid d.mid d.orders

        with_row : Seen place (AddsCallee (row_for b d.place)) d.mid.invocations.items new.invocations.items → Keeps new
        with_row t =
            let same : t.before ≡ s.after = some_in (slice_get d.mid.invocations.items place) t.before s.after t.was (o.old_stay place s.after s.is) in
            let was : t.before ≡ record s.before { member = Some m' } = same ∙ is in
            let last = grows_seen place (AddsCallee (row_for b d.place)) d.mid new (clock_le d.mid new d.row.0) (targets_same d.mid new d.row.0) t (row_grows_one (row_for b d.place) t.before t.after t.does) in
            let g = grows_then old mid new first_step (grows_then mid d.mid new o.grows last) in
            let st = stored_so f old new place s.before m' asks g q happens n in
            let rows : t.after.callees.items ≡ s.before.callees.items ++ row_for b d.place ∷ [] = t.does.1 ∙ ap (λ (z : Invocation _). z.callees.items ++ row_for b d.place ∷ []) was in
            let none : callee_in b.id_completes s.before.callees.items ≡ None =
            no_row new place (called_in q.rounds.course.journal) s.before.callees.items q.rounds.next b.id_completes st.calls (called_below q.rounds.course.journal q.rounds.waiting q.rounds.next q.book)
            (call_new q.rounds.course.journal n.entry q.rounds.waiting q.rounds.next m'.waiting m'.next b n.entered q.book asked) in
            let found : callee_of new.invocations.items place b.id_completes ≡ Some (row_for b d.place) =
            ap (option_and_then (λ (z : Invocation _). callee_in b.id_completes z.callees.items)) t.is ∙ ap (callee_in b.id_completes) rows ∙ row_found s.before.callees.items (row_for b d.place) none in
            let called : called_in (q.rounds.course.journal ++ n.entry ∷ []) ≡ called_in q.rounds.course.journal ++ b ∷ [] = called_more q.rounds.course.journal n.entry ∙ ap (λ x. called_in q.rounds.course.journal ++ called_by x) asked in
            let zipped : AllZip (IsRowOf new place) (called_in q.rounds.course.journal ++ b ∷ []) (s.before.callees.items ++ row_for b d.place ∷ []) =
            zip_push (IsRowOf new place) (called_in q.rounds.course.journal) s.before.callees.items b (row_for b d.place) st.calls
            (refl, place_grows d.mid new place b d.place last (called_right place b d.place mid d.mid d.orders)) in
            let here : Kept new place t.after = stored_kept new place s.before t.after q.rounds m' n.entry st
            (ap (λ (z : Invocation _). z.member) t.does.0 ∙ ap (λ (z : Invocation _). z.member) was)
            (ap (λ (z : Invocation _). z.begun) t.does.0 ∙ ap (λ (z : Invocation _). z.begun) was)
            (subst (λ l. AllZip (IsRowOf new place) l t.after.callees.items) (sym called) (subst (λ l. AllZip (IsRowOf new place) (called_in q.rounds.course.journal ++ b ∷ []) l) (sym rows) zipped))
            (ap (λ (z : Invocation _). z.ended) t.does.0 ∙ ap (λ (z : Invocation _). z.ended) was ∙ st.result ∙ sym (results_same q.rounds.course.journal n.entry (ap results_by asked)))
            (in_turn new g t.after (one_then s.before s.after t.after first_one (subst (λ z. GrowsOne z t.after) same (row_grows_one (row_for b d.place) t.before t.after t.does)))) in
            λ i it at. elim (cases_eq i place) as (λ _. Kept new i it) [
              | inl at_place ↦
                  let a : t.after ≡ it = some_in (slice_get new.invocations.items place) t.after it t.is (ap (slice_get new.invocations.items) (sym at_place) ∙ at) in
                  subst (λ p. Kept new p it) (sym at_place) (subst (λ z. Kept new place z) a here)
              | inr ne ↦ elim (o.each i it (sym (t.others i ne) ∙ at)) as (λ _. Kept new i it) [
                | inl there ↦ kept_grows old new i it g (k i it (sym (s.others i ne) ∙ there))
                | inr fresh ↦ new_kept d.mid new (order_of b) (begun_for place b) i it fresh.1 (found ∙ ap (λ p. Some (record { call = b.id_completes; place = p })) fresh.0)
              ]
            ]

    -- what it asks for is done
    performs : (a : Option Effect) → asks ≡ a → PerformsIf place a mid new → Keeps new
    performs None is_asked d = subst (λ z. Keeps z) (sym d) (plainly (ap called_by (sym n.effect ∙ is_asked)) (ap results_by (sym n.effect ∙ is_asked)))
    performs (Some (effect.Wait timer)) is_asked d = subst (λ z. Keeps z) (sym d) (plainly (ap called_by (sym n.effect ∙ is_asked)) (ap results_by (sym n.effect ∙ is_asked)))
    performs (Some (effect.Send x)) is_asked d = sends x (place_of mid.invocations.items x.to) d (plainly (ap called_by (sym n.effect ∙ is_asked)) (ap results_by (sym n.effect ∙ is_asked)))
      where
        sends : (x : Sent) (o : Option ℕ) → SendsToPlace o x mid new → Keeps mid → Keeps new
        sends x None h kept = subst (λ z. Keeps z) (sym h) kept
        sends x (Some p) h kept = quiet_changes p (λ a b. b ≡ with_signal x.signal x.brings a) mid new (λ a b is. subst (Quiet a) (sym is) (refl, book_signal a.course.journal a.waiting a.next x.signal x.brings)) (λ before a b was is begun. inl (begun_same a b (ap (λ (z : MemberView _). z.course) is) begun)) h kept
    performs (Some (effect.Result r)) is_asked d = ends r (sym n.effect ∙ is_asked) d
    performs (Some (effect.Begin b)) is_asked d = begins b (sym n.effect ∙ is_asked) d

-- an entry is stored, and what it asks for is done
stores_kept : {H : Type 0} (meaning : H → Meaning) (place : ℕ) (old new : Engine H) → StoresAndPerforms meaning place old new → Keeps old → Keeps new
stores_kept {H} meaning place old new d k = elim (seen_at place (StoresIn meaning d.asks) old.invocations.items d.mid.invocations.items d.stores.1) as (λ _. Keeps new) [
  | inl u ↦ subst (λ z. Keeps z) (sym (nothing (d.nobody u.far))) (kept_same old d.mid (clock_le old d.mid d.stores.0) (targets_same old d.mid d.stores.0) u.same k)
  | inr s ↦ by_end s (is_some s.before.ended) refl s.does
]
  where
    nothing : d.asks ≡ None → new ≡ d.mid
    nothing e = subst (λ a. PerformsIf place a d.mid new) e d.performs

    stored : (s : Seen place (StoresIn meaning d.asks) old.invocations.items d.mid.invocations.items) (m' : MemberView H) → is_some s.before.ended ≡ false → s.after ≡ record s.before { member = Some m' } → StoresNextEntry (meaning (k place s.before s.was).rounds.course.handler) (k place s.before s.was).rounds m' d.asks → NoEntry (k place s.before s.was).rounds m' d.asks ⊎ StoresEntry (k place s.before s.was).rounds m' d.asks → Keeps new
    stored s m' going is r (inl n) =
        let q = k place s.before s.was in
        let quiet : Quiet q.rounds m' = (n.stored, λ b. subst (λ x. Book q.rounds.course.journal m'.waiting x) (sym n.stays.1) (subst (λ l. Book q.rounds.course.journal l q.rounds.next) (sym n.stays.0) b)) in
        let g = grows_seen place (StoresIn meaning d.asks) old d.mid (clock_le old d.mid d.stores.0) (targets_same old d.mid d.stores.0) s (member_grows s.before s.after q.rounds m' q.there is (quiet_alike q.rounds m' quiet)) in
        subst (λ z. Keeps z) (sym (nothing n.effect)) (kept_seen place (StoresIn meaning d.asks) old d.mid k g s (kept_quiet old d.mid place s.before s.after m' g q is quiet (λ b. q.turn (begun_before (meaning q.rounds.course.handler) (event.Store 1) q.rounds m' r.course b))))
    stored s m' going is r (inr n) = performs meaning place old d.mid new d.asks k d.stores.0 s m' going is (meaning (k place s.before s.was).rounds.course.handler) r.course n d.asks refl d.performs

    by_end : (s : Seen place (StoresIn meaning d.asks) old.invocations.items d.mid.invocations.items) (z : Bool) → is_some s.before.ended ≡ z → StoresUnless z meaning d.asks s.before s.after → Keeps new
    by_end s true going h = subst (λ z. Keeps z) (sym (nothing h.1)) (unchanged place (StoresIn meaning d.asks) old d.mid d.stores.0 s h.0 k)
    by_end s false going h =
        let q = k place s.before s.was in
        let (m', is, r) = subst (λ o. StoresInMember meaning d.asks o s.before s.after) q.there h in
        stored s m' going is r r.entry

-- ---- an event

pub stopped_begun : {H : Type 0} (m : MemberView H) → HasBegun (stopped m) → HasBegun m
stopped_begun m (inl live) = let x : false ≡ true = live in absurd (cc)
stopped_begun m (inr long) = inr long

stopped_kept : {H : Type 0} (e : Engine H) (i : ℕ) (it : Invocation H) → Kept e i it → Kept e i (stopped_in it)
stopped_kept e i it k = record { rounds = stopped k.rounds; there = ap (option_map stopped) k.there; keeps = k.keeps; book = k.book; turn = λ b. k.turn (stopped_begun k.rounds b) }

stopped_first : {H : Type 0} (x : List ℕ) (o : Option (MemberView H)) → HasFirst x o → HasFirst x (option_map stopped o)
stopped_first x None h = h
stopped_first x (Some m) h = h

stopped_grows : {H : Type 0} (it : Invocation H) → GrowsOne it (stopped_in it)
stopped_grows it = record { same = refl; rows = λ c r e. e; ended = λ r e. e; first = λ x h. stopped_first x it.member h }

all_stopped : {H : Type 0} (old new : Engine H) → new ≡ record old { invocations = new.invocations } → new.invocations.items ≡ map stopped_in old.invocations.items → Keeps old → Keeps new
all_stopped {H} old new e all k =
    let at : (i : ℕ) → slice_get new.invocations.items i ≡ option_map stopped_in (slice_get old.invocations.items i) = λ i. ap (λ l. slice_get l i) all ∙ slice_get-map stopped_in old.invocations.items i in
    let g : Grows old new = record {
      clock = clock_le old new e;
      targets = targets_same old new e;
      each = λ i it is. (stopped_in it, at i ∙ ap (option_map stopped_in) is, stopped_grows it);
    } in
    λ i it is. of g i it (slice_get old.invocations.items i) refl (sym (at i) ∙ is)
  where
    of : Grows old new → (i : ℕ) (it : Invocation H) (o : Option (Invocation H)) → slice_get old.invocations.items i ≡ o → option_map stopped_in o ≡ Some it → Kept new i it
    of g i it None was is = absurd (none_some it is)
    of g i it (Some x) was is = subst (λ z. Kept new i z) (some_same _ it is) (stopped_kept new i x (kept_grows old new i x g (k i x was)))

begins_kept : {H : Type 0} (may : Bool) (place : ℕ) (old new : Engine H) → may_begin old place ≡ may → BeginsIf may place old new → Keeps old → Keeps new
begins_kept false place old new is d k = subst (λ z. Keeps z) (sym d) k
begins_kept true place old new is d k = quiet_changes place (GoesBy (BeginsHanded whole_round (base_at old place))) old new (λ m m' h. goes_quiet m m' h.0 (begins_leaves whole_round (base_at old place) m.course m'.course h.1).0) (λ before m m' was h b. inr (begins_in_turn old place before was is)) d k

delivers_kept : {H : Type 0} (meaning : H → Meaning) (place at : ℕ) (o : Option Brought) (old new : Engine H) → brought_at old place at ≡ o → DeliversIf meaning place at o old new → Keeps old → Keeps new
delivers_kept meaning place at None old new is d k = subst (λ z. Keeps z) (sym d) k
delivers_kept meaning place at (Some b) old new is d k = delivered meaning place at b old new is d k

pub happening_keeps : {H : Type 0} (meaning : H → Meaning) (h : Happening) (old new : Engine H) → HappeningDoes meaning h old new → Keeps old → Keeps new
happening_keeps meaning (happening.Submit order) old new d k = submitted order d.0 old new d.1 k
happening_keeps meaning (happening.Begin place) old new d k = begins_kept (may_begin old place) place old new refl d k
happening_keeps meaning (happening.Act place e) old new d k = quiet_changes place (λ (m : MemberView _). Acts (meaning m.course.handler) e m) old new (λ m m' h. acts_quiet (meaning m.course.handler) e m m' h) (λ before m m' was h b. inl (acts_begun (meaning m.course.handler) e m m' h b)) d k
happening_keeps meaning (happening.Deliver place at) old new d k = delivers_kept meaning place at (brought_at old place at) old new refl d k
happening_keeps meaning (happening.Store place) old new d k = stores_kept meaning place old new d k
happening_keeps meaning (happening.Stop place) old new d k = quiet_changes place (λ a b. b ≡ stopped a) old new (λ m m' is. subst (Quiet m) (sym is) (refl, λ b. b)) (λ before m m' was is b. inl (stopped_begun m (subst HasBegun is b))) d k
happening_keeps meaning happening.StopAll old new d k = all_stopped old new d.0 d.1 k
happening_keeps meaning (happening.Clock t) old new d k =
    let clock : new.clock ≡ max old.clock t = ap (λ (z : Engine _). z.clock) d in
    kept_same old new (omega (arith, clock)) (ap (λ (z : Engine _). z.targets) d) (ap (λ (z : Engine _). z.invocations.items) d) k

all_keep : {H : Type 0} (meaning : H → Meaning) (es : List Happening) (old new : Engine H) → AllHappen meaning es old new → Keeps old → Keeps new
all_keep meaning [] old new d k = subst (λ z. Keeps z) (sym d) k
all_keep meaning (e ∷ es) old new (mid, first, more) k = all_keep meaning es mid new more (happening_keeps meaning e old mid first k)

pub none_keeps : {H : Type 0} (e : Engine H) → e.invocations.items ≡ [] → Keeps e
none_keeps e none by it is = absurd (none_some it (ap (λ l. slice_get l by) (sym none) ∙ is))

-- over all events from nothing on, calls are kept
pub kept_from_nothing : {H : Type 0} (meaning : H → Meaning) (es : List Happening) (old new : Engine H) → old.invocations.items ≡ [] → AllHappen meaning es old new → AllKept new
kept_from_nothing meaning es old new none d = all_kept new (all_keep meaning es old new d (none_keeps old none))
