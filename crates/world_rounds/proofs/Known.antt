-- A completion id that isn't given yet has a result that is known, once one has come: no take has taken it.
use Rattle.std.proofs.Common.{◌≡◌, ◌⊎◌, inl, inr, ⊎_elim, ℕ, zero, suc, ◌+◌, ◌<◌, ◌≤◌, Bool, true, false, cond, List, [], ◌∷◌, ◌++◌, Option, Some, None, refl, sym, ap, ◌∙◌, subst, arith}
use Rattle.std.specs.Prelude.{◌||◌, Result, Ok, Err}
use Rattle.std.proofs.lemmas.Option.{same_Some}
use Rattle.journal_protocol.specs.InputCommand.{InputCommand}
use Rattle.journal_protocol.specs.NamedFault.{NamedFault}
use Rattle.journal_protocol.specs.Version.{Version}
use Rattle.journal_protocol.specs.RawMessage.{RawMessage}
use Rattle.journal_protocol.specs.Notification.{Notification}
use Rattle.journal_protocol.specs.NotificationId.{NotificationId}
use Rattle.journal_protocol.specs.NotificationId.TheVariants.{CompletionId, SignalId, SignalName}
use Rattle.journal_protocol.specs.NotificationResult.{NotificationResult}
use Rattle.await_arrivals.specs.Ids.{same_id}
use Rattle.await_arrivals.specs.Results.{has_result_among, without_all, without_oldest}
use Rattle.journal_protocol.specs.SignalDelivery.{SignalDelivery}
use Rattle.vm_types.specs.declared.steps.Answer.{Answer}
use Rattle.vm_types.specs.declared.steps.Step.{Step}
use Rattle.await_trees.specs.declared.handle.NotificationHandle.{NotificationHandle}
use Rattle.await_trees.specs.declared.tree.UnresolvedFuture.{UnresolvedFuture}
use Rattle.vm_state.specs.declared.tracked_call.TrackedCall.{TrackedCall}
use Rattle.vm_types.specs.declared.values.Value.{Value}
use Rattle.vm_state.specs.Counting.{missing_number, missing_signals}
use Rattle.vm_parts.specs.Deliveries.{has_result, id_at, is_known, is_listed, left_among, present_result_for}
use Rattle.vm_parts.specs.Tracked.{id_of_result, invocation_ids, id_noted, unresolved_handles}
use Rattle.vm_types.specs.Values.{id_of_value, value_of}
use Rattle.vm_asks.specs.declared.asks.Ask.{Ask}
use Rattle.vm_asks.specs.declared.asks.Ask.TheVariants as ask
use Rattle.vm_asks.specs.declared.asks.AnswerKind.{AnswerKind}
use Rattle.vm_asks.specs.declared.command.Command.{Command}
use Rattle.vm_asks.specs.declared.state_read.StateRead.{StateRead}
use Rattle.vm_asks.specs.Asks.{all_ids, ask_of}
use Rattle.vm_asks.specs.Requests.{ids_of}
use Rattle.vm_types.specs.Options.{skips_replay}
use Rattle.vm_model.specs.Calls.{Setup, Meaning, Derived, Demand, Move, Usage, asked, awaited, awakeable_made, awaiting, cancel_sent, with_cancel_taken, cancelled, cancelling, commanding, id_awaited, id_read, is_awake, is_cancelled_in, making_awakeable, numbered, reading, ready_by_usage, ready_in, take_of_result, signal_made, take_noting_id, take_of_value, Turn, part, part_unless, refused_before, turn_after}
use Rattle.vm_model.specs.Calls.Move.{Answers, Needs, Awaits, Ends, Refuses}
use Rattle.vm_model.specs.Calls.Usage.{Used, Read, Taken}
use Rattle.vm_model.specs.Deliveries.{arrived_at}
use Rattle.vm_model.specs.Moves.{Point, after, and_then, with_read_result, command_used, found, move_at, moved, next, start, uses_arrival, uses_command}
use Rattle.vm_model.specs.Sums.{calls_after, calls_for, completion_ids, completion_ids_in, signal_ids, total}
use Rattle.vm_model.specs.Uses.{arrivals_in, given_for, ids_from, ids_of_steps, item}
use Rattle.vm_model.proofs.Compared.{after_answers}
use Rattle.vm_model.proofs.Parts.{turn_splits}
use Rattle.vm_model.proofs.Results.{same_is}
use Rattle.vm_model.proofs.Runs.{and_then_some, none_some}
use Rattle.vm_model.proofs.Sums.{told_sums}
use Rattle.vm_model.proofs.Uses.{arrivals_used, handles_stand}
use Rattle.journal_entries.specs.Arrivals.{completes_id, is_of}

-- ---- what was taken

-- no result of this completion id was taken
abbrev Untaken : ℕ → List Usage → Type 0
Untaken i [] = Unit {0}
Untaken i (Used n ∷ us) = Untaken i us
Untaken i (Read id result ∷ us) = Untaken i us
Untaken i (Taken id ∷ us) = (same_id id (CompletionId i) ≡ false) × Untaken i us

untaken_by : (i : ℕ) (id : NotificationId) → (id ≡ CompletionId i → ⊥) → same_id id (CompletionId i) ≡ false
untaken_by i id apart = by_test (same_id id (CompletionId i)) refl
  where
    by_test : (b : Bool) → same_id id (CompletionId i) ≡ b → b ≡ false
    by_test true e = absurd (apart (same_is id (CompletionId i) e))
    by_test false e = refl

-- ---- one move, if no handle stands for the id

-- no handle stands for this completion id
abbrev NoHandle : ℕ → Derived → Type 0
NoHandle i d = (handle : ℕ) → id_at handle d.handles ≡ Some (CompletionId i) → ⊥

abbrev UntakenAfter : ℕ → Move → Type 0
UntakenAfter i (Answers gives d) = Untaken i d.usage
UntakenAfter i (Needs demand gives d) = Untaken i d.usage
UntakenAfter i Awaits = Unit {0}
UntakenAfter i Ends = Unit {0}
UntakenAfter i (Refuses name) = Unit {0}

module _ (s : Setup) (i : ℕ) where
  numbered_leaves : (c : Command) (o : Option NamedFault) (d : Derived) → Untaken i d.usage → UntakenAfter i (numbered s c o d)
  numbered_leaves c (Some fault) d h = tt
  numbered_leaves c None d h = h

  commanding_leaves : (c : Command) (o : Option NamedFault) (d : Derived) → Untaken i d.usage → UntakenAfter i (commanding s c o d)
  commanding_leaves c (Some fault) d h = tt
  commanding_leaves c None d h = numbered_leaves c (missing_number (ids_of c.message) 0 (ids_of c.message) d.counters) d h

  part_leaves : (kind : AnswerKind) (c : Command) (cs : List Command) (before d : Derived) → Untaken i before.usage → Untaken i d.usage → UntakenAfter i (part s kind c cs before d)
  part_leaves kind c [] before d h k = h
  part_leaves kind c (b ∷ bs) before d h k = k

  turn_leaves : (kind : AnswerKind) (o : Option NamedFault) (t : Turn) (d : Derived) → t.before.usage ≡ d.usage → Untaken i d.usage → UntakenAfter i (part_unless o s kind t d)
  turn_leaves kind (Some fault) t d same h = tt
  turn_leaves kind None t d same h = part_leaves kind t.command t.behind t.before d (subst (Untaken i) (sym same) h) h

  reading_leaves : (r : StateRead) (o : Option NamedFault) (d : Derived) → Untaken i d.usage → UntakenAfter i (reading r o d)
  reading_leaves r (Some fault) d h = tt
  reading_leaves r None d h = h

  awakeable_leaves : (o : Option NamedFault) (d : Derived) → Untaken i d.usage → UntakenAfter i (awakeable_made s o d)
  awakeable_leaves (Some fault) d h = tt
  awakeable_leaves None d h = h

  making_leaves : (b : Bool) (d : Derived) → Untaken i d.usage → UntakenAfter i (making_awakeable s b d)
  making_leaves true d h = tt
  making_leaves false d h = awakeable_leaves (missing_signals 1 1 d.counters) d h

  signal_leaves : (name : List ℕ) (o : Option NamedFault) (d : Derived) → Untaken i d.usage → UntakenAfter i (signal_made name o d)
  signal_leaves name (Some fault) d h = tt
  signal_leaves name None d h = h

  awaiting_leaves : (b : Bool) (d : Derived) → Untaken i d.usage → UntakenAfter i (awaiting b d)
  awaiting_leaves true d h = h
  awaiting_leaves false d h = tt

  -- the cancel handle doesn't stand for it
  cancel_leaves : (o : Option NotificationId) (d : Derived) → (o ≡ Some (CompletionId i) → ⊥) → Untaken i d.usage → Untaken i (with_cancel_taken o (record d { tracked = [] })).usage
  cancel_leaves None d apart h = h
  cancel_leaves (Some id) d apart h = (untaken_by i id (λ e. apart (ap (λ x. Some x) e)), h)

  read_leaves : (o : Option (List ℕ)) (d : Derived) → Untaken i d.usage → UntakenAfter i (id_read o d)
  read_leaves None d h = tt
  read_leaves (Some id) d h = h

  id_leaves : (o : Option NotificationResult) (d : Derived) → Untaken i d.usage → UntakenAfter i (id_awaited o d)
  id_leaves None d h = tt
  id_leaves (Some result) d h = read_leaves (id_of_result result) d h

  sent_leaves : (id : List ℕ) (o : Option NamedFault) (d : Derived) → Untaken i d.usage → UntakenAfter i (cancel_sent s id o d)
  sent_leaves id (Some fault) d h = tt
  sent_leaves id None d h = h

  cancelling_leaves : (ids : List (List ℕ)) (d : Derived) → NoHandle i d → Untaken i d.usage → UntakenAfter i (cancelling s ids d)
  cancelling_leaves [] d none h = cancel_leaves (id_at 1 d.handles) d (none 1) h
  cancelling_leaves (id ∷ ids) d none h = sent_leaves id (missing_number 0 0 0 d.counters) d h

  cancelled_leaves : (handles : List ℕ) (d : Derived) → NoHandle i d → Untaken i d.usage → UntakenAfter i (cancelled s handles d)
  cancelled_leaves [] d none h = cancelling_leaves (invocation_ids d.tracked) d none h
  cancelled_leaves (handle ∷ handles) d none h = id_leaves (present_result_for s.options.signal_delivery (id_at handle d.handles) (ready_in s d)) d h

  awaited_leaves : (b : Bool) (future : UnresolvedFuture) (d : Derived) → NoHandle i d → Untaken i d.usage → UntakenAfter i (awaited s b future d)
  awaited_leaves true future d none h = cancelled_leaves (unresolved_handles d.tracked) d none h
  awaited_leaves false future d none h = awaiting_leaves (is_awake s future d) d h

  noted_leaves : (handle : NotificationHandle) (id : NotificationId) (value : Value) (o : Option (List TrackedCall)) (d : Derived) → (id ≡ CompletionId i → ⊥) → Untaken i d.usage → UntakenAfter i (take_noting_id handle id value o d)
  noted_leaves handle id value None d apart h = tt
  noted_leaves handle id value (Some tracked) d apart h = (untaken_by i id apart, h)

  value_leaves : (handle : NotificationHandle) (id : NotificationId) (o : Option Value) (d : Derived) → (id ≡ CompletionId i → ⊥) → Untaken i d.usage → UntakenAfter i (take_of_value handle id o d)
  value_leaves handle id None d apart h = tt
  value_leaves handle id (Some value) d apart h = noted_leaves handle id value (id_noted handle.0 (id_of_value value) d.tracked) d apart h

  result_leaves : (handle : NotificationHandle) (id : Option NotificationId) (o : Option NotificationResult) (d : Derived) → (id ≡ Some (CompletionId i) → ⊥) → Untaken i d.usage → UntakenAfter i (take_of_result handle id o d)
  result_leaves handle (Some id) (Some result) d apart h = value_leaves handle id (value_of result) d (λ e. apart (ap (λ x. Some x) e)) h
  result_leaves handle (Some id) None d apart h = h
  result_leaves handle None o d apart h = h

  asked_leaves : (a : Ask) (d : Derived) → NoHandle i d → Untaken i d.usage → UntakenAfter i (asked s a d)
  asked_leaves (ask.Command c) d none h = commanding_leaves c c.refusal d h
  asked_leaves (ask.Commands kind first second) d none h =
      let t = turn_after s d.parts first (second ∷ []) d in
      turn_leaves kind (refused_before t.command t.behind t.before.counters) t d (turn_splits s d.parts first (second ∷ []) d).usage h
  asked_leaves (ask.Read r) d none h = reading_leaves r (missing_number 1 0 1 d.counters) d h
  asked_leaves ask.Awakeable d none h = making_leaves (skips_replay s.options.journal_replay) d h
  asked_leaves (ask.Signal name) d none h = signal_leaves name (missing_signals 0 1 d.counters) d h
  asked_leaves (ask.Await future) d none h = awaited_leaves (is_cancelled_in s d) future d none h
  asked_leaves (ask.Take handle) d none h = result_leaves handle (id_at handle.0 d.handles) (present_result_for s.options.signal_delivery (id_at handle.0 d.handles) (ready_in s d)) d (none handle.0) h
  asked_leaves (ask.Completed handle) d none h = h
  asked_leaves ask.End d none h = tt

  brought_leaves : (id : ℕ) (result : Option NotificationResult) (d : Derived) → Untaken i d.usage → Untaken i (with_read_result id result d).usage
  brought_leaves id None d h = h
  brought_leaves id (Some result) d h = h

  command_leaves : (o : Result (Option NotificationResult) NamedFault) (e : Demand) (gives : List Answer) (d : Derived) (left : List RawMessage) (p q : Point) → Untaken i d.usage → command_used o e gives d left p ≡ Some q → Untaken i q.derived.usage
  command_leaves (Err name) e gives d left p q h m = none_some m
  command_leaves (Ok result) e gives d left p q h m = subst (λ (z : Point). Untaken i z.derived.usage) (same_Some _ q m) (brought_leaves p.derived.counters.completion result d h)

  uses_leaves : (e : Demand) (gives : List Answer) (d : Derived) (left : List RawMessage) (p q : Point) → Untaken i d.usage → uses_command e gives d left p ≡ Some q → Untaken i q.derived.usage
  uses_leaves e gives d [] p q h m = none_some m
  uses_leaves e gives d (c ∷ left) p q h m = command_leaves (found e c) e gives d left p q h m

  arrival_leaves : (queue : List Notification) (p q : Point) → Untaken i p.derived.usage → uses_arrival queue p ≡ Some q → Untaken i q.derived.usage
  arrival_leaves [] p q h m = none_some m
  arrival_leaves (n ∷ queue) p q h m = subst (λ (z : Point). Untaken i z.derived.usage) (same_Some _ q m) h

  moved_leaves : (mv : Move) (p q : Point) → Untaken i p.derived.usage → UntakenAfter i mv → moved mv p ≡ Some q → Untaken i q.derived.usage
  moved_leaves (Answers gives d) p q h t m = subst (λ (z : Point). Untaken i z.derived.usage) (same_Some _ q m) t
  moved_leaves (Needs e gives d) p q h t m = uses_leaves e gives d p.left p q t m
  moved_leaves Awaits p q h t m = arrival_leaves p.queue p q h m
  moved_leaves Ends p q h t m = none_some m
  moved_leaves (Refuses name) p q h t m = none_some m

  next_leaves : (m : Meaning) (p q : Point) → NoHandle i p.derived → Untaken i p.derived.usage → next s m p ≡ Some q → Untaken i q.derived.usage
  next_leaves m p q none h e = moved_leaves (move_at s m p) p q h (asked_leaves (ask_of s.version (m p.answers)) p.derived none h) e

-- ---- ids that are given

from_bound : (n id k i : ℕ) → item k (ids_from n id) ≡ Some (CompletionId i) → i < id + n
from_bound zero id k i e = none_some e
from_bound (suc n) id zero i e = let same : id ≡ i = cc in omega (arith, same)
from_bound (suc n) id (suc k) i e = let l = from_bound n (id + 1) k i e in omega (arith, l)

given_bound : (completion signal : ℕ) (a : Ask) (k i : ℕ) → item k (given_for completion signal a) ≡ Some (CompletionId i) → i < completion + completion_ids_in a
given_bound completion signal (ask.Command c) k i e = from_bound (ids_of c.message) completion k i e
given_bound completion signal (ask.Commands kind first second) k i e = from_bound (all_ids first (second ∷ [])) completion k i e
given_bound completion signal (ask.Read r) zero i e = let same : completion ≡ i = cc in omega (arith, same)
given_bound completion signal (ask.Read r) (suc k) i e = none_some e
given_bound completion signal ask.Awakeable zero i e = absurd (cc)
given_bound completion signal ask.Awakeable (suc k) i e = none_some e
given_bound completion signal (ask.Signal name) zero i e = absurd (cc)
given_bound completion signal (ask.Signal name) (suc k) i e = none_some e
given_bound completion signal (ask.Await future) k i e = none_some e
given_bound completion signal (ask.Take handle) k i e = none_some e
given_bound completion signal (ask.Completed handle) k i e = none_some e
given_bound completion signal ask.End k i e = none_some e

item_of : (xs ys : List NotificationId) (k : ℕ) (id : NotificationId) → item k (xs ++ ys) ≡ Some id → (item k xs ≡ Some id) ⊎ ((j : ℕ) × (item j ys ≡ Some id))
item_of [] ys k id e = inr (k, e)
item_of (x ∷ xs) ys zero id e = inl e
item_of (x ∷ xs) ys (suc k) id e = item_of xs ys k id e

all_bound : (version : Version) (completions signals : ℕ) (steps : List Step) (k i : ℕ) → item k (ids_of_steps version completions signals steps) ≡ Some (CompletionId i) → i < 1 + completions + total (completion_ids version) steps
all_bound version completions signals [] k i e = none_some e
all_bound version completions signals (st ∷ steps) k i e =
    let n = completion_ids version st in
    let more = total (completion_ids version) steps in
    ⊎_elim
    (λ (x : item k (given_for (1 + completions) (17 + signals) (ask_of version st)) ≡ Some (CompletionId i)). let l = given_bound (1 + completions) (17 + signals) (ask_of version st) k i x in less completions n more l)
    (λ (x : (j : ℕ) × (item j (ids_of_steps version (completions + n) (signals + signal_ids version st) steps) ≡ Some (CompletionId i))). let l = all_bound version (completions + n) (signals + signal_ids version st) steps x.0 i x.1 in later completions n more l)
    (item_of (given_for (1 + completions) (17 + signals) (ask_of version st)) (ids_of_steps version (completions + n) (signals + signal_ids version st) steps) k (CompletionId i) e)
  where
    less : (a n more : ℕ) → i < 1 + a + n → i < 1 + a + (n + more)
    less a n more l = omega (arith, l)

    later : (a n more : ℕ) → i < 1 + (a + n) + more → i < 1 + a + (n + more)
    later a n more l = omega (arith, l)

-- the sum over some calls is no more than that over more of them
sums_more : (f : Step → ℕ) (m : Meaning) (before xs ys : List Answer) → total f (calls_after m before xs) ≤ total f (calls_after m before (xs ++ ys))
sums_more f m before [] ys = omega arith
sums_more f m before (x ∷ xs) ys = let l = sums_more f m (before ++ x ∷ []) xs ys in omega (arith, l)

sums_grow : (f : Step → ℕ) (m : Meaning) (xs ys : List Answer) → total f (calls_for m xs) ≤ total f (calls_for m (xs ++ ys))
sums_grow f m [] ys = omega arith
sums_grow f m (x ∷ xs) ys = sums_more f m (x ∷ []) xs ys

-- ---- a run

-- one move more
after_next : (s : Setup) (m : Meaning) (k : ℕ) (p z r : Point) → after s m k p ≡ Some z → next s m z ≡ Some r → after s m (suc k) p ≡ Some r
after_next s m zero p z r e f = ap (λ o. and_then o (λ x. Some x)) (subst (λ (x : Point). next s m x ≡ Some r) (sym (same_Some p z e)) f)
after_next s m (suc k) p z r e f =
    let x = and_then_some (next s m p) (after s m k) z e in
    ap (λ o. and_then o (after s m (suc k))) x.1 ∙ after_next s m k x.0 z r x.2 f

module _ (s : Setup) (m : Meaning) (input : InputCommand) (ns : List Notification) (cs : List RawMessage) (i : ℕ) where
  abbrev begun : Point
  begun = start s input ns cs

  -- at a point whose next id isn't greater, no handle stands for it
  none_stands : (k : ℕ) (z : Point) → after s m k begun ≡ Some z → z.derived.counters.completion ≤ i → NoHandle i z.derived
  none_stands k z e late handle at = ⊎_elim
      (λ (x : (handle ≡ 1) × (CompletionId i ≡ SignalId 1)). absurd (let y = x.1 in cc))
      (λ (x : (j : ℕ) × (handle ≡ 17 + j) × (item j (ids_of_steps s.version 0 0 (calls_for m z.answers)) ≡ Some (CompletionId i))).
      beyond z.derived.counters.completion (total (completion_ids s.version) (calls_for m z.answers)) (told_sums s m k input ns cs z e).0 late (all_bound s.version 0 0 (calls_for m z.answers) x.0 i x.2))
      (handles_stand s m k input ns cs z e handle (CompletionId i) at)
    where
      beyond : (here sum : ℕ) → here ≡ 1 + sum → here ≤ i → i < 1 + 0 + sum → ⊥
      beyond here sum is late less = absurd (omega (arith, is, late, less))

  -- the next id never falls
  ids_rise : (k j : ℕ) (z r : Point) → after s m k begun ≡ Some z → after s m j begun ≡ Some r → next s m z ≡ Some r → r.derived.counters.completion ≤ i → z.derived.counters.completion ≤ i
  ids_rise k j z r e f g late =
      let x = after_answers s m 1 z r (ap (λ o. and_then o (λ y. Some y)) g) in
      let l = subst (λ (l : List Answer). total (completion_ids s.version) (calls_for m z.answers) ≤ total (completion_ids s.version) (calls_for m l)) (sym x.1) (sums_grow (completion_ids s.version) m z.answers x.0) in
      below z.derived.counters.completion r.derived.counters.completion (total (completion_ids s.version) (calls_for m z.answers)) (total (completion_ids s.version) (calls_for m r.answers)) (told_sums s m k input ns cs z e).0 (told_sums s m j input ns cs r f).0 l late
    where
      below : (a b x y : ℕ) → a ≡ 1 + x → b ≡ 1 + y → x ≤ y → b ≤ i → a ≤ i
      below a b x y e f l late = omega (arith, e, f, l, late)

  leaves_along : (n k : ℕ) (z q : Point) → after s m k begun ≡ Some z → after s m n z ≡ Some q → (z.derived.counters.completion ≤ i → Untaken i z.derived.usage) → q.derived.counters.completion ≤ i → Untaken i q.derived.usage
  leaves_along zero k z q e f h late = subst (λ (x : Point). x.derived.counters.completion ≤ i → Untaken i x.derived.usage) (same_Some z q f) h late
  leaves_along (suc n) k z q e f h late =
      let x = and_then_some (next s m z) (after s m n) q f in
      let there = after_next s m k begun z x.0 e x.1 in
      leaves_along n (suc k) x.0 q there x.2 (λ l. let early = ids_rise k (suc k) z x.0 e there x.1 l in next_leaves s i m z x.0 (none_stands k z e early) (h early) x.1) late

  untaken : (n : ℕ) (q : Point) → after s m n begun ≡ Some q → q.derived.counters.completion ≤ i → Untaken i q.derived.usage
  untaken n q e late = leaves_along n 0 begun q refl e (λ l. tt) late

-- ---- what came is known

-- another id's results stay
first_stays : (j id : NotificationId) → same_id j id ≡ false → (ns : List Notification) → has_result_among id (without_oldest j ns) ≡ has_result_among id ns
first_stays j id apart [] = refl
first_stays j id apart (n ∷ ns) = by_test (same_id n.id j) refl (first_stays j id apart ns)
  where
    by_test : (b : Bool) → same_id n.id j ≡ b → has_result_among id (without_oldest j ns) ≡ has_result_among id ns → has_result_among id (cond b ns (n ∷ without_oldest j ns)) ≡ (same_id n.id id || has_result_among id ns)
    by_test true e ih = ap (λ b. b || has_result_among id ns) (sym (ap (λ x. same_id x id) (same_is n.id j e) ∙ apart))
    by_test false e ih = ap (λ b. same_id n.id id || b) ih

all_stay : (j id : NotificationId) → same_id j id ≡ false → (ns : List Notification) → has_result_among id (without_all j ns) ≡ has_result_among id ns
all_stay j id apart [] = refl
all_stay j id apart (n ∷ ns) = by_test (same_id n.id j) refl (all_stay j id apart ns)
  where
    by_test : (b : Bool) → same_id n.id j ≡ b → has_result_among id (without_all j ns) ≡ has_result_among id ns → has_result_among id (cond b (without_all j ns) (n ∷ without_all j ns)) ≡ (same_id n.id id || has_result_among id ns)
    by_test true e ih = ih ∙ ap (λ b. b || has_result_among id ns) (sym (ap (λ x. same_id x id) (same_is n.id j e) ∙ apart))
    by_test false e ih = ap (λ b. same_id n.id id || b) ih

left_stays : (delivery : SignalDelivery) (j id : NotificationId) → same_id j id ≡ false → (ns : List Notification) → has_result_among id (left_among delivery j ns) ≡ has_result_among id ns
left_stays delivery j id apart ns = by_test (is_listed delivery j)
  where
    by_test : (b : Bool) → has_result_among id (cond b (without_oldest j ns) (without_all j ns)) ≡ has_result_among id ns
    by_test true = first_stays j id apart ns
    by_test false = all_stay j id apart ns

has_append : (id : NotificationId) (xs ys : List Notification) → has_result_among id (xs ++ ys) ≡ (has_result_among id xs || has_result_among id ys)
has_append id [] ys = refl
has_append id (x ∷ xs) ys = by_test (same_id x.id id) (has_append id xs ys)
  where
    by_test : (b : Bool) → has_result_among id (xs ++ ys) ≡ (has_result_among id xs || has_result_among id ys) → (b || has_result_among id (xs ++ ys)) ≡ ((b || has_result_among id xs) || has_result_among id ys)
    by_test true ih = refl
    by_test false ih = ih

came_ready : (delivery : SignalDelivery) (i : ℕ) (us : List Usage) → Untaken i us → has_result_among (CompletionId i) (arrivals_in us) ≡ true → has_result (CompletionId i) (ready_by_usage delivery us) ≡ true
came_ready delivery i [] untaken h = absurd (cc)
came_ready delivery i (Used n ∷ us) untaken h =
    let r = ready_by_usage delivery us in
    ap (λ b. b || has_result_among (CompletionId i) r.eager) (has_append (CompletionId i) r.delivered (n ∷ []))
    ∙ by_tests (has_result_among (CompletionId i) (arrivals_in us)) (same_id n.id (CompletionId i)) (has_result_among (CompletionId i) r.delivered) (has_result_among (CompletionId i) r.eager) (sym (has_append (CompletionId i) (arrivals_in us) (n ∷ [])) ∙ h) (came_ready delivery i us untaken)
  where
    by_tests : (a s d e : Bool) → (a || (s || false)) ≡ true → (a ≡ true → (d || e) ≡ true) → ((d || (s || false)) || e) ≡ true
    by_tests a s true e h ih = refl
    by_tests a true false e h ih = refl
    by_tests true false false e h ih = ih refl
    by_tests false false false e h ih = absurd (cc)
came_ready delivery i (Read id result ∷ us) untaken h =
    let r = ready_by_usage delivery us in
    ap (λ b. has_result_among (CompletionId i) (without_all (CompletionId id) r.delivered) || b) (has_append (CompletionId i) r.eager (record { id = CompletionId id; result = result } ∷ []))
    ∙ by_test (same_id (CompletionId id) (CompletionId i)) refl (has_result_among (CompletionId i) r.eager) (came_ready delivery i us untaken h)
  where
    any_true : (a b : Bool) → (a || (b || true)) ≡ true
    any_true true b = refl
    any_true false true = refl
    any_true false false = refl

    none_more : (a b : Bool) → (a || b) ≡ true → (a || (b || false)) ≡ true
    none_more true b h = refl
    none_more false true h = refl
    none_more false false h = absurd (cc)

    by_test : (b : Bool) → same_id (CompletionId id) (CompletionId i) ≡ b → (e : Bool) → (has_result_among (CompletionId i) (ready_by_usage delivery us).delivered || e) ≡ true → (has_result_among (CompletionId i) (without_all (CompletionId id) (ready_by_usage delivery us).delivered) || (e || (b || false))) ≡ true
    by_test true same e there = any_true (has_result_among (CompletionId i) (without_all (CompletionId id) (ready_by_usage delivery us).delivered)) e
    by_test false apart e there = none_more _ e (ap (λ b. b || e) (all_stay (CompletionId id) (CompletionId i) apart (ready_by_usage delivery us).delivered) ∙ there)
came_ready delivery i (Taken id ∷ us) untaken h =
    let r = ready_by_usage delivery us in
    (λ k. left_stays delivery id (CompletionId i) untaken.0 r.delivered k || left_stays delivery id (CompletionId i) untaken.0 r.eager k) ∙ came_ready delivery i us untaken.1 h

of_same : (i : ℕ) (id : NotificationId) → is_of i id ≡ same_id id (CompletionId i)
of_same i (CompletionId other) = refl
of_same i (SignalId other) = refl
of_same i (SignalName name) = refl

completed_has : (i : ℕ) (ns : List Notification) → completes_id i ns ≡ has_result_among (CompletionId i) ns
completed_has i [] = refl
completed_has i (n ∷ ns) = λ k. of_same i n.id k || completed_has i ns k

-- Where an id isn't given yet and no result of it is known, none has come.
pub unknown_open : (s : Setup) (m : Meaning) (n : ℕ) (input : InputCommand) (ns : List Notification) (cs : List RawMessage) (q : Point) → after s m n (start s input ns cs) ≡ Some q
    → (i : ℕ) → q.derived.counters.completion ≤ i → is_known (CompletionId i) (arrived_at s q) ≡ false → completes_id i ns ≡ false
unknown_open s m n input ns cs q e i late unknown =
    completed_has i ns ∙ ap (has_result_among (CompletionId i)) (arrivals_used s m n input ns cs q e) ∙ has_append (CompletionId i) (arrivals_in q.derived.usage) q.queue
    ∙ by_tests (has_result_among (CompletionId i) (arrivals_in q.derived.usage)) (has_result_among (CompletionId i) q.queue) (has_result (CompletionId i) (ready_in s q.derived)) unknown (came_ready s.options.signal_delivery i q.derived.usage (untaken s m input ns cs i n q e late))
  where
    by_tests : (a b r : Bool) → (r || b) ≡ false → (a ≡ true → r ≡ true) → (a || b) ≡ false
    by_tests true b true h ih = absurd (cc)
    by_tests true b false h ih = absurd (let z : false ≡ true = ih refl in cc)
    by_tests false b true h ih = absurd (cc)
    by_tests false b false h ih = h
