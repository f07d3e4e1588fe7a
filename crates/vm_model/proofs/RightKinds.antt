-- Where the results of invocations' ids are of the right kind, none is read of another kind.
use Rattle.std.proofs.Common.{◌≡◌, ◌≢◌, ◌<◌, ◌≤◌, ℕ, zero, suc, ◌+◌, Bool, true, false, cond, ◌||◌, List, [], ◌∷◌, ◌++◌, length, is_some, Option, Some, None, refl, sym, ap, ◌∙◌, subst, append_assoc, append-nil, arith}
use Rattle.std.specs.Prelude.{◌==◌, ◌-◌, nat_lt, if◌then◌else◌, unwrap_or, Result, Ok, Err}
use Rattle.std.specs.List.{AllByRecursion}
use Rattle.std.specs.Option.{option_map, option_or}
use Rattle.std.proofs.lemmas.Bool.{eq-eqb, eqb-true}
use Rattle.std.proofs.lemmas.Option.{same_Some}
use Rattle.await_arrivals.specs.Results.{results_of}
use Rattle.await_arrivals.proofs.Awaited.{results-append}
use Rattle.journal_protocol.specs.InputCommand.{InputCommand}
use Rattle.journal_protocol.specs.NamedFault.{NamedFault}
use Rattle.journal_protocol.specs.NamedFault.TheVariants as fault
use Rattle.journal_protocol.specs.Types.{type_number}
use Rattle.journal_protocol.specs.Version.{Version}
use Rattle.journal_protocol.specs.Equality.{header_equal}
use Rattle.journal_protocol.specs.Message.{Message}
use Rattle.journal_protocol.specs.Message.TheVariants as message
use Rattle.journal_protocol.specs.RawMessage.{RawMessage}
use Rattle.journal_protocol.specs.Frames.{type_of}
use Rattle.journal_protocol.specs.Bodies.{message_in}
use Rattle.journal_protocol.specs.Notification.{Notification}
use Rattle.journal_protocol.specs.NotificationId.{NotificationId}
use Rattle.journal_protocol.specs.NotificationId.TheVariants.{CompletionId, SignalId, SignalName}
use Rattle.journal_protocol.specs.NotificationResult.{NotificationResult}
use Rattle.journal_protocol.specs.NotificationResult.TheVariants as found
use Rattle.vm_types.specs.declared.options.ImplicitCancellationOption.{ImplicitCancellationOption}
use Rattle.journal_protocol.specs.SignalDelivery.{SignalDelivery}
use Rattle.journal_protocol.specs.SignalDelivery.TheVariants.{Queued, Overwrite}
use Rattle.vm_types.specs.declared.steps.Answer.{Answer}
use Rattle.vm_types.specs.declared.steps.Step.{Step}
use Rattle.vm_types.specs.declared.steps.Step.TheVariants as step
use Rattle.vm_types.specs.declared.values.Target.{Target}
use Rattle.vm_types.specs.declared.values.Value.{Value}
use Rattle.vm_types.specs.declared.values.NonEmptyValue.{NonEmptyValue}
use Rattle.vm_types.specs.Values.{value_of, id_of_value}
use Rattle.await_trees.specs.declared.handle.NotificationHandle.{NotificationHandle}
use Rattle.await_trees.specs.declared.tree.UnresolvedFuture.{UnresolvedFuture}
use Rattle.vm_parts.specs.declared.async_results.Mapping.{Mapping}
use Rattle.vm_state.specs.declared.counters.Counters.{Counters}
use Rattle.vm_state.specs.declared.tracked_call.TrackedCall.{TrackedCall}
use Rattle.vm_state.specs.Counting.{missing_number, missing_signals, most, missing_indexes}
use Rattle.vm_parts.specs.Deliveries.{id_at, newest, newest_after, present_result, present_result_for, same_id, unmapped}
use Rattle.vm_state.specs.TrackedCalls.{with_call}
use Rattle.vm_parts.specs.Tracked.{by_known_id, id_of_result, if_unresolved, invocation_ids, is_tracked, id_noted, unresolved_handles, with_invocation_id, with_next_id, without_first_call}
use Rattle.vm_asks.specs.declared.asks.AnswerKind.{AnswerKind}
use Rattle.vm_asks.specs.declared.asks.Ask.{Ask}
use Rattle.vm_asks.specs.declared.asks.Ask.TheVariants as ask
use Rattle.vm_asks.specs.declared.command.Command.{Command}
use Rattle.vm_asks.specs.declared.state_read.StateRead.{StateRead}
use Rattle.vm_asks.specs.Asks.{EachIs, all_ids, any_refusal, ask_of, early_fault, empty_fault, scope_fault, scope_of, target_fault, time_fault, value_fault, missing_for}
use Rattle.vm_asks.specs.Requests.{ids_of, is_cancelled_with, with_ids}
use Rattle.vm_parts.specs.Mappings.{mapped_from}
use Rattle.vm_types.specs.Options.{ignores_payloads, skips_replay}
use Rattle.vm_model.specs.Calls.{Derived, Demand, Meaning, Move, Setup, Turn, Usage, asked, awaited, awakeable_made, awaiting, behind_command, cancel_sent, with_cancel_taken, cancelled, cancelling, commanding, counted, id_awaited, id_read, is_awake, is_cancelled_in, making_awakeable, numbered, part, part_unless, reading, ready_in, refused_before, take_of_result, signal_made, turn_after, take_noting_id, take_of_value}
use Rattle.vm_model.specs.Calls.Demand.{Exactly}
use Rattle.vm_model.specs.Calls.Move.{Answers, Needs, Awaits, Ends, Refuses}
use Rattle.vm_model.specs.Calls.Usage.{Used, Read, Taken}
use Rattle.vm_model.specs.Carried.{AreOfTheirKind, IsInvocationId, is_carried, is_for_invocation, names_invocation, read_carries}
use Rattle.vm_model.specs.Deliveries.{next_taken, since_taken}
use Rattle.vm_model.specs.Moves.{Point, after, arrival_used, with_read_result, command_used, first_derived, found as stands_for, move_at, moved, next, reads_as, start, uses_arrival, uses_command}
use Rattle.vm_model.specs.Uses.{arrivals_in, needed_for}
use Rattle.vm_model.proofs.Carried.{RestsAt, both, next_rests, none_read, reads_at, rests_none, rests_one, rests_there, same_request}
use Rattle.vm_model.proofs.Parts.{IsOfOne, next_keeps, next_turn, turn_apart}
use Rattle.vm_model.proofs.Parted.{PartMove, part_moves}
use Rattle.vm_model.proofs.Parted.PartMove.{More, Last}
use Rattle.vm_model.proofs.Results.{present_next, results_behind}
use Rattle.vm_model.proofs.Runs.{and_then_some, none_some}
use Rattle.vm_model.proofs.Took.{told_took}
use Rattle.vm_model.proofs.Uses.{arrivals_used}

-- ---- lists

each_is : {A : Type 0} (P Q : A → Type 0) (xs : List A) → ((x : A) → P x → Q x) → AllByRecursion P xs → AllByRecursion Q xs
each_is P Q [] f all = tt
each_is P Q (x ∷ xs) f all = (f x all.0, each_is P Q xs f all.1)

each_append : {A : Type 0} (P : A → Type 0) (xs ys : List A) → AllByRecursion P xs → AllByRecursion P ys → AllByRecursion P (xs ++ ys)
each_append P [] ys a b = b
each_append P (x ∷ xs) ys a b = (a.0, each_append P xs ys a.1 b)

each_front : {A : Type 0} (P : A → Type 0) (xs ys : List A) → AllByRecursion P (xs ++ ys) → AllByRecursion P xs
each_front P [] ys all = tt
each_front P (x ∷ xs) ys all = (all.0, each_front P xs ys all.1)

each_last : {A : Type 0} (P : A → Type 0) (xs : List A) (y : A) → AllByRecursion P (xs ++ y ∷ []) → P y
each_last P [] y all = all.0
each_last P (x ∷ xs) y all = each_last P xs y all.1

-- the first of some arrivals are of their kind
pub fewer_kinds : (ns more : List Notification) (cs : List RawMessage) → AreOfTheirKind (ns ++ more) cs → AreOfTheirKind ns cs
fewer_kinds ns more cs all id named = each_front IsInvocationId (results_of (CompletionId id) ns) (results_of (CompletionId id) more) (subst (AllByRecursion IsInvocationId) (results-append (CompletionId id) ns more) (all id named))

-- ---- what a command carries for its invocation's id

same_number : (n : ℕ) → (n == n) ≡ true
same_number n = eq-eqb n n refl

-- a command whose invocation is cancelled with the handler's carries its first id for it, and is given one
own_invocation : (option : ImplicitCancellationOption) (m : Message) (id : ℕ) → is_cancelled_with option m ≡ true → (names_invocation id (Some (with_ids id m)) ≡ true) × (0 < ids_of m)
own_invocation option (message.Call c) id e = (same_number id, omega arith)
own_invocation option (message.OneWayCall c) id e = (same_number id, omega arith)
own_invocation option m id e = absurd (let z : false ≡ true = e in cc)

-- a header-equal command carries it too
same_invocation : (m n : Message) (ignore : Bool) → header_equal n m ignore ≡ true → (i : ℕ) → names_invocation i (Some m) ≡ true → names_invocation i (Some n) ≡ true
unfolding header_equal
same_invocation (message.Call b) (message.Call a) ignore e i h = ap (λ x. x == i) (same_request ignore a.request b.request (both _ (a.result_completion_id == b.result_completion_id) e).0) ∙ h
same_invocation (message.OneWayCall b) (message.OneWayCall a) ignore e i h = ap (λ x. x == i) (same_request ignore a.request b.request e) ∙ h
same_invocation (message.Call b) n ignore e i h = absurd (cc)
same_invocation (message.OneWayCall b) n ignore e i h = absurd (cc)
same_invocation m n ignore e i h = absurd (let z : false ≡ true = h in cc)

named_by : (command : Message) (ignore : Bool) (o : Option Message) (result : Option NotificationResult) → reads_as ignore command o ≡ Ok result → (i : ℕ) → names_invocation i (Some command) ≡ true → names_invocation i o ≡ true
named_by command ignore None result e i h = absurd (cc)
named_by command ignore (Some n) result e i h = by_test (header_equal n command ignore) refl e
  where
    by_test : (b : Bool) → header_equal n command ignore ≡ b → (if b then Ok None else Err fault.CommandMismatch) ≡ Ok result → names_invocation i (Some n) ≡ true
    by_test true t x = same_invocation command n ignore t i h
    by_test false t x = absurd (cc)

-- and so a recorded command that stands for it
named_in : (command : Message) (ignore : Bool) (raw : RawMessage) (result : Option NotificationResult) → stands_for (Exactly command ignore) raw ≡ Ok result → (i : ℕ) → names_invocation i (Some command) ≡ true → names_invocation i (message_in raw.ty raw.body) ≡ true
named_in command ignore raw result e i h = by_test (type_number raw.ty == type_number (type_of command)) e
  where
    by_test : (b : Bool) → (if b then reads_as ignore command (message_in raw.ty raw.body) else Err fault.CommandTypeMismatch) ≡ Ok result → names_invocation i (message_in raw.ty raw.body) ≡ true
    by_test true x = named_by command ignore (message_in raw.ty raw.body) result x i h
    by_test false x = absurd (cc)

named_more : (i : ℕ) (us vs : List RawMessage) → is_for_invocation i us ≡ true → is_for_invocation i (us ++ vs) ≡ true
named_more i [] vs e = absurd (cc)
named_more i (u ∷ us) vs e = by_test (names_invocation i (message_in u.ty u.body)) e (named_more i us vs)
  where
    by_test : (b : Bool) → (b || is_for_invocation i us) ≡ true → (is_for_invocation i us ≡ true → is_for_invocation i (us ++ vs) ≡ true) → (b || is_for_invocation i (us ++ vs)) ≡ true
    by_test true h ih = refl
    by_test false h ih = ih h

named_last : (i : ℕ) (us : List RawMessage) (raw : RawMessage) → names_invocation i (message_in raw.ty raw.body) ≡ true → is_for_invocation i (us ++ raw ∷ []) ≡ true
named_last i [] raw e = ap (λ b. b || false) e
named_last i (u ∷ us) raw e = by_test (names_invocation i (message_in u.ty u.body)) (named_last i us raw e)
  where
    by_test : (b : Bool) → is_for_invocation i (us ++ raw ∷ []) ≡ true → (b || is_for_invocation i (us ++ raw ∷ [])) ≡ true
    by_test true ih = refl
    by_test false ih = ih

-- it is among the ids that it carries
read_named : (i : ℕ) (o : Option Message) → names_invocation i o ≡ true → read_carries i o ≡ true
read_named i None e = absurd (let z : false ≡ true = e in cc)
read_named i (Some (message.Call c)) e = ap (λ b. b || ((c.result_completion_id == i) || false)) e
read_named i (Some (message.OneWayCall c)) e = ap (λ b. b || false) e
read_named i (Some m) e = absurd (let z : false ≡ true = e in cc)

carried_named : (i : ℕ) (us : List RawMessage) → is_for_invocation i us ≡ true → is_carried i us ≡ true
carried_named i [] e = absurd (let z : false ≡ true = e in cc)
carried_named i (u ∷ us) e = by_test (names_invocation i (message_in u.ty u.body)) refl e (carried_named i us)
  where
    or_true : (b : Bool) → (b || true) ≡ true
    or_true true = refl
    or_true false = refl

    by_test : (b : Bool) → names_invocation i (message_in u.ty u.body) ≡ b → (b || is_for_invocation i us) ≡ true → (is_for_invocation i us ≡ true → is_carried i us ≡ true) → is_carried i (u ∷ us) ≡ true
    by_test true t h ih = ap (λ b. b || is_carried i us) (read_named i (message_in u.ty u.body) t)
    by_test false t h ih = ap (λ b. read_carries i (message_in u.ty u.body) || b) (ih h) ∙ or_true (read_carries i (message_in u.ty u.body))

-- ---- what the handles of tracked calls stand for

-- the id is a completion's that one of these commands carries for its invocation's id
abbrev IsNamed : List RawMessage → NotificationId → Type 0
IsNamed us (CompletionId i) = is_for_invocation i us ≡ true
IsNamed us (SignalId i) = ⊥
IsNamed us (SignalName name) = ⊥

-- if the handle is this one, its id is such
abbrev IsFor : List RawMessage → ℕ → Mapping → Type 0
IsFor us h mp = mp.handle ≡ h → IsNamed us mp.id

abbrev IsBelow : ℕ → Mapping → Type 0
IsBelow next mp = mp.handle < next

abbrev TracksOne : List RawMessage → ℕ → List Mapping → ℕ → Type 0
TracksOne us next ms h = (h < next) × AllByRecursion (IsFor us h) ms

abbrev EachTracked : (ℕ → Type 0) → List TrackedCall → Type 0
EachTracked Q ts = AllByRecursion (λ t. Q t.handle) ts

-- each handle was given, and each tracked call's stands for the id of its invocation
abbrev Tracks : List RawMessage → Derived → Type 0
Tracks us d = AllByRecursion (IsBelow d.counters.handle) d.handles × EachTracked (TracksOne us d.counters.handle d.handles) d.tracked

more_named : (us vs : List RawMessage) (id : NotificationId) → IsNamed us id → IsNamed (us ++ vs) id
more_named us vs (CompletionId i) h = named_more i us vs h
more_named us vs (SignalId i) h = h
more_named us vs (SignalName name) h = h

more_one : (us vs : List RawMessage) (next : ℕ) (ms : List Mapping) (h : ℕ) → TracksOne us next ms h → TracksOne (us ++ vs) next ms h
more_one us vs next ms h t = (t.0, each_is (IsFor us h) (IsFor (us ++ vs) h) ms (λ mp f same. more_named us vs mp.id (f same)) t.1)

tracks_more : (us vs : List RawMessage) (d : Derived) → Tracks us d → Tracks (us ++ vs) d
tracks_more us vs d t = (t.0, each_is (λ t. TracksOne us d.counters.handle d.handles t.handle) (λ t. TracksOne (us ++ vs) d.counters.handle d.handles t.handle) d.tracked (λ t. more_one us vs d.counters.handle d.handles t.handle) t.1)

-- further handles are given
one_given : (us : List RawMessage) (old new : ℕ) (ms more : List Mapping) (h : ℕ) → old ≤ new → AllByRecursion (λ mp. old ≤ mp.handle) more → TracksOne us old ms h → TracksOne us new (ms ++ more) h
one_given us old new ms more h grows from t =
    let below = t.0 in (
      omega (arith, below, grows),
      each_append (IsFor us h) ms more t.1 (each_is (λ mp. old ≤ mp.handle) (IsFor us h) more (λ mp at same. absurd (omega (arith, below, at, same))) from),
    )

tracks_given : (us : List RawMessage) (old new : ℕ) (ms more : List Mapping) (ts : List TrackedCall) → old ≤ new → AllByRecursion (λ mp. old ≤ mp.handle) more → AllByRecursion (IsBelow new) more → AllByRecursion (IsBelow old) ms × EachTracked (TracksOne us old ms) ts
    → AllByRecursion (IsBelow new) (ms ++ more) × EachTracked (TracksOne us new (ms ++ more)) ts
tracks_given us old new ms more ts grows from below t = (
  each_append (IsBelow new) ms more (each_is (IsBelow old) (IsBelow new) ms (λ mp b. omega (arith, b, grows)) t.0) below,
  each_is (λ t. TracksOne us old ms t.handle) (λ t. TracksOne us new (ms ++ more) t.handle) ts (λ t. one_given us old new ms more t.handle grows from) t.1,
)

mapped_at : (n h c low : ℕ) → low ≤ h → AllByRecursion (λ mp. low ≤ mp.handle) (mapped_from n h c)
mapped_at zero h c low at = tt
mapped_at (suc n) h c low at = (at, mapped_at n (h + 1) (c + 1) low (omega (arith, at)))

mapped_below : (n h c past : ℕ) → h + n ≤ past → AllByRecursion (IsBelow past) (mapped_from n h c)
mapped_below zero h c past at = tt
mapped_below (suc n) h c past at = (omega (arith, at), mapped_below n (h + 1) (c + 1) past (omega (arith, at)))

mapped_named : (us : List RawMessage) (n h c : ℕ) → is_for_invocation c us ≡ true → AllByRecursion (IsFor us h) (mapped_from n h c)
mapped_named us zero h c named = tt
mapped_named us (suc n) h c named = ((λ _. named), each_is (λ mp. h + 1 ≤ mp.handle) (IsFor us h) (mapped_from n (h + 1) (c + 1)) (λ mp at same. absurd (omega (arith, at, same))) (mapped_at n (h + 1) (c + 1) (h + 1) (omega arith)))

-- ---- the tracked calls

with_call_each : (Q : ℕ → Type 0) (h : ℕ) (ts : List TrackedCall) → Q h → EachTracked Q ts → EachTracked Q (with_call h ts)
with_call_each Q h [] q all = (q, tt)
with_call_each Q h (t ∷ ts) q all = by_tests (nat_lt h t.handle) (h == t.handle) (with_call_each Q h ts q all.1)
  where
    by_tests : (a b : Bool) → EachTracked Q (with_call h ts) → EachTracked Q (if a then record { handle = h; invocation_id = None } ∷ t ∷ ts else if b then record { handle = h; invocation_id = None } ∷ ts else t ∷ with_call h ts)
    by_tests true b ih = (q, all)
    by_tests false true ih = (q, all.1)
    by_tests false false ih = (all.0, ih)

with_next_each : (Q : ℕ → Type 0) (id : List ℕ) (ts : List TrackedCall) → EachTracked Q ts → EachTracked Q (with_next_id id ts)
with_next_each Q id [] all = tt
with_next_each Q id (t ∷ ts) all = by_known t.invocation_id (with_next_each Q id ts all.1)
  where
    by_known : (o : Option (List ℕ)) → EachTracked Q (with_next_id id ts) → EachTracked Q (by_known_id o (record { handle = t.handle; invocation_id = Some id } ∷ ts) (t ∷ with_next_id id ts))
    by_known None ih = all
    by_known (Some known) ih = (all.0, ih)

without_first_each : (Q : ℕ → Type 0) (ts : List TrackedCall) → EachTracked Q ts → EachTracked Q (without_first_call ts)
without_first_each Q [] all = tt
without_first_each Q (t ∷ ts) all = all.1

with_id_each : (Q : ℕ → Type 0) (h : ℕ) (id : List ℕ) (ts : List TrackedCall) → EachTracked Q ts → EachTracked Q (with_invocation_id h id ts)
with_id_each Q h id [] all = tt
with_id_each Q h id (t ∷ ts) all = by_test (t.handle == h) (with_id_each Q h id ts all.1)
  where
    by_test : (b : Bool) → EachTracked Q (with_invocation_id h id ts) → EachTracked Q (if b then record { handle = t.handle; invocation_id = Some id } ∷ ts else t ∷ with_invocation_id h id ts)
    by_test true ih = all
    by_test false ih = (all.0, ih)

noted_each : (Q : ℕ → Type 0) (h : ℕ) (id : Option (List ℕ)) (ts us : List TrackedCall) → id_noted h id ts ≡ Some us → EachTracked Q ts → EachTracked Q us
noted_each Q h id ts us is all = by_test (is_tracked h ts) is
  where
    by_known : (o : Option (List ℕ)) → option_map (λ known. with_invocation_id h known ts) o ≡ Some us → EachTracked Q us
    by_known None e = none_some e
    by_known (Some known) e = subst (EachTracked Q) (same_Some _ us e) (with_id_each Q h known ts all)

    by_test : (b : Bool) → (if b then option_map (λ known. with_invocation_id h known ts) id else Some ts) ≡ Some us → EachTracked Q us
    by_test true e = by_known id e
    by_test false e = subst (EachTracked Q) (same_Some ts us e) all

unmapped_each : (P : Mapping → Type 0) (h : ℕ) (ms : List Mapping) → AllByRecursion P ms → AllByRecursion P (unmapped h ms)
unmapped_each P h [] all = tt
unmapped_each P h (mp ∷ ms) all = by_test (mp.handle == h) (unmapped_each P h ms all.1)
  where
    by_test : (b : Bool) → AllByRecursion P (unmapped h ms) → AllByRecursion P (cond b ms (mp ∷ unmapped h ms))
    by_test true ih = all.1
    by_test false ih = (all.0, ih)

left_each : (P : Mapping → Type 0) (h : ℕ) (ms : List Mapping) → AllByRecursion P ms → AllByRecursion P (cond (h == 1) ms (unmapped h ms))
left_each P h ms all = by_test (h == 1)
  where
    by_test : (b : Bool) → AllByRecursion P (cond b ms (unmapped h ms))
    by_test true = all
    by_test false = unmapped_each P h ms all

-- ---- one call

-- what a call leaves, after the recorded command that it uses
abbrev KeepsTracks : List RawMessage → Move → Type 0
KeepsTracks us (Answers gives e) = Tracks us e
KeepsTracks us (Needs demand gives e) = (raw : RawMessage) (result : Option NotificationResult) → stands_for demand raw ≡ Ok result → Tracks (us ++ raw ∷ []) e
KeepsTracks us Awaits = Unit {0}
KeepsTracks us Ends = Unit {0}
KeepsTracks us (Refuses name) = Unit {0}

-- handles are given for n completion ids
counted_tracks : (us : List RawMessage) (n : ℕ) (d : Derived) → Tracks us d → Tracks us (counted n d)
counted_tracks us n d t =
    tracks_given us d.counters.handle (d.counters.handle + n) d.handles (mapped_from n d.counters.handle d.counters.completion) d.tracked (omega arith) (mapped_at n d.counters.handle d.counters.completion d.counters.handle (omega arith)) (mapped_below n d.counters.handle d.counters.completion (d.counters.handle + n) (omega arith)) t

-- a command was used
command_tracks : (s : Setup) (us : List RawMessage) (c : Command) (d : Derived) (raw : RawMessage) (result : Option NotificationResult) → stands_for (needed_for s d.counters.completion c) raw ≡ Ok result → Tracks us d → Tracks (us ++ raw ∷ []) (behind_command s c d)
command_tracks s us c d raw result is t = (there.0, by_test (is_cancelled_with s.options.implicit_cancellation c.message) refl)
  where
    there : Tracks (us ++ raw ∷ []) (counted (ids_of c.message) d)
    there = counted_tracks (us ++ raw ∷ []) (ids_of c.message) d (tracks_more us (raw ∷ []) d t)

    -- the call that is tracked now
    now : is_cancelled_with s.options.implicit_cancellation c.message ≡ true → TracksOne (us ++ raw ∷ []) (d.counters.handle + ids_of c.message) (d.handles ++ mapped_from (ids_of c.message) d.counters.handle d.counters.completion) d.counters.handle
    now cancels =
        let own = own_invocation s.options.implicit_cancellation c.message d.counters.completion cancels in
        let some = own.1 in
        let named = named_last d.counters.completion us raw (named_in (with_ids d.counters.completion c.message) (ignores_payloads s.options.non_determinism_checks c.unstable) raw result is d.counters.completion own.0) in (
          omega (arith, some),
          each_append (IsFor (us ++ raw ∷ []) d.counters.handle) d.handles (mapped_from (ids_of c.message) d.counters.handle d.counters.completion)
              (each_is (IsBelow d.counters.handle) (IsFor (us ++ raw ∷ []) d.counters.handle) d.handles (λ mp below same. absurd (omega (arith, below, same))) t.0)
              (mapped_named (us ++ raw ∷ []) (ids_of c.message) d.counters.handle d.counters.completion named),
        )

    by_test : (b : Bool) → is_cancelled_with s.options.implicit_cancellation c.message ≡ b → EachTracked (TracksOne (us ++ raw ∷ []) (d.counters.handle + ids_of c.message) (d.handles ++ mapped_from (ids_of c.message) d.counters.handle d.counters.completion)) (if b then with_call d.counters.handle d.tracked else d.tracked)
    by_test true e = with_call_each (TracksOne (us ++ raw ∷ []) (d.counters.handle + ids_of c.message) (d.handles ++ mapped_from (ids_of c.message) d.counters.handle d.counters.completion)) d.counters.handle d.tracked (now e) there.1
    by_test false e = there.1

module _ (s : Setup) (us : List RawMessage) where
  numbered_tracks : (c : Command) (o : Option NamedFault) (d : Derived) → Tracks us d → KeepsTracks us (numbered s c o d)
  numbered_tracks c (Some name) d t = tt
  numbered_tracks c None d t = λ raw result is. command_tracks s us c d raw result is t

  commanding_tracks : (c : Command) (o : Option NamedFault) (d : Derived) → Tracks us d → KeepsTracks us (commanding s c o d)
  commanding_tracks c (Some name) d t = tt
  commanding_tracks c None d t = numbered_tracks c (missing_number (ids_of c.message) 0 (ids_of c.message) d.counters) d t

  reading_tracks : (r : StateRead) (o : Option NamedFault) (d : Derived) → Tracks us d → KeepsTracks us (reading r o d)
  reading_tracks r (Some name) d t = tt
  reading_tracks r None d t = λ raw result is. tracks_more us (raw ∷ []) (counted 1 d) (counted_tracks us 1 d t)

  -- one handle more
  handle_tracks : (id : NotificationId) (d : Derived) → Tracks us d → AllByRecursion (IsBelow (d.counters.handle + 1)) (d.handles ++ record { handle = d.counters.handle; id = id } ∷ []) × EachTracked (TracksOne us (d.counters.handle + 1) (d.handles ++ record { handle = d.counters.handle; id = id } ∷ [])) d.tracked
  handle_tracks id d t = tracks_given us d.counters.handle (d.counters.handle + 1) d.handles (record { handle = d.counters.handle; id = id } ∷ []) d.tracked (omega arith) (omega arith, tt) (omega arith, tt) t

  awakeable_tracks : (o : Option NamedFault) (d : Derived) → Tracks us d → KeepsTracks us (awakeable_made s o d)
  awakeable_tracks (Some name) d t = tt
  awakeable_tracks None d t = handle_tracks (SignalId d.counters.signal) d t

  making_tracks : (b : Bool) (d : Derived) → Tracks us d → KeepsTracks us (making_awakeable s b d)
  making_tracks true d t = tt
  making_tracks false d t = awakeable_tracks (missing_signals 1 1 d.counters) d t

  signal_tracks : (name : List ℕ) (o : Option NamedFault) (d : Derived) → Tracks us d → KeepsTracks us (signal_made name o d)
  signal_tracks name (Some fault) d t = tt
  signal_tracks name None d t = handle_tracks (SignalName name) d t

  awaiting_tracks : (b : Bool) (d : Derived) → Tracks us d → KeepsTracks us (awaiting b d)
  awaiting_tracks true d t = t
  awaiting_tracks false d t = tt

  read_tracks : (o : Option (List ℕ)) (d : Derived) → Tracks us d → KeepsTracks us (id_read o d)
  read_tracks None d t = tt
  read_tracks (Some id) d t = (t.0, with_next_each (TracksOne us d.counters.handle d.handles) id d.tracked t.1)

  id_tracks : (o : Option NotificationResult) (d : Derived) → Tracks us d → KeepsTracks us (id_awaited o d)
  id_tracks None d t = tt
  id_tracks (Some result) d t = read_tracks (id_of_result result) d t

  sent_tracks : (id : List ℕ) (o : Option NamedFault) (d : Derived) → Tracks us d → KeepsTracks us (cancel_sent s id o d)
  sent_tracks id (Some name) d t = tt
  sent_tracks id None d t = λ raw result is.
      let there = tracks_more us (raw ∷ []) (counted 0 d) (counted_tracks us 0 d t) in
      (there.0, without_first_each (TracksOne (us ++ raw ∷ []) (d.counters.handle + 0) (d.handles ++ mapped_from 0 d.counters.handle d.counters.completion)) d.tracked there.1)

  taken_tracks : (o : Option NotificationId) (d : Derived) → Tracks us d → Tracks us (with_cancel_taken o d)
  taken_tracks None d t = t
  taken_tracks (Some id) d t = t

  cancelling_tracks : (ids : List (List ℕ)) (d : Derived) → Tracks us d → KeepsTracks us (cancelling s ids d)
  cancelling_tracks [] d t = taken_tracks (id_at 1 d.handles) (record d { tracked = [] }) (t.0, tt)
  cancelling_tracks (id ∷ ids) d t = sent_tracks id (missing_number 0 0 0 d.counters) d t

  cancelled_tracks : (handles : List ℕ) (d : Derived) → Tracks us d → KeepsTracks us (cancelled s handles d)
  cancelled_tracks [] d t = cancelling_tracks (invocation_ids d.tracked) d t
  cancelled_tracks (handle ∷ handles) d t = id_tracks (present_result_for s.options.signal_delivery (id_at handle d.handles) (ready_in s d)) d t

  awaited_tracks : (b : Bool) (future : UnresolvedFuture) (d : Derived) → Tracks us d → KeepsTracks us (awaited s b future d)
  awaited_tracks true future d t = cancelled_tracks (unresolved_handles d.tracked) d t
  awaited_tracks false future d t = awaiting_tracks (is_awake s future d) d t

  noted_tracks : (handle : NotificationHandle) (id : NotificationId) (value : Value) (o : Option (List TrackedCall)) (d : Derived) → id_noted handle.0 (id_of_value value) d.tracked ≡ o → Tracks us d → KeepsTracks us (take_noting_id handle id value o d)
  noted_tracks handle id value None d is t = tt
  noted_tracks handle id value (Some tracked) d is t =
      let each = noted_each (TracksOne us d.counters.handle d.handles) handle.0 (id_of_value value) d.tracked tracked is t.1 in (
        left_each (IsBelow d.counters.handle) handle.0 d.handles t.0,
        each_is (λ x. TracksOne us d.counters.handle d.handles x.handle) (λ x. TracksOne us d.counters.handle (cond (handle.0 == 1) d.handles (unmapped handle.0 d.handles)) x.handle) tracked (λ x one. (one.0, left_each (IsFor us x.handle) handle.0 d.handles one.1)) each,
      )

  value_tracks : (handle : NotificationHandle) (id : NotificationId) (o : Option Value) (d : Derived) → Tracks us d → KeepsTracks us (take_of_value handle id o d)
  value_tracks handle id None d t = tt
  value_tracks handle id (Some value) d t = noted_tracks handle id value (id_noted handle.0 (id_of_value value) d.tracked) d refl t

  result_tracks : (handle : NotificationHandle) (id : Option NotificationId) (o : Option NotificationResult) (d : Derived) → Tracks us d → KeepsTracks us (take_of_result handle id o d)
  result_tracks handle (Some id) (Some result) d t = value_tracks handle id (value_of result) d t
  result_tracks handle (Some id) None d t = t
  result_tracks handle None o d t = t

  asked_tracks : (a : Ask) (d : Derived) → IsOfOne a → Tracks us d → KeepsTracks us (asked s a d)
  asked_tracks (ask.Command c) d one t = commanding_tracks c c.refusal d t
  asked_tracks (ask.Commands kind first second) d one t = absurd one
  asked_tracks (ask.Read r) d one t = reading_tracks r (missing_number 1 0 1 d.counters) d t
  asked_tracks ask.Awakeable d one t = making_tracks (skips_replay s.options.journal_replay) d t
  asked_tracks (ask.Signal name) d one t = signal_tracks name (missing_signals 0 1 d.counters) d t
  asked_tracks (ask.Await future) d one t = awaited_tracks (is_cancelled_in s d) future d t
  asked_tracks (ask.Take handle) d one t = result_tracks handle (id_at handle.0 d.handles) (present_result_for s.options.signal_delivery (id_at handle.0 d.handles) (ready_in s d)) d t
  asked_tracks (ask.Completed handle) d one t = t
  asked_tracks ask.End d one t = tt

-- ---- one move

-- more commands were used, and it is so there
abbrev Goes : List RawMessage → Point → Point → (Point → Derived) → Type 0
Goes us p q at = (vs : List RawMessage) × (p.left ≡ vs ++ q.left) × Tracks (us ++ vs) (at q)

brought_tracks : (us : List RawMessage) (id : ℕ) (o : Option NotificationResult) (d : Derived) → Tracks us d → Tracks us (with_read_result id o d)
brought_tracks us id None d t = t
brought_tracks us id (Some result) d t = t

command_goes : (us : List RawMessage) (o : Result (Option NotificationResult) NamedFault) (e : Demand) (gives : List Answer) (d : Derived) (raw : RawMessage) (left : List RawMessage) (p q : Point) → stands_for e raw ≡ o → p.left ≡ raw ∷ left → ((result : Option NotificationResult) → stands_for e raw ≡ Ok result → Tracks (us ++ raw ∷ []) d) → command_used o e gives d left p ≡ Some q → Goes us p q (λ z. z.derived)
command_goes us (Err name) e gives d raw left p q is at t m = none_some m
command_goes us (Ok result) e gives d raw left p q is at t m =
    let now = same_Some _ q m in
    subst (λ z. Goes us p z (λ z. z.derived)) now (raw ∷ [], at, brought_tracks (us ++ raw ∷ []) p.derived.counters.completion result d (t result is))

uses_goes : (us : List RawMessage) (e : Demand) (gives : List Answer) (d : Derived) (left : List RawMessage) (p q : Point) → p.left ≡ left → ((raw : RawMessage) (result : Option NotificationResult) → stands_for e raw ≡ Ok result → Tracks (us ++ raw ∷ []) d) → uses_command e gives d left p ≡ Some q → Goes us p q (λ z. z.derived)
uses_goes us e gives d [] p q at t m = none_some m
uses_goes us e gives d (raw ∷ left) p q at t m = command_goes us (stands_for e raw) e gives d raw left p q refl at (t raw) m

-- it stays so if no command is used
stays : (us : List RawMessage) (p z : Point) → z.left ≡ p.left → Tracks us z.derived → Goes us p z (λ z. z.derived)
stays us p z same t = ([], sym same, subst (λ l. Tracks l z.derived) (sym (append-nil us)) t)

arrival_goes : (us : List RawMessage) (queue : List Notification) (p q : Point) → Tracks us p.derived → uses_arrival queue p ≡ Some q → Goes us p q (λ z. z.derived)
arrival_goes us [] p q t m = none_some m
arrival_goes us (n ∷ queue) p q t m = subst (λ z. Goes us p z (λ z. z.derived)) (same_Some _ q m) (stays us p (record p { derived = arrival_used n p.derived; queue = queue }) refl t)

moved_goes : (us : List RawMessage) (mv : Move) (p q : Point) → Tracks us p.derived → KeepsTracks us mv → moved mv p ≡ Some q → Goes us p q (λ z. z.derived)
moved_goes us (Answers gives d) p q t k m = subst (λ z. Goes us p z (λ z. z.derived)) (same_Some _ q m) (stays us p (record p { answers = p.answers ++ gives; derived = d }) refl k)
moved_goes us (Needs e gives d) p q t k m = uses_goes us e gives d p.left p q refl k m
moved_goes us Awaits p q t k m = arrival_goes us p.queue p q t m
moved_goes us Ends p q t k m = none_some m
moved_goes us (Refuses name) p q t k m = none_some m

-- what is known once some commands of a call with several are made
standing : Setup → Ask → Derived → Derived
standing s (ask.Commands kind first second) d = (turn_after s d.parts first (second ∷ []) d).before
standing s a d = d

rest_stands : (s : Setup) (a : Ask) (d : Derived) → d.parts ≡ 0 → standing s a d ≡ d
unfolding standing
rest_stands s (ask.Commands kind first second) d none = ap (λ n. (turn_after s n first (second ∷ []) d).before) none
rest_stands s a d none = refl

module _ (s : Setup) (m : Meaning) where
  here : Point → Derived
  here p = standing s (ask_of s.version (m p.answers)) p.derived

  rest_here : (p : Point) → p.derived.parts ≡ 0 → here p ≡ p.derived
  unfolding here
  rest_here p none = rest_stands s (ask_of s.version (m p.answers)) p.derived none

  plain_goes : (us : List RawMessage) (p q : Point) → IsOfOne (ask_of s.version (m p.answers)) → p.derived.parts ≡ 0 → Tracks us (here p) → next s m p ≡ Some q → Goes us p q here
  plain_goes us p q one none t e =
      let rests : q.derived.parts ≡ 0 = next_keeps s m p q one e ∙ none in
      let now = subst (Tracks us) (rest_here p none) t in
      let g = moved_goes us (move_at s m p) p q now (asked_tracks s us (ask_of s.version (m p.answers)) p.derived one now) e in
      (g.0, g.1, subst (Tracks (us ++ g.0)) (sym (rest_here q rests)) g.2)

  part_goes : (us : List RawMessage) (p q : Point) (kind : AnswerKind) (first second : Command) → ask_of s.version (m p.answers) ≡ ask.Commands kind first second → Tracks us (turn_after s p.derived.parts first (second ∷ []) p.derived).before → PartMove s kind (turn_after s p.derived.parts first (second ∷ []) p.derived) p q → Goes us p q here
  unfolding here standing
  part_goes us p q kind first second is t (More b bs more u) =
      let n = p.derived.parts in
      let turn = turn_after s n first (second ∷ []) p.derived in
      let asks : ask_of s.version (m q.answers) ≡ ask.Commands kind first second = ap (λ l. ask_of s.version (m l)) (u.answers ∙ append-nil p.answers) ∙ is in
      let there : here q ≡ record (behind_command s turn.command turn.before) { parts = suc n } =
      (λ i. standing s (asks i) (u.derived i)) ∙ ap (λ (x : Turn). x.before) (turn_apart s (suc n) first (second ∷ []) p.derived (suc n)) ∙ ap (λ (x : Turn). record x.before { parts = suc n }) (next_turn s n first (second ∷ []) p.derived b bs more)
      in
      (u.used ∷ [], u.left, subst (Tracks (us ++ u.used ∷ [])) (sym there) (command_tracks s us turn.command turn.before u.used None u.stands t))
  part_goes us p q kind first second is t (Last none u) =
      let turn = turn_after s p.derived.parts first (second ∷ []) p.derived in
      let there : here q ≡ record (behind_command s turn.command turn.before) { parts = 0 } = rest_here q (ap (λ d. d.parts) u.derived) ∙ u.derived in
      (u.used ∷ [], u.left, subst (Tracks (us ++ u.used ∷ [])) (sym there) (command_tracks s us turn.command turn.before u.used None u.stands t))

  next_tracks : (us : List RawMessage) (p q : Point) (a : Ask) → ask_of s.version (m p.answers) ≡ a → RestsAt (ask_of s.version (m p.answers)) p.derived.parts → Tracks us (here p) → next s m p ≡ Some q → Goes us p q here
  unfolding here standing
  next_tracks us p q (ask.Commands kind first second) is rests t e =
      let turn = turn_after s p.derived.parts first (second ∷ []) p.derived in
      part_goes us p q kind first second is (subst (λ a. Tracks us (standing s a p.derived)) is t) (part_moves s kind (refused_before turn.command turn.behind turn.before.counters) turn p q (subst (λ a. moved (asked s a p.derived) p ≡ Some q) is e))
  next_tracks us p q a is rests t e =
      let one : IsOfOne (ask_of s.version (m p.answers)) = subst IsOfOne (sym is) tt in
      plain_goes us p q one (rests_one (ask_of s.version (m p.answers)) p.derived.parts one rests) t e

  after_tracks : (n : ℕ) (us : List RawMessage) (p q : Point) → RestsAt (ask_of s.version (m p.answers)) p.derived.parts → Tracks us (here p) → after s m n p ≡ Some q → Goes us p q here
  after_tracks zero us p q rests t e = subst (λ z. Goes us p z here) (same_Some p q e) ([], refl, subst (λ l. Tracks l (here p)) (sym (append-nil us)) t)
  after_tracks (suc n) us p q rests t e =
      let x = and_then_some (next s m p) (after s m n) q e in
      let one = next_tracks us p x.0 (ask_of s.version (m p.answers)) refl rests t x.1 in
      let more = after_tracks n (us ++ one.0) x.0 q (next_rests s m p x.0 rests x.1) one.2 x.2 in (
        one.0 ++ more.0,
        one.1 ∙ ap (λ l. one.0 ++ l) more.1 ∙ sym (append_assoc one.0 more.0 q.left),
        subst (λ l. Tracks l (here q)) (append_assoc us one.0 more.0) more.2,
      )

-- ---- a result of an invocation's id

newest_is : {A : Type 0} (P : A → Type 0) (o : Option A) (xs : List A) (r : A) → ((x : A) → o ≡ Some x → P x) → AllByRecursion P xs → newest_after o xs ≡ Some r → P r
newest_is P o [] r before all e = before r e
newest_is P o (x ∷ xs) r before all e = newest_is P (Some x) xs r (λ y same. subst P (same_Some x y same) all.0) all.1 e

-- if nothing was read, what was delivered since the last take is of the kind of all arrivals
since_are : (P : NotificationResult → Type 0) (i : ℕ) (us : List Usage) → reads_at i us ≡ 0 → AllByRecursion P (results_of (CompletionId i) (arrivals_in us)) → AllByRecursion P (since_taken (CompletionId i) us)
unfolding reads_at
since_are P i [] none all = tt
since_are P i (Used n ∷ us) none all = by_test (same_id n.id (CompletionId i)) (subst (AllByRecursion P) (results_behind (CompletionId i) (arrivals_in us) n) all) (since_are P i us none)
  where
    by_test : (b : Bool) → AllByRecursion P (cond b (results_of (CompletionId i) (arrivals_in us) ++ n.result ∷ []) (results_of (CompletionId i) (arrivals_in us))) → (AllByRecursion P (results_of (CompletionId i) (arrivals_in us)) → AllByRecursion P (since_taken (CompletionId i) us)) → AllByRecursion P (cond b (since_taken (CompletionId i) us ++ n.result ∷ []) (since_taken (CompletionId i) us))
    by_test true a ih = each_append P (since_taken (CompletionId i) us) (n.result ∷ []) (ih (each_front P (results_of (CompletionId i) (arrivals_in us)) (n.result ∷ []) a)) (each_last P (results_of (CompletionId i) (arrivals_in us)) n.result a, tt)
    by_test false a ih = ih a
since_are P i (Read id result ∷ us) none all = by_test (id == i) none (λ unread. since_are P i us unread all)
  where
    by_test : (b : Bool) → cond b (suc (reads_at i us)) (reads_at i us) ≡ 0 → (reads_at i us ≡ 0 → AllByRecursion P (since_taken (CompletionId i) us)) → AllByRecursion P (cond b (since_taken (CompletionId i) us ++ result ∷ []) (since_taken (CompletionId i) us))
    by_test true e ih = absurd (omega (arith, e))
    by_test false e ih = ih e
since_are P i (Taken id ∷ us) none all = by_test (same_id id (CompletionId i)) (since_are P i us none all)
  where
    by_test : (b : Bool) → AllByRecursion P (since_taken (CompletionId i) us) → AllByRecursion P (cond b [] (since_taken (CompletionId i) us))
    by_test true ih = tt
    by_test false ih = ih

-- a completion's deliveries don't queue up
newest_since : (delivery : SignalDelivery) (i : ℕ) (us : List Usage) → next_taken delivery (CompletionId i) us ≡ newest (since_taken (CompletionId i) us)
newest_since Queued i us = refl
newest_since Overwrite i us = refl

-- ---- other reasons

-- there is no reason, or another one
abbrev IsOther : Option NamedFault → Type 0
IsOther None = Unit {0}
IsOther (Some name) = name ≢ fault.UnexpectedInvocationIdResult

other_if : (b : Bool) (x y : Option NamedFault) → IsOther x → IsOther y → IsOther (if b then x else y)
other_if true x y p q = p
other_if false x y p q = q

other_or : (x y : Option NamedFault) → IsOther x → IsOther y → IsOther (option_or x y)
other_or None y p q = q
other_or (Some name) y p q = p

missing_other : (a b c : ℕ) (k : Counters) → IsOther (missing_number a b c k)
missing_other a b c k =
    other_if (nat_lt (most - k.completion) a) (Some fault.ExhaustedCompletionIds) _ (λ h. absurd (cc))
    (other_if (nat_lt (most - k.signal) b) (Some fault.ExhaustedSignalIds) _ (λ h. absurd (cc))
    (other_if (nat_lt (most - k.handle) c) (Some fault.ExhaustedHandles) _ (λ h. absurd (cc))
    (other_if (unwrap_or k.command 0 == most) (Some fault.ExhaustedCommandIndexes) None (λ h. absurd (cc)) tt)))

signals_other : (a b : ℕ) (k : Counters) → IsOther (missing_signals a b k)
signals_other a b k =
    other_if (nat_lt (most - k.signal) a) (Some fault.ExhaustedSignalIds) _ (λ h. absurd (cc))
    (other_if (nat_lt (most - k.handle) b) (Some fault.ExhaustedHandles) None (λ h. absurd (cc)) tt)

time_other : (millis : ℕ) → IsOther (time_fault millis)
time_other millis = other_if _ None (Some fault.OutOfBoundsDuration) tt (λ h. absurd (cc))

value_other : (value : NonEmptyValue) (version : Version) → IsOther (value_fault value version)
value_other value version = other_if _ (Some fault.UnsupportedFeatureForNegotiatedVersion) None (λ h. absurd (cc)) tt

empty_other : (name : NamedFault) (text : Option (List ℕ)) → name ≢ fault.UnexpectedInvocationIdResult → IsOther (empty_fault name text)
empty_other name None other = tt
empty_other name (Some text) other = other_if _ (Some name) None other tt

early_other : (version : Version) (text : Option (List ℕ)) → IsOther (early_fault version text)
early_other version None = tt
early_other version (Some text) = other_if _ None (Some fault.UnsupportedFeatureForNegotiatedVersion) tt (λ h. absurd (cc))

scope_other : (scope : Option (List ℕ)) (version : Version) → IsOther (scope_fault scope version)
scope_other scope version = other_or (empty_fault fault.EmptyScope scope) _ (empty_other fault.EmptyScope scope (λ h. absurd (cc))) (other_or (early_fault version scope) None (early_other version scope) tt)

target_other : (target : Target) (version : Version) → IsOther (target_fault target version)
target_other target version =
    other_or (empty_fault fault.EmptyIdempotencyKey target.idempotency_key) _ (empty_other fault.EmptyIdempotencyKey target.idempotency_key (λ h. absurd (cc)))
    (other_or (empty_fault fault.EmptyScope target.scope) _ (empty_other fault.EmptyScope target.scope (λ h. absurd (cc)))
    (other_or (empty_fault fault.EmptyLimitKey target.limit_key) _ (empty_other fault.EmptyLimitKey target.limit_key (λ h. absurd (cc)))
    (other_or (early_fault version target.scope) _ (early_other version target.scope) (other_or (early_fault version target.limit_key) None (early_other version target.limit_key) tt))))

-- what a step asks for is refused for other reasons
abbrev AsksOther : Ask → Type 0
AsksOther (ask.Command c) = IsOther c.refusal
AsksOther (ask.Commands kind first second) = IsOther first.refusal × IsOther second.refusal
AsksOther a = Unit {0}

asks_other : (version : Version) (s : Step) → AsksOther (ask_of version s)
asks_other version (step.Sleep name wake_up_time now) = time_other _
asks_other version (step.Call target input name options) = target_other target version
asks_other version (step.CallWithDeadline target input time name options) = (target_other target version, time_other _)
asks_other version (step.Send target input time name options) = other_or (target_fault target version) _ (target_other target version) (time_other _)
asks_other version (step.CompleteAwakeable id value options) = value_other value version
asks_other version (step.CompleteSignal target signal value) = value_other value version
asks_other version (step.CompletePromise key value options) = value_other value version
asks_other version (step.AttachInvocation target) = scope_other (scope_of target) version
asks_other version (step.GetInvocationOutput target) = scope_other (scope_of target) version
asks_other version (step.WriteOutput value options) = value_other value version
asks_other version s = tt

abbrev EachOther : Command → List Command → Type 0
EachOther c cs = EachIs (λ c. IsOther c.refusal) c cs

any_other : (c : Command) (cs : List Command) → EachOther c cs → IsOther (any_refusal c cs)
any_other c [] h = h
any_other c (b ∷ bs) h = other_or c.refusal (any_refusal b bs) h.0 (any_other b bs h.1)

first_other : (c : Command) (cs : List Command) → EachOther c cs → IsOther c.refusal
first_other c [] h = h
first_other c (b ∷ bs) h = h.0

turn_other : (s : Setup) (n : ℕ) (c : Command) (cs : List Command) (d : Derived) → EachOther c cs → EachOther (turn_after s n c cs d).command (turn_after s n c cs d).behind
turn_other s zero c cs d h = h
turn_other s (suc n) c [] d h = h
turn_other s (suc n) c (b ∷ bs) d h = turn_other s n b bs (behind_command s c d) h.1

before_other : (c : Command) (cs : List Command) (k : Counters) → EachOther c cs → IsOther (refused_before c cs k)
before_other c [] k h = other_or c.refusal (missing_number (ids_of c.message) 0 (ids_of c.message) k) h (missing_other (ids_of c.message) 0 (ids_of c.message) k)
before_other c (b ∷ bs) k h =
    other_or (option_or (any_refusal c (b ∷ bs)) (missing_for c (b ∷ bs) k)) (option_or c.refusal (missing_number (ids_of c.message) 0 (ids_of c.message) k))
    (other_or (any_refusal c (b ∷ bs)) (missing_for c (b ∷ bs) k) (any_other c (b ∷ bs) h) (for_other c (b ∷ bs) k))
    (other_or c.refusal (missing_number (ids_of c.message) 0 (ids_of c.message) k) h.0 (missing_other (ids_of c.message) 0 (ids_of c.message) k))
  where
    for_other : (c : Command) (cs : List Command) (k : Counters) → IsOther (missing_for c cs k)
    for_other c cs k = other_or (missing_number (all_ids c cs) 0 (all_ids c cs) k) (missing_indexes (suc (length cs)) k) (missing_other (all_ids c cs) 0 (all_ids c cs) k) (other_if (nat_lt (most - unwrap_or k.command 0) (suc (length cs))) (Some fault.ExhaustedCommandIndexes) None (λ h. absurd (cc)) tt)

-- the move is refused for another reason, if it is
abbrev Expected : Move → Type 0
Expected (Refuses name) = name ≢ fault.UnexpectedInvocationIdResult
Expected (Answers gives d) = Unit {0}
Expected (Needs demand gives d) = Unit {0}
Expected Awaits = Unit {0}
Expected Ends = Unit {0}

part_expected : (s : Setup) (kind : AnswerKind) (c : Command) (behind : List Command) (before d : Derived) → Expected (part s kind c behind before d)
part_expected s kind c [] before d = tt
part_expected s kind c (b ∷ bs) before d = tt

unless_expected : (o : Option NamedFault) (s : Setup) (kind : AnswerKind) (t : Turn) (d : Derived) → IsOther o → Expected (part_unless o s kind t d)
unless_expected (Some name) s kind t d other = other
unless_expected None s kind t d other = part_expected s kind t.command t.behind t.before d

numbered_expected : (s : Setup) (c : Command) (o : Option NamedFault) (d : Derived) → IsOther o → Expected (numbered s c o d)
numbered_expected s c (Some name) d other = other
numbered_expected s c None d other = tt

commanding_expected : (s : Setup) (c : Command) (o : Option NamedFault) (d : Derived) → IsOther o → Expected (commanding s c o d)
commanding_expected s c (Some name) d other = other
commanding_expected s c None d other = numbered_expected s c (missing_number (ids_of c.message) 0 (ids_of c.message) d.counters) d (missing_other (ids_of c.message) 0 (ids_of c.message) d.counters)

reading_expected : (r : StateRead) (o : Option NamedFault) (d : Derived) → IsOther o → Expected (reading r o d)
reading_expected r (Some name) d other = other
reading_expected r None d other = tt

awakeable_expected : (s : Setup) (o : Option NamedFault) (d : Derived) → IsOther o → Expected (awakeable_made s o d)
awakeable_expected s (Some name) d other = other
awakeable_expected s None d other = tt

making_expected : (s : Setup) (b : Bool) (d : Derived) → Expected (making_awakeable s b d)
making_expected s true d = λ h. absurd (cc)
making_expected s false d = awakeable_expected s (missing_signals 1 1 d.counters) d (signals_other 1 1 d.counters)

signal_expected : (name : List ℕ) (o : Option NamedFault) (d : Derived) → IsOther o → Expected (signal_made name o d)
signal_expected name (Some fault) d other = other
signal_expected name None d other = tt

awaiting_expected : (b : Bool) (d : Derived) → Expected (awaiting b d)
awaiting_expected true d = tt
awaiting_expected false d = tt

sent_expected : (s : Setup) (id : List ℕ) (o : Option NamedFault) (d : Derived) → IsOther o → Expected (cancel_sent s id o d)
sent_expected s id (Some name) d other = other
sent_expected s id None d other = tt

cancelling_expected : (s : Setup) (ids : List (List ℕ)) (d : Derived) → Expected (cancelling s ids d)
cancelling_expected s [] d = tt
cancelling_expected s (id ∷ ids) d = sent_expected s id (missing_number 0 0 0 d.counters) d (missing_other 0 0 0 d.counters)

-- ---- reads of an invocation's id

-- the id that a handle stands for
found_for : (us : List RawMessage) (h : ℕ) (ms : List Mapping) (id : NotificationId) → AllByRecursion (IsFor us h) ms → id_at h ms ≡ Some id → IsNamed us id
found_for us h [] id all e = none_some e
found_for us h (mp ∷ ms) id all e = by_test (mp.handle == h) refl e (found_for us h ms id all.1)
  where
    by_test : (b : Bool) → (mp.handle == h) ≡ b → cond b (Some mp.id) (id_at h ms) ≡ Some id → (id_at h ms ≡ Some id → IsNamed us id) → IsNamed us id
    by_test true t x ih = subst (IsNamed us) (same_Some mp.id id x) (all.0 (eqb-true mp.handle h t))
    by_test false t x ih = ih x

tracked_is : (Q : ℕ → Type 0) (h : ℕ) (ts : List TrackedCall) → is_tracked h ts ≡ true → EachTracked Q ts → Q h
tracked_is Q h [] e all = absurd (let z : false ≡ true = e in cc)
tracked_is Q h (t ∷ ts) e all = by_test (t.handle == h) refl e (λ x. tracked_is Q h ts x all.1)
  where
    by_test : (b : Bool) → (t.handle == h) ≡ b → (b || is_tracked h ts) ≡ true → (is_tracked h ts ≡ true → Q h) → Q h
    by_test true same x ih = subst Q (eqb-true t.handle h same) all.0
    by_test false same x ih = ih x

first_unresolved : (Q : ℕ → Type 0) (ts : List TrackedCall) (h : ℕ) (hs : List ℕ) → unresolved_handles ts ≡ h ∷ hs → EachTracked Q ts → Q h
first_unresolved Q [] h hs e all = absurd (cc)
first_unresolved Q (t ∷ ts) h hs e all = by_known t.invocation_id e (λ x. first_unresolved Q ts h hs x all.1)
  where
    by_known : (o : Option (List ℕ)) → if_unresolved o t.handle (unresolved_handles ts) ≡ h ∷ hs → (unresolved_handles ts ≡ h ∷ hs → Q h) → Q h
    by_known None x ih = subst Q (let same : t.handle ≡ h = cc in same) all.0
    by_known (Some known) x ih = ih x

-- a value of an invocation's id is one
value_is : (result : NotificationResult) (value : Value) → IsInvocationId result → value_of result ≡ Some value → is_some (id_of_value value) ≡ true
value_is (found.InvocationId id) value is e = ap (λ v. is_some (id_of_value v)) (sym (same_Some _ value e))
value_is found.Void value is e = absurd (let z : false ≡ true = is in cc)
value_is (found.Value bytes) value is e = absurd (let z : false ≡ true = is in cc)
value_is (found.Failure failure) value is e = absurd (let z : false ≡ true = is in cc)
value_is (found.StateKeys keys) value is e = absurd (let z : false ≡ true = is in cc)

-- of an id that one of these commands carries for its invocation's, the present result is one
abbrev Brings : Setup → List RawMessage → Derived → Type 0
Brings s us d = (i : ℕ) → is_for_invocation i us ≡ true → (r : NotificationResult) → present_result s.options.signal_delivery (CompletionId i) (ready_in s d) ≡ Some r → IsInvocationId r

module _ (s : Setup) (us : List RawMessage) (d : Derived) (brings : Brings s us d) where
  present_is : (h : ℕ) → TracksOne us d.counters.handle d.handles h → (r : NotificationResult) → present_result_for s.options.signal_delivery (id_at h d.handles) (ready_in s d) ≡ Some r → IsInvocationId r
  present_is h t r e = by_id (id_at h d.handles) refl e
    where
      by_id : (o : Option NotificationId) → id_at h d.handles ≡ o → present_result_for s.options.signal_delivery o (ready_in s d) ≡ Some r → IsInvocationId r
      by_id None at x = none_some x
      by_id (Some (CompletionId i)) at x = brings i (found_for us h d.handles (CompletionId i) t.1 at) r x
      by_id (Some (SignalId i)) at x = absurd (found_for us h d.handles (SignalId i) t.1 at)
      by_id (Some (SignalName name)) at x = absurd (found_for us h d.handles (SignalName name) t.1 at)

  read_expected : (o : Option (List ℕ)) → is_some o ≡ true → Expected (id_read o d)
  read_expected None is = absurd (let z : false ≡ true = is in cc)
  read_expected (Some id) is = tt

  id_expected : (h : ℕ) → TracksOne us d.counters.handle d.handles h → (o : Option NotificationResult) → present_result_for s.options.signal_delivery (id_at h d.handles) (ready_in s d) ≡ o → Expected (id_awaited o d)
  id_expected h t None e = tt
  id_expected h t (Some result) e = read_expected (id_of_result result) (present_is h t result e)

  cancelled_expected : Tracks us d → (handles : List ℕ) → unresolved_handles d.tracked ≡ handles → Expected (cancelled s handles d)
  cancelled_expected t [] e = cancelling_expected s (invocation_ids d.tracked) d
  cancelled_expected t (h ∷ hs) e = id_expected h (first_unresolved (TracksOne us d.counters.handle d.handles) d.tracked h hs e t.1) (present_result_for s.options.signal_delivery (id_at h d.handles) (ready_in s d)) refl

  awaited_expected : Tracks us d → (b : Bool) (future : UnresolvedFuture) → Expected (awaited s b future d)
  awaited_expected t true future = cancelled_expected t (unresolved_handles d.tracked) refl
  awaited_expected t false future = awaiting_expected (is_awake s future d) d

  -- a tracked call's result is read as its invocation's id
  noted_some : (h : ℕ) (id : Option (List ℕ)) → (is_tracked h d.tracked ≡ true → is_some id ≡ true) → id_noted h id d.tracked ≢ None
  noted_some h id some e = by_test (is_tracked h d.tracked) refl e
    where
      by_known : (o : Option (List ℕ)) → is_some o ≡ true → option_map (λ known. with_invocation_id h known d.tracked) o ≡ None → ⊥
      by_known None is x = (let z : false ≡ true = is in cc)
      by_known (Some known) is x = cc

      by_test : (b : Bool) → is_tracked h d.tracked ≡ b → (if b then option_map (λ known. with_invocation_id h known d.tracked) id else Some d.tracked) ≡ None → ⊥
      by_test true t x = by_known id (some t) x
      by_test false t x = cc

  noted_expected : (handle : NotificationHandle) (id : NotificationId) (value : Value) (o : Option (List TrackedCall)) → o ≢ None → Expected (take_noting_id handle id value o d)
  noted_expected handle id value None some = λ _. some refl
  noted_expected handle id value (Some tracked) some = tt

  value_expected : Tracks us d → (handle : NotificationHandle) (id : NotificationId) (result : NotificationResult) → present_result_for s.options.signal_delivery (id_at handle.0 d.handles) (ready_in s d) ≡ Some result → (o : Option Value) → value_of result ≡ o → Expected (take_of_value handle id o d)
  value_expected t handle id result at None is = λ h. absurd (cc)
  value_expected t handle id result at (Some value) is =
      noted_expected handle id value (id_noted handle.0 (id_of_value value) d.tracked)
      (noted_some handle.0 (id_of_value value) (λ tracked. value_is result value (present_is handle.0 (tracked_is (TracksOne us d.counters.handle d.handles) handle.0 d.tracked tracked t.1) result at) is))

  result_expected : Tracks us d → (handle : NotificationHandle) (id : Option NotificationId) → id_at handle.0 d.handles ≡ id → (o : Option NotificationResult) → present_result_for s.options.signal_delivery id (ready_in s d) ≡ o → Expected (take_of_result handle id o d)
  result_expected t handle (Some id) at (Some result) is = value_expected t handle id result (ap (λ x. present_result_for s.options.signal_delivery x (ready_in s d)) at ∙ is) (value_of result) refl
  result_expected t handle (Some id) at None is = tt
  result_expected t handle None at o is = tt

  asked_expected : (a : Ask) → AsksOther a → (IsOfOne a → Tracks us d) → Expected (asked s a d)
  asked_expected (ask.Command c) other t = commanding_expected s c c.refusal d other
  asked_expected (ask.Commands kind first second) other t =
      let turn = turn_after s d.parts first (second ∷ []) d in
      unless_expected (refused_before turn.command turn.behind turn.before.counters) s kind turn d (before_other turn.command turn.behind turn.before.counters (turn_other s d.parts first (second ∷ []) d other))
  asked_expected (ask.Read r) other t = reading_expected r (missing_number 1 0 1 d.counters) d (missing_other 1 0 1 d.counters)
  asked_expected ask.Awakeable other t = making_expected s (skips_replay s.options.journal_replay) d
  asked_expected (ask.Signal name) other t = signal_expected name (missing_signals 0 1 d.counters) d (signals_other 0 1 d.counters)
  asked_expected (ask.Await future) other t = awaited_expected (t tt) (is_cancelled_in s d) future
  asked_expected (ask.Take handle) other t = result_expected (t tt) handle (id_at handle.0 d.handles) refl (present_result_for s.options.signal_delivery (id_at handle.0 d.handles) (ready_in s d)) refl
  asked_expected (ask.Completed handle) other t = tt
  asked_expected ask.End other t = tt

-- ---- the law

first_tracks : Tracks [] first_derived
first_tracks = ((omega arith, tt), tt)

-- where the results of invocations' ids are of the right kind, no move of a run is refused for another kind
pub none_unexpected : (s : Setup) (m : Meaning) (n : ℕ) (input : InputCommand) (ns : List Notification) (cs : List RawMessage) (q : Point) → after s m n (start s input ns cs) ≡ Some q → AreOfTheirKind ns cs → move_at s m q ≢ Refuses fault.UnexpectedInvocationIdResult
none_unexpected s m n input ns cs q e kinds refused =
    subst Expected refused (asked_expected s goes.0 q.derived brings (ask_of s.version (m q.answers)) (asks_other s.version (m q.answers)) tracks) refl
  where
    goes : Goes [] (start s input ns cs) q (here s m)
    goes = after_tracks s m n [] (start s input ns cs) q (rests_none (ask_of s.version (m (start s input ns cs).answers)) 0 refl) (subst (Tracks []) (sym (rest_here s m (start s input ns cs) refl)) first_tracks) e

    tracks : IsOfOne (ask_of s.version (m q.answers)) → Tracks goes.0 q.derived
    tracks one = subst (Tracks goes.0) (rest_here s m q (rests_one (ask_of s.version (m q.answers)) q.derived.parts one (rests_there s m input ns cs n q e))) goes.2

    brings : Brings s goes.0 q.derived
    brings i named r is =
        let us = q.derived.usage in
        let all = kinds i (ap (is_for_invocation i) goes.1 ∙ named_more i goes.0 q.left named) in
        let came = subst (AllByRecursion IsInvocationId) (ap (results_of (CompletionId i)) (arrivals_used s m n input ns cs q e) ∙ results-append (CompletionId i) (arrivals_in us) q.queue) all in
        let since = since_are IsInvocationId i us (none_read s m input ns cs n q e goes.0 goes.1 i (carried_named i goes.0 named)) (each_front IsInvocationId (results_of (CompletionId i) (arrivals_in us)) (results_of (CompletionId i) q.queue) came) in
        let present = present_next s.options.signal_delivery (CompletionId i) us (told_took s m n input ns cs q e) in
        newest_is IsInvocationId None (since_taken (CompletionId i) us) r (λ x none. none_some none) since (sym (newest_since s.options.signal_delivery i us) ∙ sym present ∙ is)
