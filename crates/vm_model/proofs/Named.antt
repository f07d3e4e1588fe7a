-- The handles of an answer stand for the ids in the fields of its call's own commands.
use Rattle.std.proofs.Common.{◌≡◌, ◌⊎◌, ◌<◌, ◌≤◌, ℕ, zero, suc, ◌+◌, Bool, true, false, cond, List, [], ◌∷◌, ◌++◌, Option, Some, None, refl, sym, ap, ◌∙◌, subst, inl, inr, arith, append_assoc, append-nil}
use Rattle.std.specs.Prelude.{◌==◌, ◌/◌, min, Result, Ok, Err}
use Rattle.std.specs.Duration.{as_nanos}
use Rattle.std.specs.List.{AllByRecursion}
use Rattle.std.proofs.lemmas.Bool.{eq-eqb, eqb-true}
use Rattle.std.proofs.lemmas.List.{append_cancel_left}
use Rattle.std.proofs.lemmas.Option.{same_Some}
use Rattle.journal_protocol.specs.InputCommand.{InputCommand}
use Rattle.journal_protocol.specs.SleepCommand.{SleepCommand}
use Rattle.journal_protocol.specs.CallCommand.{CallCommand}
use Rattle.journal_protocol.specs.NamedFault.{NamedFault}
use Rattle.journal_protocol.specs.Version.{Version}
use Rattle.journal_protocol.specs.Message.{Message}
use Rattle.journal_protocol.specs.Message.TheVariants as message
use Rattle.journal_protocol.specs.RawMessage.{RawMessage}
use Rattle.journal_protocol.specs.Notification.{Notification}
use Rattle.journal_protocol.specs.NotificationId.{NotificationId}
use Rattle.journal_protocol.specs.NotificationId.TheVariants.{CompletionId, SignalId, SignalName}
use Rattle.journal_protocol.specs.NotificationResult.{NotificationResult}
use Rattle.vm_types.specs.declared.steps.Answer.{Answer}
use Rattle.vm_types.specs.declared.steps.Answer.TheVariants as answer
use Rattle.vm_types.specs.declared.steps.Step.{Step}
use Rattle.vm_types.specs.declared.steps.Step.TheVariants as step
use Rattle.vm_types.specs.declared.values.Value.{Value}
use Rattle.await_trees.specs.declared.handle.NotificationHandle.{NotificationHandle}
use Rattle.await_trees.specs.declared.tree.UnresolvedFuture.{UnresolvedFuture}
use Rattle.vm_parts.specs.declared.async_results.Mapping.{Mapping}
use Rattle.vm_state.specs.declared.tracked_call.TrackedCall.{TrackedCall}
use Rattle.vm_state.specs.Counting.{missing_number, missing_signals}
use Rattle.vm_parts.specs.Deliveries.{id_at, present_result_for}
use Rattle.vm_parts.specs.Tracked.{id_of_result, invocation_ids, id_noted, unresolved_handles}
use Rattle.vm_types.specs.Values.{id_of_value, value_of}
use Rattle.vm_asks.specs.declared.asks.Ask.{Ask}
use Rattle.vm_asks.specs.declared.asks.Ask.TheVariants as ask
use Rattle.vm_asks.specs.declared.asks.AnswerKind.{AnswerKind}
use Rattle.vm_asks.specs.declared.asks.AnswerKind.TheVariants as kinds
use Rattle.vm_asks.specs.declared.command.Command.{Command}
use Rattle.vm_asks.specs.declared.state_read.StateRead.{StateRead}
use Rattle.vm_asks.specs.declared.state_read.StateRead.TheVariants as reads
use Rattle.vm_asks.specs.Asks.{answer_by, ask_of, call_command, command_answer, deadline_handles, name_in, request_of, sleep_command}
use Rattle.vm_asks.specs.Carried.{carried}
use Rattle.vm_asks.specs.Requests.{ids_of, with_ids}
use Rattle.vm_asks.specs.StateReads.{lazy_form}
use Rattle.vm_parts.specs.Mappings.{mapped_from}
use Rattle.vm_types.specs.Options.{skips_replay}
use Rattle.vm_model.specs.Calls.{Setup, Meaning, Derived, Demand, Move, answer_of, asked, awaited, awakeable_made, awaiting, behind_command, cancel_sent, cancelled, cancelling, commanding, counted, demand_of, id_awaited, id_read, is_awake, is_cancelled_in, making_awakeable, numbered, part_unless, reading, ready_in, refused_before, take_of_result, signal_made, turn_after, turn_taken, take_noting_id, take_of_value}
use Rattle.vm_model.specs.Calls.Demand.{Reads}
use Rattle.vm_model.specs.Calls.Move.{Answers, Needs, Awaits, Ends, Refuses}
use Rattle.vm_model.specs.Moves.{Point, after, with_read_result, command_used, found, moved, next, said_of, start, uses_arrival, uses_command}
use Rattle.vm_model.specs.NamedHandles.{Gets, Names, NamesDeadlineCall, NamesOne, NamesSignal}
use Rattle.vm_model.proofs.Parts.{IsOfOne, next_keeps}
use Rattle.vm_model.proofs.Runs.{and_then_some, none_some}
use Rattle.vm_model.proofs.Spans.{InOrder, Span, id_with_more, span_both, span_given, told_in_order}

-- ---- handles after others

itself : (a : ℕ) → (a == a) ≡ true
itself a = eq-eqb a a refl

is_less : (a b : ℕ) → a < b → (a == b) ≡ false
is_less a b l = by_test (a == b) refl
  where
    by_test : (c : Bool) → (a == b) ≡ c → c ≡ false
    by_test true e = let same = eqb-true a b e in absurd (omega (arith, l, same))
    by_test false e = refl

-- a handle from the next one on isn't among those that were given
behind_given : (handle low high : ℕ) (ms ns : List Mapping) → Span low ms high → high ≤ handle → id_at handle (ms ++ ns) ≡ id_at handle ns
behind_given handle low high [] ns h l = refl
behind_given handle low high (m ∷ ms) ns h l = rw (is_less m.handle handle (below low m ms h)) (behind_given handle (suc m.handle) high ms ns h.1 l)
  where
    top : (least : ℕ) (xs : List Mapping) → Span least xs high → least ≤ high
    top least [] k = k
    top least (x ∷ xs) k = let a = k.0 in let b = top (suc x.handle) xs k.1 in omega (arith, a, b)

    below : (least : ℕ) (x : Mapping) (xs : List Mapping) → Span least (x ∷ xs) high → x.handle < handle
    below least x xs k = let b = top (suc x.handle) xs k.1 in omega (arith, b, l)

first_of_two : (h id n : ℕ) → id_at h (mapped_from (suc n) h id) ≡ Some (CompletionId id)
first_of_two h id n = ap (λ b. cond b (Some (CompletionId id)) (id_at h (mapped_from n (h + 1) (id + 1)))) (itself h)

second_of_two : (h id n : ℕ) → id_at (h + 1) (mapped_from (suc (suc n)) h id) ≡ Some (CompletionId (id + 1))
second_of_two h id n = ap (λ b. cond b (Some (CompletionId id)) (id_at (h + 1) (mapped_from (suc n) (h + 1) (id + 1)))) (is_less h (h + 1) (omega arith)) ∙ first_of_two (h + 1) (id + 1) n

-- ---- one command

module _ (s : Setup) (m : Meaning) (p q : Point) (h id : ℕ) (ms : List Mapping) (ordered : Span 0 ms h) where
  first_stands : (n : ℕ) → q.derived.handles ≡ ms ++ mapped_from (suc n) h id → id_at h q.derived.handles ≡ Some (CompletionId id)
  first_stands n held = ap (id_at h) held ∙ behind_given h 0 h ms (mapped_from (suc n) h id) ordered (omega arith) ∙ first_of_two h id n

  second_stands : (n : ℕ) → q.derived.handles ≡ ms ++ mapped_from (suc (suc n)) h id → id_at (h + 1) q.derived.handles ≡ Some (CompletionId (id + 1))
  second_stands n held = ap (id_at (h + 1)) held ∙ behind_given (h + 1) 0 h ms (mapped_from (suc (suc n)) h id) ordered (omega arith) ∙ second_of_two h id n

  one_named : (c : Message) → q.said ≡ p.said ++ c ∷ [] → carried c ≡ id ∷ [] → q.derived.handles ≡ ms ++ mapped_from 1 h id → NamesOne (record { 0 = h }) p q ⊎ NamesSignal m (record { 0 = h }) p q
  one_named c said carries held = inl (record { command = c; said = said; id = id; carries = carries; stands = first_stands 0 held })

  command_named : (c : Message) → q.said ≡ p.said ++ with_ids id c ∷ [] → q.derived.handles ≡ ms ++ mapped_from (ids_of c) h id → Names s m p q (command_answer c (record { 0 = h }))
  command_named (message.Call c) said held = record {
    command = record c { request = record c.request { invocation_id_notification_idx = id }; result_completion_id = id + 1 };
    said = said;
    invocation = first_stands 1 held;
    result = second_stands 0 held;
  }
  command_named (message.OneWayCall c) said held = record {
    command = record c { request = record c.request { invocation_id_notification_idx = id } };
    said = said;
    invocation = first_stands 0 held;
  }
  command_named (message.Sleep c) said held = one_named (with_ids id (message.Sleep c)) said refl held
  command_named (message.GetLazyState c) said held = one_named (with_ids id (message.GetLazyState c)) said refl held
  command_named (message.GetLazyStateKeys c) said held = one_named (with_ids id (message.GetLazyStateKeys c)) said refl held
  command_named (message.GetPromise c) said held = one_named (with_ids id (message.GetPromise c)) said refl held
  command_named (message.PeekPromise c) said held = one_named (with_ids id (message.PeekPromise c)) said refl held
  command_named (message.CompletePromise c) said held = one_named (with_ids id (message.CompletePromise c)) said refl held
  command_named (message.Run c) said held = one_named (with_ids id (message.Run c)) said refl held
  command_named (message.AttachInvocation c) said held = one_named (with_ids id (message.AttachInvocation c)) said refl held
  command_named (message.GetInvocationOutput c) said held = one_named (with_ids id (message.GetInvocationOutput c)) said refl held
  command_named c said held = tt

  read_carries : (r : StateRead) → carried (lazy_form r id) ≡ id ∷ []
  read_carries (reads.Value key name) = refl
  read_carries (reads.Keys name) = refl

  deadline_named : (c : CallCommand) (d : SleepCommand) (before : List Message) → q.said ≡ before ++ with_ids id (message.Call c) ∷ with_ids (id + 2) (message.Sleep d) ∷ []
      → q.derived.handles ≡ (ms ++ mapped_from 2 h id) ++ mapped_from 1 (h + 2) (id + 2) → NamesDeadlineCall (deadline_handles (record { 0 = h })) q
  deadline_named c d before said held = record {
    before = before;
    call = record c { request = record c.request { invocation_id_notification_idx = id }; result_completion_id = id + 1 };
    sleep = record d { result_completion_id = id + 2 };
    said = said;
    invocation = ap (id_at h) held ∙ id_with_more h (ms ++ mapped_from 2 h id) (mapped_from 1 (h + 2) (id + 2)) (CompletionId id) (behind_given h 0 h ms (mapped_from 2 h id) ordered (omega arith) ∙ first_of_two h id 1);
    result = ap (id_at (h + 1)) held ∙ id_with_more (h + 1) (ms ++ mapped_from 2 h id) (mapped_from 1 (h + 2) (id + 2)) (CompletionId (id + 1)) (behind_given (h + 1) 0 h ms (mapped_from 2 h id) ordered (omega arith) ∙ second_of_two h id 0);
    deadline = ap (id_at (h + 2)) held ∙ behind_given (h + 2) 0 (h + 2) (ms ++ mapped_from 2 h id) (mapped_from 1 (h + 2) (id + 2)) (span_both 0 h (h + 2) ms (mapped_from 2 h id) ordered (span_given 2 h id)) (omega arith) ∙ first_of_two (h + 2) (id + 2) 0;
  }

-- ---- a call with several commands

-- a step with several commands is a call with a deadline
record IsDeadlineCall (kind : AnswerKind) (first second : Command) : Type 0 where
  answers : kind ≡ kinds.CallWithDeadline
  call : CallCommand
  is_call : first.message ≡ message.Call call
  sleep : SleepCommand
  is_sleep : second.message ≡ message.Sleep sleep

several_are : (version : Version) (st : Step) (kind : AnswerKind) (first second : Command) → ask_of version st ≡ ask.Commands kind first second → IsDeadlineCall kind first second
several_are version (step.CallWithDeadline target input time name options) k first second e =
    let made = call_command target input (name_in name) options version in
    let slept = sleep_command (as_nanos time / 1000000) [] in
    let one : kinds.CallWithDeadline ≡ k = cc in
    let firsts : made ≡ first = cc in
    let seconds : slept ≡ second = cc in
    record {
      answers = sym one;
      call = record { request = request_of target input (name_in name); result_completion_id = 0 };
      is_call = ap (λ (c : Command). c.message) (sym firsts);
      sleep = record { wake_up_time = min (as_nanos time / 1000000) 18446744073709551615; result_completion_id = 0; name = [] };
      is_sleep = ap (λ (c : Command). c.message) (sym seconds);
    }
several_are version st kind first second e = absurd (cc)

-- As long as such a call isn't answered, its first command was said last, with the next completion ids.
record HasSaid (s : Setup) (m : Meaning) (p : Point) : Type 0 where
  kind : AnswerKind
  first : Command
  second : Command
  asks : ask_of s.version (m p.answers) ≡ ask.Commands kind first second
  before : List Message
  said : p.said ≡ before ++ with_ids p.derived.counters.completion first.message ∷ []

abbrev Rests : Setup → Meaning → Point → Type 0
Rests s m p = (p.derived.parts ≡ 0) ⊎ HasSaid s m p

-- what a command that was used leaves
record Says (e : Demand) (gives : List Answer) (d : Derived) (p q : Point) : Type 0 where
  answers : q.answers ≡ p.answers ++ gives
  said : q.said ≡ p.said ++ said_of e ∷ []
  handles : q.derived.handles ≡ d.handles
  counters : q.derived.counters ≡ d.counters
  parts : q.derived.parts ≡ d.parts

brought_handles : (id : ℕ) (result : Option NotificationResult) (d : Derived) → (with_read_result id result d).handles ≡ d.handles
brought_handles id None d = refl
brought_handles id (Some result) d = refl

brought_counters : (id : ℕ) (result : Option NotificationResult) (d : Derived) → (with_read_result id result d).counters ≡ d.counters
brought_counters id None d = refl
brought_counters id (Some result) d = refl

brought_parts : (id : ℕ) (result : Option NotificationResult) (d : Derived) → (with_read_result id result d).parts ≡ d.parts
brought_parts id None d = refl
brought_parts id (Some result) d = refl

command_says : (o : Result (Option NotificationResult) NamedFault) (e : Demand) (gives : List Answer) (d : Derived) (left : List RawMessage) (p q : Point) → command_used o e gives d left p ≡ Some q → Says e gives d p q
command_says (Err name) e gives d left p q m = none_some m
command_says (Ok result) e gives d left p q m =
    let is = sym (same_Some _ q m) in
    let id = p.derived.counters.completion in
    record {
      answers = ap (λ z. z.answers) is;
      said = ap (λ z. z.said) is;
      handles = ap (λ z. z.derived.handles) is ∙ brought_handles id result d;
      counters = ap (λ z. z.derived.counters) is ∙ brought_counters id result d;
      parts = ap (λ z. z.derived.parts) is ∙ brought_parts id result d;
    }

uses_says : (e : Demand) (gives : List Answer) (d : Derived) (left : List RawMessage) (p q : Point) → uses_command e gives d left p ≡ Some q → Says e gives d p q
uses_says e gives d [] p q m = none_some m
uses_says e gives d (c ∷ left) p q m = command_says (found e c) e gives d left p q m

module _ (s : Setup) (m : Meaning) (p q : Point) (kind : AnswerKind) (first second : Command) (asks : ask_of s.version (m p.answers) ≡ ask.Commands kind first second) where
  first_said : (o : Option NamedFault) → p.derived.parts ≡ 0 → moved (part_unless o s kind (turn_after s zero first (second ∷ []) p.derived) p.derived) p ≡ Some q → Rests s m q
  first_said (Some name) none e = none_some e
  first_said None none e =
      let y = uses_says (demand_of s first p.derived) [] (record p.derived { parts = suc p.derived.parts }) p.left p q e in
      let still : q.answers ≡ p.answers = y.answers ∙ append-nil p.answers in
      inr (record {
        kind = kind;
        first = first;
        second = second;
        asks = ap (λ l. ask_of s.version (m l)) still ∙ asks;
        before = p.said;
        said = y.said ∙ ap (λ (k : ℕ). p.said ++ with_ids k first.message ∷ []) (sym (ap (λ c. c.completion) y.counters));
      })

  last_rests : (o : Option NamedFault) (before : Derived) → moved (part_unless o s kind (record { command = second; behind = []; before = before }) p.derived) p ≡ Some q → Rests s m q
  last_rests (Some name) before e = none_some e
  last_rests None before e = inl (uses_says (demand_of s second before) (answer_by kind (record { 0 = p.derived.counters.handle }) ∷ []) (record (behind_command s second before) { parts = 0 }) p.left p q e).parts

  several_rest : (n : ℕ) → p.derived.parts ≡ n → moved (turn_taken s kind (turn_after s n first (second ∷ []) p.derived) p.derived) p ≡ Some q → Rests s m q
  several_rest zero is e = first_said (refused_before first (second ∷ []) p.derived.counters) is e
  several_rest (suc zero) is e = last_rests (refused_before second [] (behind_command s first p.derived).counters) (behind_command s first p.derived) e
  several_rest (suc (suc n)) is e = last_rests (refused_before second [] (behind_command s first p.derived).counters) (behind_command s first p.derived) e

next_rests : (s : Setup) (m : Meaning) (p q : Point) → Rests s m p → next s m p ≡ Some q → Rests s m q
next_rests s m p q h e = by_ask (ask_of s.version (m p.answers)) refl
  where
    by_one : IsOfOne (ask_of s.version (m p.answers)) → Rests s m p → Rests s m q
    by_one one (inl none) = inl (next_keeps s m p q one e ∙ none)
    by_one one (inr b) = absurd (subst IsOfOne b.asks one)

    by_ask : (a : Ask) → ask_of s.version (m p.answers) ≡ a → Rests s m q
    by_ask (ask.Commands kind first second) is = several_rest s m p q kind first second is p.derived.parts refl (ap (λ x. moved (asked s x p.derived) p) (sym is) ∙ e)
    by_ask a is = by_one (subst IsOfOne (sym is) tt) h

after_rests : (s : Setup) (m : Meaning) (n : ℕ) (p q : Point) → Rests s m p → after s m n p ≡ Some q → Rests s m q
after_rests s m zero p q h e = subst (Rests s m) (same_Some p q e) h
after_rests s m (suc n) p q h e =
    let x = and_then_some (next s m p) (after s m n) q e in
    after_rests s m n x.0 q (next_rests s m p x.0 h x.1) x.2

-- ---- answers without handles

-- an answer that has no handle
abbrev IsBare : Answer → Type 0
IsBare answer.Awake = Unit {0}
IsBare answer.Cancelled = Unit {0}
IsBare (answer.Taken value) = Unit {0}
IsBare (answer.Completed is) = Unit {0}
IsBare a = ⊥

abbrev AreBare : List Answer → Type 0
AreBare gives = AllByRecursion IsBare gives

bare_named : (s : Setup) (m : Meaning) (p q : Point) (a : Answer) → IsBare a → Names s m p q a
bare_named s m p q answer.Awake h = tt
bare_named s m p q answer.Cancelled h = tt
bare_named s m p q (answer.Taken value) h = tt
bare_named s m p q (answer.Completed is) h = tt
bare_named s m p q a h = absurd h

abbrev GivesBare : Move → Type 0
GivesBare (Answers gives d) = AreBare gives
GivesBare (Needs e gives d) = AreBare gives
GivesBare Awaits = Unit {0}
GivesBare Ends = Unit {0}
GivesBare (Refuses name) = Unit {0}

awaiting_bare : (b : Bool) (d : Derived) → GivesBare (awaiting b d)
awaiting_bare true d = (tt, tt)
awaiting_bare false d = tt

read_bare : (o : Option (List ℕ)) (d : Derived) → GivesBare (id_read o d)
read_bare None d = tt
read_bare (Some id) d = tt

id_bare : (o : Option NotificationResult) (d : Derived) → GivesBare (id_awaited o d)
id_bare None d = tt
id_bare (Some result) d = read_bare (id_of_result result) d

sent_bare : (s : Setup) (id : List ℕ) (o : Option NamedFault) (d : Derived) → GivesBare (cancel_sent s id o d)
sent_bare s id (Some name) d = tt
sent_bare s id None d = tt

cancelling_bare : (s : Setup) (ids : List (List ℕ)) (d : Derived) → GivesBare (cancelling s ids d)
cancelling_bare s [] d = (tt, tt)
cancelling_bare s (id ∷ ids) d = sent_bare s id (missing_number 0 0 0 d.counters) d

cancelled_bare : (s : Setup) (handles : List ℕ) (d : Derived) → GivesBare (cancelled s handles d)
cancelled_bare s [] d = cancelling_bare s (invocation_ids d.tracked) d
cancelled_bare s (handle ∷ handles) d = id_bare (present_result_for s.options.signal_delivery (id_at handle d.handles) (ready_in s d)) d

awaited_bare : (s : Setup) (b : Bool) (future : UnresolvedFuture) (d : Derived) → GivesBare (awaited s b future d)
awaited_bare s true future d = cancelled_bare s (unresolved_handles d.tracked) d
awaited_bare s false future d = awaiting_bare (is_awake s future d) d

noted_bare : (handle : NotificationHandle) (id : NotificationId) (value : Value) (o : Option (List TrackedCall)) (d : Derived) → GivesBare (take_noting_id handle id value o d)
noted_bare handle id value None d = tt
noted_bare handle id value (Some tracked) d = (tt, tt)

value_bare : (handle : NotificationHandle) (id : NotificationId) (o : Option Value) (d : Derived) → GivesBare (take_of_value handle id o d)
value_bare handle id None d = tt
value_bare handle id (Some value) d = noted_bare handle id value (id_noted handle.0 (id_of_value value) d.tracked) d

result_bare : (handle : NotificationHandle) (id : Option NotificationId) (o : Option NotificationResult) (d : Derived) → GivesBare (take_of_result handle id o d)
result_bare handle (Some id) (Some result) d = value_bare handle id (value_of result) d
result_bare handle (Some id) None d = (tt, tt)
result_bare handle None o d = (tt, tt)

-- ---- each move

only_one : (xs gives : List Answer) (a : Answer) → xs ++ gives ≡ xs ++ a ∷ [] → gives ≡ a ∷ []
only_one xs gives a e = append_cancel_left xs gives (a ∷ []) e

same_one : (a b : Answer) → a ∷ [] ≡ b ∷ [] → a ≡ b
same_one a b e = let same : a ≡ b = cc in same

module _ (s : Setup) (m : Meaning) (p q : Point) (a : Answer) (gets : q.answers ≡ p.answers ++ a ∷ []) (ordered : InOrder p.derived) where
  -- what a given answer names the answer names
  by_given : (b : Answer) → q.answers ≡ p.answers ++ b ∷ [] → Names s m p q b → Names s m p q a
  by_given b is h = subst (Names s m p q) (same_one b a (only_one p.answers (b ∷ []) a (sym is ∙ gets))) h

  by_none : {P : Type 0} → q.answers ≡ p.answers ++ [] → P
  by_none is = absurd (let none = only_one p.answers [] a (sym is ∙ gets) in cc)

  bare_by : (gives : List Answer) → AreBare gives → q.answers ≡ p.answers ++ gives → Names s m p q a
  bare_by gives h is = bare_named s m p q a (subst AreBare (only_one p.answers gives a (sym is ∙ gets)) h).0

  bare_moved : (mv : Move) → GivesBare mv → moved mv p ≡ Some q → Names s m p q a
  bare_moved (Answers gives d) h e = bare_by gives h (ap (λ z. z.answers) (sym (same_Some _ q e)))
  bare_moved (Needs d gives f) h e = bare_by gives h (uses_says d gives f p.left p q e).answers
  bare_moved Awaits h e = by_none (still p.queue e)
    where
      still : (queue : List Notification) → uses_arrival queue p ≡ Some q → q.answers ≡ p.answers ++ []
      still [] e = none_some e
      still (n ∷ queue) e = ap (λ z. z.answers) (sym (same_Some _ q e)) ∙ sym (append-nil p.answers)
  bare_moved Ends h e = none_some e
  bare_moved (Refuses name) h e = none_some e

  numbered_named : (c : Command) (o : Option NamedFault) → moved (numbered s c o p.derived) p ≡ Some q → Names s m p q a
  numbered_named c (Some name) e = none_some e
  numbered_named c None e =
      let y = uses_says (demand_of s c p.derived) (answer_of c p.derived ∷ []) (behind_command s c p.derived) p.left p q e in
      by_given (answer_of c p.derived) y.answers (command_named s m p q p.derived.counters.handle p.derived.counters.completion p.derived.handles ordered.handles c.message y.said y.handles)

  commanding_named : (c : Command) (o : Option NamedFault) → moved (commanding s c o p.derived) p ≡ Some q → Names s m p q a
  commanding_named c (Some name) e = none_some e
  commanding_named c None e = numbered_named c (missing_number (ids_of c.message) 0 (ids_of c.message) p.derived.counters) e

  reading_named : (r : StateRead) (o : Option NamedFault) → moved (reading r o p.derived) p ≡ Some q → Names s m p q a
  reading_named r (Some name) e = none_some e
  reading_named r None e =
      let h = p.derived.counters.handle in
      let id = p.derived.counters.completion in
      let y = uses_says (Reads r id) (answer.Handle (record { 0 = h }) ∷ []) (counted 1 p.derived) p.left p q e in
      by_given (answer.Handle (record { 0 = h })) y.answers (one_named s m p q h id p.derived.handles ordered.handles (lazy_form r id) y.said (read_carries s m p q h id p.derived.handles ordered.handles r) y.handles)

  awakeable_named : (o : Option NamedFault) → moved (awakeable_made s o p.derived) p ≡ Some q → Names s m p q a
  awakeable_named (Some name) e = none_some e
  awakeable_named None e =
      let is = sym (same_Some _ q e) in
      let h = p.derived.counters.handle in
      by_given _ (ap (λ z. z.answers) is) (record {
        signal = p.derived.counters.signal;
        text = refl;
        said = ap (λ z. z.said) is;
        stands = ap (λ z. id_at h z.derived.handles) is ∙ behind_given h 0 h p.derived.handles (record { handle = h; id = SignalId p.derived.counters.signal } ∷ []) ordered.handles (omega arith) ∙ ap (λ b. cond b (Some (SignalId p.derived.counters.signal)) None) (itself h);
      })

  making_named : (b : Bool) → moved (making_awakeable s b p.derived) p ≡ Some q → Names s m p q a
  making_named true e = none_some e
  making_named false e = awakeable_named (missing_signals 1 1 p.derived.counters) e

  signal_named : (name : List ℕ) (o : Option NamedFault) → m p.answers ≡ step.Signal name → moved (signal_made name o p.derived) p ≡ Some q → Names s m p q a
  signal_named name (Some fault) asks e = none_some e
  signal_named name None asks e =
      let is = sym (same_Some _ q e) in
      let h = p.derived.counters.handle in
      by_given (answer.Handle (record { 0 = h })) (ap (λ z. z.answers) is) (inr (record {
        name = name;
        asks = asks;
        said = ap (λ z. z.said) is;
        stands = ap (λ z. id_at h z.derived.handles) is ∙ behind_given h 0 h p.derived.handles (record { handle = h; id = SignalName name } ∷ []) ordered.handles (omega arith) ∙ ap (λ b. cond b (Some (SignalName name)) None) (itself h);
      }))

  last_named : (kind : AnswerKind) (first second : Command) (o : Option NamedFault) → HasSaid s m p → ask_of s.version (m p.answers) ≡ ask.Commands kind first second
      → moved (part_unless o s kind (record { command = second; behind = []; before = behind_command s first p.derived }) p.derived) p ≡ Some q → Names s m p q a
  last_named kind first second (Some name) b is e = none_some e
  last_named kind first second None b is e =
      let h = p.derived.counters.handle in
      let id = p.derived.counters.completion in
      let before = behind_command s first p.derived in
      let y = uses_says (demand_of s second before) (answer_by kind (record { 0 = h }) ∷ []) (record (behind_command s second before) { parts = 0 }) p.left p q e in
      let x = several_are s.version (m p.answers) kind first second is in
      let one : b.first ≡ first = first_is b.kind kind b.first first b.second second (sym b.asks ∙ is) in
      let said : q.said ≡ b.before ++ with_ids id first.message ∷ with_ids (id + ids_of first.message) second.message ∷ [] =
      y.said ∙ ap (λ l. l ++ with_ids (id + ids_of first.message) second.message ∷ []) (b.said ∙ ap (λ (c : Command). b.before ++ with_ids id c.message ∷ []) one)
      ∙ append_assoc b.before (with_ids id first.message ∷ []) (with_ids (id + ids_of first.message) second.message ∷ []) in
      let messages : (first.message, second.message) ≡ (message.Call x.call, message.Sleep x.sleep) = λ i. (x.is_call i, x.is_sleep i) in
      by_given (answer_by kind (record { 0 = h })) y.answers (subst (λ k. Names s m p q (answer_by k (record { 0 = h }))) (sym x.answers)
      (deadline_named s m p q h id p.derived.handles ordered.handles x.call x.sleep b.before
      (subst (λ (z : Message × Message). q.said ≡ b.before ++ with_ids id z.0 ∷ with_ids (id + ids_of z.0) z.1 ∷ []) messages said)
      (subst (λ (z : Message × Message). q.derived.handles ≡ (p.derived.handles ++ mapped_from (ids_of z.0) h id) ++ mapped_from (ids_of z.1) (h + ids_of z.0) (id + ids_of z.0)) messages y.handles)))
    where
      first_is : (k l : AnswerKind) (c d e f : Command) → ask.Commands k c e ≡ ask.Commands l d f → c ≡ d
      first_is k l c d e f same = let one : c ≡ d = cc in one

  several_named : (kind : AnswerKind) (first second : Command) (n : ℕ) → p.derived.parts ≡ n → Rests s m p → ask_of s.version (m p.answers) ≡ ask.Commands kind first second
      → moved (turn_taken s kind (turn_after s n first (second ∷ []) p.derived) p.derived) p ≡ Some q → Names s m p q a
  several_named kind first second zero none b is e = begun (refused_before first (second ∷ []) p.derived.counters) e
    where
      begun : (o : Option NamedFault) → moved (part_unless o s kind (record { command = first; behind = second ∷ []; before = p.derived }) p.derived) p ≡ Some q → Names s m p q a
      begun (Some name) e = none_some e
      begun None e = by_none (uses_says (demand_of s first p.derived) [] (record p.derived { parts = suc p.derived.parts }) p.left p q e).answers
  several_named kind first second (suc n) some (inl none) is e = absurd (let no = sym some ∙ none in omega (arith, no))
  several_named kind first second (suc zero) some (inr b) is e = last_named kind first second (refused_before second [] (behind_command s first p.derived).counters) b is e
  several_named kind first second (suc (suc n)) some (inr b) is e = last_named kind first second (refused_before second [] (behind_command s first p.derived).counters) b is e

  step_named : Rests s m p → next s m p ≡ Some q → Names s m p q a
  step_named b e = by_ask (ask_of s.version (m p.answers)) refl (named_signal (m p.answers)) e
    where
      by_ask : (x : Ask) → ask_of s.version (m p.answers) ≡ x → ((name : List ℕ) → x ≡ ask.Signal name → m p.answers ≡ step.Signal name) → moved (asked s x p.derived) p ≡ Some q → Names s m p q a
      by_ask (ask.Command c) is by_name e = commanding_named c c.refusal e
      by_ask (ask.Commands kind first second) is by_name e = several_named kind first second p.derived.parts refl b is e
      by_ask (ask.Read r) is by_name e = reading_named r (missing_number 1 0 1 p.derived.counters) e
      by_ask ask.Awakeable is by_name e = making_named (skips_replay s.options.journal_replay) e
      by_ask (ask.Signal name) is by_name e = signal_named name (missing_signals 0 1 p.derived.counters) (by_name name refl) e
      by_ask (ask.Await future) is by_name e = bare_moved (awaited s (is_cancelled_in s p.derived) future p.derived) (awaited_bare s (is_cancelled_in s p.derived) future p.derived) e
      by_ask (ask.Take handle) is by_name e =
          let id = id_at handle.0 p.derived.handles in
          let result = present_result_for s.options.signal_delivery id (ready_in s p.derived) in
          bare_moved (take_of_result handle id result p.derived) (result_bare handle id result p.derived) e
      by_ask (ask.Completed handle) is by_name e = bare_moved (asked s (ask.Completed handle) p.derived) (tt, tt) e
      by_ask ask.End is by_name e = none_some e

      named_signal : (st : Step) (name : List ℕ) → ask_of s.version st ≡ ask.Signal name → st ≡ step.Signal name
      named_signal (step.Signal other) name e = let same : other ≡ name = cc in ap step.Signal same
      named_signal st name e = absurd (cc)

pub handles_named : (s : Setup) (m : Meaning) (n : ℕ) (input : InputCommand) (ns : List Notification) (cs : List RawMessage) (p q : Point) (a : Answer) → after s m n (start s input ns cs) ≡ Some p → Gets s m a p q → Names s m p q a
handles_named s m n input ns cs p q a e g = step_named s m p q a g.answers (told_in_order s m n input ns cs p e) (after_rests s m n (start s input ns cs) p (inl refl) e) g.moves
