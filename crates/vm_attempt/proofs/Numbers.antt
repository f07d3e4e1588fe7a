-- The completion ids of the commands that a call of a step writes: none is less than the one that came next before it, and the one that comes
-- next never falls.
use Rattle.std.proofs.Common.{◌≡◌, length, ℕ, ◌+◌, ◌≤◌, Bool, true, false, List, [], ◌∷◌, ◌++◌, map, Option, Some, None, Result, Ok, Err, refl, sym, ap, ◌∙◌, subst, ⊎_elim, append_assoc, append-nil, arith}
use Rattle.std.specs.Prelude.{◌==◌, cond, if◌then◌else◌}
use Rattle.std.specs.List.{find, list_any}
use Rattle.std.specs.Option.{option_and_then, option_map}
use Rattle.journal_protocol.specs.Error.{Error}
use Rattle.journal_protocol.specs.NamedFault.{NamedFault}
use Rattle.journal_protocol.specs.NamedFault.TheVariants as fault
use Rattle.journal_protocol.specs.Version.{Version}
use Rattle.journal_protocol.specs.Errors.{error_message}
use Rattle.journal_protocol.specs.Types.{type_number}
use Rattle.journal_protocol.specs.Equality.{header_equal}
use Rattle.journal_protocol.specs.Message.{Message}
use Rattle.journal_protocol.specs.Message.TheVariants as message
use Rattle.journal_protocol.specs.RawMessage.{RawMessage}
use Rattle.journal_protocol.specs.Frames.{IsWhole, body, encoding, type_of}
use Rattle.journal_protocol.specs.Bodies.{message_in}
use Rattle.journal_protocol.proofs.Facts.{read_back}
use Rattle.journal_protocol.specs.NotificationId.{NotificationId}
use Rattle.journal_protocol.specs.NotificationResult.{NotificationResult}
use Rattle.await_trees.specs.declared.handle.NotificationHandle.{NotificationHandle}
use Rattle.await_trees.specs.declared.tree.UnresolvedFuture.{UnresolvedFuture}
use Rattle.await_trees.specs.Handles.{handles_of}
use Rattle.await_trees.specs.Tree.{Tree, leaf, tree_of}
use Rattle.await_trees.specs.Wires.{sent}
use Rattle.await_tries.specs.Message.{ids}
use Rattle.vm_runs.specs.Pending.{is_executing, is_executing_in, may_execute}
use Rattle.vm_types.specs.declared.options.AwaitingOnPolicy.{AwaitingOnPolicy}
use Rattle.vm_types.specs.declared.steps.Step.{Step}
use Rattle.vm_types.specs.declared.types.AwaitResponse.{AwaitResponse}
use Rattle.vm_types.specs.declared.types.AwaitResponse.TheVariants.{AnyCompleted, CancelSignalReceived, EphemeralNotificationReady, ExecuteRun, WaitingExternalProgress}
use Rattle.vm_types.specs.declared.types.AwakeableHandle.{AwakeableHandle}
use Rattle.vm_types.specs.declared.values.Value.{Value}
use Rattle.vm_types.specs.Options.{ends_awaits, ignores_payloads, skips_replay}
use Rattle.vm_types.specs.Values.{value_of, id_of_value}
use Rattle.vm_state.specs.declared.state_map.Known.{Known}
use Rattle.vm_state.specs.declared.state_map.Known.TheVariants.{Unknown, Empty, Value as Given}
use Rattle.vm_state.specs.declared.state_map.StateMap.{StateMap}
use Rattle.vm_runs.specs.declared.pending.PendingRun.{PendingRun}
use Rattle.vm_state.specs.declared.tracked_call.TrackedCall.{TrackedCall}
use Rattle.vm_state.specs.Counting.{missing_number, missing_signals}
use Rattle.vm_parts.specs.Deliveries.{id_at, present_result_for, taken_by}
use Rattle.vm_state.specs.States.{value_known, known_keys}
use Rattle.vm_parts.specs.Tracked.{id_of_result, invocation_ids, id_noted, unresolved_handles, with_next_id}
use Rattle.vm_asks.specs.declared.asks.Ask.{Ask}
use Rattle.vm_asks.specs.declared.asks.AnswerKind.{AnswerKind}
use Rattle.vm_asks.specs.declared.command.Command.{Command}
use Rattle.vm_asks.specs.declared.asks.Ask.TheVariants as ask
use Rattle.vm_asks.specs.declared.state_read.StateRead.{StateRead}
use Rattle.vm_asks.specs.declared.state_read.StateRead.TheVariants as reads
use Rattle.vm_asks.specs.Asks.{any_refusal, ask_of, cancel_invocation_command, missing_for}
use Rattle.vm_asks.specs.Carried.{AreFrom, all_carried, carried, read_carried}
use Rattle.vm_asks.specs.Requests.{ids_of, name_of, shown_type, with_ids}
use Rattle.vm_asks.specs.StateReads.{eager_type, keys_form, lazy_type, name_read, own_form, recorded_as, recorded_type, result_in, value_form, own_result}
use Rattle.vm_parts.specs.Ephemerals.{any_in_flight}
use Rattle.vm_machine.specs.declared.machine.Machine.{Machine}
use Rattle.vm_machine.specs.declared.phase.Phase.{Phase}
use Rattle.vm_machine.specs.declared.phase.Phase.TheVariants.{WaitingStart, WaitingReplayEntries, Replaying, Processing, Closed}
use Rattle.vm_machine.specs.Commands.{CanBeRead, about_next, carried_out, commanded, commanded_unless, compared, command_if_counted, entered, handed_out, issued, phase_after, popped, popped_from, prepared, replayed, written}
use Rattle.vm_machine.specs.Inputs.{end_at, end_step}
use Rattle.vm_machine.specs.Outcomes.{CalledBy, Does, DoesBy, IsStarved, Outcome, Done, Failed, ◌>>>◌, about_last, called, called_at, failed, refused, ruled, settled}
use Rattle.vm_machine.specs.Phases.{is_closed, is_processing, is_replaying, is_running, state_fault}
use Rattle.vm_machine.specs.Reads.{read_back as read_again, read_counted, read_numbered, read_popped, read_step, read_written, with_read_ready}
use Rattle.vm_machine.specs.Signals.{awakeable_counted, awakeable_step, name_handed_out, signal_counted, signal_handed_out, signal_step}
use Rattle.vm_machine.specs.Several.{BehindFirst, MakesAll, MakesOne, commanded_before, foreseen, foreseen_unless, numbers_left}
use Rattle.vm_machine.specs.Takes.{result_taken, take_step, taken_at, value_noted, value_taken}
use Rattle.vm_machine.proofs.Calling.{answers_first, called_from}
use Rattle.vm_awaits.specs.Awaits.{Awaits, AwaitsAt, AwaitsBy, Behind, AwaitCompletes, EndsBy, Gathers, ReadsId, StaysPending, Tries, executed, next_id_known, is_cancelled, or_cancelled, pending_in_replay, pending_on, result_at, said_waiting, says_so, suspended, waiting, waits_by, waits_on, with_used}
use Rattle.vm_awaits.specs.Cancels.{AwaitsWhole, Cancels, FinishesIf, Onward, SendsCancel, cancel_taken, sends_cancels}
use Rattle.vm_awaits.proofs.Cancelling.{read_known, woken_used}
use Rattle.invocation_vm.specs.Calls.{new_awakeable_step}
use Rattle.journal_entries.specs.Journal.{stored_form}
use Rattle.vm_attempt.specs.declared.progress.Reply.{Reply}
use Rattle.vm_attempt.specs.Steps.{AllCarried, Awaited, IsReadable, Performs, PerformsBy, ReadsBack, mapped}
use Rattle.std.specs.Prelude.{OnOk}
use Rattle.journal_entries.specs.JournalFrames.{is_command_frame}
use Rattle.vm_attempt.specs.Told.{commands_of}
use Rattle.vm_attempt.proofs.Quiet.{commands_append, map_append}

-- ---- numbers

pub same_number : (n : ℕ) → n ≤ n
same_number n = omega arith

more_number : (n k : ℕ) → n ≤ n + k
more_number n k = omega arith

more_than : (a b c : ℕ) → a ≤ b → b ≤ c → a ≤ c
more_than a b c h k = omega (arith, h, k)

pub from_more : (a b : ℕ) (ns : List ℕ) → a ≤ b → AreFrom b ns → AreFrom a ns
from_more a b [] less h = tt
from_more a b (n ∷ ns) less h = (more_than a b n less h.0, from_more a b ns less h.1)

pub from_append : (a : ℕ) (xs ys : List ℕ) → AreFrom a xs → AreFrom a ys → AreFrom a (xs ++ ys)
from_append a [] ys h k = k
from_append a (x ∷ xs) ys h k = (h.0, from_append a xs ys h.1 k)

pub carried_append : (cs ds : List RawMessage) → all_carried (cs ++ ds) ≡ all_carried cs ++ all_carried ds
carried_append [] ds = refl
carried_append (c ∷ cs) ds = ap (λ l. read_carried (message_in c.ty c.body) ++ l) (carried_append cs ds) ∙ sym (append_assoc (read_carried (message_in c.ty c.body)) (all_carried cs) (all_carried ds))

-- ---- what a call has written

-- Messages were written; none of their commands carries a completion id below the one that came next, which hasn't fallen since.
pub record Numbers (v w : Machine) : Type 0 where
  pub messages : List Message
  pub output : w.output ≡ v.output ++ map encoding messages
  pub from : AreFrom v.counters.completion (all_carried (commands_of messages))
  pub counter : v.counters.completion ≤ w.counters.completion

-- nothing was written, and the id that comes next hasn't fallen
abbrev Stays : Machine → Machine → Type 0
Stays v w = (w.output ≡ v.output) × (v.counters.completion ≤ w.counters.completion)

alike : (v : Machine) → Stays v v
alike v = (refl, same_number v.counters.completion)

stays_numbers : (v w : Machine) → Stays v w → Numbers v w
stays_numbers v w s = record { messages = []; output = s.0 ∙ sym (append-nil v.output); from = tt; counter = s.1 }

numbers_then : (u v w : Machine) → Numbers u v → Numbers v w → Numbers u w
numbers_then u v w a b = record {
  messages = a.messages ++ b.messages;
  output = b.output ∙ ap (λ l. l ++ map encoding b.messages) a.output ∙ append_assoc u.output (map encoding a.messages) (map encoding b.messages) ∙ ap (λ l. u.output ++ l) (sym (map_append a.messages b.messages));
  from = subst (AreFrom u.counters.completion) (sym (ap all_carried (commands_append a.messages b.messages) ∙ carried_append (commands_of a.messages) (commands_of b.messages)))
      (from_append u.counters.completion (all_carried (commands_of a.messages)) (all_carried (commands_of b.messages)) a.from (from_more u.counters.completion v.counters.completion (all_carried (commands_of b.messages)) a.counter b.from));
  counter = more_than u.counters.completion v.counters.completion w.counters.completion a.counter b.counter;
}

-- An event, before the error rule, where what it has written can be read back if this holds; one that is refused has written nothing.
abbrev Happens : {A : Type 0} → Type 0 → Machine → Outcome A → Type 0
Happens W v (Done a w) = W → Numbers v w
Happens W v (Failed e w) = Stays v w

-- a call, with the error rule
abbrev CallNumbers : {A : Type 0} → Type 0 → Machine → Outcome A → Type 0
CallNumbers W v (Done a w) = W → Numbers v w
CallNumbers W v (Failed e w) = Numbers v w

failing : (e : Error) (v w : Machine) → Stays v w → (b : Bool) → is_closed w.phase ≡ b → Numbers v (failed e w)
failing e v w s true c = record { messages = []; output = rw c (s.0 ∙ sym (append-nil v.output)); from = tt; counter = s.1 }
failing e v w s false c = record { messages = message.Error (error_message e) ∷ []; output = rw c (ap (λ l. l ++ encoding (message.Error (error_message e)) ∷ []) s.0); from = tt; counter = s.1 }

settling : {A : Type 0} (W : Type 0) (v : Machine) (o : Outcome A) → Happens W v o → CallNumbers W v (settled o)
settling W v (Done a w) h = h
settling W v (Failed e w) h = failing (ruled w e) v w h (is_closed w.phase) refl

calling : {A : Type 0} (W : Type 0) (v : Machine) (o : Outcome A) → Happens W v o → CallNumbers W v (called o v)
unfolding called
calling W v o h = by_failure v.failure
  where
    by_failure : (f : Option Error) → CallNumbers W v (called_at f o v)
    by_failure None = settling W v o h
    by_failure (Some e) = stays_numbers v v (alike v)

mapping : {A B : Type 0} (W : Type 0) (f : A → B) (v : Machine) (o : Outcome A) → CallNumbers W v o → CallNumbers W v (mapped f o)
mapping W f v (Done a w) h = h
mapping W f v (Failed e w) h = h

-- ---- a command

-- the completion ids of a command are given from the next one on
ids_from : (id : ℕ) (m : Message) → AreFrom id (carried (with_ids id m))
ids_from id (message.Sleep c) = (same_number id, tt)
ids_from id (message.GetLazyState c) = (same_number id, tt)
ids_from id (message.GetLazyStateKeys c) = (same_number id, tt)
ids_from id (message.Call c) = (same_number id, (more_number id 1, tt))
ids_from id (message.OneWayCall c) = (same_number id, tt)
ids_from id (message.GetPromise c) = (same_number id, tt)
ids_from id (message.PeekPromise c) = (same_number id, tt)
ids_from id (message.CompletePromise c) = (same_number id, tt)
ids_from id (message.Run c) = (same_number id, tt)
ids_from id (message.AttachInvocation c) = (same_number id, tt)
ids_from id (message.GetInvocationOutput c) = (same_number id, tt)
ids_from id m = tt

-- a message that can be read back carries as a stored command what it carries
stored_from : (next : ℕ) (m : Message) → IsWhole m → AreFrom next (carried m) → AreFrom next (all_carried (commands_of (m ∷ [])))
stored_from next m whole h = by_test (is_command_frame (stored_form m))
  where
    by_test : (b : Bool) → AreFrom next (all_carried (cond b (stored_form m ∷ []) []))
    by_test true = subst (AreFrom next) (sym (append-nil (read_carried (message_in (type_of m) (body m))))) (subst (λ o. AreFrom next (read_carried o)) (sym (read_back m whole)) h)
    by_test false = tt

module _ (W : Type 0) (v : Machine) (handle : NotificationHandle) (m : Message) (ignore : Bool) (u : Machine) (same : Stays v u) (from : W → is_processing u.phase ≡ true → AreFrom v.counters.completion (all_carried (commands_of (m ∷ [])))) where
  abbrev Answer : Outcome Unit → Type 0
  Answer o = Happens W v (o >>> λ _ w. Done handle w)

  compares : (o : Option Message) (w : Machine) → Stays v w → Answer (compared m ignore o w)
  compares None w s = s
  compares (Some recorded) w s = by_test (header_equal recorded m ignore)
    where
      by_test : (b : Bool) → Answer (if b then Done (tt {0}) w else Failed (about_last fault.CommandMismatch w) w)
      by_test true = λ _. stays_numbers v w s
      by_test false = s

  pops : (left : List RawMessage) → Answer (popped_from left (type_of m) u >>> λ raw w. compared m ignore (message_in raw.ty raw.body) w)
  pops [] = same
  pops (raw ∷ rest) = by_test (type_number raw.ty == type_number (type_of m))
    where
      w : Machine
      w = record u { commands = rest; phase = phase_after rest }

      by_test : (b : Bool) → Answer ((if b then Done raw w else Failed (about_last fault.CommandTypeMismatch w) w) >>> λ raw w. compared m ignore (message_in raw.ty raw.body) w)
      by_test true = compares (message_in raw.ty raw.body) w same
      by_test false = same

  replays : Answer (replayed m ignore u)
  unfolding replayed popped
  replays = pops u.commands

  carries : Answer (carried_out m ignore u)
  unfolding carried_out
  carries = by_test (is_processing u.phase) refl
    where
      by_test : (b : Bool) → is_processing u.phase ≡ b → Answer (if b then Done (tt {0}) (written m u) else replayed m ignore u)
      by_test true e = λ whole. record { messages = m ∷ []; output = ap (λ l. l ++ encoding m ∷ []) same.0; from = from whole e; counter = same.1 }
      by_test false e = replays

-- what is asked of a command, so that the ids that it carries are known
abbrev Told : Type 0 → Message → Machine → Type 0
Told W m v = W → is_processing v.phase ≡ true → AreFrom v.counters.completion (all_carried (commands_of (with_ids v.counters.completion m ∷ [])))

counts : (W : Type 0) (o : Option NamedFault) (m : Message) (unstable : Bool) (v : Machine) → Told W m v → Happens W v (command_if_counted o m unstable v)
counts W (Some name) m unstable v from = alike v
counts W None m unstable v from = carries W v (record { 0 = v.counters.handle }) (with_ids v.counters.completion m) (ignores_payloads v.options.non_determinism_checks unstable) (prepared m v) (refl, more_number v.counters.completion (ids_of m)) from

issues : (W : Type 0) (m : Message) (unstable : Bool) (v : Machine) → Told W m v → Happens W v (issued m unstable v)
unfolding issued
issues W m unstable v from = by_test (is_running v.phase)
  where
    by_test : (b : Bool) → Happens W v (if b then command_if_counted (missing_number (ids_of m) 0 (ids_of m) v.counters) m unstable v else (let w = entered (shown_type m) (name_of m) v in Failed (about_last (state_fault v.phase) w) w))
    by_test true = counts W (missing_number (ids_of m) 0 (ids_of m) v.counters) m unstable v from
    by_test false = alike v

commands : (W : Type 0) (refusal : Option NamedFault) (m : Message) (unstable : Bool) (v : Machine) → Told W m v → Happens W v (commanded_unless refusal m unstable v)
commands W (Some name) m unstable v from = alike v
commands W None m unstable v from = issues W m unstable v from

-- ---- state reads

value_from : (key name : List ℕ) (id : ℕ) (k : Known) → AreFrom id (carried (value_form key name id k))
value_from key name id Unknown = (same_number id, tt)
value_from key name id Empty = tt
value_from key name id (Given value) = tt

keys_from : (name : List ℕ) (id : ℕ) (keys : Option (List (List ℕ))) → AreFrom id (carried (keys_form name id keys))
keys_from name id None = (same_number id, tt)
keys_from name id (Some keys) = tt

own_from : (r : StateRead) (id : ℕ) (state : StateMap) → AreFrom id (carried (own_form r id state))
own_from (reads.Value key name) id state = value_from key name id (value_known key state)
own_from (reads.Keys name) id state = keys_from name id (known_keys state)

put_numbers : (id : ℕ) (o : Option NotificationResult) (v w : Machine) → Numbers v w → Numbers v (with_read_ready id o w)
put_numbers id None v w h = h
put_numbers id (Some result) v w h = record { messages = h.messages; output = h.output; from = h.from; counter = h.counter }

reads_back : (W : Type 0) (handle id : ℕ) (o : Result (Option NotificationResult) NamedFault) (v w : Machine) → Stays v w → Happens W v (read_again handle id o w)
reads_back W handle id (Err name) v w s = s
reads_back W handle id (Ok o) v w s = λ _. put_numbers id o v w (stays_numbers v w s)

reads_popped : (W : Type 0) (r : StateRead) (handle id : ℕ) (left : List RawMessage) (v u : Machine) → Stays v u → Happens W v (read_popped r handle id left u)
reads_popped W r handle id [] v u s = s
reads_popped W r handle id (raw ∷ rest) v u s = reads_back W handle id (recorded_as r id raw) v (record u { commands = rest; phase = phase_after rest; last_command = record { ty = recorded_type r raw; name = [] } }) s

abbrev ReadsWhole : StateRead → Machine → Type 0
ReadsWhole r v = is_processing v.phase ≡ true → IsWhole (own_form r v.counters.completion v.state)

reads_numbered : (r : StateRead) (v : Machine) → Happens (ReadsWhole r v) v (read_numbered r v)
reads_numbered r v = by_test (is_processing v.phase) refl
  where
    next : ℕ
    next = v.counters.completion

    m : Message
    m = own_form r next v.state

    by_test : (b : Bool) → is_processing v.phase ≡ b → Happens (ReadsWhole r v) v (if b then Done (record { 0 = v.counters.handle }) (read_written r next m v) else read_popped r v.counters.handle next v.commands (handed_out 1 (entered (eager_type r) [] v)))
    by_test true e = λ whole. put_numbers next (own_result (result_in m)) v (written m (handed_out 1 (entered (type_of m) (name_read r) v))) (record { messages = m ∷ []; output = refl; from = stored_from next m (whole e) (own_from r next v.state); counter = more_number next 1 })
    by_test false e = reads_popped (ReadsWhole r v) r v.counters.handle next v.commands v (handed_out 1 (entered (eager_type r) [] v)) (refl, more_number next 1)

reads_counted : (o : Option NamedFault) (r : StateRead) (v : Machine) → Happens (ReadsWhole r v) v (read_counted o r v)
reads_counted (Some name) r v = alike v
reads_counted None r v = reads_numbered r v

state_reads : (r : StateRead) (v : Machine) → Happens (ReadsWhole r v) v (read_step r v)
unfolding read_step
state_reads r v = by_test (is_running v.phase)
  where
    by_test : (b : Bool) → Happens (ReadsWhole r v) v (if b then read_counted (missing_number 1 0 1 v.counters) r v else Failed (about_next (state_fault v.phase) (lazy_type r) [] v) v)
    by_test true = reads_counted (missing_number 1 0 1 v.counters) r v
    by_test false = alike v

-- ---- calls without a command

-- nothing is asked of what such a call writes
abbrev Plain : Type 0
Plain = Unit {0}

plainly : (v w : Machine) → Stays v w → Plain → Numbers v w
plainly v w s t = stays_numbers v w s

awakeable_is : (o : Option NamedFault) (v : Machine) → Happens Plain v (awakeable_counted o v)
awakeable_is (Some name) v = alike v
awakeable_is None v = plainly v (signal_handed_out v) (alike v)

awakeables : (v : Machine) → Happens Plain v (awakeable_step v)
unfolding awakeable_step
awakeables v = by_test (is_running v.phase)
  where
    by_test : (b : Bool) → Happens Plain v (if b then awakeable_counted (missing_signals 1 1 v.counters) v else refused (state_fault v.phase) v)
    by_test true = awakeable_is (missing_signals 1 1 v.counters) v
    by_test false = alike v

new_awakeables : (b : Bool) (v : Machine) → Happens Plain v (if b then refused {A = AwakeableHandle} fault.UnsupportedFeature v else awakeable_step v)
new_awakeables true v = alike v
new_awakeables false v = awakeables v

signal_is : (o : Option NamedFault) (name : List ℕ) (v : Machine) → Happens Plain v (signal_counted o name v)
signal_is (Some fault) name v = alike v
signal_is None name v = plainly v (name_handed_out name v) (alike v)

signals : (name : List ℕ) (v : Machine) → Happens Plain v (signal_step name v)
unfolding signal_step
signals name v = by_test (is_running v.phase)
  where
    by_test : (b : Bool) → Happens Plain v (if b then signal_counted (missing_signals 0 1 v.counters) name v else refused (state_fault v.phase) v)
    by_test true = signal_is (missing_signals 0 1 v.counters) name v
    by_test false = alike v

noted_values : (value : Value) (tracked : Option (List TrackedCall)) (v u : Machine) → Stays v u → Happens Plain v (value_noted value tracked u)
noted_values value None v u s = s
noted_values value (Some tracked) v u s = plainly v (record u { tracked = tracked }) s

values : (handle : ℕ) (o : Option Value) (v u : Machine) → Stays v u → Happens Plain v (value_taken handle o u)
values handle None v u s = s
values handle (Some value) v u s = noted_values value (id_noted handle (id_of_value value) u.tracked) v u s

results : (handle : ℕ) (o : Option NotificationResult) (v u : Machine) → Stays v u → Happens Plain v (result_taken handle o u)
results handle None v u s = plainly v u s
results handle (Some result) v u s = values handle (value_of result) v u s

takes : (handle : ℕ) (v : Machine) → Happens Plain v (take_step handle v)
unfolding take_step
takes handle v = by_test (is_running v.phase)
  where
    by_test : (b : Bool) → Happens Plain v (if b then taken_at handle (id_at handle v.results.handles) v else refused (state_fault v.phase) v)
    by_test true =
        let found = present_result_for v.options.signal_delivery (id_at handle v.results.handles) v.results.ready in
        results handle found v (record v { results = taken_by v.options.signal_delivery handle (id_at handle v.results.handles) found v.results }) (alike v)
    by_test false = alike v

ends : (ph : Phase) (v : Machine) → Happens Plain v (end_at ph v)
ends WaitingStart v = alike v
ends WaitingReplayEntries v = alike v
ends Replaying v = alike v
ends Processing v = λ _. record { messages = message.End ∷ []; output = refl; from = tt; counter = same_number v.counters.completion }
ends Closed v = plainly v v (alike v)

-- ---- awaits

-- an await that waits says nothing that carries an id
says_no_id : (next : ℕ) (version : Version) (policy : AwaitingOnPolicy) (executing : Bool) (id : ℕ → Option NotificationId) (left : Tree) → AreFrom next (all_carried (commands_of (said_waiting version policy executing id left)))
says_no_id next version policy executing id left = by_test (says_so version policy executing left)
  where
    by_test : (b : Bool) → AreFrom next (all_carried (commands_of (if b then message.AwaitingOn (record { future = sent id left; executing_side_effects = false }) ∷ [] else [])))
    by_test true = tt
    by_test false = tt

module _ (left : Tree) (v u : Machine) (same : Stays v u) where
  suspends : Numbers v (suspended (sent (ids u.results) left) u)
  suspends = record { messages = message.Suspension (record { future = sent (ids u.results) left }) ∷ []; output = ap (λ l. l ++ encoding (message.Suspension (record { future = sent (ids u.results) left })) ∷ []) same.0; from = tt; counter = same.1 }

  waits : Numbers v (waiting left u)
  waits =
      let said = said_waiting u.version u.options.awaiting_on_policy (list_any is_executing u.runs) (ids u.results) left in
      record { messages = said; output = ap (λ l. l ++ map encoding said) same.0; from = says_no_id v.counters.completion u.version u.options.awaiting_on_policy (list_any is_executing u.runs) (ids u.results) left; counter = same.1 }

  waits_so : (closed in_flight executing : Bool) → Happens Plain v (waits_by closed in_flight executing left u)
  waits_so false in_flight executing = λ _. waits
  waits_so true true executing = same
  waits_so true false true = plainly v u same
  waits_so true false false = λ _. suspends

  runs_so : (run : Option PendingRun) (executing : Bool) → Happens Plain v (waits_on run executing left u)
  runs_so (Some run) executing = plainly v (executed (handles_of left) u) same
  runs_so None executing = waits_so u.input_closed (any_in_flight u.ephemeral) executing

  pends : Happens Plain v (pending_on left u)
  pends = by_tests (is_replaying u.phase) (find (may_execute (handles_of left)) u.runs) (list_any (is_executing_in (handles_of left)) u.runs)
    where
      by_tests : (replaying : Bool) (run : Option PendingRun) (executing : Bool) → Happens Plain v (if replaying then pending_in_replay (handles_of left) u else waits_on run executing left u)
      by_tests true run executing = same
      by_tests false run executing = runs_so run executing

tries : (t : Tree) (v : Machine) (x : Outcome (Result AwaitResponse Error)) → Tries t v x → Happens Plain v x
tries t v x = ⊎_elim
    (λ (y : AwaitCompletes t v x). subst (Happens Plain v) (sym y.2) (plainly v (with_used y.0 v) (alike v)))
    (λ (y : StaysPending t v x). subst (Happens Plain v) (sym y.2) (pends y.0 v (with_used (length v.results.queued) v) (alike v)))

woken_stays : (t : Tree) (v w : Machine) → Tries t v (Done (Ok AnyCompleted) w) → Stays v w
woken_stays t v w tries = let is = (woken_used t v w tries).1 in subst (Stays v) (sym is) (alike v)

read_stays : (handle : ℕ) (v w : Machine) → ReadsId handle v (Done (Ok AnyCompleted) w) → Stays v w
read_stays handle v w reads = let is = (read_known handle v w reads).2 in subst (Stays v) (sym is) (alike v)

-- what happens next
happens_behind : (v w : Machine) (o : Outcome (Result AwaitResponse Error)) → Stays v w → Happens Plain w o → Happens Plain v o
happens_behind v w (Done a x) k h = λ t. numbers_then v w x (stays_numbers v w k) (h t)
happens_behind v w (Failed e x) k h = (h.0 ∙ k.0, more_than v.counters.completion w.counters.completion x.counters.completion k.1 h.1)

behind : (v : Machine) (Next : Machine → Outcome (Result AwaitResponse Error) → Type 0) (first o : Outcome (Result AwaitResponse Error)) → Happens Plain v first
    → ((w : Machine) → first ≡ Done (Ok AnyCompleted) w → Next w o → Happens Plain v o) → Behind Next first o → Happens Plain v o
behind v Next (Done (Ok AnyCompleted) w) o h f on = f w refl on
behind v Next (Done (Ok CancelSignalReceived) w) o h f on = subst (Happens Plain v) (sym on) h
behind v Next (Done (Ok (WaitingExternalProgress input run)) w) o h f on = subst (Happens Plain v) (sym on) h
behind v Next (Done (Ok (ExecuteRun run)) w) o h f on = subst (Happens Plain v) (sym on) h
behind v Next (Done (Ok (EphemeralNotificationReady id)) w) o h f on = subst (Happens Plain v) (sym on) h
behind v Next (Done (Err e) w) o h f on = subst (Happens Plain v) (sym on) h
behind v Next (Failed e w) o h f on = subst (Happens Plain v) (sym on) h

id_reads : (id : Option (List ℕ)) (v : Machine) → Happens Plain v (next_id_known id v)
id_reads None v = alike v
id_reads (Some id) v = plainly v (record v { tracked = with_next_id id v.tracked }) (alike v)

reads_id : (handle : ℕ) (v : Machine) (o : Outcome (Result AwaitResponse Error)) → ReadsId handle v o → Happens Plain v o
reads_id handle v o (first, tried, on) =
    behind v (λ w p. p ≡ next_id_known (option_and_then id_of_result (result_at handle w)) w) first o (tries (leaf handle) v first tried)
    (λ w is next. happens_behind v w o (woken_stays (leaf handle) v w (subst (Tries (leaf handle) v) is tried)) (subst (Happens Plain w) (sym next) (id_reads (option_and_then id_of_result (result_at handle w)) w))) on

gathers : (handles : List ℕ) (v : Machine) (o : Outcome (Result AwaitResponse Error)) → Gathers handles v o → Happens Plain v o
gathers [] v o comes = subst (Happens Plain v) (sym comes) (plainly v v (alike v))
gathers (handle ∷ handles) v o (first, reads, on) =
    behind v (Gathers handles) first o (reads_id handle v first reads)
    (λ w is next. happens_behind v w o (read_stays handle v w (subst (ReadsId handle v) is reads)) (gathers handles w o next)) on

ends_by : (b : Bool) (v : Machine) (o : Outcome (Result AwaitResponse Error)) → EndsBy b v o → Happens Plain v o
ends_by true v o comes = gathers (unresolved_handles v.tracked) v o comes
ends_by false v o comes = subst (Happens Plain v) (sym comes) (plainly v v (alike v))

awaits_by : (b : Bool) (t : Tree) (v : Machine) (o : Outcome (Result AwaitResponse Error)) → AwaitsBy b t v o → Happens Plain v o
awaits_by true t v o (first, tried, on) =
    behind v (λ w p. EndsBy (is_cancelled w) w p) first o (tries (or_cancelled t) v first tried)
    (λ w is next. happens_behind v w o (woken_stays (or_cancelled t) v w (subst (Tries (or_cancelled t) v) is tried)) (ends_by (is_cancelled w) w o next)) on
awaits_by false t v o comes = tries t v o comes

awaits : (t : Tree) (v : Machine) (x : Outcome (Result AwaitResponse Error)) → Awaits t v x → Happens Plain v x
awaits t v x comes = by_test (is_running v.phase) comes
  where
    by_test : (b : Bool) → AwaitsAt b t v x → Happens Plain v x
    by_test true comes = awaits_by (ends_awaits v.options.implicit_cancellation) t v x comes
    by_test false is = subst (Happens Plain v) (sym is) (alike v)

-- ---- cancelled awaits

starving : (v : Machine) (e : Error) (w : Machine) → IsStarved v e w → Numbers v w
starving v e w s = stays_numbers v w (s.output, subst (λ c. v.counters.completion ≤ c) (sym (ap (λ c. c.completion) s.counters)) (same_number v.counters.completion))

-- a signal carries no completion id
sent_none : {X : Type 0} (said : X → Message) (o : Option X) → ((x : X) → carried (said x) ≡ []) → read_carried (option_map said o) ≡ []
sent_none said None none = refl
sent_none said (Some c) none = none c

cancel_none : (id : List ℕ) (next : ℕ) → AreFrom next (all_carried (commands_of ((cancel_invocation_command id).message ∷ [])))
unfolding message_in
cancel_none id next = subst (AreFrom next) (sym (append-nil _ ∙ sent_none message.SendSignal _ (λ c. refl))) tt

sends_cancel : (id : List ℕ) (sent : Result NotificationHandle Error) (v w : Machine) → SendsCancel id sent v w → Numbers v w
sends_cancel id sent v w (does, readable) = by_sent sent does
  where
    leaves : CallNumbers Plain v (called (commanded (cancel_invocation_command id) v) v)
    leaves = calling Plain v (commanded (cancel_invocation_command id) v) (commands Plain None (cancel_invocation_command id).message false v (λ _ _. cancel_none id v.counters.completion))

    by_sent : (sent : Result NotificationHandle Error) → Does (called (commanded (cancel_invocation_command id) v) v) sent v w → Numbers v w
    by_sent (Ok handle) h = (subst (CallNumbers Plain v) h leaves) tt
    by_sent (Err e) h = ⊎_elim
        (λ (x : called (commanded (cancel_invocation_command id) v) v ≡ Failed e w). subst (CallNumbers Plain v) x leaves)
        (λ (x : IsStarved v e w). starving v e w x)
        h

cancels : (ids : List (List ℕ)) (r : Result (Result AwaitResponse Error) Error) (v w : Machine) → Cancels ids r v w → Numbers v w
cancels [] r v w (answered, machine) = subst (Numbers v) (sym machine) (stays_numbers v (cancel_taken v) (alike v))
cancels (id ∷ ids) r v w (sent, mid, sends, on) = by_sent sent (sends_cancel id sent v mid sends) (cancels ids r mid w) on
  where
    by_sent : (sent : Result NotificationHandle Error) → Numbers v mid → (Cancels ids r mid w → Numbers mid w) → Onward (Cancels ids) sent r mid w → Numbers v w
    by_sent (Ok handle) h more on = numbers_then v mid w h (more on)
    by_sent (Err e) h more on = subst (Numbers v) (sym on.1) h

finishes : (b : Bool) (first r : Result (Result AwaitResponse Error) Error) (v mid w : Machine) → Numbers v mid → FinishesIf b first r mid w → Numbers v w
finishes true first r v mid w h on =
    let cleared : Machine = record mid { tracked = [] } in
    numbers_then v cleared w (record { messages = h.messages; output = h.output; from = h.from; counter = h.counter }) (cancels (invocation_ids mid.tracked) r cleared w on)
finishes false first r v mid w h on = subst (Numbers v) (sym on.1) h

-- the first part of an await
first_part : (t : Tree) (v : Machine) (first : Result (Result AwaitResponse Error) Error) (mid : Machine) → DoesBy (CalledBy (Awaits t v) v) first v mid → Numbers v mid
first_part t v first mid does = by_first first does
  where
    by_failure : (o event : Outcome (Result AwaitResponse Error)) → (v.failure ≡ None → Awaits t v event) → o ≡ called event v → (f : Option Error) → v.failure ≡ f → CallNumbers Plain v o
    by_failure o event comes is None live = subst (CallNumbers Plain v) (sym is) (calling Plain v event (awaits t v event (comes live)))
    by_failure o event comes is (Some e) dead = subst (CallNumbers Plain v) (sym (is ∙ answers_first event e v dead)) (stays_numbers v v (alike v))

    leaves : (o : Outcome (Result AwaitResponse Error)) → CalledBy (Awaits t v) v o → CallNumbers Plain v o
    leaves o h = let from = called_from (Awaits t v) v o h in by_failure o from.0 from.1 from.2 v.failure refl

    by_first : (first : Result (Result AwaitResponse Error) Error) → DoesBy (CalledBy (Awaits t v) v) first v mid → Numbers v mid
    by_first (Ok a) h = leaves (Done a mid) h tt
    by_first (Err e) h = ⊎_elim (λ (x : CalledBy (Awaits t v) v (Failed e mid)). leaves (Failed e mid) x) (λ (x : IsStarved v e mid). starving v e mid x) h

-- the whole call
await_whole : (t : Tree) (v : Machine) (r : Result (Result AwaitResponse Error) Error) (w : Machine) → AwaitsWhole t r v w → Numbers v w
await_whole t v r w (first, mid, does, fin) = finishes (sends_cancels first) first r v mid w (first_part t v first mid does) fin

await_numbers : (future : UnresolvedFuture) (v : Machine) (o : Outcome Reply) → Awaited future v o → CallNumbers Plain v o
await_numbers future v (Done given w) (a, whole, replied) = λ _. await_whole (tree_of future) v (Ok a) w whole
await_numbers future v (Failed e w) whole = await_whole (tree_of future) v (Err e) w whole

-- ---- several commands

-- one, where all that is needed is looked for before
foreseen_numbers : (c : Command) (cs : List Command) (v : Machine) → Happens (CanBeRead c.message v) v (foreseen c cs v >>> λ _ w. commanded c w)
unfolding foreseen
foreseen_numbers c cs v = by_refusal (any_refusal c cs)
  where
    made : Happens (CanBeRead c.message v) v (commanded c v)
    made = commands (CanBeRead c.message v) c.refusal c.message c.unstable v (λ readable e. stored_from v.counters.completion (with_ids v.counters.completion c.message) (readable e) (ids_from v.counters.completion c.message))

    by_numbers : (o : Option NamedFault) → Happens (CanBeRead c.message v) v (numbers_left o c v >>> λ _ w. commanded c w)
    by_numbers (Some name) = alike v
    by_numbers None = made

    by_running : (b : Bool) → Happens (CanBeRead c.message v) v ((if b then numbers_left (missing_for c cs v.counters) c v else (let w = entered (shown_type c.message) (name_of c.message) v in Failed (about_last (state_fault v.phase) w) w)) >>> λ _ w. commanded c w)
    by_running true = by_numbers (missing_for c cs v.counters)
    by_running false = alike v

    by_refusal : (o : Option NamedFault) → Happens (CanBeRead c.message v) v (foreseen_unless o c cs v >>> λ _ w. commanded c w)
    by_refusal (Some name) = alike v
    by_refusal None = by_running (is_running v.phase)

before_numbers : (c : Command) (cs : List Command) (v : Machine) → Happens (CanBeRead c.message v) v (commanded_before c cs v)
before_numbers c [] v = commands (CanBeRead c.message v) c.refusal c.message c.unstable v (λ readable e. stored_from v.counters.completion (with_ids v.counters.completion c.message) (readable e) (ids_from v.counters.completion c.message))
before_numbers c (b ∷ bs) v = foreseen_numbers c (b ∷ bs) v

one_numbers : (c : Command) (cs : List Command) (r : Result NotificationHandle Error) (v w : Machine) → MakesOne c cs r v w → Numbers v w
one_numbers c cs r v w (does, readable) = by_sent r does readable
  where
    leaves : CallNumbers (CanBeRead c.message v) v (called (commanded_before c cs v) v)
    leaves = calling (CanBeRead c.message v) v (commanded_before c cs v) (before_numbers c cs v)

    by_sent : (r : Result NotificationHandle Error) → Does (called (commanded_before c cs v) v) r v w → OnOk r (CanBeRead c.message v) → Numbers v w
    by_sent (Ok handle) h can = (subst (CallNumbers (CanBeRead c.message v) v) h leaves) can
    by_sent (Err e) h can = ⊎_elim
        (λ (x : called (commanded_before c cs v) v ≡ Failed e w). subst (CallNumbers (CanBeRead c.message v) v) x leaves)
        (λ (x : IsStarved v e w). starving v e w x)
        h

all_numbers : (c : Command) (cs : List Command) (r : Result NotificationHandle Error) (v w : Machine) → MakesAll c cs r v w → Numbers v w
all_numbers c [] r v w made = one_numbers c [] r v w made
all_numbers c (b ∷ bs) r v w (first, mid, makes, on) = by_first (λ given made. all_numbers b bs given mid w made) first (one_numbers c (b ∷ bs) first v mid makes) on
  where
    by_first : ((given : Result NotificationHandle Error) → MakesAll b bs given mid w → Numbers mid w) → (first : Result NotificationHandle Error) → Numbers v mid → BehindFirst (MakesAll b bs) first r mid w → Numbers v w
    by_first more (Ok handle) h (given, made, answered) = numbers_then v mid w h (more given made)
    by_first more (Err e) h (answered, same) = subst (Numbers v) (sym same) h

several_numbers : (kind : AnswerKind) (c : Command) (cs : List Command) (v : Machine) (o : Outcome Reply) → AllCarried kind c cs v o → CallNumbers Plain v o
several_numbers kind c cs v (Done given w) (handle, made, replied) = λ _. all_numbers c cs (Ok handle) v w made
several_numbers kind c cs v (Failed e w) made = all_numbers c cs (Err e) v w made

-- ---- a step

asked_numbers : (a : Ask) (v : Machine) (o : Outcome Reply) → PerformsBy a v o → CallNumbers (IsReadable a v) v o
asked_numbers (ask.Command c) v o does =
    let next = v.counters.completion in
    let W = IsReadable (ask.Command c) v in
    subst (CallNumbers W v) (sym does) (mapping W _ v (called (commanded c v) v) (calling W v (commanded c v) (commands W c.refusal c.message c.unstable v (λ readable e. stored_from next (with_ids next c.message) (readable e) (ids_from next c.message)))))
asked_numbers (ask.Commands kind first second) v o does = several_numbers kind first (second ∷ []) v o does
asked_numbers ask.Awakeable v o does = subst (CallNumbers Plain v) (sym does) (mapping Plain _ v (called (new_awakeable_step v) v) (calling Plain v (new_awakeable_step v) (new_awakeables (skips_replay v.options.journal_replay) v)))
asked_numbers (ask.Read r) v o does = subst (CallNumbers (ReadsWhole r v) v) (sym does) (mapping (ReadsWhole r v) _ v (called (read_step r v) v) (calling (ReadsWhole r v) v (read_step r v) (state_reads r v)))
asked_numbers (ask.Signal name) v o does = subst (CallNumbers Plain v) (sym does) (mapping Plain _ v (called (signal_step name v) v) (calling Plain v (signal_step name v) (signals name v)))
asked_numbers (ask.Await future) v o does = await_numbers future v o does
asked_numbers (ask.Take handle) v o does = subst (CallNumbers Plain v) (sym does) (mapping Plain _ v (called (take_step handle.0 v) v) (calling Plain v (take_step handle.0 v) (takes handle.0 v)))
asked_numbers (ask.Completed handle) v o does = subst (CallNumbers Plain v) (sym does) (plainly v v (alike v))
asked_numbers ask.End v o does = subst (CallNumbers Plain v) (sym does) (mapping Plain _ v (called (end_step v) v) (calling Plain v (end_step v) (ends v.phase v)))

-- the call of a step, whose command can be read back where it was written
pub step_numbers : (st : Step) (v : Machine) (x : Result Reply Error) (w : Machine) → DoesBy (Performs st v) x v w → OnOk x (ReadsBack st v) → Numbers v w
step_numbers st v (Ok a) w does readable = asked_numbers (ask_of v.version st) v (Done a w) does readable
step_numbers st v (Err e) w does readable =
    ⊎_elim
    (λ (x : Performs st v (Failed e w)). asked_numbers (ask_of v.version st) v (Failed e w) x)
    (λ (x : IsStarved v e w). starving v e w x)
    does
