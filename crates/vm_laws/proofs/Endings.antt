-- Each event writes at most one terminal message, and nothing after it.
use Rattle.std.proofs.Common.{◌≡◌, ℕ, Bool, true, false, List, [], ◌∷◌, ◌++◌, Option, Some, None, length, map, refl, sym, ap, subst, ⊎_elim, ◌∙◌, arith}
use Rattle.std.specs.Prelude.{if◌then◌else◌, ◌||◌, ◌&&◌, ◌==◌, nat_le, nat_lt, not, is_some, drop, Result, Ok, Err}
use Rattle.std.proofs.lemmas.List.{append-nil}
use Rattle.journal_protocol.specs.Error.{Error}
use Rattle.journal_protocol.specs.NamedFault.{NamedFault}
use Rattle.journal_protocol.specs.NamedFault.TheVariants as fault
use Rattle.journal_protocol.specs.Message.{Message}
use Rattle.journal_protocol.specs.Message.TheVariants as message
use Rattle.journal_protocol.specs.RawMessage.{RawMessage}
use Rattle.journal_protocol.specs.MessageType.{MessageType}
use Rattle.journal_protocol.specs.InputCommand.{InputCommand}
use Rattle.journal_protocol.specs.Notification.{Notification}
use Rattle.journal_protocol.specs.NotificationId.{NotificationId}
use Rattle.journal_protocol.specs.NotificationResult.{NotificationResult}
use Rattle.journal_protocol.specs.Start.{Start}
use Rattle.journal_protocol.specs.MessageType.TheVariants as type
use Rattle.journal_protocol.specs.Errors.{error_message}
use Rattle.journal_protocol.specs.Future.{Future}
use Rattle.await_trees.specs.Tree.{Tree, leaf}
use Rattle.await_trees.specs.Wires.{sent}
use Rattle.await_tries.specs.Message.{ids}
use Rattle.journal_protocol.specs.Equality.{header_equal}
use Rattle.journal_protocol.specs.Frames.{encoding, type_of}
use Rattle.journal_protocol.specs.Bodies.{acknowledgement_in, input_in, message_in, notification_in, start_in, ephemeral_notification_in}
use Rattle.journal_protocol.specs.ProposeRunCompletionAck.{ProposeRunCompletionAck}
use Rattle.std.specs.List.{find, list_any}
use Rattle.await_trees.specs.Handles.{handles_of}
use Rattle.vm_runs.specs.Kept.{is_for}
use Rattle.vm_runs.specs.Pending.{is_executing, is_executing_in, may_execute}
use Rattle.journal_protocol.specs.ProposeRunCompletion.{ProposeRunCompletion}
use Rattle.vm_runs.specs.declared.pending.PendingRun.{PendingRun}
use Rattle.journal_protocol.specs.Types.{type_number}
use Rattle.vm_types.specs.declared.command_type.CommandRelationship.{CommandRelationship}
use Rattle.vm_types.specs.declared.types.AwaitResponse.{AwaitResponse}
use Rattle.vm_types.specs.declared.types.AwaitResponse.TheVariants.{AnyCompleted, CancelSignalReceived, EphemeralNotificationReady, ExecuteRun, WaitingExternalProgress}
use Rattle.await_trees.specs.declared.handle.NotificationHandle.{NotificationHandle}
use Rattle.vm_types.specs.declared.values.Value.{Value}
use Rattle.vm_parts.specs.Deliveries.{id_at, present_result_for, taken_by}
use Rattle.vm_types.specs.Values.{value_of, id_of_value}
use Rattle.vm_state.specs.declared.counters.Counters.{Counters}
use Rattle.vm_state.specs.Counting.{missing_number, missing_signals}
use Rattle.vm_types.specs.declared.values.Input.{Input}
use Rattle.vm_asks.specs.Carried.{past_all}
use Rattle.vm_machine.specs.Skips.{counters_past, skipped}
use Rattle.vm_machine.specs.declared.machine.Machine.{Machine}
use Rattle.vm_machine.specs.declared.phase.Phase.{Phase}
use Rattle.vm_machine.specs.declared.phase.Phase.TheVariants.{WaitingStart, WaitingReplayEntries, Replaying, Processing, Closed}
use Rattle.journal_protocol.specs.Version.{Version}
use Rattle.vm_types.specs.declared.steps.Step.{Step}
use Rattle.vm_types.specs.declared.steps.Step.TheVariants as step
use Rattle.vm_asks.specs.declared.asks.Ask.{Ask}
use Rattle.vm_asks.specs.declared.asks.Ask.TheVariants as ask
use Rattle.vm_asks.specs.declared.asks.AnswerKind.{AnswerKind}
use Rattle.vm_asks.specs.declared.command.Command.{Command}
use Rattle.vm_asks.specs.Asks.{EachIs, any_refusal, ask_of, missing_for}
use Rattle.vm_machine.specs.Takes.{result_taken, take_step, taken_at, value_noted, value_taken}
use Rattle.vm_machine.specs.Inputs.{acknowledged, acknowledged_by, acknowledgement_step, close_step, closed_at, counted_entry, end_at, end_step, with_end_written, enqueued, entries_in, entry_step, input_at, input_by, input_counted, input_numbered, input_past, input_read, input_step, malformed_step, message_step, notification_step, queued, start_step, start_received, started_with}
use Rattle.journal_protocol.specs.GetStateEphemeralNotification.{GetStateEphemeralNotification}
use Rattle.journal_protocol.specs.VoidOrValue.{VoidOrValue}
use Rattle.vm_machine.specs.Ephemerals.{completed_by, ephemeral_notification_step, result_comes}
use Rattle.vm_machine.specs.Reports.{is_retry, related_to, report_step}
use Rattle.vm_state.specs.declared.state_map.Known.{Known}
use Rattle.vm_state.specs.declared.state_map.Known.TheVariants as known_as
use Rattle.vm_state.specs.declared.state_map.StateMap.{StateMap}
use Rattle.vm_parts.specs.Ephemerals.{any_in_flight}
use Rattle.vm_state.specs.States.{value_known, known_keys}
use Rattle.vm_asks.specs.declared.state_read.StateRead.{StateRead}
use Rattle.vm_asks.specs.declared.state_read.StateRead.TheVariants as reads
use Rattle.vm_machine.specs.Reads.{read_back, read_counted, read_popped, read_step, read_written, with_read_ready}
use Rattle.vm_asks.specs.StateReads.{eager_type, keys_form, lazy_type, name_read, own_form, recorded_as, recorded_type, result_in, value_form, own_result}
use Rattle.vm_machine.specs.Signals.{awakeable_counted, awakeable_step, signal_counted, signal_step}
use Rattle.vm_machine.specs.Commands.{entered, written, phase_after, popped, popped_from, compared, replayed, carried_out, prepared, command_if_counted, issued, commanded, commanded_unless, about_next, handed_out}
use Rattle.vm_machine.specs.Several.{commanded_before, foreseen, foreseen_unless, numbers_left}
use Rattle.vm_laws.specs.Endings.{EndsOnce, EventWrites, Writes, is_over, is_terminal}
use Rattle.vm_machine.specs.Outcomes.{Outcome, Done, Failed, ◌>>>◌, CalledBy, about_last, called, called_at, failed, refused, ruled}
use Rattle.vm_machine.specs.Phases.{is_closed, is_processing, is_replaying, is_running, state_fault}
use Rattle.journal_protocol.specs.Versions.{is_from_v7}
use Rattle.vm_asks.specs.Requests.{ids_of, name_of, shown_type, with_ids}
use Rattle.vm_machine.proofs.Calling.{called_from}
use Rattle.vm_asks.proofs.Numbering.{same_type}
use Rattle.vm_retries.specs.declared.policy.RetryPolicy.{RetryPolicy}
use Rattle.vm_runs.specs.declared.settling.Settlement.{Settlement}
use Rattle.vm_runs.specs.declared.settling.Settlement.TheVariants as settlement
use Rattle.vm_types.specs.declared.runs.RunExitResult.{RunExitResult}
use Rattle.journal_protocol.specs.ValueOrFailure.{ValueOrFailure}
use Rattle.vm_machine.specs.Proposals.{Proposes, Settled, SettledAt, SettledUnless, SettlesAs, proposal_fault, proposed, without_run}
use Rattle.vm_awaits.specs.Awaits.{Awaits, AwaitsAt, AwaitsBy, Behind, AwaitCompletes, EndsBy, Gathers, ReadsId, StaysPending, Tries, next_id_known, is_cancelled, executed, or_cancelled, pending_in_replay, result_at, said_waiting, says_so, suspended, waiting, waits_by, waits_on, with_used}
use Rattle.vm_machine.specs.Proposals.{run_at}
use Rattle.vm_awaits.proofs.Cancelling.{Keeps, woken_keeps, read_keeps}
use Rattle.vm_types.specs.Options.{ends_awaits, ignores_payloads, skips_replay}
use Rattle.vm_parts.specs.Tracked.{id_of_result, id_noted, unresolved_handles, with_next_id}
use Rattle.vm_state.specs.declared.tracked_call.TrackedCall.{TrackedCall}
use Rattle.std.specs.Option.{option_and_then}

-- ---- nothing is written

-- the same output, and over where it was
pub record Same (v w : Machine) : Type 0 where
  pub output : w.output ≡ v.output
  pub closed : is_closed w.phase ≡ is_closed v.phase
  pub failure : w.failure ≡ v.failure

pub same : (v : Machine) → Same v v
same v = record { output = refl; closed = refl; failure = refl }

pub nothing_ends : (b : Bool) → EndsOnce b [] b
nothing_ends true = (refl, refl)
nothing_ends false = tt

pub nothing_behind : (b : Bool) → EndsOnce b [] true
nothing_behind true = (refl, refl)
nothing_behind false = tt

over_same : (v w : Machine) → Same v w → is_over w ≡ is_over v
over_same v w s = λ i. is_some (s.failure i) || s.closed i

pub writes_nothing : (v w : Machine) → Same v w → Writes v w
writes_nothing v w s = record {
  messages = [];
  output = s.output ∙ sym (append-nil v.output);
  ends_once = subst (λ b. EndsOnce (is_over v) [] b) (sym (over_same v w s)) (nothing_ends (is_over v));
}

-- ---- the error rule

-- an event before the error rule: what fails has written nothing
abbrev pub Event : {A : Type 0} → Machine → Outcome A → Type 0
Event v (Done a w) = Writes v w
Event v (Failed e w) = Same v w

-- a machine that goes on
abbrev pub Goes : Machine → Type 0
Goes v = is_over v ≡ false

error_written : (v w : Machine) (e : Error) (b : Bool) → is_closed w.phase ≡ b → v.failure ≡ None → Same v w → Writes v (failed e w)
error_written v w e true c live s = record {
  messages = [];
  output = rw c (s.output ∙ sym (append-nil v.output));
  ends_once = nothing_behind (is_over v);
}
error_written v w e false c live s =
    let goes : is_over v ≡ false = λ i. is_some (live i) || (sym s.closed ∙ c) i in
    record {
      messages = message.Error (error_message e) ∷ [];
      output = rw c (ap (λ t. t ++ encoding (message.Error (error_message e)) ∷ []) s.output);
      ends_once = subst (λ b. EndsOnce b (message.Error (error_message e) ∷ []) true) (sym goes) (refl, refl);
    }

called_so : {A : Type 0} (f : Option Error) (v : Machine) (o : Outcome A) → v.failure ≡ f → (v.failure ≡ None → Event v o) → EventWrites v (called_at f o v)
called_so None v (Done a w) e h = h e
called_so None v (Failed x w) e h = error_written v w (ruled w x) (is_closed w.phase) refl e (h e)
called_so (Some x) v o e h = writes_nothing v v (same v)

pub called_writes : {A : Type 0} (v : Machine) (o : Outcome A) → (v.failure ≡ None → Event v o) → EventWrites v (called o v)
unfolding called
called_writes v o h = called_so v.failure v o refl h

-- ---- commands

not_closed : (p : Phase) → is_running p ≡ true → is_closed p ≡ false
not_closed WaitingStart e = refl
not_closed WaitingReplayEntries e = refl
not_closed Replaying e = refl
not_closed Processing e = refl
not_closed Closed e = absurd cc

pub goes_on : (v : Machine) → v.failure ≡ None → is_running v.phase ≡ true → is_over v ≡ false
goes_on v live runs = λ i. is_some (live i) || not_closed v.phase runs i

command_goes_on : (m : Message) (id : ℕ) → is_terminal m ≡ false → is_terminal (with_ids id m) ≡ false
command_goes_on m id goes = ap (λ ty. nat_le 2 (type_number ty) && nat_le (type_number ty) 4) (same_type id m) ∙ goes

prepared_same : (m : Message) (v : Machine) → Same v (prepared m v)
prepared_same m v = record { output = refl; closed = refl; failure = refl }

one_message : (b : Bool) (m : Message) (after : Bool) → b ≡ false → is_terminal m ≡ false → EndsOnce b (m ∷ []) after
one_message true m after e t = absurd cc
one_message false m after e t = rw t tt

written_so : (v u : Machine) (m : Message) → Same v u → is_over v ≡ false → is_terminal m ≡ false → Writes v (written m u)
written_so v u m s goes t = record {
  messages = m ∷ [];
  output = ap (λ o. o ++ encoding m ∷ []) s.output;
  ends_once = one_message (is_over v) m (is_over (written m u)) goes t;
}

-- an event that writes nothing
abbrev pub Quiet : {A : Type 0} → Machine → Outcome A → Type 0
Quiet v (Done a w) = Same v w
Quiet v (Failed e w) = Same v w

running_phase : (commands : List RawMessage) → is_closed (phase_after commands) ≡ false
running_phase [] = refl
running_phase (raw ∷ rest) = refl

typed_quiet : (v w : Machine) (raw : RawMessage) (b : Bool) → Same v w → Quiet v (if b then Done raw w else Failed (about_last fault.CommandTypeMismatch w) w)
typed_quiet v w raw true s = s
typed_quiet v w raw false s = s

popped_from_quiet : (commands : List RawMessage) (ty : MessageType) (v u : Machine) → Same v u → is_closed v.phase ≡ false → Quiet v (popped_from commands ty u)
popped_from_quiet [] ty v u s c = s
popped_from_quiet (raw ∷ rest) ty v u s c =
    typed_quiet v (record u { commands = rest; phase = phase_after rest }) raw (type_number raw.ty == type_number ty)
    (record { output = s.output; closed = running_phase rest ∙ sym c; failure = s.failure })

pub popped_quiet : (ty : MessageType) (v u : Machine) → Same v u → is_closed v.phase ≡ false → Quiet v (popped ty u)
unfolding popped
popped_quiet ty v u s c = popped_from_quiet u.commands ty v u s c

compared_at : (m : Message) (v u : Machine) (b : Bool) → Same v u → Quiet {A = Unit} v (if b then Done tt u else Failed (about_last fault.CommandMismatch u) u)
compared_at m v u true s = s
compared_at m v u false s = s

compared_quiet : (m : Message) (ignore : Bool) (recorded : Option Message) (v u : Machine) → Same v u → Quiet v (compared m ignore recorded u)
compared_quiet m ignore None v u s = s
compared_quiet m ignore (Some recorded) v u s = compared_at m v u (header_equal recorded m ignore) s

then_compared : (m : Message) (ignore : Bool) (v : Machine) (o : Outcome RawMessage) → Quiet v o → Quiet v (o >>> λ raw w. compared m ignore (message_in raw.ty raw.body) w)
then_compared m ignore v (Done raw w) s = compared_quiet m ignore (message_in raw.ty raw.body) v w s
then_compared m ignore v (Failed e w) s = s

replayed_quiet : (m : Message) (ignore : Bool) (v u : Machine) → Same v u → is_closed v.phase ≡ false → Quiet v (replayed m ignore u)
unfolding replayed
replayed_quiet m ignore v u s c = then_compared m ignore v (popped (type_of m) u) (popped_quiet (type_of m) v u s c)

pub quiet_event : {A : Type 0} (v : Machine) (o : Outcome A) → Quiet v o → Event v o
quiet_event v (Done a w) s = writes_nothing v w s
quiet_event v (Failed e w) s = s

carried_at : (m : Message) (ignore b : Bool) (v u : Machine) → Same v u → is_over v ≡ false → is_closed v.phase ≡ false → is_terminal m ≡ false → Event v (if b then Done tt (written m u) else replayed m ignore u)
carried_at m ignore true v u s goes c t = written_so v u m s goes t
carried_at m ignore false v u s goes c t = quiet_event v (replayed m ignore u) (replayed_quiet m ignore v u s c)

carried_event : (m : Message) (ignore : Bool) (v u : Machine) → Same v u → is_over v ≡ false → is_closed v.phase ≡ false → is_terminal m ≡ false → Event v (carried_out m ignore u)
unfolding carried_out
carried_event m ignore v u s goes c t = carried_at m ignore (is_processing u.phase) v u s goes c t

pub answered : {A B : Type 0} (v : Machine) (o : Outcome A) (f : A → B) → Event v o → Event v (o >>> λ a w. Done (f a) w)
answered v (Done a w) f h = h
answered v (Failed e w) f h = h

counted_event : (found : Option NamedFault) (m : Message) (unstable : Bool) (v : Machine) → is_terminal m ≡ false → is_over v ≡ false → is_closed v.phase ≡ false → Event v (command_if_counted found m unstable v)
counted_event (Some name) m unstable v command goes c = same v
counted_event None m unstable v command goes c =
    let handle : NotificationHandle = record { 0 = v.counters.handle } in
    let n = with_ids v.counters.completion m in
    let ignore = ignores_payloads v.options.non_determinism_checks unstable in
    answered v (carried_out n ignore (prepared m v)) (λ _. handle) (carried_event n ignore v (prepared m v) (prepared_same m v) goes c (command_goes_on m v.counters.completion command))

issued_at : (m : Message) (unstable : Bool) (v : Machine) (b : Bool) → is_terminal m ≡ false → is_running v.phase ≡ b → v.failure ≡ None
    → Event v (if b then command_if_counted (missing_number (ids_of m) 0 (ids_of m) v.counters) m unstable v else (let w = entered (shown_type m) (name_of m) v in Failed (about_last (state_fault v.phase) w) w))
issued_at m unstable v true command e live = counted_event (missing_number (ids_of m) 0 (ids_of m) v.counters) m unstable v command (goes_on v live e) (not_closed v.phase e)
issued_at m unstable v false command e live = record { output = refl; closed = refl; failure = refl }

pub issued_event : (m : Message) (unstable : Bool) (v : Machine) → is_terminal m ≡ false → v.failure ≡ None → Event v (issued m unstable v)
unfolding issued
issued_event m unstable v command live = issued_at m unstable v (is_running v.phase) command refl live

pub issued_writes : (m : Message) (unstable : Bool) (v : Machine) → is_terminal m ≡ false → EventWrites v (called (issued m unstable v) v)
issued_writes m unstable v command = called_writes v (issued m unstable v) (issued_event m unstable v command)

-- a number of a command's type is none of a terminal message's
ends_later : (n : ℕ) → nat_le 10 n && nat_lt n 30 ≡ true → nat_le 2 n && nat_le n 4 ≡ false
ends_later n h = grind arith

-- a command of a call ends nothing
pub ends_nothing : (c : Command) → is_terminal c.message ≡ false
ends_nothing c = ends_later (type_number (type_of c.message)) c.is_command

commanded_at : (refusal : Option NamedFault) (m : Message) (unstable : Bool) (v : Machine) → is_terminal m ≡ false → v.failure ≡ None → Event v (commanded_unless refusal m unstable v)
commanded_at (Some name) m unstable v command live = same v
commanded_at None m unstable v command live = issued_event m unstable v command live

pub commanded_event : (c : Command) (v : Machine) → is_terminal c.message ≡ false → v.failure ≡ None → Event v (commanded c v)
commanded_event c v command live = commanded_at c.refusal c.message c.unstable v command live

-- one of several commands
foreseen_event : (c : Command) (cs : List Command) (v : Machine) → is_terminal c.message ≡ false → v.failure ≡ None → Event v (foreseen c cs v >>> λ _ w. commanded c w)
unfolding foreseen
foreseen_event c cs v command live = by_refusal (any_refusal c cs)
  where
    by_numbers : (o : Option NamedFault) → Event v (numbers_left o c v >>> λ _ w. commanded c w)
    by_numbers (Some name) = same v
    by_numbers None = commanded_event c v command live

    by_running : (b : Bool) → Event v ((if b then numbers_left (missing_for c cs v.counters) c v else (let w = entered (shown_type c.message) (name_of c.message) v in Failed (about_last (state_fault v.phase) w) w)) >>> λ _ w. commanded c w)
    by_running true = by_numbers (missing_for c cs v.counters)
    by_running false = record { output = refl; closed = refl; failure = refl }

    by_refusal : (o : Option NamedFault) → Event v (foreseen_unless o c cs v >>> λ _ w. commanded c w)
    by_refusal (Some name) = same v
    by_refusal None = by_running (is_running v.phase)

pub before_event : (c : Command) (cs : List Command) (v : Machine) → is_terminal c.message ≡ false → v.failure ≡ None → Event v (commanded_before c cs v)
before_event c [] v command live = commanded_event c v command live
before_event c (b ∷ bs) v command live = foreseen_event c (b ∷ bs) v command live

-- ---- awakeables, named signals and reported errors

awakeable_at : (found : Option NamedFault) (v : Machine) → Quiet v (awakeable_counted found v)
awakeable_at (Some name) v = same v
awakeable_at None v = record { output = refl; closed = refl; failure = refl }

awakeable_so : (b : Bool) (v : Machine) → Quiet v (if b then awakeable_counted (missing_signals 1 1 v.counters) v else refused (state_fault v.phase) v)
awakeable_so true v = awakeable_at (missing_signals 1 1 v.counters) v
awakeable_so false v = same v

pub awakeable_writes : (v : Machine) → EventWrites v (called (awakeable_step v) v)
unfolding awakeable_step
awakeable_writes v = called_writes v (awakeable_step v) (λ live. quiet_event v (awakeable_step v) (awakeable_so (is_running v.phase) v))

signal_at : (found : Option NamedFault) (name : List ℕ) (v : Machine) → Quiet v (signal_counted found name v)
signal_at (Some fault) name v = same v
signal_at None name v = record { output = refl; closed = refl; failure = refl }

signal_so : (b : Bool) (name : List ℕ) (v : Machine) → Quiet v (if b then signal_counted (missing_signals 0 1 v.counters) name v else refused (state_fault v.phase) v)
signal_so true name v = signal_at (missing_signals 0 1 v.counters) name v
signal_so false name v = same v

pub signal_writes : (name : List ℕ) (v : Machine) → EventWrites v (called (signal_step name v) v)
unfolding signal_step
signal_writes name v = called_writes v (signal_step name v) (λ live. quiet_event v (signal_step name v) (signal_so (is_running v.phase) name v))

-- ---- state reads

value_goes_on : (key name : List ℕ) (id : ℕ) (k : Known) → is_terminal (value_form key name id k) ≡ false
value_goes_on key name id known_as.Unknown = refl
value_goes_on key name id known_as.Empty = refl
value_goes_on key name id (known_as.Value value) = refl

keys_go_on : (name : List ℕ) (id : ℕ) (keys : Option (List (List ℕ))) → is_terminal (keys_form name id keys) ≡ false
keys_go_on name id None = refl
keys_go_on name id (Some keys) = refl

own_goes_on : (r : StateRead) (id : ℕ) (state : StateMap) → is_terminal (own_form r id state) ≡ false
own_goes_on (reads.Value key name) id state = value_goes_on key name id (value_known key state)
own_goes_on (reads.Keys name) id state = keys_go_on name id (known_keys state)

result_put : (id : ℕ) (given : Option NotificationResult) (v w : Machine) → Writes v w → Writes v (with_read_ready id given w)
result_put id None v w h = h
result_put id (Some result) v w h = record { messages = h.messages; output = h.output; ends_once = h.ends_once }

read_back_quiet : (handle id : ℕ) (given : Result (Option NotificationResult) NamedFault) (v u : Machine) → Same v u → Quiet v (read_back handle id given u)
read_back_quiet handle id (Err name) v u s = s
read_back_quiet handle id (Ok None) v u s = s
read_back_quiet handle id (Ok (Some result)) v u s = record { output = s.output; closed = s.closed; failure = s.failure }

read_popped_quiet : (r : StateRead) (handle id : ℕ) (commands : List RawMessage) (v u : Machine) → Same v u → is_closed v.phase ≡ false → Quiet v (read_popped r handle id commands u)
read_popped_quiet r handle id [] v u s c = s
read_popped_quiet r handle id (raw ∷ rest) v u s c =
    read_back_quiet handle id (recorded_as r id raw) v (record u { commands = rest; phase = phase_after rest; last_command = record { ty = recorded_type r raw; name = [] } })
    (record { output = s.output; closed = running_phase rest ∙ sym c; failure = s.failure })

read_numbered_at : (r : StateRead) (v : Machine) (b : Bool) → is_over v ≡ false → is_closed v.phase ≡ false
    → Event v (if b then Done (record { 0 = v.counters.handle }) (read_written r v.counters.completion (own_form r v.counters.completion v.state) v)
    else read_popped r v.counters.handle v.counters.completion v.commands (handed_out 1 (entered (eager_type r) [] v)))
read_numbered_at r v true goes c =
    let id = v.counters.completion in
    let m = own_form r id v.state in
    let u = handed_out 1 (entered (type_of m) (name_read r) v) in
    result_put id (own_result (result_in m)) v (written m u) (written_so v u m (record { output = refl; closed = refl; failure = refl }) goes (own_goes_on r id v.state))
read_numbered_at r v false goes c =
    let u = handed_out 1 (entered (eager_type r) [] v) in
    quiet_event v (read_popped r v.counters.handle v.counters.completion v.commands u) (read_popped_quiet r v.counters.handle v.counters.completion v.commands v u (record { output = refl; closed = refl; failure = refl }) c)

read_counted_event : (found : Option NamedFault) (r : StateRead) (v : Machine) → is_over v ≡ false → is_closed v.phase ≡ false → Event v (read_counted found r v)
read_counted_event (Some name) r v goes c = same v
read_counted_event None r v goes c = read_numbered_at r v (is_processing v.phase) goes c

read_at : (r : StateRead) (v : Machine) (b : Bool) → is_running v.phase ≡ b → v.failure ≡ None
    → Event v (if b then read_counted (missing_number 1 0 1 v.counters) r v else Failed (about_next (state_fault v.phase) (lazy_type r) [] v) v)
read_at r v true e live = read_counted_event (missing_number 1 0 1 v.counters) r v (goes_on v live e) (not_closed v.phase e)
read_at r v false e live = same v

pub read_writes : (r : StateRead) (v : Machine) → EventWrites v (called (read_step r v) v)
unfolding read_step
read_writes r v = called_writes v (read_step r v) (λ live. read_at r v (is_running v.phase) refl live)

report_so : (b : Bool) (e : Error) (relationship : Option CommandRelationship) (v : Machine)
    → Quiet {A = Unit} v (if b then refused fault.UnsupportedFeatureForNegotiatedVersion v else Failed (related_to relationship e v) v)
report_so true e relationship v = same v
report_so false e relationship v = same v

pub report_writes : (e : Error) (relationship : Option CommandRelationship) (v : Machine) → EventWrites v (called (report_step e relationship v) v)
report_writes e relationship v =
    called_writes v (report_step e relationship v) (λ live. quiet_event v (report_step e relationship v) (report_so (not (is_retry e.behavior) && not (is_from_v7 v.version)) e relationship v))

-- ---- awaits and takes

or_true : (b : Bool) → (b || true) ≡ true
or_true true = refl
or_true false = refl

last_message : (b : Bool) (m : Message) (after : Bool) → b ≡ false → is_terminal m ≡ true → after ≡ true → EndsOnce b (m ∷ []) after
last_message true m after e t o = absurd cc
last_message false m after e t o = rw t (refl, o)

suspended_so : (v u : Machine) (future : Future) → Same v u → is_over v ≡ false → Writes v (suspended future u)
suspended_so v u future s goes =
    let m = message.Suspension (record { future = future }) in
    record {
      messages = m ∷ [];
      output = ap (λ o. o ++ encoding m ∷ []) s.output;
      ends_once = last_message (is_over v) m (is_some u.failure || true) goes refl (or_true (is_some u.failure));
    }

-- a message that isn't terminal, or none
pub none_last : (b : Bool) (c : Bool) (m : Message) (after : Bool) → b ≡ false → is_terminal m ≡ false → EndsOnce b (if c then m ∷ [] else []) after
none_last true c m after e t = absurd cc
none_last false true m after e t = rw t tt
none_last false false m after e t = tt

waiting_so : (v u : Machine) (left : Tree) → Same v u → is_over v ≡ false → Writes v (waiting left u)
waiting_so v u left s goes =
    let executing = list_any is_executing u.runs in
    let said = said_waiting u.version u.options.awaiting_on_policy executing (ids u.results) left in
    record {
      messages = said;
      output = ap (λ o. o ++ map encoding said) s.output;
      ends_once = none_last (is_over v) (says_so u.version u.options.awaiting_on_policy executing left) (message.AwaitingOn (record { future = sent (ids u.results) left; executing_side_effects = false })) (is_over u) goes refl;
    }

waits_so : (closed in_flight executing : Bool) (left : Tree) (v u : Machine) → Same v u → is_over v ≡ false → Event v (waits_by closed in_flight executing left u)
waits_so false in_flight executing left v u s goes = waiting_so v u left s goes
waits_so true true executing left v u s goes = s
waits_so true false true left v u s goes = writes_nothing v u s
waits_so true false false left v u s goes = suspended_so v u (sent (ids u.results) left) s goes

runs_so : (run : Option PendingRun) (executing : Bool) (left : Tree) (v u : Machine) → Same v u → is_over v ≡ false → Event v (waits_on run executing left u)
runs_so (Some run) executing left v u s goes = writes_nothing v (executed (handles_of left) u) (record { output = s.output; closed = s.closed; failure = s.failure })
runs_so None executing left v u s goes = waits_so u.input_closed (any_in_flight u.ephemeral) executing left v u s goes

pending_so : (replaying : Bool) (run : Option PendingRun) (executing : Bool) (left : Tree) (v u : Machine) → Same v u → is_over v ≡ false
    → Event v (if replaying then pending_in_replay (handles_of left) u else waits_on run executing left u)
pending_so true run executing left v u s goes = s
pending_so false run executing left v u s goes = runs_so run executing left v u s goes

-- one try of a tree
tries_so : (t : Tree) (v : Machine) (o : Outcome (Result AwaitResponse Error)) → is_running v.phase ≡ true → v.failure ≡ None → Tries t v o → Event v o
tries_so t v o runs live comes = ⊎_elim
    (λ (x : AwaitCompletes t v o). subst (Event v) (sym x.2) (writes_nothing v (with_used x.0 v) (record { output = refl; closed = refl; failure = refl })))
    (λ (x : StaysPending t v o).
    let u = with_used (length v.results.queued) v in
    subst (Event v) (sym x.2) (pending_so (is_replaying u.phase) (find (may_execute (handles_of x.0)) u.runs) (list_any (is_executing_in (handles_of x.0)) u.runs) x.0 v u (record { output = refl; closed = refl; failure = refl }) (goes_on v live runs)))
    comes

-- an await that has woken has written nothing
kept_same : (v w : Machine) → Keeps v w → Same v w
kept_same v w k = record { output = ap (λ l. l.output) k.0; closed = ap is_closed k.1; failure = ap (λ l. l.failure) k.0 }

-- what it writes next
event_behind : {A : Type 0} (v w : Machine) (o : Outcome A) → Keeps v w → Event w o → Event v o
event_behind v w (Done a x) k h =
    let s = kept_same v w k in
    record {
      messages = h.messages;
      output = h.output ∙ ap (λ o. o ++ map encoding h.messages) s.output;
      ends_once = subst (λ b. EndsOnce b h.messages (is_over x)) (over_same v w s) h.ends_once;
    }
event_behind v w (Failed e x) k h =
    let s = kept_same v w k in
    record { output = h.output ∙ s.output; closed = h.closed ∙ s.closed; failure = h.failure ∙ s.failure }

-- what follows an await that has woken
behind_so : (v : Machine) (Next : Machine → Outcome (Result AwaitResponse Error) → Type 0) (first o : Outcome (Result AwaitResponse Error)) → Event v first
    → ((w : Machine) → first ≡ Done (Ok AnyCompleted) w → Next w o → Event v o) → Behind Next first o → Event v o
behind_so v Next (Done (Ok AnyCompleted) w) o h f on = f w refl on
behind_so v Next (Done (Ok CancelSignalReceived) w) o h f on = subst (Event v) (sym on) h
behind_so v Next (Done (Ok (ExecuteRun run)) w) o h f on = subst (Event v) (sym on) h
behind_so v Next (Done (Ok (WaitingExternalProgress input run)) w) o h f on = subst (Event v) (sym on) h
behind_so v Next (Done (Ok (EphemeralNotificationReady id)) w) o h f on = subst (Event v) (sym on) h
behind_so v Next (Done (Err e) w) o h f on = subst (Event v) (sym on) h
behind_so v Next (Failed e w) o h f on = subst (Event v) (sym on) h

id_read_so : (id : Option (List ℕ)) (v : Machine) → Event v (next_id_known id v)
id_read_so None v = same v
id_read_so (Some id) v = writes_nothing v (record v { tracked = with_next_id id v.tracked }) (record { output = refl; closed = refl; failure = refl })

reads_so : (handle : ℕ) (v : Machine) (o : Outcome (Result AwaitResponse Error)) → is_running v.phase ≡ true → v.failure ≡ None → ReadsId handle v o → Event v o
reads_so handle v o runs live (first, tries, on) =
    behind_so v (λ w p. p ≡ next_id_known (option_and_then id_of_result (result_at handle w)) w) first o (tries_so (leaf handle) v first runs live tries)
    (λ w is next. event_behind v w o (woken_keeps (leaf handle) v w (subst (Tries (leaf handle) v) is tries)) (subst (Event w) (sym next) (id_read_so (option_and_then id_of_result (result_at handle w)) w))) on

gathers_so : (handles : List ℕ) (v : Machine) (o : Outcome (Result AwaitResponse Error)) → is_running v.phase ≡ true → v.failure ≡ None → Gathers handles v o → Event v o
gathers_so [] v o runs live comes = subst (Event v) (sym comes) (writes_nothing v v (same v))
gathers_so (handle ∷ handles) v o runs live (first, reads, on) =
    behind_so v (Gathers handles) first o (reads_so handle v first runs live reads)
    (λ w is next.
    let k = read_keeps handle v w (subst (ReadsId handle v) is reads) in
    event_behind v w o k (gathers_so handles w o (ap is_running k.1 ∙ runs) (ap (λ l. l.failure) k.0 ∙ live) next)) on

ends_so : (b : Bool) (v : Machine) (o : Outcome (Result AwaitResponse Error)) → is_running v.phase ≡ true → v.failure ≡ None → EndsBy b v o → Event v o
ends_so true v o runs live comes = gathers_so (unresolved_handles v.tracked) v o runs live comes
ends_so false v o runs live comes = subst (Event v) (sym comes) (writes_nothing v v (same v))

cancels_so : (b : Bool) (t : Tree) (v : Machine) (o : Outcome (Result AwaitResponse Error)) → is_running v.phase ≡ true → v.failure ≡ None → AwaitsBy b t v o → Event v o
cancels_so true t v o runs live (first, tries, on) =
    behind_so v (λ w p. EndsBy (is_cancelled w) w p) first o (tries_so (or_cancelled t) v first runs live tries)
    (λ w is next.
    let k = woken_keeps (or_cancelled t) v w (subst (Tries (or_cancelled t) v) is tries) in
    event_behind v w o k (ends_so (is_cancelled w) w o (ap is_running k.1 ∙ runs) (ap (λ l. l.failure) k.0 ∙ live) next)) on
cancels_so false t v o runs live comes = tries_so t v o runs live comes

await_so : (t : Tree) (v : Machine) (o : Outcome (Result AwaitResponse Error)) (b : Bool) → is_running v.phase ≡ b → v.failure ≡ None → AwaitsAt b t v o → Event v o
await_so t v o true e live comes = cancels_so (ends_awaits v.options.implicit_cancellation) t v o e live comes
await_so t v o false e live comes = subst (Event v) (sym comes) (same v)

pub await_writes : (t : Tree) (v : Machine) (o : Outcome (Result AwaitResponse Error)) → Awaits t v o → EventWrites v (called o v)
await_writes t v o comes = called_writes v o (λ live. await_so t v o (is_running v.phase) refl live comes)

-- the same of the call
pub awaited_writes : (t : Tree) (v : Machine) (o : Outcome (Result AwaitResponse Error)) → CalledBy (Awaits t v) v o → EventWrites v o
awaited_writes t v o h =
    let from = called_from (Awaits t v) v o h in
    subst (EventWrites v) (sym from.2) (called_writes v from.0 (λ live. await_so t v from.0 (is_running v.phase) refl live (from.1 live)))

noted_so : (value : Value) (tracked : Option (List TrackedCall)) (v u : Machine) → Same v u → Quiet v (value_noted value tracked u)
noted_so value None v u s = s
noted_so value (Some tracked) v u s = record { output = s.output; closed = s.closed; failure = s.failure }

value_so : (handle : ℕ) (value : Option Value) (v u : Machine) → Same v u → Quiet v (value_taken handle value u)
value_so handle None v u s = s
value_so handle (Some value) v u s = noted_so value (id_noted handle (id_of_value value) u.tracked) v u s

result_so : (handle : ℕ) (result : Option NotificationResult) (v u : Machine) → Same v u → Quiet v (result_taken handle result u)
result_so handle None v u s = s
result_so handle (Some result) v u s = value_so handle (value_of result) v u s

taken_so : (handle : ℕ) (id : Option NotificationId) (v : Machine) → Quiet v (taken_at handle id v)
taken_so handle id v =
    let found = present_result_for v.options.signal_delivery id v.results.ready in
    result_so handle found v (record v { results = taken_by v.options.signal_delivery handle id found v.results }) (record { output = refl; closed = refl; failure = refl })

take_so : (handle : ℕ) (v : Machine) (b : Bool) → Quiet v (if b then taken_at handle (id_at handle v.results.handles) v else refused (state_fault v.phase) v)
take_so handle v true = taken_so handle (id_at handle v.results.handles) v
take_so handle v false = same v

take_quiet : (handle : ℕ) (v : Machine) → Quiet v (take_step handle v)
unfolding take_step
take_quiet handle v = take_so handle v (is_running v.phase)

pub take_writes : (handle : ℕ) (v : Machine) → EventWrites v (called (take_step handle v) v)
take_writes handle v = called_writes v (take_step handle v) (λ live. quiet_event v (take_step handle v) (take_quiet handle v))

-- ---- the handler's first call and its last

read_so : (c : Option InputCommand) (v u : Machine) → Same v u → Quiet v (input_read c u)
read_so None v u s = s
read_so (Some c) v u s = s

then_read : (v : Machine) (o : Outcome RawMessage) → Quiet v o → Quiet v (o >>> λ raw w. input_read (input_in raw.body) w)
then_read v (Done raw w) s = read_so (input_in raw.body) v w s
then_read v (Failed e w) s = s

input_counted_so : (found : Option NamedFault) (v : Machine) → is_closed v.phase ≡ false → Quiet v (input_counted found v)
input_counted_so (Some name) v c = same v
input_counted_so None v c =
    let u = entered type.InputCommand [] v in
    then_read v (popped type.InputCommand u) (popped_quiet type.InputCommand v u (record { output = refl; closed = refl; failure = refl }) c)

numbered_so : (r : Result Counters NamedFault) (v : Machine) → is_closed v.phase ≡ false → Quiet v (input_numbered r v)
numbered_so (Err name) v c = same v
numbered_so (Ok counters) v c = then_skipped (input_counted None v) (input_counted_so None v c)
  where
    then_skipped : (o : Outcome Input) → Quiet v o → Quiet v (o >>> λ input w. Done input (skipped counters w))
    then_skipped (Done input w) s = record { output = s.output; closed = sym c; failure = s.failure }
    then_skipped (Failed e w) s = s

past_so : (o : Option ℕ) (v : Machine) → is_closed v.phase ≡ false → Quiet v (input_past o v)
past_so None v c = record { output = refl; closed = refl; failure = refl }
past_so (Some id) v c = numbered_so (counters_past (length (drop 1 v.commands)) id v.counters) v c

input_by_so : (b : Bool) (v : Machine) → is_closed v.phase ≡ false → Quiet v (input_by b v)
input_by_so false v c = input_counted_so (missing_number 0 0 0 v.counters) v c
input_by_so true v c = past_so (past_all v.counters.completion (drop 1 v.commands)) v c

input_so : (p : Phase) (v : Machine) → v.phase ≡ p → Quiet v (input_at p v)
input_so WaitingStart v e = record { output = refl; closed = refl; failure = refl }
input_so WaitingReplayEntries v e = record { output = refl; closed = refl; failure = refl }
input_so Replaying v e = input_by_so (skips_replay v.options.journal_replay) v (ap is_closed e)
input_so Processing v e = record { output = refl; closed = refl; failure = refl }
input_so Closed v e = record { output = refl; closed = refl; failure = refl }

input_quiet : (v : Machine) → Quiet v (input_step v)
unfolding input_step
input_quiet v = input_so v.phase v refl

pub input_writes : (v : Machine) → EventWrites v (called (input_step v) v)
input_writes v = called_writes v (input_step v) (λ live. quiet_event v (input_step v) (input_quiet v))

ended_so : (v : Machine) → is_over v ≡ false → Writes v (with_end_written v)
ended_so v goes = record {
  messages = message.End ∷ [];
  output = refl;
  ends_once = last_message (is_over v) message.End (is_some v.failure || true) goes refl (or_true (is_some v.failure));
}

end_so : (p : Phase) (v : Machine) → v.phase ≡ p → v.failure ≡ None → Event v (end_at p v)
end_so WaitingStart v e live = same v
end_so WaitingReplayEntries v e live = same v
end_so Replaying v e live = same v
end_so Processing v e live = ended_so v (λ i. is_some (live i) || ap is_closed e i)
end_so Closed v e live = writes_nothing v v (same v)

pub end_writes : (v : Machine) → EventWrites v (called (end_step v) v)
end_writes v = called_writes v (end_step v) (end_so v.phase v refl)

-- ---- what comes in

entered_phase : (b : Bool) → is_closed (if b then Replaying else WaitingReplayEntries) ≡ false
entered_phase true = refl
entered_phase false = refl

counted_same : (v u : Machine) → v.phase ≡ WaitingReplayEntries → Same v u → Same v (counted_entry u)
counted_same v u e s = record { output = s.output; closed = entered_phase (nat_le u.entries_missing 1) ∙ sym (ap is_closed e); failure = s.failure }

started_at : (s : Start) (entries : List (List ℕ × Option (List ℕ))) (v : Machine) (b : Bool) (w : Machine) → Same v w
    → Quiet {A = Unit} v (if b then refused fault.KnownEntriesIsZero v else Done tt w)
started_at s entries v true w k = same v
started_at s entries v false w k = k

started_so : (s : Start) (entries : Option (List (List ℕ × Option (List ℕ)))) (v : Machine) → v.phase ≡ WaitingStart → Quiet v (started_with s entries v)
started_so s None v e = same v
started_so s (Some entries) v e = started_at s entries v (s.known_entries == 0) _ (record { output = refl; closed = sym (ap is_closed e); failure = refl })

start_so : (start : Option Start) (v : Machine) → v.phase ≡ WaitingStart → Quiet v (start_received start v)
start_so None v e = same v
start_so (Some s) v e = started_so s (entries_in s.state) v e

start_quiet : (raw : RawMessage) (p : Phase) (v : Machine) → v.phase ≡ p → Quiet v (start_step raw p v)
start_quiet raw WaitingStart v e = start_so (start_in raw.body) v e
start_quiet raw WaitingReplayEntries v e = same v
start_quiet raw Replaying v e = same v
start_quiet raw Processing v e = same v
start_quiet raw Closed v e = same v

entry_quiet : (raw : RawMessage) (p : Phase) (v : Machine) → v.phase ≡ p → Quiet v (entry_step raw p v)
entry_quiet raw WaitingStart v e = same v
entry_quiet raw WaitingReplayEntries v e = counted_same v (record v { commands = v.commands ++ raw ∷ [] }) e (record { output = refl; closed = refl; failure = refl })
entry_quiet raw Replaying v e = same v
entry_quiet raw Processing v e = same v
entry_quiet raw Closed v e = same v

queued_counted : (n : Option Notification) (v : Machine) → v.phase ≡ WaitingReplayEntries → Quiet v (queued n counted_entry v)
queued_counted None v e = same v
queued_counted (Some n) v e = counted_same v (enqueued n v) e (record { output = refl; closed = refl; failure = refl })

queued_quiet : (n : Option Notification) (v : Machine) → Quiet v (queued n (λ w. w) v)
queued_quiet None v = same v
queued_quiet (Some n) v = record { output = refl; closed = refl; failure = refl }

notification_quiet : (raw : RawMessage) (p : Phase) (v : Machine) → v.phase ≡ p → Quiet v (notification_step raw p v)
notification_quiet raw WaitingStart v e = same v
notification_quiet raw WaitingReplayEntries v e = queued_counted (notification_in raw.body) v e
notification_quiet raw Replaying v e = queued_quiet (notification_in raw.body) v
notification_quiet raw Processing v e = queued_quiet (notification_in raw.body) v
notification_quiet raw Closed v e = same v

kept_quiet : (id : ℕ) (kept : Option ProposeRunCompletion) (v : Machine) → Quiet v (acknowledged id kept v)
kept_quiet id None v = same v
kept_quiet id (Some kept) v = record { output = refl; closed = refl; failure = refl }

acknowledged_quiet : (ack : Option ProposeRunCompletionAck) (v : Machine) → Quiet v (acknowledged_by ack v)
acknowledged_quiet None v = same v
acknowledged_quiet (Some ack) v = kept_quiet ack.id (find (is_for ack.id) v.proposals) v

acknowledgement_quiet : (raw : RawMessage) (p : Phase) (v : Machine) → Quiet v (acknowledgement_step raw p v)
acknowledgement_quiet raw WaitingStart v = same v
acknowledgement_quiet raw WaitingReplayEntries v = same v
acknowledgement_quiet raw Replaying v = same v
acknowledgement_quiet raw Processing v = acknowledged_quiet (acknowledgement_in raw.body) v
acknowledgement_quiet raw Closed v = same v

completed_quiet : (id : ℕ) (found : Option VoidOrValue) (v : Machine) → Quiet v (result_comes id found v)
completed_quiet id None v = same v
completed_quiet id (Some found) v = record { output = refl; closed = refl; failure = refl }

completed_by_quiet : (n : Option GetStateEphemeralNotification) (v : Machine) → Quiet v (completed_by n v)
completed_by_quiet None v = same v
completed_by_quiet (Some n) v = completed_quiet n.id n.result v

ephemeral_quiet : (raw : RawMessage) (p : Phase) (v : Machine) → Quiet v (ephemeral_notification_step raw p v)
ephemeral_quiet raw WaitingStart v = same v
ephemeral_quiet raw WaitingReplayEntries v = same v
ephemeral_quiet raw Replaying v = same v
ephemeral_quiet raw Processing v = completed_by_quiet (ephemeral_notification_in raw.body) v
ephemeral_quiet raw Closed v = same v

other_so : (raw : RawMessage) (v : Machine) (d e : Bool) → Quiet v (if d then acknowledgement_step raw v.phase v else if e then ephemeral_notification_step raw v.phase v else refused fault.UnexpectedInputMessage v)
other_so raw v true e = acknowledgement_quiet raw v.phase v
other_so raw v false true = ephemeral_quiet raw v.phase v
other_so raw v false false = same v

message_so : (raw : RawMessage) (v : Machine) (a b c d e : Bool)
    → Quiet v (if a then start_step raw v.phase v else if b then entry_step raw v.phase v else if c then notification_step raw v.phase v else if d then acknowledgement_step raw v.phase v else if e then ephemeral_notification_step raw v.phase v else refused fault.UnexpectedInputMessage v)
message_so raw v true b c d e = start_quiet raw v.phase v refl
message_so raw v false true c d e = entry_quiet raw v.phase v refl
message_so raw v false false true d e = notification_quiet raw v.phase v refl
message_so raw v false false false d e = other_so raw v d e

message_quiet : (raw : RawMessage) (v : Machine) → Quiet v (message_step raw v)
unfolding message_step
message_quiet raw v = message_so raw v (type_number raw.ty == 1) (nat_le 10 (type_number raw.ty) && nat_lt (type_number raw.ty) 30) (type_number raw.ty == 30) (type_number raw.ty == 6) (type_number raw.ty == 9)

pub message_writes : (raw : RawMessage) (v : Machine) → EventWrites v (called (message_step raw v) v)
message_writes raw v = called_writes v (message_step raw v) (λ live. quiet_event v (message_step raw v) (message_quiet raw v))

pub malformed_writes : (v : Machine) → EventWrites v (called (malformed_step v) v)
malformed_writes v = called_writes v (malformed_step v) (λ live. same v)

closed_quiet : (p : Phase) (v u : Machine) → Same v u → Quiet v (closed_at p u)
closed_quiet WaitingStart v u s = s
closed_quiet WaitingReplayEntries v u s = s
closed_quiet Replaying v u s = s
closed_quiet Processing v u s = s
closed_quiet Closed v u s = s

pub close_writes : (v : Machine) → EventWrites v (called (close_step v) v)
close_writes v = called_writes v (close_step v) (λ live. quiet_event v (close_step v) (closed_quiet v.phase v (record v { input_closed = true }) (record { output = refl; closed = refl; failure = refl })))

-- ---- a run's result

proposed_so : (id : ℕ) (result : ValueOrFailure) (v u : Machine) → Same v u → is_over v ≡ false → Writes v (proposed id result u)
proposed_so id result v u s goes =
    let m = message.ProposeRunCompletion (record { id = id; result = result }) in
    record {
      messages = m ∷ [];
      output = ap (λ o. o ++ encoding m ∷ []) s.output;
      ends_once = one_message (is_over v) m (is_over (proposed id result u)) goes refl;
    }

settlement_so : (id : ℕ) (s : Settlement) (v u : Machine) (o : Outcome Unit) → Same v u → is_over v ≡ false → SettlesAs id s u o → Event v o
settlement_so id (settlement.Proposed result) v u o s goes is = subst (Event v) (sym is.1) (proposed_so id result v u s goes)
settlement_so id (settlement.Failed e) v u o s goes is = subst (Event v) (sym is) s

settled_so : (handle : NotificationHandle) (exit : RunExitResult) (policy : RetryPolicy) (run : Option PendingRun) (v : Machine) (o : Outcome Unit) → is_over v ≡ false → Settled handle exit policy run v o → Event v o
settled_so handle exit policy None v o goes is = subst (Event v) (sym is) (same v)
settled_so handle exit policy (Some run) v o goes (s, becomes, is) =
    settlement_so run.completion_id s v (without_run handle v) o (record { output = refl; closed = refl; failure = refl }) goes is

settled_at_so : (p : Phase) (handle : NotificationHandle) (exit : RunExitResult) (policy : RetryPolicy) (v : Machine) (o : Outcome Unit) → v.phase ≡ p → v.failure ≡ None → SettledAt p handle exit policy v o → Event v o
settled_at_so WaitingStart handle exit policy v o e live is = subst (Event v) (sym is) (writes_nothing v v (same v))
settled_at_so WaitingReplayEntries handle exit policy v o e live is = subst (Event v) (sym is) (writes_nothing v v (same v))
settled_at_so Replaying handle exit policy v o e live is = subst (Event v) (sym is) (writes_nothing v v (same v))
settled_at_so Processing handle exit policy v o e live is = settled_so handle exit policy (run_at handle.0 v) v o (goes_on v live (ap is_running e)) is
settled_at_so Closed handle exit policy v o e live is = subst (Event v) (sym is) (writes_nothing v v (same v))

settled_unless_so : (f : Option NamedFault) (handle : NotificationHandle) (exit : RunExitResult) (policy : RetryPolicy) (v : Machine) (o : Outcome Unit) → v.failure ≡ None → SettledUnless f handle exit policy v o → Event v o
settled_unless_so (Some name) handle exit policy v o live is = subst (Event v) (sym is) (same v)
settled_unless_so None handle exit policy v o live is = settled_at_so v.phase handle exit policy v o refl live is

pub proposals_write : (handle : NotificationHandle) (exit : RunExitResult) (policy : RetryPolicy) (v : Machine) (o : Outcome Unit) → Proposes handle exit policy v o → EventWrites v (called o v)
proposals_write handle exit policy v o is = called_writes v o (λ live. settled_unless_so (proposal_fault exit policy v.version) handle exit policy v o live is)

-- the same of the call
pub proposed_write : (handle : NotificationHandle) (exit : RunExitResult) (policy : RetryPolicy) (v : Machine) (o : Outcome Unit) → CalledBy (Proposes handle exit policy v) v o → EventWrites v o
proposed_write handle exit policy v o h =
    let from = called_from (Proposes handle exit policy v) v o h in
    subst (EventWrites v) (sym from.2) (called_writes v from.0 (λ live. settled_unless_so (proposal_fault exit policy v.version) handle exit policy v from.0 live (from.1 live)))
