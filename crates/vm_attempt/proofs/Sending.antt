-- What a call of a step writes and leaves, after any calls before it: frames of messages, and a VM
-- that runs, is closed or has failed.
use Rattle.vm_runs.specs.declared.pending.PendingRun.{PendingRun}
use Rattle.vm_runs.specs.Pending.{is_executing, is_executing_in, may_execute, handle_of}
use Rattle.await_trees.specs.Handles.{handles_of}
use Rattle.std.specs.List.{find, list_any}
use Rattle.vm_asks.specs.declared.state_read.StateRead.{StateRead}
use Rattle.vm_machine.specs.Reads.{read_back, read_counted, read_numbered, read_popped, read_step, read_written, with_read_ready}
use Rattle.vm_asks.specs.StateReads.{eager_type, lazy_type, name_read, own_form, recorded_as, recorded_type, result_in, own_result}
use Rattle.std.proofs.Common.{◌≡◌, length, ℕ, Bool, true, false, List, [], ◌∷◌, ◌++◌, map, Option, Some, None, Result, Ok, Err, refl, sym, ap, ◌∙◌, subst, ⊎_elim, append_assoc, append-nil}
use Rattle.std.specs.Prelude.{◌==◌, if◌then◌else◌, unwrap_or}
use Rattle.journal_protocol.specs.Error.{Error}
use Rattle.journal_protocol.specs.NamedFault.{NamedFault}
use Rattle.journal_protocol.specs.NamedFault.TheVariants as fault
use Rattle.journal_protocol.specs.Message.{Message}
use Rattle.journal_protocol.specs.Message.TheVariants as message
use Rattle.journal_protocol.specs.RawMessage.{RawMessage}
use Rattle.journal_protocol.specs.NotificationResult.{NotificationResult}
use Rattle.journal_protocol.specs.Errors.{error_message, named_error, no_memory}
use Rattle.journal_protocol.specs.Equality.{header_equal}
use Rattle.journal_protocol.specs.Frames.{encoding, type_of}
use Rattle.journal_protocol.specs.Bodies.{message_in}
use Rattle.journal_protocol.specs.Types.{type_number}
use Rattle.vm_types.specs.declared.types.AwaitResponse.{AwaitResponse}
use Rattle.vm_types.specs.declared.types.AwaitResponse.TheVariants.{AnyCompleted, CancelSignalReceived, EphemeralNotificationReady, ExecuteRun, WaitingExternalProgress}
use Rattle.vm_types.specs.declared.types.AwakeableHandle.{AwakeableHandle}
use Rattle.await_trees.specs.declared.handle.NotificationHandle.{NotificationHandle}
use Rattle.await_trees.specs.declared.tree.UnresolvedFuture.{UnresolvedFuture}
use Rattle.await_trees.specs.Tree.{Tree, leaf, tree_of}
use Rattle.await_trees.specs.Wires.{sent}
use Rattle.await_tries.specs.Message.{ids}
use Rattle.vm_types.specs.declared.values.Value.{Value}
use Rattle.vm_types.specs.declared.steps.Step.{Step}
use Rattle.vm_state.specs.Counting.{missing_number, missing_signals}
use Rattle.vm_parts.specs.Deliveries.{id_at, present_result_for, taken_by}
use Rattle.vm_types.specs.Values.{value_of, id_of_value}
use Rattle.vm_asks.specs.declared.asks.Ask.{Ask}
use Rattle.vm_asks.specs.declared.asks.Ask.TheVariants as ask
use Rattle.vm_parts.specs.Ephemerals.{any_in_flight}
use Rattle.vm_machine.specs.declared.machine.Machine.{Machine}
use Rattle.vm_machine.specs.declared.phase.Phase.{Phase}
use Rattle.vm_machine.specs.declared.phase.Phase.TheVariants.{WaitingStart, WaitingReplayEntries, Replaying, Processing, Closed}
use Rattle.vm_asks.specs.declared.asks.AnswerKind.{AnswerKind}
use Rattle.vm_asks.specs.declared.command.Command.{Command}
use Rattle.vm_asks.specs.Asks.{EachIs, any_refusal, ask_of, cancel_invocation_command, missing_for}
use Rattle.vm_awaits.specs.Awaits.{Awaits, AwaitsAt, AwaitsBy, Behind, AwaitCompletes, EndsBy, Gathers, ReadsId, StaysPending, Tries, next_id_known, is_cancelled, or_cancelled, pending_on, result_at, said_waiting, says_so, suspended, waiting, with_used, waits_by, waits_on, executed, pending_in_replay}
use Rattle.vm_awaits.specs.Cancels.{AwaitsWhole, Cancels, FinishesIf, Onward, SendsCancel, cancel_taken, sends_cancels}
use Rattle.vm_awaits.proofs.Cancelling.{read_known, woken_used}
use Rattle.vm_types.specs.Options.{ends_awaits, ignores_payloads, skips_replay}
use Rattle.vm_parts.specs.Tracked.{id_of_result, invocation_ids, id_noted, unresolved_handles, with_next_id}
use Rattle.vm_state.specs.declared.tracked_call.TrackedCall.{TrackedCall}
use Rattle.std.specs.Option.{option_and_then}
use Rattle.journal_protocol.specs.Version.{Version}
use Rattle.journal_protocol.specs.Commands.{IsCommand}
use Rattle.journal_protocol.specs.NotificationId.{NotificationId}
use Rattle.vm_types.specs.declared.options.AwaitingOnPolicy.{AwaitingOnPolicy}
use Rattle.journal_entries.specs.Journal.{stored_form}
use Rattle.vm_attempt.specs.Heard.{proposals_among}
use Rattle.vm_attempt.proofs.Own.{AsksCommand, asks_command, numbered_is, own_is}
use Rattle.vm_attempt.proofs.Quiet.{forms_append, map_append, proposals_append, proposes_nothing}
use Rattle.vm_machine.specs.Takes.{result_taken, take_step, taken_at, value_noted, value_taken}
use Rattle.vm_machine.specs.Commands.{carried_out, commanded, commanded_unless, compared, command_if_counted, entered, issued, phase_after, popped, popped_from, prepared, replayed, written, about_next, handed_out}
use Rattle.vm_machine.specs.Inputs.{end_at, end_step}
use Rattle.vm_machine.specs.Outcomes.{CalledBy, Does, DoesBy, IsStarved, Outcome, Done, Failed, ◌>>>◌, about_last, called, called_at, failed, refused, ruled, settled}
use Rattle.vm_machine.specs.Several.{BehindFirst, MakesAll, MakesOne, answered_so, commanded_before, foreseen, foreseen_unless, numbers_left}
use Rattle.vm_machine.proofs.Calling.{called_from}
use Rattle.vm_machine.specs.Phases.{is_closed, is_processing, is_replaying, is_running, state_fault}
use Rattle.vm_asks.specs.Requests.{ids_of, name_of, shown_type, with_ids}
use Rattle.vm_machine.specs.Signals.{awakeable_counted, awakeable_step, name_handed_out, signal_counted, signal_handed_out, signal_step}
use Rattle.invocation_vm.specs.Calls.{new_awakeable_step}
use Rattle.vm_attempt.specs.declared.progress.Reply.{Reply}
use Rattle.vm_attempt.specs.declared.progress.Reply.TheVariants as reply
use Rattle.vm_attempt.specs.Steps.{AllCarried, Awaited, Performs, PerformsBy, await_reply, mapped}
use Rattle.vm_attempt.specs.Told.{IsLive}
use Rattle.vm_attempt.proofs.Ahead.{Fewer, HandsOut, HasRunOf, executed_fewer, executed_once, fewer_same, fewer_then, given_fewer, handed_since, prepared_fewer, started_has}

-- ---- what is left

-- messages were written, none of which proposes a result; the version and the options stay
pub record Sends (v w : Machine) : Type 0 where
  pub messages : List Message
  pub output : w.output ≡ v.output ++ map encoding messages
  pub proposals : proposals_among (map stored_form messages) ≡ []
  pub version : w.version ≡ v.version
  pub options : w.options ≡ v.options

-- An event that is done has written frames of messages and hasn't failed the VM. After it no run
-- can be handed out more often, replay doesn't begin again, and what is said of its answer holds.
pub record Leaves {A : Type 0} (Left : Machine → A → Machine → Type 0) (v : Machine) (a : A) (w : Machine) : Type 0 where
  pub sends : Sends v w
  pub failure : w.failure ≡ v.failure
  pub kept : w.proposals ≡ v.proposals
  pub fewer : Fewer v w
  pub goes : v.phase ≡ Processing → is_running w.phase ≡ true → w.phase ≡ Processing
  pub left : Left v a w

-- nothing was written or proposed, and no run can be handed out more often
abbrev Stays : Machine → Machine → Type 0
Stays v w = (w.output ≡ v.output) × (w.version ≡ v.version) × (w.options ≡ v.options) × (w.proposals ≡ v.proposals) × Fewer v w

-- of a machine that is the same in all this
alike : (v : Machine) → Stays v v
alike v = (refl, refl, refl, refl, fewer_same v)

none_append : (ms ns : List Message) → proposals_among (map stored_form ms) ≡ [] → proposals_among (map stored_form ns) ≡ [] → proposals_among (map stored_form (ms ++ ns)) ≡ []
none_append ms ns a b = ap proposals_among (forms_append ms ns) ∙ proposals_append (map stored_form ms) (map stored_form ns) ∙ (λ i. a i ++ b i)

-- messages, and more after them
sends_then : (u v w : Machine) → Sends u v → Sends v w → Sends u w
sends_then u v w a b = record {
  messages = a.messages ++ b.messages;
  output = b.output ∙ ap (λ l. l ++ map encoding b.messages) a.output ∙ append_assoc u.output (map encoding a.messages) (map encoding b.messages) ∙ ap (λ l. u.output ++ l) (sym (map_append a.messages b.messages));
  proposals = none_append a.messages b.messages a.proposals b.proposals;
  version = b.version ∙ a.version;
  options = b.options ∙ a.options;
}

stays_sends : (v w : Machine) → Stays v w → Sends v w
stays_sends v w s = record { messages = []; output = s.0 ∙ sym (append-nil v.output); proposals = refl; version = s.1; options = s.2 }

-- an event, before the error rule: what it leaves; one that is refused has written nothing
abbrev Happens : {A : Type 0} → (Machine → A → Machine → Type 0) → Machine → Outcome A → Type 0
Happens Left v (Done a w) = Leaves Left v a w
Happens Left v (Failed e w) = Stays v w

-- a call, with the error rule
abbrev pub CallLeaves : {A : Type 0} → (Machine → A → Machine → Type 0) → Machine → Outcome A → Type 0
CallLeaves Left v (Done a w) = Leaves Left v a w
CallLeaves Left v (Failed e w) = Sends v w × (w.failure ≡ Some e)

-- the handler runs on
abbrev RunsOn : {A : Type 0} → Machine → A → Machine → Type 0
RunsOn v a w = is_running w.phase ≡ true

-- a command proposes no result
command_proposes : (m : Message) → IsCommand m → proposals_among (stored_form m ∷ []) ≡ []
command_proposes m is = proposes_nothing (stored_form m) is

-- an await that waits proposes none
says_no_proposal : (version : Version) (policy : AwaitingOnPolicy) (executing : Bool) (id : ℕ → Option NotificationId) (left : Tree) → proposals_among (map stored_form (said_waiting version policy executing id left)) ≡ []
says_no_proposal version policy executing id left = by_test (says_so version policy executing left)
  where
    by_test : (b : Bool) → proposals_among (map stored_form (if b then message.AwaitingOn (record { future = sent id left; executing_side_effects = false }) ∷ [] else [])) ≡ []
    by_test true = refl
    by_test false = refl

-- ---- the error rule

failing : (e : Error) (v w : Machine) → Stays v w → (b : Bool) → is_closed w.phase ≡ b → Sends v (failed e w)
failing e v w s true c = record { messages = []; output = rw c (s.0 ∙ sym (append-nil v.output)); proposals = refl; version = s.1; options = s.2 }
failing e v w s false c = record { messages = message.Error (error_message e) ∷ []; output = rw c (ap (λ l. l ++ encoding (message.Error (error_message e)) ∷ []) s.0); proposals = refl; version = s.1; options = s.2 }

settling : {A : Type 0} (L : Machine → A → Machine → Type 0) (v : Machine) (o : Outcome A) → Happens L v o → CallLeaves L v (settled o)
settling L v (Done a w) h = h
settling L v (Failed e w) h = (failing (ruled w e) v w h (is_closed w.phase) refl, refl)

calling : {A : Type 0} (L : Machine → A → Machine → Type 0) (v : Machine) (o : Outcome A) → v.failure ≡ None → Happens L v o → CallLeaves L v (called o v)
unfolding called
calling L v o live h = subst (λ f. CallLeaves L v (called_at f o v)) (sym live) (settling L v o h)

mapping : {A B : Type 0} (L : Machine → A → Machine → Type 0) (M : Machine → B → Machine → Type 0) (f : A → B) (v : Machine) → ((a : A) (w : Machine) → L v a w → M v (f a) w) → (o : Outcome A) → CallLeaves L v o → CallLeaves M v (mapped f o)
mapping L M f v more (Done a w) h = record { sends = h.sends; failure = h.failure; kept = h.kept; fewer = h.fewer; goes = h.goes; left = more a w h.left }
mapping L M f v more (Failed e w) h = h

-- ---- a command

-- where the machine writes, the handler runs
writing_runs : (ph : Phase) → is_processing ph ≡ true → is_running ph ≡ true
writing_runs WaitingStart e = cc
writing_runs WaitingReplayEntries e = cc
writing_runs Replaying e = cc
writing_runs Processing e = refl
writing_runs Closed e = cc

after_runs : (left : List RawMessage) → is_running (phase_after left) ≡ true
after_runs [] = refl
after_runs (c ∷ left) = refl

module _ (v : Machine) (handle : NotificationHandle) (m : Message) (ignore : Bool) (u : Machine) (command : IsCommand m) (same : Stays v u) (failure : u.failure ≡ v.failure) (phase : u.phase ≡ v.phase) where
  abbrev Answer : Outcome Unit → Type 0
  Answer o = Happens RunsOn v (o >>> λ _ w. Done handle w)

  compares : (o : Option Message) (w : Machine) → (v.phase ≡ Processing → ⊥) → Stays v w → w.failure ≡ v.failure → is_running w.phase ≡ true → Answer (compared m ignore o w)
  compares None w late s f runs = s
  compares (Some recorded) w late s f runs = by_test (header_equal recorded m ignore)
    where
      by_test : (b : Bool) → Answer (if b then Done (tt {0}) w else Failed (about_last fault.CommandMismatch w) w)
      by_test true = record { sends = stays_sends v w s; failure = f; kept = s.3; fewer = s.4; goes = λ at _. absurd (late at); left = runs }
      by_test false = s

  pops : (left : List RawMessage) → (v.phase ≡ Processing → ⊥) → Answer (popped_from left (type_of m) u >>> λ raw w. compared m ignore (message_in raw.ty raw.body) w)
  pops [] late = same
  pops (raw ∷ rest) late = by_test (type_number raw.ty == type_number (type_of m))
    where
      w : Machine
      w = record u { commands = rest; phase = phase_after rest }

      by_test : (b : Bool) → Answer ((if b then Done raw w else Failed (about_last fault.CommandTypeMismatch w) w) >>> λ raw w. compared m ignore (message_in raw.ty raw.body) w)
      by_test true = compares (message_in raw.ty raw.body) w late same failure (after_runs rest)
      by_test false = same

  replays : (v.phase ≡ Processing → ⊥) → Answer (replayed m ignore u)
  unfolding replayed popped
  replays late = pops u.commands late

  carries : Answer (carried_out m ignore u)
  unfolding carried_out
  carries = by_test (is_processing u.phase) refl
    where
      by_test : (b : Bool) → is_processing u.phase ≡ b → Answer (if b then Done (tt {0}) (written m u) else replayed m ignore u)
      by_test true e = record {
        sends = record { messages = m ∷ []; output = ap (λ l. l ++ encoding m ∷ []) same.0; proposals = command_proposes m command; version = same.1; options = same.2 };
        failure = failure;
        kept = same.3;
        fewer = same.4;
        goes = λ at _. phase ∙ at;
        left = writing_runs u.phase e;
      }
      by_test false e = replays (λ at. absurd (let z : true ≡ false = sym (ap is_processing (phase ∙ at)) ∙ e in cc))

counts : (o : Option NamedFault) (m : Message) (unstable : Bool) (v : Machine) → IsCommand m → Happens RunsOn v (command_if_counted o m unstable v)
counts (Some name) m unstable v is = alike v
counts None m unstable v is = carries v (record { 0 = v.counters.handle }) (with_ids v.counters.completion m) (ignores_payloads v.options.non_determinism_checks unstable) (prepared m v) (numbered_is m v.counters.completion is) (refl, refl, refl, refl, prepared_fewer m v) refl refl

issues : (m : Message) (unstable : Bool) (v : Machine) → IsCommand m → Happens RunsOn v (issued m unstable v)
unfolding issued
issues m unstable v is = by_test (is_running v.phase)
  where
    by_test : (b : Bool) → Happens RunsOn v (if b then command_if_counted (missing_number (ids_of m) 0 (ids_of m) v.counters) m unstable v else (let w = entered (shown_type m) (name_of m) v in Failed (about_last (state_fault v.phase) w) w))
    by_test true = counts (missing_number (ids_of m) 0 (ids_of m) v.counters) m unstable v is
    by_test false = alike v

commands : (refusal : Option NamedFault) (m : Message) (unstable : Bool) (v : Machine) → IsCommand m → Happens RunsOn v (commanded_unless refusal m unstable v)
commands (Some name) m unstable v is = alike v
commands None m unstable v is = issues m unstable v is

-- ---- several commands

-- one, where all that is needed is looked for before
foreseen_happens : (c : Command) (cs : List Command) (v : Machine) → IsCommand c.message → Happens RunsOn v (foreseen c cs v >>> λ _ w. commanded c w)
unfolding foreseen
foreseen_happens c cs v is = by_refusal (any_refusal c cs)
  where
    by_numbers : (o : Option NamedFault) → Happens RunsOn v (numbers_left o c v >>> λ _ w. commanded c w)
    by_numbers (Some name) = alike v
    by_numbers None = commands c.refusal c.message c.unstable v is

    by_running : (b : Bool) → Happens RunsOn v ((if b then numbers_left (missing_for c cs v.counters) c v else (let w = entered (shown_type c.message) (name_of c.message) v in Failed (about_last (state_fault v.phase) w) w)) >>> λ _ w. commanded c w)
    by_running true = by_numbers (missing_for c cs v.counters)
    by_running false = alike v

    by_refusal : (o : Option NamedFault) → Happens RunsOn v (foreseen_unless o c cs v >>> λ _ w. commanded c w)
    by_refusal (Some name) = alike v
    by_refusal None = by_running (is_running v.phase)

before_happens : (c : Command) (cs : List Command) (v : Machine) → IsCommand c.message → Happens RunsOn v (commanded_before c cs v)
before_happens c [] v is = commands c.refusal c.message c.unstable v is
before_happens c (b ∷ bs) v is = foreseen_happens c (b ∷ bs) v is

-- ---- state reads

read_put : (id : ℕ) (o : Option NotificationResult) (handle : NotificationHandle) (v w : Machine) → Leaves RunsOn v handle w → Leaves RunsOn v handle (with_read_ready id o w)
read_put id None handle v w h = h
read_put id (Some result) handle v w h = record { sends = record { messages = h.sends.messages; output = h.sends.output; proposals = h.sends.proposals; version = h.sends.version; options = h.sends.options }; failure = h.failure; kept = h.kept; fewer = h.fewer; goes = h.goes; left = h.left }

reads_back : (handle id : ℕ) (o : Result (Option NotificationResult) NamedFault) (v w : Machine) → (v.phase ≡ Processing → ⊥) → Stays v w → w.failure ≡ v.failure → is_running w.phase ≡ true → Happens RunsOn v (read_back handle id o w)
reads_back handle id (Err name) v w late s f runs = s
reads_back handle id (Ok o) v w late s f runs = read_put id o (record { 0 = handle }) v w (record { sends = stays_sends v w s; failure = f; kept = s.3; fewer = s.4; goes = λ at _. absurd (late at); left = runs })

reads_popped : (r : StateRead) (handle id : ℕ) (left : List RawMessage) (v u : Machine) → (v.phase ≡ Processing → ⊥) → Stays v u → u.failure ≡ v.failure → Happens RunsOn v (read_popped r handle id left u)
reads_popped r handle id [] v u late s f = s
reads_popped r handle id (raw ∷ rest) v u late s f =
    reads_back handle id (recorded_as r id raw) v (record u { commands = rest; phase = phase_after rest; last_command = record { ty = recorded_type r raw; name = [] } }) late s f (after_runs rest)

reads_numbered : (r : StateRead) (v : Machine) → Happens RunsOn v (read_numbered r v)
reads_numbered r v = by_test (is_processing v.phase) refl
  where
    by_test : (b : Bool) → is_processing v.phase ≡ b
        → Happens RunsOn v (if b then Done (record { 0 = v.counters.handle }) (read_written r v.counters.completion (own_form r v.counters.completion v.state) v) else read_popped r v.counters.handle v.counters.completion v.commands (handed_out 1 (entered (eager_type r) [] v)))
    by_test true e =
        let m = own_form r v.counters.completion v.state in
        read_put v.counters.completion (own_result (result_in m)) (record { 0 = v.counters.handle }) v (written m (handed_out 1 (entered (type_of m) (name_read r) v)))
        (record { sends = record { messages = m ∷ []; output = refl; proposals = command_proposes m (own_is r v.counters.completion v.state); version = refl; options = refl }; failure = refl; kept = refl; fewer = given_fewer 1 v; goes = λ at _. at; left = writing_runs v.phase e })
    by_test false e = reads_popped r v.counters.handle v.counters.completion v.commands v (handed_out 1 (entered (eager_type r) [] v)) (λ at. absurd (let z : true ≡ false = sym (ap is_processing at) ∙ e in cc)) (refl, refl, refl, refl, given_fewer 1 v) refl

reads_counted : (o : Option NamedFault) (r : StateRead) (v : Machine) → Happens RunsOn v (read_counted o r v)
reads_counted (Some name) r v = alike v
reads_counted None r v = reads_numbered r v

state_reads : (r : StateRead) (v : Machine) → Happens RunsOn v (read_step r v)
unfolding read_step
state_reads r v = by_test (is_running v.phase)
  where
    by_test : (b : Bool) → Happens RunsOn v (if b then read_counted (missing_number 1 0 1 v.counters) r v else Failed (about_next (state_fault v.phase) (lazy_type r) [] v) v)
    by_test true = reads_counted (missing_number 1 0 1 v.counters) r v
    by_test false = alike v

-- ---- calls without a command

awakeable_is : (o : Option NamedFault) (v : Machine) → is_running v.phase ≡ true → Happens RunsOn v (awakeable_counted o v)
awakeable_is (Some name) v runs = alike v
awakeable_is None v runs = record { sends = stays_sends v (signal_handed_out v) (refl, refl, refl, refl, given_fewer 1 v); failure = refl; kept = refl; fewer = given_fewer 1 v; goes = λ at _. at; left = runs }

awakeables : (v : Machine) → Happens RunsOn v (awakeable_step v)
unfolding awakeable_step
awakeables v = by_test (is_running v.phase) refl
  where
    by_test : (b : Bool) → is_running v.phase ≡ b → Happens RunsOn v (if b then awakeable_counted (missing_signals 1 1 v.counters) v else refused (state_fault v.phase) v)
    by_test true e = awakeable_is (missing_signals 1 1 v.counters) v e
    by_test false e = alike v

new_awakeables : (b : Bool) (v : Machine) → Happens RunsOn v (if b then refused {A = AwakeableHandle} fault.UnsupportedFeature v else awakeable_step v)
new_awakeables true v = alike v
new_awakeables false v = awakeables v

signal_is : (o : Option NamedFault) (name : List ℕ) (v : Machine) → is_running v.phase ≡ true → Happens RunsOn v (signal_counted o name v)
signal_is (Some fault) name v runs = alike v
signal_is None name v runs = record { sends = stays_sends v (name_handed_out name v) (refl, refl, refl, refl, given_fewer 1 v); failure = refl; kept = refl; fewer = given_fewer 1 v; goes = λ at _. at; left = runs }

signals : (name : List ℕ) (v : Machine) → Happens RunsOn v (signal_step name v)
unfolding signal_step
signals name v = by_test (is_running v.phase) refl
  where
    by_test : (b : Bool) → is_running v.phase ≡ b → Happens RunsOn v (if b then signal_counted (missing_signals 0 1 v.counters) name v else refused (state_fault v.phase) v)
    by_test true e = signal_is (missing_signals 0 1 v.counters) name v e
    by_test false e = alike v

-- an await that is answered or waits lets the handler run, and a run that is to be executed is handed out; one that is refused has closed
-- the machine
abbrev AwaitLeaves : Machine → Result AwaitResponse Error → Machine → Type 0
AwaitLeaves v (Ok AnyCompleted) w = is_running w.phase ≡ true
AwaitLeaves v (Ok CancelSignalReceived) w = is_running w.phase ≡ true
AwaitLeaves v (Ok (WaitingExternalProgress input run)) w = is_running w.phase ≡ true
AwaitLeaves v (Ok (ExecuteRun run)) w = (is_running w.phase ≡ true) × HandsOut run v w × HasRunOf run w.runs
AwaitLeaves v (Ok (EphemeralNotificationReady id)) w = is_running w.phase ≡ true
AwaitLeaves v (Err e) w = w.phase ≡ Closed

-- the same by what the machine was before
await_since : (u v : Machine) (a : Result AwaitResponse Error) (w : Machine) → Fewer u v → AwaitLeaves v a w → AwaitLeaves u a w
await_since u v (Ok AnyCompleted) w n h = h
await_since u v (Ok CancelSignalReceived) w n h = h
await_since u v (Ok (WaitingExternalProgress input run)) w n h = h
await_since u v (Ok (ExecuteRun run)) w n h = (h.0, handed_since run u v w n h.1, h.2)
await_since u v (Ok (EphemeralNotificationReady id)) w n h = h
await_since u v (Err e) w n h = h

module _ (left : Tree) (v u : Machine) (same : Stays v u) (failure : u.failure ≡ v.failure) (phase : u.phase ≡ v.phase) (runs : is_running u.phase ≡ true) where
  suspends : Leaves AwaitLeaves v (Err (named_error fault.Suspended None)) (suspended (sent (ids u.results) left) u)
  suspends =
      let m = message.Suspension (record { future = sent (ids u.results) left }) in
      record {
        sends = record { messages = m ∷ []; output = ap (λ l. l ++ encoding m ∷ []) same.0; proposals = refl; version = same.1; options = same.2 };
        failure = failure;
        kept = same.3;
        fewer = same.4;
        goes = λ at running. absurd (cc);
        left = refl;
      }

  waits : (executing : Bool) → Leaves AwaitLeaves v (Ok (WaitingExternalProgress true executing)) (waiting left u)
  waits executing =
      let said = said_waiting u.version u.options.awaiting_on_policy (list_any is_executing u.runs) (ids u.results) left in
      record {
        sends = record { messages = said; output = ap (λ l. l ++ map encoding said) same.0; proposals = says_no_proposal u.version u.options.awaiting_on_policy (list_any is_executing u.runs) (ids u.results) left; version = same.1; options = same.2 };
        failure = failure;
        kept = same.3;
        fewer = same.4;
        goes = λ at _. phase ∙ at;
        left = runs;
      }

  waits_for_runs : Leaves AwaitLeaves v (Ok (WaitingExternalProgress false true)) u
  waits_for_runs = record { sends = stays_sends v u same; failure = failure; kept = same.3; fewer = same.4; goes = λ at _. phase ∙ at; left = runs }

  executes : (run : PendingRun) → find (may_execute (handles_of left)) u.runs ≡ Some run → Leaves AwaitLeaves v (Ok (ExecuteRun (handle_of run))) (executed (handles_of left) u)
  executes run found =
      let w = executed (handles_of left) u in
      let less = fewer_then v u w same.4 (executed_fewer (handles_of left) u) in
      record {
        sends = stays_sends v w (same.0, same.1, same.2, same.3, less);
        failure = failure;
        kept = same.3;
        fewer = less;
        goes = λ at _. phase ∙ at;
        left = (runs, handed_since (handle_of run) v u w same.4 (executed_once (handles_of left) u run found), started_has (handles_of left) u.runs run found);
      }

  waits_so : (closed in_flight executing : Bool) → Happens AwaitLeaves v (waits_by closed in_flight executing left u)
  waits_so false in_flight executing = waits executing
  waits_so true true executing = same
  waits_so true false true = waits_for_runs
  waits_so true false false = suspends

  runs_so : (run : Option PendingRun) → find (may_execute (handles_of left)) u.runs ≡ run → (executing : Bool) → Happens AwaitLeaves v (waits_on run executing left u)
  runs_so (Some run) found executing = executes run found
  runs_so None found executing = waits_so u.input_closed (any_in_flight u.ephemeral) executing

  pends : Happens AwaitLeaves v (pending_on left u)
  pends = by_tests (is_replaying u.phase) (find (may_execute (handles_of left)) u.runs) refl (list_any (is_executing_in (handles_of left)) u.runs)
    where
      by_tests : (replaying : Bool) (run : Option PendingRun) → find (may_execute (handles_of left)) u.runs ≡ run → (executing : Bool)
          → Happens AwaitLeaves v (if replaying then pending_in_replay (handles_of left) u else waits_on run executing left u)
      by_tests true run found executing = same
      by_tests false run found executing = runs_so run found executing

tries : (t : Tree) (v : Machine) (x : Outcome (Result AwaitResponse Error)) → is_running v.phase ≡ true → Tries t v x → Happens AwaitLeaves v x
tries t v x runs comes = ⊎_elim
    (λ (y : AwaitCompletes t v x). subst (Happens AwaitLeaves v) (sym y.2) (record { sends = stays_sends v (with_used y.0 v) (alike v); failure = refl; kept = refl; fewer = fewer_same v; goes = λ at _. at; left = runs }))
    (λ (y : StaysPending t v x). subst (Happens AwaitLeaves v) (sym y.2) (pends y.0 v (with_used (length v.results.queued) v) (alike v) refl refl runs))
    comes

-- nothing was written or proposed, and nothing failed or came into another phase
abbrev Unmoved : Machine → Machine → Type 0
Unmoved v w = Stays v w × (w.failure ≡ v.failure) × (w.phase ≡ v.phase)

-- an await that has woken has used notifications, and done nothing else
woken_unmoved : (t : Tree) (v w : Machine) → Tries t v (Done (Ok AnyCompleted) w) → Unmoved v w
woken_unmoved t v w tries =
    let is = (woken_used t v w tries).1 in
    ((ap (λ (x : Machine). x.output) is, ap (λ (x : Machine). x.version) is, ap (λ (x : Machine). x.options) is, ap (λ (x : Machine). x.proposals) is, subst (Fewer v) (sym is) (fewer_same v)), ap (λ (x : Machine). x.failure) is, ap (λ (x : Machine). x.phase) is)

-- and so has one that has read an id
read_unmoved : (handle : ℕ) (v w : Machine) → ReadsId handle v (Done (Ok AnyCompleted) w) → Unmoved v w
read_unmoved handle v w reads =
    let is = (read_known handle v w reads).2 in
    ((ap (λ (x : Machine). x.output) is, ap (λ (x : Machine). x.version) is, ap (λ (x : Machine). x.options) is, ap (λ (x : Machine). x.proposals) is, subst (Fewer v) (sym is) (fewer_same v)), ap (λ (x : Machine). x.failure) is, ap (λ (x : Machine). x.phase) is)

-- what happens next
happens_behind : (v w : Machine) (o : Outcome (Result AwaitResponse Error)) → Unmoved v w → Happens AwaitLeaves w o → Happens AwaitLeaves v o
happens_behind v w (Done a x) k h = record { sends = sends_then v w x (stays_sends v w k.0) h.sends; failure = h.failure ∙ k.1; kept = h.kept ∙ k.0.3; fewer = fewer_then v w x k.0.4 h.fewer; goes = λ at running. h.goes (k.2 ∙ at) running; left = await_since v w a x k.0.4 h.left }
happens_behind v w (Failed e x) k h =
    let s = k.0 in
    (h.0 ∙ s.0, h.1 ∙ s.1, h.2 ∙ s.2, h.3 ∙ s.3, fewer_then v w x s.4 h.4)

behind : (v : Machine) (Next : Machine → Outcome (Result AwaitResponse Error) → Type 0) (first o : Outcome (Result AwaitResponse Error)) → Happens AwaitLeaves v first
    → ((w : Machine) → first ≡ Done (Ok AnyCompleted) w → Next w o → Happens AwaitLeaves v o) → Behind Next first o → Happens AwaitLeaves v o
behind v Next (Done (Ok AnyCompleted) w) o h f on = f w refl on
behind v Next (Done (Ok CancelSignalReceived) w) o h f on = subst (Happens AwaitLeaves v) (sym on) h
behind v Next (Done (Ok (WaitingExternalProgress input run)) w) o h f on = subst (Happens AwaitLeaves v) (sym on) h
behind v Next (Done (Ok (ExecuteRun run)) w) o h f on = subst (Happens AwaitLeaves v) (sym on) h
behind v Next (Done (Ok (EphemeralNotificationReady id)) w) o h f on = subst (Happens AwaitLeaves v) (sym on) h
behind v Next (Done (Err e) w) o h f on = subst (Happens AwaitLeaves v) (sym on) h
behind v Next (Failed e w) o h f on = subst (Happens AwaitLeaves v) (sym on) h

id_reads : (id : Option (List ℕ)) (v : Machine) → is_running v.phase ≡ true → Happens AwaitLeaves v (next_id_known id v)
id_reads None v runs = alike v
id_reads (Some id) v runs = record { sends = stays_sends v (record v { tracked = with_next_id id v.tracked }) (alike v); failure = refl; kept = refl; fewer = fewer_same v; goes = λ at _. at; left = runs }

reads_id : (handle : ℕ) (v : Machine) (o : Outcome (Result AwaitResponse Error)) → is_running v.phase ≡ true → ReadsId handle v o → Happens AwaitLeaves v o
reads_id handle v o runs (first, tried, on) =
    behind v (λ w p. p ≡ next_id_known (option_and_then id_of_result (result_at handle w)) w) first o (tries (leaf handle) v first runs tried)
    (λ w is next.
    let k = woken_unmoved (leaf handle) v w (subst (Tries (leaf handle) v) is tried) in
    happens_behind v w o k (subst (Happens AwaitLeaves w) (sym next) (id_reads (option_and_then id_of_result (result_at handle w)) w (ap is_running k.2 ∙ runs)))) on

gathers : (handles : List ℕ) (v : Machine) (o : Outcome (Result AwaitResponse Error)) → is_running v.phase ≡ true → Gathers handles v o → Happens AwaitLeaves v o
gathers [] v o runs comes = subst (Happens AwaitLeaves v) (sym comes) (record { sends = stays_sends v v (alike v); failure = refl; kept = refl; fewer = fewer_same v; goes = λ at _. at; left = runs })
gathers (handle ∷ handles) v o runs (first, reads, on) =
    behind v (Gathers handles) first o (reads_id handle v first runs reads)
    (λ w is next.
    let k = read_unmoved handle v w (subst (ReadsId handle v) is reads) in
    happens_behind v w o k (gathers handles w o (ap is_running k.2 ∙ runs) next)) on

ends_by : (b : Bool) (v : Machine) (o : Outcome (Result AwaitResponse Error)) → is_running v.phase ≡ true → EndsBy b v o → Happens AwaitLeaves v o
ends_by true v o runs comes = gathers (unresolved_handles v.tracked) v o runs comes
ends_by false v o runs comes = subst (Happens AwaitLeaves v) (sym comes) (record { sends = stays_sends v v (alike v); failure = refl; kept = refl; fewer = fewer_same v; goes = λ at _. at; left = runs })

awaits_by : (b : Bool) (t : Tree) (v : Machine) (o : Outcome (Result AwaitResponse Error)) → is_running v.phase ≡ true → AwaitsBy b t v o → Happens AwaitLeaves v o
awaits_by true t v o runs (first, tried, on) =
    behind v (λ w p. EndsBy (is_cancelled w) w p) first o (tries (or_cancelled t) v first runs tried)
    (λ w is next.
    let k = woken_unmoved (or_cancelled t) v w (subst (Tries (or_cancelled t) v) is tried) in
    happens_behind v w o k (ends_by (is_cancelled w) w o (ap is_running k.2 ∙ runs) next)) on
awaits_by false t v o runs comes = tries t v o runs comes

awaits : (t : Tree) (v : Machine) (x : Outcome (Result AwaitResponse Error)) → Awaits t v x → Happens AwaitLeaves v x
awaits t v x comes = by_test (is_running v.phase) refl comes
  where
    by_test : (b : Bool) → is_running v.phase ≡ b → AwaitsAt b t v x → Happens AwaitLeaves v x
    by_test true e comes = awaits_by (ends_awaits v.options.implicit_cancellation) t v x e comes
    by_test false e is = subst (Happens AwaitLeaves v) (sym is) (alike v)

noted_values : (value : Value) (tracked : Option (List TrackedCall)) (v u : Machine) → Stays v u → u.failure ≡ v.failure → u.phase ≡ v.phase → is_running u.phase ≡ true → Happens RunsOn v (value_noted value tracked u)
noted_values value None v u s f phase runs = s
noted_values value (Some tracked) v u s f phase runs = record { sends = stays_sends v (record u { tracked = tracked }) s; failure = f; kept = s.3; fewer = s.4; goes = λ at _. phase ∙ at; left = runs }

values : (handle : ℕ) (o : Option Value) (v u : Machine) → Stays v u → u.failure ≡ v.failure → u.phase ≡ v.phase → is_running u.phase ≡ true → Happens RunsOn v (value_taken handle o u)
values handle None v u s f phase runs = s
values handle (Some value) v u s f phase runs = noted_values value (id_noted handle (id_of_value value) u.tracked) v u s f phase runs

results : (handle : ℕ) (o : Option NotificationResult) (v u : Machine) → Stays v u → u.failure ≡ v.failure → u.phase ≡ v.phase → is_running u.phase ≡ true → Happens RunsOn v (result_taken handle o u)
results handle None v u s f phase runs = record { sends = stays_sends v u s; failure = f; kept = s.3; fewer = s.4; goes = λ at _. phase ∙ at; left = runs }
results handle (Some result) v u s f phase runs = values handle (value_of result) v u s f phase runs

takes : (handle : ℕ) (v : Machine) → Happens RunsOn v (take_step handle v)
unfolding take_step
takes handle v = by_test (is_running v.phase) refl
  where
    by_test : (b : Bool) → is_running v.phase ≡ b → Happens RunsOn v (if b then taken_at handle (id_at handle v.results.handles) v else refused (state_fault v.phase) v)
    by_test true e =
        let found = present_result_for v.options.signal_delivery (id_at handle v.results.handles) v.results.ready in
        results handle found v (record v { results = taken_by v.options.signal_delivery handle (id_at handle v.results.handles) found v.results }) (alike v) refl refl e
    by_test false e = alike v

-- the handler has ended
abbrev HasClosed : Machine → Unit {0} → Machine → Type 0
HasClosed v t w = w.phase ≡ Closed

ends : (ph : Phase) (v : Machine) → v.phase ≡ ph → Happens HasClosed v (end_at ph v)
ends WaitingStart v e = alike v
ends WaitingReplayEntries v e = alike v
ends Replaying v e = alike v
ends Processing v e = record {
  sends = record { messages = message.End ∷ []; output = refl; proposals = refl; version = refl; options = refl };
  failure = refl;
  kept = refl;
  fewer = fewer_same v;
  goes = λ at running. absurd (cc);
  left = refl;
}
ends Closed v e = record { sends = stays_sends v v (alike v); failure = refl; kept = refl; fewer = fewer_same v; goes = λ at _. at; left = e }

-- ---- what is replied

-- where the handler is answered or waits it runs, and a run that is to be executed is handed out; else the invocation is suspended, or the
-- handler has ended
abbrev pub StandsBy : Machine → Reply → Machine → Type 0
StandsBy v (reply.Answer a) w = is_running w.phase ≡ true
StandsBy v (reply.Waiting input run) w = is_running w.phase ≡ true
StandsBy v (reply.Execute run) w = (is_running w.phase ≡ true) × HandsOut run v w × HasRunOf run w.runs
StandsBy v reply.Suspended w = w.phase ≡ Closed
StandsBy v reply.Ended w = w.phase ≡ Closed

await_stands : (v : Machine) (a : Result AwaitResponse Error) (w : Machine) → AwaitLeaves v a w → StandsBy v (await_reply a) w
await_stands v (Ok AnyCompleted) w h = h
await_stands v (Ok CancelSignalReceived) w h = h
await_stands v (Ok (WaitingExternalProgress input run)) w h = h
await_stands v (Ok (ExecuteRun run)) w h = h
await_stands v (Ok (EphemeralNotificationReady id)) w h = h
await_stands v (Err e) w h = h

-- what a call of an await leaves
abbrev AwaitIs : Machine → Result (Result AwaitResponse Error) Error → Machine → Type 0
AwaitIs v (Ok a) w = Leaves AwaitLeaves v a w
AwaitIs v (Err e) w = Sends v w × (w.failure ≡ Some e)

starving : (v : Machine) (e : Error) (w : Machine) → v.failure ≡ None → IsStarved v e w → Sends v w × (w.failure ≡ Some e)
starving v e w live s = (record { messages = []; output = s.output ∙ sym (append-nil v.output); proposals = refl; version = s.version; options = s.options }, s.failure ∙ ap (λ (f : Option Error). Some (unwrap_or f no_memory)) live ∙ ap (λ x. Some x) (sym s.error))

-- the rest of an await, after some of its commands
await_behind : (v mid : Machine) (r : Result (Result AwaitResponse Error) Error) (w : Machine) → Sends v mid → mid.failure ≡ v.failure → mid.proposals ≡ v.proposals → Fewer v mid → (v.phase ≡ Processing → mid.phase ≡ Processing) → AwaitIs mid r w → AwaitIs v r w
await_behind v mid (Ok a) w s f p n on h = record { sends = sends_then v mid w s h.sends; failure = h.failure ∙ f; kept = h.kept ∙ p; fewer = fewer_then v mid w n h.fewer; goes = λ at running. h.goes (on at) running; left = await_since v mid a w n h.left }
await_behind v mid (Err e) w s f p n on h = (sends_then v mid w s h.0, h.1)

-- one cancel signal
abbrev SentIs : Machine → Result NotificationHandle Error → Machine → Type 0
SentIs v (Ok handle) w = Leaves RunsOn v handle w
SentIs v (Err e) w = Sends v w × (w.failure ≡ Some e)

sends_cancel : (id : List ℕ) (sent : Result NotificationHandle Error) (v w : Machine) → v.failure ≡ None → SendsCancel id sent v w → SentIs v sent w
sends_cancel id sent v w live (does, readable) = by_sent sent does
  where
    leaves : CallLeaves RunsOn v (called (commanded (cancel_invocation_command id) v) v)
    leaves = calling RunsOn v (commanded (cancel_invocation_command id) v) live (commands None (cancel_invocation_command id).message false v refl)

    by_sent : (sent : Result NotificationHandle Error) → Does (called (commanded (cancel_invocation_command id) v) v) sent v w → SentIs v sent w
    by_sent (Ok handle) h = subst (CallLeaves RunsOn v) h leaves
    by_sent (Err e) h = ⊎_elim
        (λ (x : called (commanded (cancel_invocation_command id) v) v ≡ Failed e w). subst (CallLeaves RunsOn v) x leaves)
        (λ (x : IsStarved v e w). starving v e w live x)
        h

one_is : (c : Command) (cs : List Command) (r : Result NotificationHandle Error) (v w : Machine) → IsCommand c.message → v.failure ≡ None → MakesOne c cs r v w → SentIs v r w
one_is c cs r v w is live (does, readable) = by_result r does
  where
    leaves : CallLeaves RunsOn v (called (commanded_before c cs v) v)
    leaves = calling RunsOn v (commanded_before c cs v) live (before_happens c cs v is)

    by_result : (r : Result NotificationHandle Error) → Does (called (commanded_before c cs v) v) r v w → SentIs v r w
    by_result (Ok handle) h = subst (CallLeaves RunsOn v) h leaves
    by_result (Err e) h = ⊎_elim
        (λ (x : called (commanded_before c cs v) v ≡ Failed e w). subst (CallLeaves RunsOn v) x leaves)
        (λ (x : IsStarved v e w). starving v e w live x)
        h

-- the other commands, after the first
sent_behind : (handle : NotificationHandle) (v mid : Machine) (r : Result NotificationHandle Error) (w : Machine) → Leaves RunsOn v handle mid → SentIs mid r w → SentIs v (answered_so handle r) w
sent_behind handle v mid (Ok a) w s h = record { sends = sends_then v mid w s.sends h.sends; failure = h.failure ∙ s.failure; kept = h.kept ∙ s.kept; fewer = fewer_then v mid w s.fewer h.fewer; goes = λ at running. h.goes (s.goes at s.left) running; left = h.left }
sent_behind handle v mid (Err e) w s h = (sends_then v mid w s.sends h.0, h.1)

-- several commands
all_are : (c : Command) (cs : List Command) (r : Result NotificationHandle Error) (v w : Machine) → EachIs (λ x. IsCommand x.message) c cs → v.failure ≡ None → MakesAll c cs r v w → SentIs v r w
all_are c [] r v w is live made = one_is c [] r v w is live made
all_are c (b ∷ bs) r v w is live (first, mid, makes, on) = by_first (λ given made failure. all_are b bs given mid w is.1 failure made) first (one_is c (b ∷ bs) first v mid is.0 live makes) on
  where
    by_first : ((given : Result NotificationHandle Error) → MakesAll b bs given mid w → mid.failure ≡ None → SentIs mid given w) → (first : Result NotificationHandle Error) → SentIs v first mid → BehindFirst (MakesAll b bs) first r mid w → SentIs v r w
    by_first more (Ok handle) s (given, made, answered) = subst (λ x. SentIs v x w) (sym answered) (sent_behind handle v mid given w s (more given made (s.failure ∙ live)))
    by_first more (Err e) s (answered, same) = subst (λ (z : Result NotificationHandle Error × Machine). SentIs v z.0 z.1) (λ i. (sym answered i, sym same i)) s

several_leaves : (kind : AnswerKind) (c : Command) (cs : List Command) (v : Machine) → EachIs (λ x. IsCommand x.message) c cs → v.failure ≡ None → (o : Outcome Reply) → AllCarried kind c cs v o → CallLeaves StandsBy v o
several_leaves kind c cs v is live (Done given w) (handle, made, replied) =
    let h : Leaves RunsOn v handle w = all_are c cs (Ok handle) v w is live made in
    subst (λ (x : Reply). Leaves StandsBy v x w) (sym replied) (record { sends = h.sends; failure = h.failure; kept = h.kept; fewer = h.fewer; goes = h.goes; left = h.left })
several_leaves kind c cs v is live (Failed e w) made = all_are c cs (Err e) v w is live made

cancels : (ids : List (List ℕ)) (r : Result (Result AwaitResponse Error) Error) (v w : Machine) → v.failure ≡ None → is_running v.phase ≡ true → Cancels ids r v w → AwaitIs v r w
cancels [] r v w live runs (answered, machine) = subst (λ (z : Result (Result AwaitResponse Error) Error × Machine). AwaitIs v z.0 z.1) (λ i. (sym answered i, sym machine i)) (record { sends = stays_sends v (cancel_taken v) (alike v); failure = refl; kept = refl; fewer = fewer_same v; goes = λ at _. at; left = runs })
cancels (id ∷ ids) r v w live runs (sent, mid, sends, on) = by_sent (cancels ids r mid w) sent (sends_cancel id sent v mid live sends) on
  where
    by_sent : (mid.failure ≡ None → is_running mid.phase ≡ true → Cancels ids r mid w → AwaitIs mid r w) → (sent : Result NotificationHandle Error) → SentIs v sent mid → Onward (Cancels ids) sent r mid w → AwaitIs v r w
    by_sent more (Ok handle) h on = await_behind v mid r w h.sends h.failure h.kept h.fewer (λ at. h.goes at h.left) (more (h.failure ∙ live) h.left on)
    by_sent more (Err e) h on = subst (λ (z : Result (Result AwaitResponse Error) Error × Machine). AwaitIs v z.0 z.1) (λ i. (sym on.0 i, sym on.1 i)) h

-- the first part of an await
first_part : (t : Tree) (v : Machine) → v.failure ≡ None → (first : Result (Result AwaitResponse Error) Error) (mid : Machine) → DoesBy (CalledBy (Awaits t v) v) first v mid → AwaitIs v first mid
first_part t v live first mid does = by_first first does
  where
    leaves : (o : Outcome (Result AwaitResponse Error)) → CalledBy (Awaits t v) v o → CallLeaves AwaitLeaves v o
    leaves o h =
        let from = called_from (Awaits t v) v o h in
        subst (CallLeaves AwaitLeaves v) (sym from.2) (calling AwaitLeaves v from.0 live (awaits t v from.0 (from.1 live)))

    by_first : (first : Result (Result AwaitResponse Error) Error) → DoesBy (CalledBy (Awaits t v) v) first v mid → AwaitIs v first mid
    by_first (Ok a) h = leaves (Done a mid) h
    by_first (Err e) h = ⊎_elim (λ (x : CalledBy (Awaits t v) v (Failed e mid)). leaves (Failed e mid) x) (λ (x : IsStarved v e mid). starving v e mid live x) h

-- the whole call
await_whole : (t : Tree) (v : Machine) → v.failure ≡ None → (r : Result (Result AwaitResponse Error) Error) (w : Machine) → AwaitsWhole t r v w → AwaitIs v r w
await_whole t v live r w (first, mid, does, fin) = by_first first (first_part t v live first mid does) fin
  where
    stays_so : (first : Result (Result AwaitResponse Error) Error) → AwaitIs v first mid → (r ≡ first) × (w ≡ mid) → AwaitIs v r w
    stays_so first h same = subst (λ (z : Result (Result AwaitResponse Error) Error × Machine). AwaitIs v z.0 z.1) (λ i. (sym same.0 i, sym same.1 i)) h

    by_first : (first : Result (Result AwaitResponse Error) Error) → AwaitIs v first mid → FinishesIf (sends_cancels first) first r mid w → AwaitIs v r w
    by_first (Ok (Ok AnyCompleted)) h on = stays_so (Ok (Ok AnyCompleted)) h on
    by_first (Ok (Ok (WaitingExternalProgress input run))) h on = stays_so (Ok (Ok (WaitingExternalProgress input run))) h on
    by_first (Ok (Ok (ExecuteRun run))) h on = stays_so (Ok (Ok (ExecuteRun run))) h on
    by_first (Ok (Ok (EphemeralNotificationReady id))) h on = stays_so (Ok (Ok (EphemeralNotificationReady id))) h on
    by_first (Ok (Err e)) h on = stays_so (Ok (Err e)) h on
    by_first (Err e) h on = stays_so (Err e) h on
    by_first (Ok (Ok CancelSignalReceived)) h on =
        let cleared : Machine = record mid { tracked = [] } in
        await_behind v cleared r w (sends_then v mid cleared h.sends (stays_sends mid cleared (alike mid))) h.failure h.kept h.fewer (λ at. h.goes at h.left) (cancels (invocation_ids mid.tracked) r cleared w (h.failure ∙ live) h.left on)

await_leaves : (future : UnresolvedFuture) (v : Machine) → v.failure ≡ None → (o : Outcome Reply) → Awaited future v o → CallLeaves StandsBy v o
await_leaves future v live (Done given w) (a, whole, replied) =
    let h : Leaves AwaitLeaves v a w = await_whole (tree_of future) v live (Ok a) w whole in
    subst (λ (x : Reply). Leaves StandsBy v x w) (sym replied) (record { sends = h.sends; failure = h.failure; kept = h.kept; fewer = h.fewer; goes = h.goes; left = await_stands v a w h.left })
await_leaves future v live (Failed e w) whole = await_whole (tree_of future) v live (Err e) w whole

asked_leaves : (a : Ask) (v : Machine) → AsksCommand a → IsLive v → (o : Outcome Reply) → PerformsBy a v o → CallLeaves StandsBy v o
asked_leaves (ask.Command c) v asks live o does = subst (CallLeaves StandsBy v) (sym does) (mapping RunsOn StandsBy _ v (λ h w runs. runs) (called (commanded c v) v) (calling RunsOn v (commanded c v) live.failure (commands c.refusal c.message c.unstable v asks)))
asked_leaves (ask.Commands kind first second) v asks live o does = several_leaves kind first (second ∷ []) v asks live.failure o does
asked_leaves ask.Awakeable v asks live o does = subst (CallLeaves StandsBy v) (sym does) (mapping RunsOn StandsBy _ v (λ h w runs. runs) (called (new_awakeable_step v) v) (calling RunsOn v (new_awakeable_step v) live.failure (new_awakeables (skips_replay v.options.journal_replay) v)))
asked_leaves (ask.Read r) v asks live o does = subst (CallLeaves StandsBy v) (sym does) (mapping RunsOn StandsBy _ v (λ h w runs. runs) (called (read_step r v) v) (calling RunsOn v (read_step r v) live.failure (state_reads r v)))
asked_leaves (ask.Signal name) v asks live o does = subst (CallLeaves StandsBy v) (sym does) (mapping RunsOn StandsBy _ v (λ h w runs. runs) (called (signal_step name v) v) (calling RunsOn v (signal_step name v) live.failure (signals name v)))
asked_leaves (ask.Await future) v asks live o does = await_leaves future v live.failure o does
asked_leaves (ask.Take handle) v asks live o does = subst (CallLeaves StandsBy v) (sym does) (mapping RunsOn StandsBy _ v (λ h w runs. runs) (called (take_step handle.0 v) v) (calling RunsOn v (take_step handle.0 v) live.failure (takes handle.0 v)))
asked_leaves (ask.Completed handle) v asks live o does = subst (CallLeaves StandsBy v) (sym does) (record { sends = stays_sends v v (alike v); failure = refl; kept = refl; fewer = fewer_same v; goes = λ at _. at; left = live.phase })
asked_leaves ask.End v asks live o does = subst (CallLeaves StandsBy v) (sym does) (mapping HasClosed StandsBy _ v (λ h w closed. closed) (called (end_step v) v) (calling HasClosed v (end_step v) live.failure (ends v.phase v refl)))

-- what a step's call has written, and where it stands
abbrev pub IsLeft : Machine → Result Reply Error → Machine → Type 0
IsLeft v (Ok a) w = Leaves StandsBy v a w
IsLeft v (Err e) w = Sends v w × (w.failure ≡ Some e)

pub step_leaves : (st : Step) (v : Machine) → IsLive v → (x : Result Reply Error) (w : Machine) → DoesBy (Performs st v) x v w → IsLeft v x w
step_leaves st v live (Ok a) w does = asked_leaves (ask_of v.version st) v (asks_command v.version st) live (Done a w) does
step_leaves st v live (Err e) w does =
    ⊎_elim
    (λ (x : Performs st v (Failed e w)). asked_leaves (ask_of v.version st) v (asks_command v.version st) live (Failed e w) x)
    (λ (x : IsStarved v e w). starving v e w live.failure x)
    does
