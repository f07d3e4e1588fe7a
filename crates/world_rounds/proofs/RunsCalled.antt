-- What the calls of a step leave of the runs that are pending: the same ones, or one more, of a run whose command was written or popped and
-- whose result isn't known.
use Rattle.std.proofs.Common.{◌≡◌, ◌⊎◌, inl, inr, length, ℕ, ◌+◌, Bool, true, false, List, [], ◌∷◌, ◌++◌, map, Option, Some, None, Result, Ok, Err, refl, sym, ap, ◌∙◌, subst, ⊎_elim}
use Rattle.std.specs.Prelude.{◌==◌, if◌then◌else◌}
use Rattle.std.specs.List.{find, list_any}
use Rattle.std.specs.Option.{option_and_then}
use Rattle.std.proofs.lemmas.List.{map-append}
use Rattle.journal_protocol.specs.RunCommand.{RunCommand}
use Rattle.journal_protocol.specs.Error.{Error}
use Rattle.journal_protocol.specs.NamedFault.{NamedFault}
use Rattle.journal_protocol.specs.NamedFault.TheVariants as fault
use Rattle.journal_protocol.specs.Version.{Version}
use Rattle.journal_protocol.specs.Types.{type_number}
use Rattle.journal_protocol.specs.Equality.{header_equal}
use Rattle.journal_protocol.specs.Message.{Message}
use Rattle.journal_protocol.specs.Message.TheVariants as message
use Rattle.journal_protocol.specs.RawMessage.{RawMessage}
use Rattle.journal_protocol.specs.Frames.{IsWhole, encoding, type_of}
use Rattle.journal_protocol.specs.Bodies.{message_in}
use Rattle.journal_protocol.specs.NotificationResult.{NotificationResult}
use Rattle.await_trees.specs.declared.handle.NotificationHandle.{NotificationHandle}
use Rattle.await_trees.specs.Handles.{handles_of}
use Rattle.await_trees.specs.Tree.{Tree, leaf, tree_of}
use Rattle.vm_runs.specs.Firsts.{with_first}
use Rattle.vm_runs.specs.Pending.{is_executing_in, may_execute, run_started}
use Rattle.vm_types.specs.declared.steps.Step.{Step}
use Rattle.vm_types.specs.declared.steps.Step.TheVariants as step
use Rattle.vm_types.specs.declared.types.AwaitResponse.{AwaitResponse}
use Rattle.vm_types.specs.declared.types.AwaitResponse.TheVariants.{AnyCompleted, CancelSignalReceived, EphemeralNotificationReady, ExecuteRun, WaitingExternalProgress}
use Rattle.vm_types.specs.declared.types.AwakeableHandle.{AwakeableHandle}
use Rattle.vm_types.specs.declared.values.Value.{Value}
use Rattle.vm_types.specs.Options.{ends_awaits, ignores_payloads, skips_replay}
use Rattle.vm_types.specs.Values.{value_of, id_of_value}
use Rattle.vm_runs.specs.declared.pending.PendingRun.{PendingRun}
use Rattle.vm_state.specs.declared.tracked_call.TrackedCall.{TrackedCall}
use Rattle.vm_state.specs.Counting.{missing_number, missing_signals, next_index}
use Rattle.vm_parts.specs.Deliveries.{id_at, present_result_for, taken_by}
use Rattle.vm_parts.specs.Ephemerals.{any_in_flight}
use Rattle.vm_parts.specs.Tracked.{id_of_result, invocation_ids, id_noted, unresolved_handles}
use Rattle.vm_asks.specs.declared.asks.Ask.{Ask}
use Rattle.vm_asks.specs.declared.asks.Ask.TheVariants as ask
use Rattle.vm_asks.specs.declared.asks.AnswerKind.{AnswerKind}
use Rattle.vm_asks.specs.declared.command.Command.{Command}
use Rattle.vm_asks.specs.declared.state_read.StateRead.{StateRead}
use Rattle.vm_asks.specs.Asks.{EachIs, any_refusal, ask_of, cancel_invocation_command, missing_for}
use Rattle.vm_asks.specs.Requests.{ids_of, name_of, shown_type, with_ids}
use Rattle.vm_asks.specs.StateReads.{eager_type, lazy_type, name_read, own_form, recorded_as, recorded_type, result_in, own_result}
use Rattle.vm_machine.specs.declared.machine.Machine.{Machine}
use Rattle.vm_machine.specs.declared.phase.Phase.{Phase}
use Rattle.vm_machine.specs.declared.phase.Phase.TheVariants.{WaitingStart, WaitingReplayEntries, Replaying, Processing, Closed}
use Rattle.vm_machine.specs.Commands.{CanBeRead, about_next, carried_out, commanded, commanded_unless, compared, command_if_counted, entered, handed_out, issued, knows_next, phase_after, popped, popped_from, prepared, replayed, runs_after, written}
use Rattle.vm_machine.specs.Inputs.{end_at, end_step}
use Rattle.vm_machine.specs.Outcomes.{CalledBy, DoesBy, Outcome, Done, Failed, ◌>>>◌, about_last, called, called_at, refused, settled}
use Rattle.vm_machine.specs.Phases.{is_processing, is_replaying, is_running, state_fault}
use Rattle.vm_machine.specs.Reads.{read_back as read_again, read_counted, read_numbered, read_popped, read_step, read_written, with_read_ready}
use Rattle.vm_machine.specs.Signals.{awakeable_counted, awakeable_step, signal_counted, signal_step}
use Rattle.vm_machine.specs.Several.{BehindFirst, MakesAll, MakesOne, answered_so, commanded_before, foreseen, foreseen_unless, numbers_left}
use Rattle.vm_machine.specs.Takes.{result_taken, take_step, taken_at, value_noted, value_taken}
use Rattle.vm_machine.proofs.Calling.{answers_first, called_from}
use Rattle.vm_awaits.specs.Awaits.{Awaits, AwaitsAt, AwaitsBy, Behind, AwaitCompletes, EndsBy, Gathers, ReadsId, StaysPending, Tries, next_id_known, is_cancelled, or_cancelled, pending_in_replay, pending_on, result_at, waits_by, waits_on, with_used}
use Rattle.vm_awaits.specs.Cancels.{AwaitsWhole, Cancels, FinishesIf, Onward, SendsCancel, sends_cancels}
use Rattle.vm_awaits.proofs.Cancelling.{read_known, woken_used}
use Rattle.invocation_vm.specs.Calls.{new_awakeable_step}
use Rattle.vm_attempt.specs.declared.progress.Reply.{Reply}
use Rattle.vm_attempt.specs.Steps.{AllCarried, IsReadable, Performs, PerformsBy, ReadsBack, mapped}

-- ---- the ids of pending runs

abbrev pub run_id : PendingRun → ℕ
run_id run = run.completion_id

abbrev pub run_ids : List PendingRun → List ℕ
run_ids runs = map run_id runs

-- the same runs are pending, executing or not
abbrev pub SameRuns : Machine → Machine → Type 0
SameRuns v w = run_ids w.runs ≡ run_ids v.runs

started_same : (any : List ℕ) (runs : List PendingRun) → run_ids (with_first (may_execute any) run_started runs) ≡ run_ids runs
started_same any [] = refl
started_same any (x ∷ runs) = by_test (may_execute any x) (started_same any runs)
  where
    by_test : (b : Bool) → run_ids (with_first (may_execute any) run_started runs) ≡ run_ids runs → run_ids (if b then run_started x ∷ runs else x ∷ with_first (may_execute any) run_started runs) ≡ run_id x ∷ run_ids runs
    by_test true same = refl
    by_test false same = ap (λ l. run_id x ∷ l) same

-- ---- events that are done

-- what an event leaves, where it is done
abbrev Leaves : {A : Type 0} → (Machine → Type 0) → Outcome A → Type 0
Leaves P (Done a w) = P w
Leaves P (Failed e w) = Unit {0}

settling : {A : Type 0} (P : Machine → Type 0) (o : Outcome A) → Leaves P o → Leaves P (settled o)
settling P (Done a w) h = h
settling P (Failed e w) h = tt

calling : {A : Type 0} (P : Machine → Type 0) (v : Machine) (o : Outcome A) → Leaves P o → Leaves P (called o v)
unfolding called
calling P v o h = by_failure v.failure
  where
    by_failure : (f : Option Error) → Leaves P (called_at f o v)
    by_failure None = settling P o h
    by_failure (Some e) = tt

mapping : {A B : Type 0} (P : Machine → Type 0) (f : A → B) (o : Outcome A) → Leaves P o → Leaves P (mapped f o)
mapping P f (Done a w) h = h
mapping P f (Failed e w) h = tt

-- ---- a command

-- the command was written, or the one that was popped is header-equal to it
abbrev pub IsCarriedOut : Message → Machine → Machine → Type 0
IsCarriedOut m v w =
    ((is_processing v.phase ≡ true) × (w.output ≡ v.output ++ encoding m ∷ []))
    ⊎ ((raw : RawMessage) × (rest : List RawMessage) × (recorded : Message) × (ignore : Bool) × (v.commands ≡ raw ∷ rest) × (message_in raw.ty raw.body ≡ Some recorded) × ((type_number raw.ty == type_number (type_of m)) ≡ true) × (header_equal recorded m ignore ≡ true))

-- the runs and the next completion id are these, and the command was carried out
abbrev Carried : Message → Machine → List PendingRun → ℕ → Machine → Type 0
Carried m v runs next w = (w.runs ≡ runs) × (w.counters.completion ≡ next) × IsCarriedOut m v w

module _ (v : Machine) (handle : NotificationHandle) (m : Message) (ignore : Bool) (u : Machine) (commands : u.commands ≡ v.commands) (phase : u.phase ≡ v.phase) (output : u.output ≡ v.output) where
  abbrev Answer : Outcome Unit → Type 0
  Answer o = Leaves (Carried m v u.runs u.counters.completion) (o >>> λ _ w. Done handle w)

  pops : (left : List RawMessage) → u.commands ≡ left → Answer (popped_from left (type_of m) u >>> λ raw w. compared m ignore (message_in raw.ty raw.body) w)
  pops [] is = tt
  pops (raw ∷ rest) is = by_type (type_number raw.ty == type_number (type_of m)) refl
    where
      w : Machine
      w = record u { commands = rest; phase = phase_after rest }

      by_equal : (recorded : Message) → message_in raw.ty raw.body ≡ Some recorded → (type_number raw.ty == type_number (type_of m)) ≡ true → (b : Bool) → header_equal recorded m ignore ≡ b → Answer (if b then Done (tt {0}) w else Failed (about_last fault.CommandMismatch w) w)
      by_equal recorded reads type true equal = (refl, refl, inr (raw, rest, recorded, ignore, sym commands ∙ is, reads, type, equal))
      by_equal recorded reads type false equal = tt

      by_read : (type_number raw.ty == type_number (type_of m)) ≡ true → (o : Option Message) → message_in raw.ty raw.body ≡ o → Answer (compared m ignore o w)
      by_read type None reads = tt
      by_read type (Some recorded) reads = by_equal recorded reads type (header_equal recorded m ignore) refl

      by_type : (b : Bool) → (type_number raw.ty == type_number (type_of m)) ≡ b → Answer ((if b then Done raw w else Failed (about_last fault.CommandTypeMismatch w) w) >>> λ raw w. compared m ignore (message_in raw.ty raw.body) w)
      by_type true type = by_read type (message_in raw.ty raw.body) refl
      by_type false type = tt

  replays : Answer (replayed m ignore u)
  unfolding replayed popped
  replays = pops u.commands refl

  carries : Answer (carried_out m ignore u)
  unfolding carried_out
  carries = by_test (is_processing u.phase) refl
    where
      by_test : (b : Bool) → is_processing u.phase ≡ b → Answer (if b then Done (tt {0}) (written m u) else replayed m ignore u)
      by_test true e = (refl, refl, inl (ap is_processing (sym phase) ∙ e, ap (λ l. l ++ encoding m ∷ []) output))
      by_test false e = replays

-- the pending runs after a call of this message
abbrev runs_behind : Message → Machine → List PendingRun
runs_behind m v = runs_after m (record { 0 = v.counters.handle }) v.counters.completion (next_index v.counters.command) (knows_next v) v.runs

-- a call with a command leaves its runs, and has carried out its command with its numbers
abbrev Commanded : Message → Machine → Machine → Type 0
Commanded m v w = Carried (with_ids v.counters.completion m) v (runs_behind m v) (v.counters.completion + ids_of m) w

counts : (o : Option NamedFault) (m : Message) (unstable : Bool) (v : Machine) → Leaves (Commanded m v) (command_if_counted o m unstable v)
counts (Some name) m unstable v = tt
counts None m unstable v = carries v (record { 0 = v.counters.handle }) (with_ids v.counters.completion m) (ignores_payloads v.options.non_determinism_checks unstable) (prepared m v) refl refl refl

issues : (m : Message) (unstable : Bool) (v : Machine) → Leaves (Commanded m v) (issued m unstable v)
unfolding issued
issues m unstable v = by_test (is_running v.phase)
  where
    by_test : (b : Bool) → Leaves (Commanded m v) (if b then command_if_counted (missing_number (ids_of m) 0 (ids_of m) v.counters) m unstable v else (let w = entered (shown_type m) (name_of m) v in Failed (about_last (state_fault v.phase) w) w))
    by_test true = counts (missing_number (ids_of m) 0 (ids_of m) v.counters) m unstable v
    by_test false = tt

commands : (refusal : Option NamedFault) (m : Message) (unstable : Bool) (v : Machine) → Leaves (Commanded m v) (commanded_unless refusal m unstable v)
commands (Some name) m unstable v = tt
commands None m unstable v = issues m unstable v

-- the command isn't a run's
abbrev pub IsNoRun : Message → Type 0
IsNoRun (message.Run c) = ⊥
IsNoRun m = Unit {0}

-- the command of a run
abbrev pub run_command : ℕ → List ℕ → Message
run_command id name = message.Run (record { result_completion_id = id; name = name })

-- one more run is pending, whose result isn't known, under the next completion id; its command was carried out
pub record IsCalled (v w : Machine) : Type 0 where
  pub name : List ℕ
  pub unknown : knows_next v ≡ false
  pub runs : run_ids w.runs ≡ run_ids v.runs ++ v.counters.completion ∷ []
  pub next : w.counters.completion ≡ v.counters.completion + 1
  pub whole : is_processing v.phase ≡ true → IsWhole (run_command v.counters.completion name)
  pub carried : IsCarriedOut (run_command v.counters.completion name) v w

-- what a call leaves of the pending runs
abbrev pub CallsRuns : Machine → Machine → Type 0
CallsRuns v w = SameRuns v w ⊎ IsCalled v w

no_run_same : (m : Message) (v w : Machine) → IsNoRun m → Commanded m v w → SameRuns v w
no_run_same (message.Run c) v w plain h = absurd plain
no_run_same m v w plain h = ap run_ids h.0

known_run : (c : RunCommand) (v w : Machine) → CanBeRead (message.Run c) v → (known : Bool) → knows_next v ≡ known → Carried (with_ids v.counters.completion (message.Run c)) v (runs_after (message.Run c) (record { 0 = v.counters.handle }) v.counters.completion (next_index v.counters.command) known v.runs) (v.counters.completion + 1) w → CallsRuns v w
known_run c v w readable true is h = inl (ap run_ids h.0)
known_run c v w readable false is h = inr (record { name = c.name; unknown = is; runs = ap run_ids h.0 ∙ map-append run_id v.runs _; next = h.1; whole = readable; carried = h.2 })

calls_runs : (m : Message) (v w : Machine) → CanBeRead m v → Commanded m v w → CallsRuns v w
calls_runs (message.Run c) v w readable h = known_run c v w readable (knows_next v) refl h
calls_runs m v w readable h = inl (ap run_ids h.0)

weaken : {A : Type 0} (P Q : Machine → Type 0) (o : Outcome A) → ((w : Machine) → P w → Q w) → Leaves P o → Leaves Q o
weaken P Q (Done a w) f h = f w h
weaken P Q (Failed e w) f h = tt

no_run : (refusal : Option NamedFault) (m : Message) (unstable : Bool) (v : Machine) → IsNoRun m → Leaves (SameRuns v) (commanded_unless refusal m unstable v)
no_run refusal m unstable v plain = weaken (Commanded m v) (SameRuns v) (commanded_unless refusal m unstable v) (λ w h. no_run_same m v w plain h) (commands refusal m unstable v)

-- ---- several commands

-- one, where all that is needed is looked for before
foreseen_same : (c : Command) (cs : List Command) (v : Machine) → IsNoRun c.message → Leaves (SameRuns v) (foreseen c cs v >>> λ _ w. commanded c w)
unfolding foreseen
foreseen_same c cs v plain = by_refusal (any_refusal c cs)
  where
    by_numbers : (o : Option NamedFault) → Leaves (SameRuns v) (numbers_left o c v >>> λ _ w. commanded c w)
    by_numbers (Some name) = tt
    by_numbers None = no_run c.refusal c.message c.unstable v plain

    by_running : (b : Bool) → Leaves (SameRuns v) ((if b then numbers_left (missing_for c cs v.counters) c v else (let w = entered (shown_type c.message) (name_of c.message) v in Failed (about_last (state_fault v.phase) w) w)) >>> λ _ w. commanded c w)
    by_running true = by_numbers (missing_for c cs v.counters)
    by_running false = tt

    by_refusal : (o : Option NamedFault) → Leaves (SameRuns v) (foreseen_unless o c cs v >>> λ _ w. commanded c w)
    by_refusal (Some name) = tt
    by_refusal None = by_running (is_running v.phase)

before_same : (c : Command) (cs : List Command) (v : Machine) → IsNoRun c.message → Leaves (SameRuns v) (commanded_before c cs v)
before_same c [] v plain = no_run c.refusal c.message c.unstable v plain
before_same c (b ∷ bs) v plain = foreseen_same c (b ∷ bs) v plain

one_same : (c : Command) (cs : List Command) (handle : NotificationHandle) (v w : Machine) → IsNoRun c.message → MakesOne c cs (Ok handle) v w → SameRuns v w
one_same c cs handle v w plain (does, readable) = subst (Leaves (SameRuns v)) does (calling (SameRuns v) v (commanded_before c cs v) (before_same c cs v plain))

all_same : (c : Command) (cs : List Command) (handle : NotificationHandle) (v w : Machine) → EachIs (λ x. IsNoRun x.message) c cs → MakesAll c cs (Ok handle) v w → SameRuns v w
all_same c [] handle v w plain made = one_same c [] handle v w plain made
all_same c (b ∷ bs) handle v w plain (first, mid, makes, on) = by_first (λ given made. all_same b bs given mid w plain.1 made) first makes on
  where
    by_given : ((given : NotificationHandle) → MakesAll b bs (Ok given) mid w → SameRuns mid w) → (given : Result NotificationHandle Error) (first : NotificationHandle) → MakesAll b bs given mid w → Ok handle ≡ answered_so first given → SameRuns mid w
    by_given more (Ok given) first made answered = more given made
    by_given more (Err e) first made answered = absurd (cc)

    by_first : ((given : NotificationHandle) → MakesAll b bs (Ok given) mid w → SameRuns mid w) → (first : Result NotificationHandle Error) → MakesOne c (b ∷ bs) first v mid → BehindFirst (MakesAll b bs) first (Ok handle) mid w → SameRuns v w
    by_first more (Ok one) makes (given, made, answered) = by_given more given one made answered ∙ one_same c (b ∷ bs) one v mid plain.0 makes
    by_first more (Err e) makes (answered, same) = absurd (cc)

-- ---- state reads

put_same : (id : ℕ) (o : Option NotificationResult) (v w : Machine) → SameRuns v w → SameRuns v (with_read_ready id o w)
put_same id None v w h = h
put_same id (Some result) v w h = h

reads_back : (handle id : ℕ) (o : Result (Option NotificationResult) NamedFault) (v w : Machine) → SameRuns v w → Leaves (SameRuns v) (read_again handle id o w)
reads_back handle id (Err name) v w s = tt
reads_back handle id (Ok o) v w s = put_same id o v w s

reads_popped : (r : StateRead) (handle id : ℕ) (left : List RawMessage) (v u : Machine) → SameRuns v u → Leaves (SameRuns v) (read_popped r handle id left u)
reads_popped r handle id [] v u s = tt
reads_popped r handle id (raw ∷ rest) v u s = reads_back handle id (recorded_as r id raw) v (record u { commands = rest; phase = phase_after rest; last_command = record { ty = recorded_type r raw; name = [] } }) s

reads_numbered : (r : StateRead) (v : Machine) → Leaves (SameRuns v) (read_numbered r v)
reads_numbered r v = by_test (is_processing v.phase)
  where
    next : ℕ
    next = v.counters.completion

    m : Message
    m = own_form r next v.state

    by_test : (b : Bool) → Leaves (SameRuns v) (if b then Done (record { 0 = v.counters.handle }) (read_written r next m v) else read_popped r v.counters.handle next v.commands (handed_out 1 (entered (eager_type r) [] v)))
    by_test true = put_same next (own_result (result_in m)) v (written m (handed_out 1 (entered (type_of m) (name_read r) v))) refl
    by_test false = reads_popped r v.counters.handle next v.commands v (handed_out 1 (entered (eager_type r) [] v)) refl

reads_counted : (o : Option NamedFault) (r : StateRead) (v : Machine) → Leaves (SameRuns v) (read_counted o r v)
reads_counted (Some name) r v = tt
reads_counted None r v = reads_numbered r v

state_reads : (r : StateRead) (v : Machine) → Leaves (SameRuns v) (read_step r v)
unfolding read_step
state_reads r v = by_test (is_running v.phase)
  where
    by_test : (b : Bool) → Leaves (SameRuns v) (if b then read_counted (missing_number 1 0 1 v.counters) r v else Failed (about_next (state_fault v.phase) (lazy_type r) [] v) v)
    by_test true = reads_counted (missing_number 1 0 1 v.counters) r v
    by_test false = tt

-- ---- calls without a command

awakeable_is : (o : Option NamedFault) (v : Machine) → Leaves (SameRuns v) (awakeable_counted o v)
awakeable_is (Some name) v = tt
awakeable_is None v = refl

awakeables : (v : Machine) → Leaves (SameRuns v) (awakeable_step v)
unfolding awakeable_step
awakeables v = by_test (is_running v.phase)
  where
    by_test : (b : Bool) → Leaves (SameRuns v) (if b then awakeable_counted (missing_signals 1 1 v.counters) v else refused (state_fault v.phase) v)
    by_test true = awakeable_is (missing_signals 1 1 v.counters) v
    by_test false = tt

new_awakeables : (b : Bool) (v : Machine) → Leaves (SameRuns v) (if b then refused {A = AwakeableHandle} fault.UnsupportedFeature v else awakeable_step v)
new_awakeables true v = tt
new_awakeables false v = awakeables v

signal_is : (o : Option NamedFault) (name : List ℕ) (v : Machine) → Leaves (SameRuns v) (signal_counted o name v)
signal_is (Some fault) name v = tt
signal_is None name v = refl

signals : (name : List ℕ) (v : Machine) → Leaves (SameRuns v) (signal_step name v)
unfolding signal_step
signals name v = by_test (is_running v.phase)
  where
    by_test : (b : Bool) → Leaves (SameRuns v) (if b then signal_counted (missing_signals 0 1 v.counters) name v else refused (state_fault v.phase) v)
    by_test true = signal_is (missing_signals 0 1 v.counters) name v
    by_test false = tt

noted_values : (value : Value) (tracked : Option (List TrackedCall)) (v u : Machine) → SameRuns v u → Leaves (SameRuns v) (value_noted value tracked u)
noted_values value None v u s = tt
noted_values value (Some tracked) v u s = s

values : (handle : ℕ) (o : Option Value) (v u : Machine) → SameRuns v u → Leaves (SameRuns v) (value_taken handle o u)
values handle None v u s = tt
values handle (Some value) v u s = noted_values value (id_noted handle (id_of_value value) u.tracked) v u s

results : (handle : ℕ) (o : Option NotificationResult) (v u : Machine) → SameRuns v u → Leaves (SameRuns v) (result_taken handle o u)
results handle None v u s = s
results handle (Some result) v u s = values handle (value_of result) v u s

takes : (handle : ℕ) (v : Machine) → Leaves (SameRuns v) (take_step handle v)
unfolding take_step
takes handle v = by_test (is_running v.phase)
  where
    by_test : (b : Bool) → Leaves (SameRuns v) (if b then taken_at handle (id_at handle v.results.handles) v else refused (state_fault v.phase) v)
    by_test true =
        let found = present_result_for v.options.signal_delivery (id_at handle v.results.handles) v.results.ready in
        results handle found v (record v { results = taken_by v.options.signal_delivery handle (id_at handle v.results.handles) found v.results }) refl
    by_test false = tt

ends : (ph : Phase) (v : Machine) → Leaves (SameRuns v) (end_at ph v)
ends WaitingStart v = tt
ends WaitingReplayEntries v = tt
ends Replaying v = tt
ends Processing v = refl
ends Closed v = refl

-- ---- awaits

module _ (left : Tree) (v u : Machine) (same : SameRuns v u) where
  waits_so : (closed in_flight executing : Bool) → Leaves (SameRuns v) (waits_by closed in_flight executing left u)
  waits_so false in_flight executing = same
  waits_so true true executing = tt
  waits_so true false true = same
  waits_so true false false = same

  runs_so : (run : Option PendingRun) (executing : Bool) → Leaves (SameRuns v) (waits_on run executing left u)
  runs_so (Some run) executing = started_same (handles_of left) u.runs ∙ same
  runs_so None executing = waits_so u.input_closed (any_in_flight u.ephemeral) executing

  pends : Leaves (SameRuns v) (pending_on left u)
  pends = by_tests (is_replaying u.phase) (find (may_execute (handles_of left)) u.runs) (list_any (is_executing_in (handles_of left)) u.runs)
    where
      by_tests : (replaying : Bool) (run : Option PendingRun) (executing : Bool) → Leaves (SameRuns v) (if replaying then pending_in_replay (handles_of left) u else waits_on run executing left u)
      by_tests true run executing = tt
      by_tests false run executing = runs_so run executing

tries : (t : Tree) (v : Machine) (x : Outcome (Result AwaitResponse Error)) → Tries t v x → Leaves (SameRuns v) x
tries t v x = ⊎_elim
    (λ (y : AwaitCompletes t v x). subst (Leaves (SameRuns v)) (sym y.2) refl)
    (λ (y : StaysPending t v x). subst (Leaves (SameRuns v)) (sym y.2) (pends y.0 v (with_used (length v.results.queued) v) refl))

woken_same : (t : Tree) (v w : Machine) → Tries t v (Done (Ok AnyCompleted) w) → SameRuns v w
woken_same t v w tries = ap (λ (x : Machine). run_ids x.runs) (woken_used t v w tries).1

read_same : (handle : ℕ) (v w : Machine) → ReadsId handle v (Done (Ok AnyCompleted) w) → SameRuns v w
read_same handle v w reads = ap (λ (x : Machine). run_ids x.runs) (read_known handle v w reads).2

-- what it comes to next
leaves_behind : (v w : Machine) (o : Outcome (Result AwaitResponse Error)) → SameRuns v w → Leaves (SameRuns w) o → Leaves (SameRuns v) o
leaves_behind v w (Done a x) k h = h ∙ k
leaves_behind v w (Failed e x) k h = tt

behind : (v : Machine) (Next : Machine → Outcome (Result AwaitResponse Error) → Type 0) (first o : Outcome (Result AwaitResponse Error)) → Leaves (SameRuns v) first
    → ((w : Machine) → first ≡ Done (Ok AnyCompleted) w → Next w o → Leaves (SameRuns v) o) → Behind Next first o → Leaves (SameRuns v) o
behind v Next (Done (Ok AnyCompleted) w) o h f on = f w refl on
behind v Next (Done (Ok CancelSignalReceived) w) o h f on = subst (Leaves (SameRuns v)) (sym on) h
behind v Next (Done (Ok (WaitingExternalProgress input run)) w) o h f on = subst (Leaves (SameRuns v)) (sym on) h
behind v Next (Done (Ok (ExecuteRun run)) w) o h f on = subst (Leaves (SameRuns v)) (sym on) h
behind v Next (Done (Ok (EphemeralNotificationReady id)) w) o h f on = subst (Leaves (SameRuns v)) (sym on) h
behind v Next (Done (Err e) w) o h f on = subst (Leaves (SameRuns v)) (sym on) h
behind v Next (Failed e w) o h f on = subst (Leaves (SameRuns v)) (sym on) h

id_reads : (id : Option (List ℕ)) (v : Machine) → Leaves (SameRuns v) (next_id_known id v)
id_reads None v = tt
id_reads (Some id) v = refl

reads_id : (handle : ℕ) (v : Machine) (o : Outcome (Result AwaitResponse Error)) → ReadsId handle v o → Leaves (SameRuns v) o
reads_id handle v o (first, tried, on) =
    behind v (λ w p. p ≡ next_id_known (option_and_then id_of_result (result_at handle w)) w) first o (tries (leaf handle) v first tried)
    (λ w is next. leaves_behind v w o (woken_same (leaf handle) v w (subst (Tries (leaf handle) v) is tried)) (subst (Leaves (SameRuns w)) (sym next) (id_reads (option_and_then id_of_result (result_at handle w)) w))) on

gathers : (handles : List ℕ) (v : Machine) (o : Outcome (Result AwaitResponse Error)) → Gathers handles v o → Leaves (SameRuns v) o
gathers [] v o comes = subst (Leaves (SameRuns v)) (sym comes) refl
gathers (handle ∷ handles) v o (first, reads, on) =
    behind v (Gathers handles) first o (reads_id handle v first reads)
    (λ w is next. leaves_behind v w o (read_same handle v w (subst (ReadsId handle v) is reads)) (gathers handles w o next)) on

ends_by : (b : Bool) (v : Machine) (o : Outcome (Result AwaitResponse Error)) → EndsBy b v o → Leaves (SameRuns v) o
ends_by true v o comes = gathers (unresolved_handles v.tracked) v o comes
ends_by false v o comes = subst (Leaves (SameRuns v)) (sym comes) refl

awaits_by : (b : Bool) (t : Tree) (v : Machine) (o : Outcome (Result AwaitResponse Error)) → AwaitsBy b t v o → Leaves (SameRuns v) o
awaits_by true t v o (first, tried, on) =
    behind v (λ w p. EndsBy (is_cancelled w) w p) first o (tries (or_cancelled t) v first tried)
    (λ w is next. leaves_behind v w o (woken_same (or_cancelled t) v w (subst (Tries (or_cancelled t) v) is tried)) (ends_by (is_cancelled w) w o next)) on
awaits_by false t v o comes = tries t v o comes

awaits : (t : Tree) (v : Machine) (x : Outcome (Result AwaitResponse Error)) → Awaits t v x → Leaves (SameRuns v) x
awaits t v x comes = by_test (is_running v.phase) comes
  where
    by_test : (b : Bool) → AwaitsAt b t v x → Leaves (SameRuns v) x
    by_test true comes = awaits_by (ends_awaits v.options.implicit_cancellation) t v x comes
    by_test false is = subst (Leaves (SameRuns v)) (sym is) tt

-- ---- cancelled awaits

sends_cancel : (id : List ℕ) (handle : NotificationHandle) (v w : Machine) → SendsCancel id (Ok handle) v w → SameRuns v w
sends_cancel id handle v w (does, readable) = subst (Leaves (SameRuns v)) does (calling (SameRuns v) v (commanded (cancel_invocation_command id) v) (no_run None (cancel_invocation_command id).message false v tt))

cancels : (ids : List (List ℕ)) (a : Result AwaitResponse Error) (v w : Machine) → Cancels ids (Ok a) v w → SameRuns v w
cancels [] a v w (answered, machine) = ap (λ (x : Machine). run_ids x.runs) machine
cancels (id ∷ ids) a v w (sent, mid, sends, on) = by_sent sent sends (cancels ids a mid w) on
  where
    by_sent : (sent : Result NotificationHandle Error) → SendsCancel id sent v mid → (Cancels ids (Ok a) mid w → SameRuns mid w) → Onward (Cancels ids) sent (Ok a) mid w → SameRuns v w
    by_sent (Ok handle) sends more on = more on ∙ sends_cancel id handle v mid sends
    by_sent (Err e) sends more on = absurd (let z : Ok a ≡ Err e = on.0 in cc)

-- the first part of an await
first_part : (t : Tree) (v : Machine) (a : Result AwaitResponse Error) (mid : Machine) → DoesBy (CalledBy (Awaits t v) v) (Ok a) v mid → SameRuns v mid
first_part t v a mid does = let from = called_from (Awaits t v) v (Done a mid) does in by_failure from.0 from.1 from.2 v.failure refl
  where
    by_failure : (event : Outcome (Result AwaitResponse Error)) → (v.failure ≡ None → Awaits t v event) → Done a mid ≡ called event v → (f : Option Error) → v.failure ≡ f → SameRuns v mid
    by_failure event comes is None live = subst (Leaves (SameRuns v)) (sym is) (calling (SameRuns v) v event (awaits t v event (comes live)))
    by_failure event comes is (Some e) dead = subst (Leaves (SameRuns v)) (sym (is ∙ answers_first event e v dead)) tt

-- the whole call
await_whole : (t : Tree) (v : Machine) (a : Result AwaitResponse Error) (w : Machine) → AwaitsWhole t (Ok a) v w → SameRuns v w
await_whole t v a w (first, mid, does, fin) = by_first first does fin
  where
    same_so : (b : Result AwaitResponse Error) → DoesBy (CalledBy (Awaits t v) v) (Ok b) v mid → w ≡ mid → SameRuns v w
    same_so b does is = ap (λ (x : Machine). run_ids x.runs) is ∙ first_part t v b mid does

    by_first : (first : Result (Result AwaitResponse Error) Error) → DoesBy (CalledBy (Awaits t v) v) first v mid → FinishesIf (sends_cancels first) first (Ok a) mid w → SameRuns v w
    by_first (Ok (Ok AnyCompleted)) does on = same_so (Ok AnyCompleted) does on.1
    by_first (Ok (Ok (WaitingExternalProgress input run))) does on = same_so (Ok (WaitingExternalProgress input run)) does on.1
    by_first (Ok (Ok (ExecuteRun run))) does on = same_so (Ok (ExecuteRun run)) does on.1
    by_first (Ok (Ok (EphemeralNotificationReady id))) does on = same_so (Ok (EphemeralNotificationReady id)) does on.1
    by_first (Ok (Err e)) does on = same_so (Err e) does on.1
    by_first (Ok (Ok CancelSignalReceived)) does on = cancels (invocation_ids mid.tracked) a (record mid { tracked = [] }) w on ∙ first_part t v (Ok CancelSignalReceived) mid does
    by_first (Err e) does on = absurd (let z : Ok a ≡ Err e = on.0 in cc)

-- ---- a step

-- no command of several is a run's
abbrev NoRunAmong : Ask → Type 0
NoRunAmong (ask.Commands kind first second) = EachIs (λ c. IsNoRun c.message) first (second ∷ [])
NoRunAmong a = Unit {0}

no_run_among : (version : Version) (s : Step) → NoRunAmong (ask_of version s)
no_run_among version (step.CallWithDeadline target input time name options) = (tt, tt)
no_run_among version s = tt

mapped_same : {A B : Type 0} (f : A → B) (v : Machine) (o : Outcome A) (given : B) (w : Machine) → Done given w ≡ mapped f (called o v) → Leaves (SameRuns v) o → SameRuns v w
mapped_same f v o given w does h = subst (Leaves (SameRuns v)) (sym does) (mapping (SameRuns v) f (called o v) (calling (SameRuns v) v o h))

several_same : (kind : AnswerKind) (c : Command) (cs : List Command) (v : Machine) (given : Reply) (w : Machine) → EachIs (λ x. IsNoRun x.message) c cs → AllCarried kind c cs v (Done given w) → SameRuns v w
several_same kind c cs v given w plain (handle, made, replied) = all_same c cs handle v w plain made

asked_runs : (a : Ask) (v : Machine) (given : Reply) (w : Machine) → NoRunAmong a → IsReadable a v → PerformsBy a v (Done given w) → CallsRuns v w
asked_runs (ask.Command c) v given w plain readable does =
    subst (Leaves (CallsRuns v)) (sym does)
    (mapping (CallsRuns v) _ (called (commanded c v) v) (calling (CallsRuns v) v (commanded c v) (weaken (Commanded c.message v) (CallsRuns v) (commanded c v) (λ w h. calls_runs c.message v w readable h) (commands c.refusal c.message c.unstable v))))
asked_runs (ask.Commands kind first second) v given w plain readable does = inl (several_same kind first (second ∷ []) v given w plain does)
asked_runs ask.Awakeable v given w plain readable does = inl (mapped_same _ v (new_awakeable_step v) given w does (new_awakeables (skips_replay v.options.journal_replay) v))
asked_runs (ask.Read r) v given w plain readable does = inl (mapped_same _ v (read_step r v) given w does (state_reads r v))
asked_runs (ask.Signal name) v given w plain readable does = inl (mapped_same _ v (signal_step name v) given w does (signals name v))
asked_runs (ask.Await future) v given w plain readable (a, whole, replied) = inl (await_whole (tree_of future) v a w whole)
asked_runs (ask.Take handle) v given w plain readable does = inl (mapped_same _ v (take_step handle.0 v) given w does (takes handle.0 v))
asked_runs (ask.Completed handle) v given w plain readable does = inl (subst (Leaves (SameRuns v)) (sym does) refl)
asked_runs ask.End v given w plain readable does = inl (mapped_same _ v (end_step v) given w does (ends v.phase v))

-- what a step that is answered leaves of the pending runs
pub step_runs : (st : Step) (v : Machine) (given : Reply) (w : Machine) → ReadsBack st v → Performs st v (Done given w) → CallsRuns v w
step_runs st v given w readable does = asked_runs (ask_of v.version st) v given w (no_run_among v.version st) readable does
