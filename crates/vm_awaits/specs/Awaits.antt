-- Awaits of trees: notifications are used in order of arrival until the tree is awake. Where the
-- cancel signal ends awaits, one that it ends first reads the ids of the invocations that are
-- cancelled with the handler's.
use Rattle.std.specs.Prelude.{◌≡◌, ◌⊎◌, MatchBool, ℕ, Bool, true, false, not, ◌&&◌, if◌then◌else◌, List, [], ◌∷◌, ◌++◌, length, map, Option, Some, None, is_some, find, Result, Ok, Err}
use Rattle.std.specs.List.{list_any}
use Rattle.std.specs.Option.{option_and_then, option_map, option_or}
use Rattle.await_trees.specs.Handles.{handles_of, has_leaf}
use Rattle.await_trees.specs.Tree.{Tree, leaf, node, none, more}
use Rattle.await_trees.specs.Wires.{sent}
use Rattle.await_tries.specs.Await.{LeastAwake, LeftPending}
use Rattle.await_tries.specs.Message.{ids}
use Rattle.await_tries.specs.Used.{used}
use Rattle.journal_protocol.specs.Future.{Future}
use Rattle.journal_protocol.specs.FutureKind.TheVariants.{FirstCompleted}
use Rattle.journal_protocol.specs.Error.{Error}
use Rattle.journal_protocol.specs.NamedFault.TheVariants as fault
use Rattle.journal_protocol.specs.Version.{Version}
use Rattle.journal_protocol.specs.Errors.{named_error}
use Rattle.journal_protocol.specs.Message.{Message}
use Rattle.journal_protocol.specs.Message.TheVariants as message
use Rattle.journal_protocol.specs.Frames.{encoding}
use Rattle.journal_protocol.specs.NotificationId.{NotificationId}
use Rattle.journal_protocol.specs.NotificationId.TheVariants.{CompletionId, SignalId, SignalName}
use Rattle.journal_protocol.specs.NotificationResult.{NotificationResult}
use Rattle.vm_runs.specs.Firsts.{with_first}
use Rattle.vm_runs.specs.Pending.{handle_of, has_handle, is_executing, is_executing_in, may_execute, run_started}
use Rattle.vm_runs.specs.Settling.{run_as_related}
use Rattle.vm_types.specs.declared.options.AwaitingOnPolicy.{AwaitingOnPolicy}
use Rattle.vm_types.specs.declared.options.AwaitingOnPolicy.TheVariants as policy
use Rattle.vm_runs.specs.declared.pending.PendingRun.{PendingRun}
use Rattle.vm_types.specs.declared.types.AwaitResponse.{AwaitResponse}
use Rattle.vm_types.specs.declared.types.AwaitResponse.TheVariants.{AnyCompleted, CancelSignalReceived, EphemeralNotificationReady, ExecuteRun, WaitingExternalProgress}
use Rattle.vm_parts.specs.Deliveries.{id_at, present_result_for}
use Rattle.vm_parts.specs.Ephemerals.{any_in_flight}
use Rattle.vm_types.specs.Options.{ends_awaits}
use Rattle.vm_parts.specs.Tracked.{id_of_result, unresolved_handles, with_next_id}
use Rattle.vm_machine.specs.declared.machine.Machine.{Machine}
use Rattle.vm_machine.specs.declared.phase.Phase.TheVariants.{Closed}
use Rattle.vm_machine.specs.Outcomes.{Outcome, Done, Failed, refused}
use Rattle.vm_machine.specs.Proposals.{run_at}
use Rattle.vm_machine.specs.Phases.{is_running, is_replaying, state_fault}
use Rattle.journal_protocol.specs.Versions.{is_from_v7}

-- the first n notifications that wait are used
abbrev pub with_used : ℕ → Machine → Machine
with_used n v = record v { results = used v.results n }

-- the invocation is suspended
abbrev pub suspended : Future → Machine → Machine
suspended future v =
    record v {
      output = v.output ++ encoding (message.Suspension (record { future = future })) ∷ [];
      output_ended = true;
      phase = Closed;
    }

-- By this policy an await that waits may say what for, by whether any run is executing.
abbrev pub allows : AwaitingOnPolicy → Bool → Bool
allows policy.SendAlways executing = true
allows policy.DontSendWhenExecutingRun executing = not executing
allows policy.DontSend executing = false

-- An await that waits says what for: from version 7 on, where the policy allows it and what is left
-- of the tree has a leaf.
abbrev pub says_so : Version → AwaitingOnPolicy → Bool → Tree → Bool
says_so version policy executing left =
    is_from_v7 version && (allows policy executing && has_leaf left)

-- what it then says: what is left of the tree, by the ids that its handles stand for
abbrev pub said_waiting : Version → AwaitingOnPolicy → Bool → (ℕ → Option NotificationId) → Tree
    → List Message
said_waiting version policy executing id left =
    if says_so version policy executing left
    then message.AwaitingOn (record { future = sent id left; executing_side_effects = false }) ∷
    [] else []

-- an await has said that it waits for a tree, by the ids that its handles stand for
abbrev pub awaiting_said : Tree → Machine → Machine
awaiting_said left v =
    record v {
      output = v.output
          ++ encoding (message.AwaitingOn
          (record { future = sent (ids v.results) left; executing_side_effects = false })) ∷ [];
    }

-- the signal that an id is by number
abbrev pub signal_in : Option NotificationId → Option ℕ
signal_in None = None
signal_in (Some (CompletionId id)) = None
signal_in (Some (SignalId id)) = Some id
signal_in (Some (SignalName name)) = None

-- it waits, and has said what for where it says so
abbrev pub waiting : Tree → Machine → Machine
waiting left v =
    record v {
      output = v.output
          ++ map encoding (said_waiting v.version v.options.awaiting_on_policy
          (list_any is_executing v.runs) (ids v.results) left);
    }

-- ---- runs that are awaited

-- the run of the last of these handles that has one
abbrev pub last_run : List ℕ → Machine → Option PendingRun
last_run [] v = None
last_run (handle ∷ handles) v = option_or (last_run handles v) (run_at handle v)

-- an await that is pending in replay is refused, and relates to the command of the last run that it
-- waits for
abbrev pub pending_in_replay : List ℕ → Machine → Outcome (Result AwaitResponse Error)
pending_in_replay handles v = Failed
    (named_error fault.UncompletedDoProgressDuringReplay
    (option_map run_as_related (last_run handles v))) v

-- the first of the runs with these handles that isn't executing is executed from now on
abbrev pub executed : List ℕ → Machine → Machine
executed handles v = record v { runs = with_first (may_execute handles) run_started v.runs }

-- An await waits for input and for the results of runs, by whether the input is closed, whether an
-- ephemeral read is in flight, and whether a run that it waits for is executing. With closed input
-- no ephemeral read may be in flight; if no run's result can come either, the invocation is
-- suspended.
abbrev pub waits_by : Bool → Bool → Bool → Tree → Machine → Outcome (Result AwaitResponse Error)
waits_by false in_flight executing left v =
    Done (Ok (WaitingExternalProgress true executing)) (waiting left v)
waits_by true true executing left v = refused fault.InputClosedWhileWaitingEphemeralNotifications v
waits_by true false true left v = Done (Ok (WaitingExternalProgress false true)) v
waits_by true false false left v =
    Done (Err (named_error fault.Suspended None)) (suspended (sent (ids v.results) left) v)

-- An await that stays pending in Processing: a run that it waits for is executed first, where there
-- is one that isn't executing.
abbrev pub waits_on : Option PendingRun → Bool → Tree → Machine
    → Outcome (Result AwaitResponse Error)
waits_on (Some run) executing left v = Done (Ok (ExecuteRun (handle_of run)))
    (executed (handles_of left) v)
waits_on None executing left v =
    waits_by v.input_closed (any_in_flight v.ephemeral) executing left v

-- an await that stays pending, by what is left of its tree
abbrev pub pending_on : Tree → Machine → Outcome (Result AwaitResponse Error)
pending_on left v =
    if is_replaying v.phase then pending_in_replay (handles_of left) v
    else waits_on (find (may_execute (handles_of left)) v.runs)
    (list_any (is_executing_in (handles_of left)) v.runs) left v

-- The await ends: as many notifications are used as wake the tree, and no fewer would.
abbrev pub AwaitCompletes : Tree → Machine → Outcome (Result AwaitResponse Error) → Type 0
AwaitCompletes t v o = (n : ℕ) × LeastAwake v.options.signal_delivery v.results t n
    × (o ≡ Done (Ok AnyCompleted) (with_used n v))

-- The await stays pending: no number of the notifications wakes the tree, all are used, and what is
-- left of it is waited for.
abbrev pub StaysPending : Tree → Machine → Outcome (Result AwaitResponse Error) → Type 0
StaysPending t v o =
    (left : Tree) × LeftPending v.options.signal_delivery v.results t left
    × (o ≡ pending_on left (with_used (length v.results.queued) v))

-- the possible outcomes of an await of a tree by the notifications alone
abbrev pub Tries : Tree → Machine → Outcome (Result AwaitResponse Error) → Type 0
Tries t v o = AwaitCompletes t v o ⊎ StaysPending t v o

-- ---- the cancel signal

-- the first of none, which never ends
abbrev pub is_first_of_none : Tree → Bool
is_first_of_none (node FirstCompleted none) = true
is_first_of_none t = false

-- a tree that the cancel signal ends too: the first of both, or the cancel signal alone
abbrev pub or_cancelled : Tree → Tree
or_cancelled t = if is_first_of_none t then node FirstCompleted (more (leaf 1) none)
    else node FirstCompleted (more t (more (leaf 1) none))

-- the present result of a handle
abbrev pub result_at : ℕ → Machine → Option NotificationResult
result_at handle v =
    present_result_for v.options.signal_delivery (id_at handle v.results.handles) v.results.ready

-- the cancel signal is there
abbrev pub is_cancelled : Machine → Bool
is_cancelled v = is_some (result_at 1 v)

-- an await has woken
abbrev pub has_woken : Result AwaitResponse Error → Bool
has_woken (Ok AnyCompleted) = true
has_woken (Ok CancelSignalReceived) = false
has_woken (Ok (ExecuteRun handle)) = false
has_woken (Ok (WaitingExternalProgress input run)) = false
has_woken (Ok (EphemeralNotificationReady id)) = false
has_woken (Err e) = false

-- `Next` follows an await that has woken; each other outcome stays
abbrev pub Behind : (Machine → Outcome (Result AwaitResponse Error) → Type 0)
    → Outcome (Result AwaitResponse Error) → Outcome (Result AwaitResponse Error) → Type 0
Behind Next (Done answer w) o = MatchBool (has_woken answer) (Next w o) (o ≡ Done answer w)
Behind Next (Failed e w) o = o ≡ Failed e w

-- The first id of a tracked call that isn't known is known now: the result has to be one.
abbrev pub next_id_known : Option (List ℕ) → Machine → Outcome (Result AwaitResponse Error)
next_id_known None v = refused fault.UnexpectedInvocationIdResult v
next_id_known (Some id) v = Done (Ok AnyCompleted)
    (record v { tracked = with_next_id id v.tracked })

-- the handle of the first tracked call whose id isn't known is awaited by itself, and the id is
-- read
abbrev pub ReadsId : ℕ → Machine → Outcome (Result AwaitResponse Error) → Type 0
ReadsId handle v o =
    (first : Outcome (Result AwaitResponse Error)) × Tries (leaf handle) v first
    × Behind (λ w p. p ≡ next_id_known (option_and_then id_of_result (result_at handle w)) w) first
    o

-- So it is done with each of these handles, in order; then all ids are known.
abbrev pub Gathers : List ℕ → Machine → Outcome (Result AwaitResponse Error) → Type 0
Gathers [] v o = o ≡ Done (Ok CancelSignalReceived) v
Gathers (handle ∷ handles) v o = (first : Outcome (Result AwaitResponse Error))
    × ReadsId handle v first × Behind (Gathers handles) first o

-- an await that has woken, by whether the cancel signal is there
abbrev pub EndsBy : Bool → Machine → Outcome (Result AwaitResponse Error) → Type 0
EndsBy true v o = Gathers (unresolved_handles v.tracked) v o
EndsBy false v o = o ≡ Done (Ok AnyCompleted) v

-- a tree is awaited, or the cancel signal
abbrev pub TriesOrCancels : Tree → Machine → Outcome (Result AwaitResponse Error) → Type 0
TriesOrCancels t v o =
    (first : Outcome (Result AwaitResponse Error)) × Tries (or_cancelled t) v first
    × Behind (λ w p. EndsBy (is_cancelled w) w p) first o

-- ---- the outcome of an await

-- by whether the cancel signal ends awaits
abbrev pub AwaitsBy : Bool → Tree → Machine → Outcome (Result AwaitResponse Error) → Type 0
AwaitsBy true t v o = TriesOrCancels t v o
AwaitsBy false t v o = Tries t v o

-- by whether the handler may run
abbrev pub AwaitsAt : Bool → Tree → Machine → Outcome (Result AwaitResponse Error) → Type 0
AwaitsAt true t v o = AwaitsBy (ends_awaits v.options.implicit_cancellation) t v o
AwaitsAt false t v o = o ≡ refused (state_fault v.phase) v

-- the possible outcomes of an await of a tree
abbrev pub Awaits : Tree → Machine → Outcome (Result AwaitResponse Error) → Type 0
Awaits t v o = AwaitsAt (is_running v.phase) t v o
