-- What comes of each step of a handler, from what is known so far: one row a kind of what steps ask
-- for.
use Rattle.std.specs.Prelude.{ℕ, zero, suc, ◌+◌, ◌==◌, Bool, true, false, ◌&&◌, cond, List, [], ◌∷◌, ◌++◌, Option, Some, None, is_some}
use Rattle.journal_protocol.specs.NamedFault.{NamedFault}
use Rattle.journal_protocol.specs.NamedFault.TheVariants as fault
use Rattle.journal_protocol.specs.Message.{Message}
use Rattle.journal_protocol.specs.Notification.{Notification}
use Rattle.journal_protocol.specs.NotificationId.{NotificationId}
use Rattle.journal_protocol.specs.NotificationId.TheVariants.{SignalId, SignalName}
use Rattle.journal_protocol.specs.NotificationResult.{NotificationResult}
use Rattle.journal_protocol.specs.Version.{Version}
use Rattle.std.specs.Option.{option_or}
use Rattle.vm_parts.specs.declared.async_results.Mapping.{Mapping}
use Rattle.vm_state.specs.declared.counters.Counters.{Counters}
use Rattle.vm_parts.specs.declared.context.StartInfo.{StartInfo}
use Rattle.journal_protocol.specs.SignalDelivery.{SignalDelivery}
use Rattle.vm_types.specs.declared.options.VMOptions.{VMOptions}
use Rattle.vm_types.specs.declared.steps.Answer.{Answer}
use Rattle.vm_types.specs.declared.steps.Answer.TheVariants as answer
use Rattle.vm_types.specs.declared.steps.Step.{Step}
use Rattle.await_trees.specs.declared.handle.NotificationHandle.{NotificationHandle}
use Rattle.await_trees.specs.declared.tree.UnresolvedFuture.{UnresolvedFuture}
use Rattle.await_trees.specs.declared.outcome.Outcome.{Outcome}
use Rattle.await_trees.specs.Outcomes.{awake}
use Rattle.await_trees.specs.Tree.{Tree, tree_of}
use Rattle.await_tries.specs.Leaves.{result_outcome}
use Rattle.vm_types.specs.declared.values.Value.{Value}
use Rattle.vm_parts.specs.Arrived.{Ready}
use Rattle.vm_state.specs.Counting.{missing_number, missing_signals, next_index, given_on}
use Rattle.vm_parts.specs.Deliveries.{has_result_for, id_at, left_ready, none_ready, present_result_for, unmapped, with_delivered, with_eager}
use Rattle.vm_state.specs.declared.tracked_call.TrackedCall.{TrackedCall}
use Rattle.vm_types.specs.Options.{ends_awaits, ignores_payloads, skips_replay}
use Rattle.vm_parts.specs.Tracked.{id_of_result, invocation_ids, id_noted, unresolved_handles, with_next_id, without_first_call}
use Rattle.vm_types.specs.Values.{id_of_value, value_of}
use Rattle.vm_asks.specs.declared.asks.Ask.{Ask}
use Rattle.vm_asks.specs.declared.asks.Ask.TheVariants as ask
use Rattle.vm_asks.specs.declared.asks.AnswerKind.{AnswerKind}
use Rattle.vm_asks.specs.declared.command.Command.{Command}
use Rattle.vm_asks.specs.declared.state_read.StateRead.{StateRead}
use Rattle.vm_asks.specs.Asks.{answer_by, any_refusal, ask_of, cancel_invocation_command, command_answer, missing_for}
use Rattle.vm_parts.specs.Mappings.{mapped_from}
use Rattle.vm_asks.specs.Requests.{ids_of, tracked_after, with_ids}
use Rattle.vm_asks.specs.Awakeables.{awakeable_id}

-- What stays the same over all attempts of an invocation, as a handler is given it with its input.
pub record Identity : Type 0 where
  pub id : List ℕ
  pub debug_id : List ℕ
  pub key : List ℕ
  pub random_seed : ℕ
  pub scope : Option (List ℕ)
  pub limit_key : Option (List ℕ)
  pub idempotency_key : Option (List ℕ)

-- the part of Start that stays the same
abbrev pub identity_of : StartInfo → Identity
identity_of s = record {
  id = s.id;
  debug_id = s.debug_id;
  key = s.key;
  random_seed = s.random_seed;
  scope = s.scope;
  limit_key = s.limit_key;
  idempotency_key = s.idempotency_key;
}

-- what a run is made with
pub record Setup : Type 0 where
  pub version : Version
  pub options : VMOptions
  pub identity : Identity

-- a handler, as the step that it gives after these answers
abbrev pub Meaning : Type 0
Meaning = List Answer → Step

-- ---- what follows from the steps and answers so far

-- an arrival was used by an await, an eager read gave a completion id its result, or the present
-- result of an id was taken
pub data Usage : Type 0 where
  Used : Notification → Usage
  Read : ℕ → NotificationResult → Usage
  Taken : NotificationId → Usage

-- The next numbers, the id that each handle stands for, what was used and taken, the newest first,
-- the calls whose invocations are cancelled with the handler's, and how many commands were made of
-- a call that has several and isn't answered yet.
pub record Derived : Type 0 where
  pub counters : Counters
  pub handles : List Mapping
  pub usage : List Usage
  pub tracked : List TrackedCall
  pub parts : ℕ

-- the results that are ready: those that were used or read, and not taken
abbrev pub ready_by_usage : SignalDelivery → List Usage → Ready
ready_by_usage delivery [] = none_ready
ready_by_usage delivery (Used n ∷ us) = with_delivered n (ready_by_usage delivery us)
ready_by_usage delivery (Read id result ∷ us) = with_eager id result (ready_by_usage delivery us)
ready_by_usage delivery (Taken id ∷ us) = left_ready delivery id (ready_by_usage delivery us)

-- the results that are ready at this point
abbrev pub ready_in : Setup → Derived → Ready
ready_in s d = ready_by_usage s.options.signal_delivery d.usage

-- whether a handle has a result
abbrev pub has_result_in : Setup → NotificationHandle → Derived → Bool
has_result_in s handle d = has_result_for (id_at handle.0 d.handles) (ready_in s d)

-- a leaf's outcome: by the present result of its handle's id
abbrev pub leaf_in : Setup → Derived → ℕ → Outcome
leaf_in s d h =
    result_outcome (present_result_for s.options.signal_delivery (id_at h d.handles) (ready_in s d))

-- whether a tree wakes
abbrev pub tree_wakes : Setup → Tree → Derived → Bool
tree_wakes s t d = awake (leaf_in s d) t

-- whether a future wakes
abbrev pub is_awake : Setup → UnresolvedFuture → Derived → Bool
is_awake s future d = tree_wakes s (tree_of future) d

-- ---- what a step asks for

-- what a call needs: this command, and whether its payload may differ from the recorded one's; or a
-- state read with this completion id
pub data Demand : Type 0 where
  Exactly : Message → Bool → Demand
  Reads : StateRead → ℕ → Demand

-- What comes next: an answer with nothing used; an answer once the next command is what is needed;
-- one more arrival is used; or nothing, since the handler ends or its call is refused for this
-- reason: an argument or version check, a kind of number that ran out, a state key that is no text.
pub data Move : Type 0 where
  Answers : List Answer → Derived → Move
  Needs : Demand → List Answer → Derived → Move
  Awaits : Move
  Ends : Move
  Refuses : NamedFault → Move

-- ---- calls with a command

-- after a command: it is counted, and this number of completion ids is given, with a handle for
-- each
abbrev pub counted : ℕ → Derived → Derived
counted ids d = record d {
  counters = given_on ids (record d.counters { command = Some (next_index d.counters.command) });
  handles = d.handles ++ mapped_from ids d.counters.handle d.counters.completion;
}

-- the command of a call, by the next numbers
abbrev pub demand_of : Setup → Command → Derived → Demand
demand_of s c d = Exactly (with_ids d.counters.completion c.message)
    (ignores_payloads s.options.non_determinism_checks c.unstable)

-- a command is answered by its first handles
abbrev pub answer_of : Command → Derived → Answer
answer_of c d = command_answer c.message (record { 0 = d.counters.handle })

-- after a command: it is counted and given its numbers, and tracked if its invocation is cancelled
-- with the handler's
abbrev pub behind_command : Setup → Command → Derived → Derived
behind_command s c d = record (counted (ids_of c.message) d) {
  tracked = tracked_after s.options.implicit_cancellation c.message d.counters.handle d.tracked;
}

-- a call with a command, by the first kind of number that is missing
abbrev pub numbered : Setup → Command → Option NamedFault → Derived → Move
numbered s c (Some name) d = Refuses name
numbered s c None d = Needs (demand_of s c d) (answer_of c d ∷ []) (behind_command s c d)

-- a call with a command, where its numbers are left
abbrev pub requested : Setup → Command → Derived → Move
requested s c d = numbered s c (missing_number (ids_of c.message) 0 (ids_of c.message) d.counters) d

-- a call with a command, unless its arguments refuse it
abbrev pub commanding : Setup → Command → Option NamedFault → Derived → Move
commanding s c (Some name) d = Refuses name
commanding s c None d = requested s c d

-- ---- calls with several commands

-- Why a command isn't made, if these commands follow it and these numbers are next: the first
-- reason that there is for all of them, of arguments and then of numbers, and then its own.
abbrev pub refused_before : Command → List Command → Counters → Option NamedFault
refused_before c [] k = option_or c.refusal
    (missing_number (ids_of c.message) 0 (ids_of c.message) k)
refused_before c (b ∷ bs) k = option_or
    (option_or (any_refusal c (b ∷ bs)) (missing_for c (b ∷ bs) k))
    (option_or c.refusal (missing_number (ids_of c.message) 0 (ids_of c.message) k))

-- A call with several commands, partly made: the command that comes next, the commands after it,
-- and what is known once those before it are made.
pub record Turn : Type 0 where
  pub command : Command
  pub behind : List Command
  pub before : Derived

-- the call once this number of its commands is made; the last command stays
abbrev pub turn_after : Setup → ℕ → Command → List Command → Derived → Turn
turn_after s zero c behind d = record { command = c; behind = behind; before = d }
turn_after s (suc n) c [] d = record { command = c; behind = []; before = d }
turn_after s (suc n) c (b ∷ bs) d = turn_after s n b bs (behind_command s c d)

-- A command of such a call is needed. With the last the call is answered, and so the numbers of all
-- are given; before, one part more of it is made, and nothing else.
abbrev pub part : Setup → AnswerKind → Command → List Command → Derived → Derived → Move
part s kind c [] before d = Needs (demand_of s c before)
    (answer_by kind (record { 0 = d.counters.handle }) ∷ [])
    (record (behind_command s c before) { parts = 0 })
part s kind c (b ∷ bs) before d = Needs (demand_of s c before) [] (record d { parts = suc d.parts })

-- the same, unless it is refused
abbrev pub part_unless : Option NamedFault → Setup → AnswerKind → Turn → Derived → Move
part_unless (Some name) s kind t d = Refuses name
part_unless None s kind t d = part s kind t.command t.behind t.before d

-- the next command of such a call
abbrev pub turn_taken : Setup → AnswerKind → Turn → Derived → Move
turn_taken s kind t d = part_unless (refused_before t.command t.behind t.before.counters) s kind t d

-- a call with several commands
abbrev pub calling : Setup → AnswerKind → Command → List Command → Derived → Move
calling s kind c behind d = turn_taken s kind (turn_after s d.parts c behind d) d

-- ---- state reads

-- a state read, by the first kind of number that is missing
abbrev pub reading : StateRead → Option NamedFault → Derived → Move
reading r (Some name) d = Refuses name
reading r None d = Needs (Reads r d.counters.completion)
    (answer.Handle (record { 0 = d.counters.handle }) ∷ []) (counted 1 d)

-- ---- calls without a command

-- the next handle stands for the next signal id
abbrev pub awakeable_made : Setup → Option NamedFault → Derived → Move
awakeable_made s (Some name) d = Refuses name
awakeable_made s None d =
    Answers (answer.Awakeable
    (record {
      id = awakeable_id s.identity.id d.counters.signal;
      handle = record { 0 = d.counters.handle };
    }) ∷ []) (record d {
      handles =
          d.handles ++ record { handle = d.counters.handle; id = SignalId d.counters.signal } ∷ [];
      counters =
          record d.counters { signal = d.counters.signal + 1; handle = d.counters.handle + 1 };
    })

-- an awakeable is made; it isn't supported if recorded commands are skipped, and so not replayed
abbrev pub making_awakeable : Setup → Bool → Derived → Move
making_awakeable s true d = Refuses fault.UnsupportedFeature
making_awakeable s false d = awakeable_made s (missing_signals 1 1 d.counters) d

-- the next handle stands for a signal's name
abbrev pub signal_made : List ℕ → Option NamedFault → Derived → Move
signal_made name (Some fault) d = Refuses fault
signal_made name None d =
    Answers (answer.Handle (record { 0 = d.counters.handle }) ∷ []) (record d {
      handles = d.handles ++ record { handle = d.counters.handle; id = SignalName name } ∷ [];
      counters = record d.counters { handle = d.counters.handle + 1 };
    })

-- an await ends once its future is awake
abbrev pub awaiting : Bool → Derived → Move
awaiting true d = Answers (answer.Awake ∷ []) d
awaiting false d = Awaits

-- ---- cancelled awaits

-- the handler is cancelled: the cancel signal ends awaits, and one is there
abbrev pub is_cancelled_in : Setup → Derived → Bool
is_cancelled_in s d = ends_awaits s.options.implicit_cancellation
    && is_some (present_result_for s.options.signal_delivery (id_at 1 d.handles) (ready_in s d))

-- a tracked call's result was read: it has to be its invocation's id, which is then known
abbrev pub id_read : Option (List ℕ) → Derived → Move
id_read None d = Refuses fault.UnexpectedInvocationIdResult
id_read (Some id) d = Answers [] (record d { tracked = with_next_id id d.tracked })

-- the present result of a tracked call is read, once there is one
abbrev pub id_awaited : Option NotificationResult → Derived → Move
id_awaited None d = Awaits
id_awaited (Some result) d = id_read (id_of_result result) d

-- the cancel signal is sent to the invocation of the first tracked call, which then isn't tracked
-- any more
abbrev pub cancel_sent : Setup → List ℕ → Option NamedFault → Derived → Move
cancel_sent s id (Some name) d = Refuses name
cancel_sent s id None d = Needs (demand_of s (cancel_invocation_command id) d) []
    (record (counted 0 d) { tracked = without_first_call d.tracked })

-- one result of the cancel handle is taken
abbrev pub with_cancel_taken : Option NotificationId → Derived → Derived
with_cancel_taken None d = d
with_cancel_taken (Some id) d = record d { usage = Taken id ∷ d.usage }

-- the cancel signal is sent to these invocations, one after another; then the await is answered
abbrev pub cancelling : Setup → List (List ℕ) → Derived → Move
cancelling s [] d = Answers (answer.Cancelled ∷ [])
    (with_cancel_taken (id_at 1 d.handles) (record d { tracked = [] }))
cancelling s (id ∷ ids) d = cancel_sent s id (missing_number 0 0 0 d.counters) d

-- an await of a cancelled handler, by the handles of the tracked calls whose ids aren't known:
-- these are read first
abbrev pub cancelled : Setup → List ℕ → Derived → Move
cancelled s [] d = cancelling s (invocation_ids d.tracked) d
cancelled s (handle ∷ handles) d = id_awaited
    (present_result_for s.options.signal_delivery (id_at handle d.handles) (ready_in s d)) d

-- an await, by whether the handler is cancelled
abbrev pub awaited : Setup → Bool → UnresolvedFuture → Derived → Move
awaited s true future d = cancelled s (unresolved_handles d.tracked) d
awaited s false future d = awaiting (is_awake s future d) d

-- ---- takes

-- a taken result leaves, and its handle with it, except the cancel handle, by what is then known
-- of the tracked calls
abbrev pub take_noting_id : NotificationHandle → NotificationId → Value → Option (List TrackedCall)
    → Derived → Move
take_noting_id handle id value None d = Refuses fault.UnexpectedInvocationIdResult
take_noting_id handle id value (Some tracked) d =
    Answers (answer.Taken (Some value) ∷ []) (record d {
      handles = cond (handle.0 == 1) d.handles (unmapped handle.0 d.handles);
      usage = Taken id ∷ d.usage;
      tracked = tracked;
    })

-- a taken result: a state key has to be a text, and a tracked call's result its invocation's id
abbrev pub take_of_value : NotificationHandle → NotificationId → Option Value → Derived → Move
take_of_value handle id None d = Refuses fault.StateKeyIsNotUtf8
take_of_value handle id (Some value) d = take_noting_id handle id value
    (id_noted handle.0 (id_of_value value) d.tracked) d

-- a take, by the id of its handle and its present result
abbrev pub take_of_result : NotificationHandle → Option NotificationId → Option NotificationResult
    → Derived → Move
take_of_result handle (Some id) (Some result) d = take_of_value handle id (value_of result) d
take_of_result handle (Some id) None d = Answers (answer.Taken None ∷ []) d
take_of_result handle None result d = Answers (answer.Taken None ∷ []) d

-- a take of a handle
abbrev pub taking : Setup → NotificationHandle → Option NotificationId → Derived → Move
taking s handle id d =
    take_of_result handle id (present_result_for s.options.signal_delivery id (ready_in s d)) d

-- ---- the table

-- what comes of what a step asks for
abbrev pub asked : Setup → Ask → Derived → Move
asked s (ask.Command c) d = commanding s c c.refusal d
asked s (ask.Commands kind first second) d = calling s kind first (second ∷ []) d
asked s (ask.Read r) d = reading r (missing_number 1 0 1 d.counters) d
asked s ask.Awakeable d = making_awakeable s (skips_replay s.options.journal_replay) d
asked s (ask.Signal name) d = signal_made name (missing_signals 0 1 d.counters) d
asked s (ask.Await future) d = awaited s (is_cancelled_in s d) future d
asked s (ask.Take handle) d = taking s handle (id_at handle.0 d.handles) d
asked s (ask.Completed handle) d = Answers (answer.Completed (has_result_in s handle d) ∷ []) d
asked s ask.End d = Ends

-- what comes of a step
abbrev pub call_of : Setup → Step → Derived → Move
call_of s st d = asked s (ask_of s.version st) d
