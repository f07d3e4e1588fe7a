-- One execution of a handler from its input on, and the journals that it makes. Nothing is recorded
-- before it: each call makes its own command.
use Rattle.std.specs.Prelude.{◌≡◌, ◌⊎◌, ℕ, zero, suc, ◌+◌, ◌==◌, Bool, true, false, cond, if◌then◌else◌, List, [], ◌∷◌, ◌++◌, filter, filter_map, Option, Some, None, is_some, Ok}
use Rattle.std.specs.List.{AllByRecursion}
use Rattle.journal_protocol.specs.InputCommand.{InputCommand}
use Rattle.journal_protocol.specs.Message.{Message}
use Rattle.journal_protocol.specs.Message.TheVariants as message
use Rattle.journal_protocol.specs.MessageType.TheVariants as type
use Rattle.journal_protocol.specs.RawMessage.{RawMessage}
use Rattle.journal_protocol.specs.Notification.{Notification}
use Rattle.journal_protocol.specs.NotificationId.{NotificationId}
use Rattle.journal_protocol.specs.NotificationId.TheVariants.{SignalId, SignalName}
use Rattle.journal_protocol.specs.NotificationResult.{NotificationResult}
use Rattle.journal_protocol.specs.NotificationResult.TheVariants.{InvocationId}
use Rattle.journal_protocol.specs.Bodies.{input_in, message_in, notification_in}
use Rattle.journal_protocol.specs.Commands.{is_command}
use Rattle.journal_protocol.specs.Equality.{header_equal}
use Rattle.journal_protocol.specs.Frames.{body, type_of}
use Rattle.journal_protocol.specs.Types.{type_number}
use Rattle.journal_entries.specs.Entries.{frame_in}
use Rattle.await_trees.specs.Outcomes.{awake}
use Rattle.await_trees.specs.Tree.{tree_of}
use Rattle.vm_state.specs.declared.state_map.StateCoverage.TheVariants.{Complete}
use Rattle.vm_state.specs.declared.state_map.StateMap.{StateMap}
use Rattle.vm_state.specs.Entries.{entries_of}
use Rattle.vm_state.specs.declared.tracked_call.TrackedCall.{TrackedCall}
use Rattle.vm_state.specs.Counting.{missing_indexes, missing_number, missing_signals}
use Rattle.vm_parts.specs.Deliveries.{id_at, present_result_for, unmapped}
use Rattle.vm_parts.specs.Tracked.{is_tracked, with_invocation_id}
use Rattle.vm_types.specs.declared.options.JournalReplay.TheVariants.{Enabled}
use Rattle.vm_types.specs.declared.steps.Answer.{Answer}
use Rattle.vm_types.specs.declared.steps.Answer.TheVariants as answer
use Rattle.vm_types.specs.declared.values.Value.{Value}
use Rattle.vm_types.specs.declared.values.Value.TheVariants as value
use Rattle.vm_types.specs.Options.{ignores_payloads}
use Rattle.vm_types.specs.Values.{value_of}
use Rattle.vm_asks.specs.declared.asks.Ask.{Ask}
use Rattle.vm_asks.specs.declared.asks.Ask.TheVariants as ask
use Rattle.vm_asks.specs.declared.command.Command.{Command}
use Rattle.vm_asks.specs.declared.state_read.StateRead.{StateRead}
use Rattle.vm_asks.specs.Asks.{ask_of, cancel_invocation_command}
use Rattle.vm_asks.specs.Awakeables.{awakeable_id}
use Rattle.vm_asks.specs.Requests.{changed, ids_of, with_ids}
use Rattle.vm_asks.specs.StateReads.{lazy_form, own_form, result_in}
use Rattle.vm_model.specs.Calls.{Derived, Meaning, Setup, behind_command, counted, is_cancelled_in, leaf_in, ready_in, with_cancel_taken}
use Rattle.vm_model.specs.Calls.Usage.{Taken, Used}
use Rattle.vm_model.specs.Moves.{with_read_result}
use Rattle.world_rounds.specs.declared.types.Setting.{Setting}
use Rattle.world_rounds.specs.Worlds.{setup_of}

-- Where an execution is: the answers so far, what follows from them, the state that the commands so
-- far leave, and the notifications that no await has used.
pub record Stage : Type 0 where
  pub answers : List Answer
  pub derived : Derived
  pub state : StateMap
  pub queue : List Notification

-- The stage after the input. One command is counted, the numbers that are handed out begin here,
-- and only the cancel handle stands for an id.
abbrev pub first_stage : Setting → InputCommand → List Notification → Stage
first_stage w input queue = record {
  answers = answer.Input (record {
    invocation_id = w.identity.debug_id;
    random_seed = (setup_of w).identity.random_seed;
    key = w.identity.key;
    headers = input.headers;
    input = input.value;
    scope = (setup_of w).identity.scope;
    limit_key = (setup_of w).identity.limit_key;
    idempotency_key = (setup_of w).identity.idempotency_key;
  }) ∷ [];
  derived = record {
    counters =
        record { command = Some 0; completion = 1; signal = 17; handle = 17; ephemeral = 1 };
    handles = record { handle = 1; id = SignalId 1 } ∷ [];
    usage = [];
    tracked = [];
    parts = 0;
  };
  state = record { entries = entries_of w.base; coverage = Complete };
  queue = queue;
}

-- The command is this message as it is stored. What is read of it is the same, except for payloads
-- that aren't compared.
abbrev pub IsStoredAs : Message → Bool → List RawMessage → Message → Type 0
IsStoredAs own ignore made read = (made ≡ record { ty = type_of own; body = body own } ∷ [])
    × (message_in (type_of own) (body own) ≡ Some read) × (header_equal read own ignore ≡ true)

-- ---- what a call does: the commands that it makes, and the stage after it

-- The call gets this answer, and makes no command.
abbrev pub GetsAnswer : List Answer → Derived → Stage → List RawMessage → Stage → Type 0
GetsAnswer gives d p made q =
    (made ≡ []) × (q ≡ record p { answers = p.answers ++ gives; derived = d })

-- It uses the next notification.
abbrev pub UsesNext : Stage → List RawMessage → Stage → Type 0
UsesNext p made q =
    (n : Notification) × (others : List Notification) × (made ≡ []) × (p.queue ≡ n ∷ others)
    × (q ≡ record p {
      derived = record p.derived { usage = Used n ∷ p.derived.usage };
      queue = others;
    })

-- the answer of a command, by its first handle: a call is answered by two handles, a send by that
-- of the invocation's id, another by its own, if it has one
abbrev pub own_answer : Message → ℕ → Answer
own_answer (message.Call c) handle = answer.Call (record {
  invocation_id_notification_handle = record { 0 = handle };
  call_notification_handle = record { 0 = handle + 1 };
})
own_answer (message.OneWayCall c) handle =
    answer.Send (record { invocation_id_notification_handle = record { 0 = handle } })
own_answer m handle =
    if ids_of m == 0 then answer.Unit else answer.Handle (record { 0 = handle })

-- It makes this command, with the numbers that are next in `before`, and gets this answer.
abbrev pub MakesCommand : Setup → Command → Derived → List Answer → Derived → Stage
    → List RawMessage → Stage → Type 0
MakesCommand s c before gives d p made q =
    (read : Message)
    × IsStoredAs (with_ids before.counters.completion c.message)
    (ignores_payloads s.options.non_determinism_checks c.unstable) made read
    × (q ≡ record p {
      answers = p.answers ++ gives;
      derived = d;
      state = changed (with_ids before.counters.completion c.message) p.state;
    })

-- It is a read of the state. The read is lazy, and its result comes as a notification; or it is
-- eager, and has what the state has there.
abbrev pub MakesRead : StateRead → Stage → List RawMessage → Stage → Type 0
MakesRead r p made q =
    (own : Message) × (read : Message) × (result : Option NotificationResult)
    × ((own ≡ lazy_form r p.derived.counters.completion)
    ⊎ (own ≡ own_form r p.derived.counters.completion p.state)) × IsStoredAs own true made read
    × (result_in read ≡ Ok result)
    × (q ≡ record p {
      answers = p.answers ++ answer.Handle (record { 0 = p.derived.counters.handle }) ∷ [];
      derived = with_read_result p.derived.counters.completion result (counted 1 p.derived);
    })

-- A call with a deadline has two commands, of which this number is made. Before the first, the
-- numbers for both have to be left; with the second the call is answered, and the numbers of both
-- are given.
abbrev pub PartLeads : Setup → Command → Command → ℕ → Stage → List RawMessage → Stage → Type 0
PartLeads s first second zero p made q =
    (first.refusal ≡ None) × (second.refusal ≡ None)
    × (missing_number (ids_of first.message + ids_of second.message) 0
    (ids_of first.message + ids_of second.message) p.derived.counters ≡ None)
    × (missing_indexes 2 p.derived.counters ≡ None)
    × (missing_number (ids_of first.message) 0 (ids_of first.message) p.derived.counters ≡ None)
    × MakesCommand s first p.derived [] (record p.derived { parts = suc p.derived.parts }) p made q
PartLeads s first second (suc n) p made q =
    (second.refusal ≡ None)
    × (missing_number (ids_of second.message) 0 (ids_of second.message)
    (behind_command s first p.derived).counters ≡ None)
    × MakesCommand s second (behind_command s first p.derived) (answer.CallWithDeadline (record {
      invocation_id_notification_handle = record { 0 = p.derived.counters.handle };
      call_notification_handle = record { 0 = p.derived.counters.handle + 1 };
      deadline_notification_handle = record { 0 = p.derived.counters.handle + 2 };
    }) ∷ [])
    (record (behind_command s second (behind_command s first p.derived)) { parts = 0 }) p made q

-- The result of a tracked call between these others is awaited. It is the invocation's id, which
-- then is known.
abbrev pub IdLeads : Option NotificationResult → List TrackedCall → ℕ → List TrackedCall → Stage
    → List RawMessage → Stage → Type 0
IdLeads None front handle back p made q = UsesNext p made q
IdLeads (Some result) front handle back p made q =
    (id : List ℕ) × (result ≡ InvocationId id)
    × GetsAnswer [] (record p.derived {
      tracked = front ++ record { handle = handle; invocation_id = Some id } ∷ back;
    }) p made q

-- An await of a cancelled handler. The id of the first tracked call whose id isn't known is
-- awaited. Once all ids are known the cancel signal is sent to the first invocation, which then
-- isn't tracked. Once none is tracked the await is answered.
abbrev pub CancelLeads : Setup → Stage → List RawMessage → Stage → Type 0
CancelLeads s p made q =
    ((front : List TrackedCall) × (t : TrackedCall) × (back : List TrackedCall)
    × (p.derived.tracked ≡ front ++ t ∷ back)
    × AllByRecursion (λ u. is_some u.invocation_id ≡ true) front × (t.invocation_id ≡ None)
    × IdLeads (present_result_for s.options.signal_delivery (id_at t.handle p.derived.handles)
    (ready_in s p.derived)) front t.handle back p made q)
    ⊎ (((t : TrackedCall) × (ts : List TrackedCall) × (id : List ℕ)
    × (p.derived.tracked ≡ t ∷ ts) × (t.invocation_id ≡ Some id)
    × AllByRecursion (λ u. is_some u.invocation_id ≡ true) ts
    × (missing_number 0 0 0 p.derived.counters ≡ None)
    × MakesCommand s (cancel_invocation_command id) p.derived []
    (record (counted 0 p.derived) { tracked = ts }) p made q)
    ⊎ ((p.derived.tracked ≡ [])
    × GetsAnswer (answer.Cancelled ∷ [])
    (with_cancel_taken (id_at 1 p.derived.handles) (record p.derived { tracked = [] })) p made q))

-- An await, by whether the handler is cancelled, and whether the future is awake.
abbrev pub AwaitLeads : Setup → Bool → Bool → Stage → List RawMessage → Stage → Type 0
AwaitLeads s true is_awake p made q = CancelLeads s p made q
AwaitLeads s false true p made q = GetsAnswer (answer.Awake ∷ []) p.derived p made q
AwaitLeads s false false p made q = UsesNext p made q

-- A take, by the id of its handle and its present result. A handle is forgotten once its result is
-- taken, unless it is the cancel handle. The result of a tracked call is its invocation's id, which
-- then is known.
abbrev pub TakeLeads : ℕ → Option NotificationId → Option NotificationResult → Stage
    → List RawMessage → Stage → Type 0
TakeLeads handle (Some id) (Some result) p made q =
    (v : Value) × (tracked : List TrackedCall) × (value_of result ≡ Some v)
    × (((is_tracked handle p.derived.tracked ≡ false) × (tracked ≡ p.derived.tracked))
    ⊎ ((known : List ℕ) × (is_tracked handle p.derived.tracked ≡ true)
    × (v ≡ value.InvocationId known)
    × (tracked ≡ with_invocation_id handle known p.derived.tracked)))
    × GetsAnswer (answer.Taken (Some v) ∷ [])
    (record p.derived {
      handles =
          cond (handle == 1) p.derived.handles (unmapped handle p.derived.handles);
      usage = Taken id ∷ p.derived.usage;
      tracked = tracked;
    }) p made q
TakeLeads handle (Some id) None p made q = GetsAnswer (answer.Taken None ∷ []) p.derived p made q
TakeLeads handle None result p made q = GetsAnswer (answer.Taken None ∷ []) p.derived p made q

-- The table: a row for each kind of what steps ask for. A call that is refused does nothing, and so
-- the execution ends there.
abbrev pub CallLeads : Setup → Ask → Stage → List RawMessage → Stage → Type 0
CallLeads s (ask.Command c) p made q =
    (c.refusal ≡ None)
    × (missing_number (ids_of c.message) 0 (ids_of c.message) p.derived.counters ≡ None)
    × MakesCommand s c p.derived
    (own_answer c.message p.derived.counters.handle ∷ [])
    (behind_command s c p.derived) p made q
CallLeads s (ask.Commands kind first second) p made q =
    PartLeads s first second p.derived.parts p made q
CallLeads s (ask.Read r) p made q =
    (missing_number 1 0 1 p.derived.counters ≡ None) × MakesRead r p made q
CallLeads s ask.Awakeable p made q =
    (s.options.journal_replay ≡ Enabled) × (missing_signals 1 1 p.derived.counters ≡ None)
    × GetsAnswer (answer.Awakeable
    (record {
      id = awakeable_id s.identity.id p.derived.counters.signal;
      handle = record { 0 = p.derived.counters.handle };
    }) ∷ []) (record p.derived {
      handles = p.derived.handles
          ++ record {
            handle = p.derived.counters.handle;
            id = SignalId p.derived.counters.signal;
          } ∷ [];
      counters = record p.derived.counters {
        signal = p.derived.counters.signal + 1;
        handle = p.derived.counters.handle + 1;
      };
    }) p made q
CallLeads s (ask.Signal name) p made q =
    (missing_signals 0 1 p.derived.counters ≡ None)
    × GetsAnswer (answer.Handle (record { 0 = p.derived.counters.handle }) ∷ [])
    (record p.derived {
      handles = p.derived.handles
          ++ record { handle = p.derived.counters.handle; id = SignalName name } ∷ [];
      counters = record p.derived.counters { handle = p.derived.counters.handle + 1 };
    }) p made q
CallLeads s (ask.Await f) p made q =
    AwaitLeads s (is_cancelled_in s p.derived) (awake (leaf_in s p.derived) (tree_of f)) p made q
CallLeads s (ask.Take handle) p made q =
    TakeLeads handle.0 (id_at handle.0 p.derived.handles)
    (present_result_for s.options.signal_delivery (id_at handle.0 p.derived.handles)
    (ready_in s p.derived)) p made q
CallLeads s (ask.Completed handle) p made q =
    GetsAnswer (answer.Completed (is_some (present_result_for s.options.signal_delivery
    (id_at handle.0 p.derived.handles) (ready_in s p.derived))) ∷ []) p.derived p made q
CallLeads s ask.End p made q = ⊥

-- ---- executions

-- This number of moves leads from one stage to another and makes these commands.
abbrev pub MovesLead : Setup → Meaning → ℕ → Stage → List RawMessage → Stage → Type 0
MovesLead s m zero p made q = (made ≡ []) × (p ≡ q)
MovesLead s m (suc n) p made q =
    (first : List RawMessage) × (r : Stage) × (rest : List RawMessage) × (made ≡ first ++ rest)
    × CallLeads s (ask_of s.version (m p.answers)) p first r × MovesLead s m n r rest q

-- One execution of the handler made the journal: it begins with an input, and the commands after it
-- are the very ones that the handler's calls make, by the journal's notifications in their order.
-- So each of them stands there once, in order, and no other.
pub record IsOneExecution (m : Meaning) (w : Setting) (journal : List (List ℕ)) : Type 0 where
  pub first : RawMessage
  pub input : InputCommand
  pub is_input : type_number first.ty ≡ type_number type.InputCommand
  pub reads : input_in first.body ≡ Some input
  pub rest : List RawMessage
  pub begins : filter (λ raw. is_command raw.ty) (filter_map frame_in journal) ≡ first ∷ rest
  pub moves : ℕ
  pub at : Stage
  pub made : MovesLead (setup_of w) m moves (first_stage w input
      (filter_map (λ raw. cond (type_number raw.ty == 30) (notification_in raw.body) None)
      (filter_map frame_in journal))) rest at
