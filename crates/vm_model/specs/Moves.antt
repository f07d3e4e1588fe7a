-- A point of a handler's run over two lists, the recorded commands and the arrivals that aren't
-- used yet, and the moves from one point to the next.
use Rattle.std.specs.Prelude.{ℕ, zero, suc, ◌==◌, Bool, if◌then◌else◌, List, [], ◌∷◌, ◌++◌, Option, Some, None, Result, Ok, Err}
use Rattle.journal_protocol.specs.InputCommand.{InputCommand}
use Rattle.journal_protocol.specs.NamedFault.{NamedFault}
use Rattle.journal_protocol.specs.NamedFault.TheVariants as fault
use Rattle.journal_protocol.specs.Message.{Message}
use Rattle.journal_protocol.specs.RawMessage.{RawMessage}
use Rattle.journal_protocol.specs.Notification.{Notification}
use Rattle.journal_protocol.specs.NotificationResult.{NotificationResult}
use Rattle.journal_protocol.specs.Equality.{header_equal}
use Rattle.journal_protocol.specs.Frames.{type_of}
use Rattle.journal_protocol.specs.Bodies.{message_in}
use Rattle.journal_protocol.specs.Types.{type_number}
use Rattle.vm_state.specs.declared.state_map.StateMap.{StateMap}
use Rattle.vm_types.specs.declared.steps.Answer.{Answer}
use Rattle.vm_types.specs.declared.steps.Answer.TheVariants as answer
use Rattle.vm_types.specs.declared.values.Input.{Input}
use Rattle.vm_state.specs.Counting.{fresh_counters}
use Rattle.vm_parts.specs.Deliveries.{no_results}
use Rattle.vm_asks.specs.StateReads.{lazy_form, own_form, recorded_as}
use Rattle.vm_asks.specs.Requests.{changed}
use Rattle.vm_model.specs.Calls.{Setup, Identity, Meaning, Derived, Demand, Move, call_of}
use Rattle.vm_model.specs.Calls.Demand.{Exactly, Reads}
use Rattle.vm_model.specs.Calls.Usage.{Used, Read}
use Rattle.vm_model.specs.Calls.Move.{Answers, Needs, Awaits, Ends, Refuses}
use Rattle.journal_entries.specs.Journal.{stored_form}

-- The answers so far, what follows from them, the commands of the calls so far, the arrivals that
-- no await has used, and the recorded commands that no call has used.
pub record Point : Type 0 where
  pub answers : List Answer
  pub derived : Derived
  pub said : List Message
  pub queue : List Notification
  pub left : List RawMessage

-- ---- a recorded command

-- a recorded command that has to be header-equal to this one: it brings no result, or why it
-- doesn't stand for it
abbrev pub reads_as : Bool → Message → Option Message
    → Result (Option NotificationResult) NamedFault
reads_as ignore command None = Err fault.BadMessage
reads_as ignore command (Some recorded) = if header_equal recorded command ignore then Ok None
    else Err fault.CommandMismatch

-- What a recorded command does for what a call needs: the result that it brings, or why it doesn't
-- stand for it. A command's type has to be the same; of a state read the recorded form decides.
abbrev pub found : Demand → RawMessage → Result (Option NotificationResult) NamedFault
found (Exactly command ignore) raw = if type_number raw.ty == type_number (type_of command)
    then reads_as ignore command (message_in raw.ty raw.body) else Err fault.CommandTypeMismatch
found (Reads r id) raw = recorded_as r id raw

-- what a call says: its command; of a state read the lazy form, for it changes no state
abbrev pub said_of : Demand → Message
said_of (Exactly command ignore) = command
said_of (Reads r id) = lazy_form r id

-- ---- moves

-- an arrival is used
abbrev pub arrival_used : Notification → Derived → Derived
arrival_used n d = record d { usage = Used n ∷ d.usage }

-- a result that a recorded command brings is that of the completion id
abbrev pub with_read_result : ℕ → Option NotificationResult → Derived → Derived
with_read_result id None d = d
with_read_result id (Some result) d = record d { usage = Read id result ∷ d.usage }

-- the call is answered, where the recorded command stands for its own
abbrev pub command_used : Result (Option NotificationResult) NamedFault → Demand → List Answer
    → Derived → List RawMessage → Point → Option Point
command_used (Err name) demand gives d left p = None
command_used (Ok result) demand gives d left p =
    Some (record {
      answers = p.answers ++ gives;
      derived = with_read_result p.derived.counters.completion result d;
      said = p.said
          ++ said_of demand ∷ [];
      queue = p.queue;
      left = left;
    })

-- the next recorded command is used, where it stands for the call's
abbrev pub uses_command : Demand → List Answer → Derived → List RawMessage → Point → Option Point
uses_command demand gives d [] p = None
uses_command demand gives d (c ∷ left) p = command_used (found demand c) demand gives d left p

-- the next arrival is used
abbrev pub uses_arrival : List Notification → Point → Option Point
uses_arrival [] p = None
uses_arrival (n ∷ queue) p = Some (record p { derived = arrival_used n p.derived; queue = queue })

-- the point that a move leads to
abbrev pub moved : Move → Point → Option Point
moved (Answers gives d) p = Some (record p { answers = p.answers ++ gives; derived = d })
moved (Needs demand gives d) p = uses_command demand gives d p.left p
moved Awaits p = uses_arrival p.queue p
moved Ends p = None
moved (Refuses name) p = None

-- what the handler asks for at a point
abbrev pub move_at : Setup → Meaning → Point → Move
move_at s m p = call_of s (m p.answers) p.derived

-- the next point
abbrev pub next : Setup → Meaning → Point → Option Point
next s m p = moved (move_at s m p) p

-- what follows, if there is a point
abbrev pub and_then : {A B : Type 0} → Option A → (A → Option B) → Option B
and_then None f = None
and_then (Some x) f = f x

-- the point after this number of moves
abbrev pub after : Setup → Meaning → ℕ → Point → Option Point
after s m zero p = Some p
after s m (suc n) p = and_then (next s m p) (after s m n)

-- ---- the first point

-- what a handler is given with its input
abbrev pub told_input : Identity → InputCommand → Input
told_input i c = record {
  invocation_id = i.debug_id;
  random_seed = i.random_seed;
  key = i.key;
  headers = c.headers;
  input = c.value;
  scope = i.scope;
  limit_key = i.limit_key;
  idempotency_key = i.idempotency_key;
}

-- after the input: one command is counted, and only the cancel handle stands for an id
abbrev pub first_derived : Derived
first_derived = record {
  counters = record fresh_counters { command = Some 0 };
  handles = no_results.handles;
  usage = [];
  tracked = [];
  parts = 0;
}

-- the point after the input, which is the journal's first command
abbrev pub start : Setup → InputCommand → List Notification → List RawMessage → Point
start s input ns cs = record {
  answers = answer.Input (told_input s.identity input) ∷ [];
  derived = first_derived;
  said = [];
  queue = ns;
  left = cs;
}

-- ---- the state

-- the state after commands
abbrev pub changed_by : List Message → StateMap → StateMap
changed_by [] state = state
changed_by (c ∷ cs) state = changed_by cs (changed c state)

-- ---- what a call brings itself

-- the call's own command, by what is known of the state
abbrev pub own : StateMap → Demand → Message
own state (Exactly command ignore) = command
own state (Reads r id) = own_form r id state

-- the call's own command, if one is needed and none is recorded
abbrev pub supply : StateMap → Move → List RawMessage → List RawMessage
supply state (Needs demand gives d) [] = stored_form (own state demand) ∷ []
supply state (Needs demand gives d) (c ∷ left) = []
supply state (Answers gives d) left = []
supply state Awaits left = []
supply state Ends left = []
supply state (Refuses name) left = []

-- the command that the call needs, if no recorded command is left
abbrev pub supplied : Setup → Meaning → StateMap → Point → List RawMessage
supplied s m state p = supply state (move_at s m p) p.left

-- the point with more recorded commands after its own
abbrev pub longer : List RawMessage → Point → Point
longer cs p = record p { left = p.left ++ cs }

-- the point with more arrivals after its own
abbrev pub later : List Notification → Point → Point
later ns p = record p { queue = p.queue ++ ns }
