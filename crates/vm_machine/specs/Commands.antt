-- What a call with a command does: in Processing its command is written, in replay the recorded one
-- is popped.
use Rattle.std.specs.Prelude.{◌≡◌, ℕ, ◌+◌, ◌<◌, ◌^◌, Bool, true, false, ◌==◌, if◌then◌else◌, List, [], ◌∷◌, ◌++◌, Option, Some, None, Result, IfOk, OnOk}
use Rattle.journal_protocol.specs.Error.{Error}
use Rattle.journal_protocol.specs.NamedFault.{NamedFault}
use Rattle.journal_protocol.specs.NamedFault.TheVariants as fault
use Rattle.journal_protocol.specs.Message.{Message}
use Rattle.journal_protocol.specs.RawMessage.{RawMessage}
use Rattle.journal_protocol.specs.MessageType.{MessageType}
use Rattle.journal_protocol.specs.NotificationId.TheVariants.{CompletionId}
use Rattle.journal_protocol.specs.Errors.{named_error}
use Rattle.journal_protocol.specs.Frames.{encoding, type_of, IsWhole}
use Rattle.journal_protocol.specs.Bodies.{message_in}
use Rattle.journal_protocol.specs.Equality.{header_equal}
use Rattle.journal_protocol.specs.Types.{type_number}
use Rattle.vm_types.specs.Options.{ignores_payloads}
use Rattle.await_trees.specs.declared.handle.NotificationHandle.{NotificationHandle}
use Rattle.vm_state.specs.Counting.{next_index, missing_number, given_on}
use Rattle.vm_parts.specs.Deliveries.{is_known}
use Rattle.vm_parts.specs.Mappings.{mapped_from}
use Rattle.vm_asks.specs.declared.command.Command.{Command}
use Rattle.vm_machine.specs.declared.fault.Fault.{Fault}
use Rattle.vm_machine.specs.declared.machine.Machine.{Machine}
use Rattle.vm_machine.specs.declared.phase.Phase.{Phase}
use Rattle.vm_machine.specs.declared.phase.Phase.TheVariants.{Replaying, Processing}
use Rattle.vm_machine.specs.Outcomes.{Outcome, Done, Failed, ◌>>>◌, Gives, about_last, refused}
use Rattle.vm_machine.specs.Phases.{is_running, is_processing, state_fault}
use Rattle.vm_runs.specs.Pending.{to_execute}
use Rattle.vm_runs.specs.declared.pending.PendingRun.{PendingRun}
use Rattle.journal_protocol.specs.Message.TheVariants as message
use Rattle.vm_asks.specs.Requests.{changed, ids_of, name_of, shown_type, tracked_after, with_ids}

-- a command is counted, and its type and name are kept
abbrev pub entered : MessageType → List ℕ → Machine → Machine
entered ty name v =
    record v {
      counters = record v.counters { command = Some (next_index v.counters.command) };
      last_command = record { ty = ty; name = name };
    }

-- an error that relates to the command that would come next
abbrev pub about_next : NamedFault → MessageType → List ℕ → Machine → Error
about_next name ty command v = named_error name
    (Some (record { index = next_index v.counters.command; ty = ty; name = command }))

-- a command is written
abbrev pub written : Message → Machine → Machine
written m v = record v { wrote_command = true; output = v.output ++ encoding m ∷ [] }

-- The pending runs after a command, by its handle, its completion id and its index: a run is
-- pending unless its result is known.
abbrev pub runs_after : Message → NotificationHandle → ℕ → ℕ → Bool → List PendingRun
    → List PendingRun
runs_after (message.Run c) handle id index known runs = if known then runs else runs
    ++ to_execute handle id index c.name ∷ []
runs_after m handle id index known runs = runs

-- the machine is in Processing once the last recorded command is popped
abbrev pub phase_after : List RawMessage → Phase
phase_after [] = Processing
phase_after (raw ∷ rest) = Replaying

-- the popped command has to be of this type
abbrev pub of_type : RawMessage → MessageType → Machine → Outcome RawMessage
of_type raw ty v =
    if type_number raw.ty == type_number ty then Done raw v
    else Failed (about_last fault.CommandTypeMismatch v) v

-- the first of these commands is popped
abbrev pub popped_from : List RawMessage → MessageType → Machine → Outcome RawMessage
popped_from [] ty v = Failed (about_last fault.UnavailableEntry v) v
popped_from (raw ∷ rest) ty v = of_type raw ty
    (record v { commands = rest; phase = phase_after rest })

-- the next recorded command is popped; it has to be of this type
unfoldable pub popped : MessageType → Machine → Outcome RawMessage
popped ty v = popped_from v.commands ty v

-- a mismatch, unless two commands are equal
abbrev pub mismatch_unless : Bool → Option NamedFault
mismatch_unless true = None
mismatch_unless false = Some fault.CommandMismatch

-- why a recorded command isn't the call's, if it isn't
abbrev pub misfit_of : Message → Bool → Option Message → Option NamedFault
misfit_of m ignore None = Some fault.BadMessage
misfit_of m ignore (Some recorded) = mismatch_unless (header_equal recorded m ignore)

-- the recorded command has to be header-equal to the call's
abbrev pub compared : Message → Bool → Option Message → Machine → Outcome Unit
compared m ignore None v = Failed (about_last fault.BadMessage v) v
compared m ignore (Some recorded) v =
    if header_equal recorded m ignore then Done tt v
    else Failed (about_last fault.CommandMismatch v) v

-- a recorded command is replayed
unfoldable pub replayed : Message → Bool → Machine → Outcome Unit
replayed m ignore v =
    popped (type_of m) v >>> λ raw w. compared m ignore (message_in raw.ty raw.body) w

-- a command is written, or in replay popped
unfoldable pub carried_out : Message → Bool → Machine → Outcome Unit
carried_out m ignore v =
    if is_processing v.phase then Done tt (written m v) else replayed m ignore v

-- the next handles stand for the next completion ids
abbrev pub handed_out : ℕ → Machine → Machine
handed_out n v =
    record v {
      results = record v.results {
        handles = v.results.handles
            ++ mapped_from n v.counters.handle v.counters.completion;
      };
      counters = given_on n v.counters;
    }

-- the completion id that comes next has a result already
abbrev pub knows_next : Machine → Bool
knows_next v = is_known (CompletionId v.counters.completion) v.results

-- what a call changes before its command: it is counted and shown, its numbers are given, it is
-- tracked where its invocation is cancelled with the handler's, it is pending where it is a run
-- without a result, and the state is changed
abbrev pub prepared : Message → Machine → Machine
prepared m v =
    (let w = handed_out (ids_of m) (entered (shown_type m) (name_of m) v) in record w {
      tracked = tracked_after v.options.implicit_cancellation m v.counters.handle v.tracked;
      runs = runs_after m (record { 0 = v.counters.handle }) v.counters.completion
          (next_index v.counters.command) (knows_next v) v.runs;
      state = changed (with_ids v.counters.completion m) v.state;
    })

-- a call whose state was checked: the counters, and then the command
abbrev pub command_if_counted : Option NamedFault → Message → Bool → Machine
    → Outcome NotificationHandle
command_if_counted (Some name) m unstable v = Failed (about_next name (shown_type m) (name_of m) v)
    v
command_if_counted None m unstable v =
    carried_out (with_ids v.counters.completion m)
    (ignores_payloads v.options.non_determinism_checks unstable) (prepared m v)
    >>> λ _ w. Done (record { 0 = v.counters.handle }) w

-- A call that has a command, given without its numbers, and whether its payload may differ from one
-- attempt to the next; it answers its first handle, where it has one.
unfoldable pub issued : Message → Bool → Machine → Outcome NotificationHandle
issued m unstable v =
    if is_running v.phase then command_if_counted
    (missing_number (ids_of m) 0 (ids_of m) v.counters) m unstable v
    else (let w = entered (shown_type m) (name_of m) v in
    Failed (about_last (state_fault v.phase) w) w)

-- Where a call's command is written, its frame can be read back: each field and the length fit
-- their places.
abbrev pub CanBeRead : Message → Machine → Type 0
CanBeRead m v = is_processing v.phase ≡ true → IsWhole (with_ids v.counters.completion m)

-- each handle of a call fits
abbrev pub HandleFits : Message → NotificationHandle → Type 0
HandleFits m handle = handle.0 + ids_of m < 2 ^ 32

-- A call that has a command: what it wrote can be read back, and its handles fit.
abbrev pub Issues : Message → Bool → Result NotificationHandle Fault → Machine → Machine → Type 0
Issues m unstable r old new =
    Gives (issued m unstable old) r old new × OnOk r (CanBeRead m old) × IfOk r (HandleFits m)

-- a call that has a command, unless it is refused
abbrev pub commanded_unless : Option NamedFault → Message → Bool → Machine
    → Outcome NotificationHandle
commanded_unless (Some name) m unstable v = refused name v
commanded_unless None m unstable v = issued m unstable v

-- a call that has a command
abbrev pub commanded : Command → Machine → Outcome NotificationHandle
commanded c v = commanded_unless c.refusal c.message c.unstable v

-- A call that has a command: what it wrote can be read back, and its handles fit.
abbrev pub Carries : Command → Result NotificationHandle Fault → Machine → Machine → Type 0
Carries c r old new =
    Gives (commanded c old) r old new × OnOk r (CanBeRead c.message old)
    × IfOk r (HandleFits c.message)

-- a call that is answered by this of its answer
abbrev pub answered_by : {A B : Type 0} → (A → B) → Outcome A → Outcome B
answered_by f o = o >>> λ a w. Done (f a) w
