-- State reads: eager where the state is known, lazy where it isn't; in replay the recorded form
-- decides.
use Rattle.std.specs.Prelude.{◌≡◌, ℕ, true, if◌then◌else◌, List, [], ◌∷◌, Option, Some, None, Result, Ok, Err, OnOk}
use Rattle.journal_protocol.specs.NamedFault.{NamedFault}
use Rattle.journal_protocol.specs.NamedFault.TheVariants as fault
use Rattle.journal_protocol.specs.Message.{Message}
use Rattle.journal_protocol.specs.RawMessage.{RawMessage}
use Rattle.journal_protocol.specs.NotificationResult.{NotificationResult}
use Rattle.journal_protocol.specs.Frames.{type_of, IsWhole}
use Rattle.await_trees.specs.declared.handle.NotificationHandle.{NotificationHandle}
use Rattle.vm_state.specs.Counting.{missing_number}
use Rattle.vm_parts.specs.Deliveries.{with_eager}
use Rattle.vm_machine.specs.declared.fault.Fault.{Fault}
use Rattle.vm_machine.specs.declared.machine.Machine.{Machine}
use Rattle.vm_asks.specs.declared.state_read.StateRead.{StateRead}
use Rattle.vm_asks.specs.StateReads.{eager_type, lazy_type, name_read, own_form, recorded_as, recorded_type, result_in, own_result}
use Rattle.vm_machine.specs.Commands.{about_next, entered, handed_out, phase_after, written}
use Rattle.vm_machine.specs.Outcomes.{Outcome, Done, Failed, Gives, about_last}
use Rattle.vm_machine.specs.Phases.{is_processing, is_running, state_fault}

-- ---- the event

-- a result that a read brings is ready at once
abbrev pub with_read_ready : ℕ → Option NotificationResult → Machine → Machine
with_read_ready id None v = v
with_read_ready id (Some result) v = record v
    { results = record v.results { ready = with_eager id result v.results.ready } }

-- in Processing a read writes its own command
abbrev pub read_written : StateRead → ℕ → Message → Machine → Machine
read_written r id m v = with_read_ready id (own_result (result_in m))
    (written m (handed_out 1 (entered (type_of m) (name_read r) v)))

-- a recorded command that fits, or doesn't
abbrev pub read_back : ℕ → ℕ → Result (Option NotificationResult) NamedFault → Machine
    → Outcome NotificationHandle
read_back handle id (Err name) v = Failed (about_last name v) v
read_back handle id (Ok result) v = Done (record { 0 = handle }) (with_read_ready id result v)

-- in replay the first recorded command is popped; errors show its type and no name
abbrev pub read_popped : StateRead → ℕ → ℕ → List RawMessage → Machine → Outcome NotificationHandle
read_popped r handle id [] v = Failed (about_last fault.UnavailableEntry v) v
read_popped r handle id (raw ∷ rest) v =
    read_back handle id (recorded_as r id raw)
    (record v {
      commands = rest;
      phase = phase_after rest;
      last_command = record { ty = recorded_type r raw; name = [] };
    })

-- a read that has its numbers
abbrev pub read_numbered : StateRead → Machine → Outcome NotificationHandle
read_numbered r v =
    if is_processing v.phase
    then Done (record { 0 = v.counters.handle })
    (read_written r v.counters.completion (own_form r v.counters.completion v.state) v)
    else read_popped r v.counters.handle v.counters.completion v.commands
    (handed_out 1 (entered (eager_type r) [] v))

-- the name that a refusal shows if numbers ran out: none in replay
abbrev pub name_shown : StateRead → Machine → List ℕ
name_shown r v = if is_processing v.phase then name_read r else []

-- a read whose state was checked: the numbers, and then the command
abbrev pub read_counted : Option NamedFault → StateRead → Machine → Outcome NotificationHandle
read_counted (Some name) r v = Failed (about_next name (lazy_type r) (name_shown r v) v) v
read_counted None r v = read_numbered r v

-- where a read's command is written, its frame can be read back
abbrev pub ReadCanBeRead : StateRead → Machine → Type 0
ReadCanBeRead r v =
    is_processing v.phase ≡ true → IsWhole (own_form r v.counters.completion v.state)

-- a read that has its numbers: what it wrote can be read back
abbrev pub ReadsNumbered : StateRead → Result NotificationHandle Fault → Machine → Machine → Type 0
ReadsNumbered r result old new =
    Gives (read_numbered r old) result old new × OnOk result (ReadCanBeRead r old)

-- A state read answers one handle. Where the state refuses it no command is counted.
unfoldable pub read_step : StateRead → Machine → Outcome NotificationHandle
read_step r v =
    if is_running v.phase then read_counted (missing_number 1 0 1 v.counters) r v
    else Failed (about_next (state_fault v.phase) (lazy_type r) [] v) v

-- A state read: what it wrote can be read back.
abbrev pub StateIsRead : StateRead → Result NotificationHandle Fault → Machine → Machine → Type 0
StateIsRead r result old new =
    Gives (read_step r old) result old new × OnOk result (ReadCanBeRead r old)
