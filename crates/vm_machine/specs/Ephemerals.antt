-- Ephemeral reads of the state, which leave nothing in the journal: no command is counted or shown
-- for them, and no error relates to one.
use Rattle.std.specs.Prelude.{ℕ, ◌+◌, Bool, true, false, not, ◌&&◌, if◌then◌else◌, List, [], ◌∷◌, ◌++◌, Option, Some, None, is_some}
use Rattle.std.specs.Option.{option_map, option_or}
use Rattle.journal_protocol.specs.NamedFault.{NamedFault}
use Rattle.journal_protocol.specs.NamedFault.TheVariants as fault
use Rattle.journal_protocol.specs.Frames.{encoding}
use Rattle.journal_protocol.specs.Bodies.{ephemeral_notification_in}
use Rattle.journal_protocol.specs.Message.TheVariants as message
use Rattle.journal_protocol.specs.RawMessage.{RawMessage}
use Rattle.journal_protocol.specs.GetStateEphemeralNotification.{GetStateEphemeralNotification}
use Rattle.journal_protocol.specs.VoidOrValue.{VoidOrValue}
use Rattle.journal_protocol.specs.VoidOrValue.TheVariants as stored
use Rattle.vm_types.specs.declared.types.EphemeralCompletionId.{EphemeralCompletionId}
use Rattle.vm_types.specs.declared.values.Value.{Value}
use Rattle.vm_types.specs.declared.values.Value.TheVariants as value
use Rattle.vm_state.specs.Counting.{missing_ephemeral}
use Rattle.vm_parts.specs.Ephemerals.{any_ready, with_read_completed, is_ready, value_at, with_in_flight, with_ready, without_ready}
use Rattle.vm_state.specs.States.{value_known}
use Rattle.vm_state.specs.declared.state_map.Known.{Known}
use Rattle.vm_state.specs.declared.state_map.Known.TheVariants.{Unknown, Empty, Value as Holds}
use Rattle.vm_machine.specs.declared.machine.Machine.{Machine}
use Rattle.vm_machine.specs.declared.phase.Phase.{Phase}
use Rattle.vm_machine.specs.declared.phase.Phase.TheVariants.{Replaying, Processing, Closed}
use Rattle.vm_machine.specs.Outcomes.{Outcome, Done, refused}
use Rattle.vm_machine.specs.Phases.{is_from_v8, is_processing, state_fault}

-- ---- a read

-- the next id is given
abbrev pub id_given : Machine → Machine
id_given v = record v { counters = record v.counters { ephemeral = v.counters.ephemeral + 1 } }

-- the read's command is written, and its result is to come
abbrev pub asked_for : List ℕ → Machine → Machine
asked_for key v =
    record (id_given v) {
      ephemeral = with_in_flight v.counters.ephemeral v.ephemeral;
      output = v.output ++ encoding
          (message.GetStateEphemeralCommand (record { id = v.counters.ephemeral; key = key })) ∷ [];
    }

-- the read has its value at once
abbrev pub ready_at_once : Option (List ℕ) → Machine → Machine
ready_at_once found v =
    record (id_given v) { ephemeral = with_ready v.counters.ephemeral found v.ephemeral }

-- by what is known of the key
abbrev pub read_of : List ℕ → Known → Machine → Machine
read_of key Unknown v = asked_for key v
read_of key Empty v = ready_at_once None v
read_of key (Holds bytes) v = ready_at_once (Some bytes) v

-- by whether the input is closed: an unknown key can't be asked for then
abbrev pub asking_fault : Bool → Known → Option NamedFault
asking_fault true Unknown = Some fault.EphemeralStateGetWithClosedInput
asking_fault closed k = None

-- by why it can't be done
abbrev pub ephemeral_read_numbered : Option NamedFault → List ℕ → Known → Machine
    → Outcome EphemeralCompletionId
ephemeral_read_numbered (Some name) key k v = refused name v
ephemeral_read_numbered None key k v = Done (record { 0 = v.counters.ephemeral }) (read_of key k v)

-- a key of which this is known is read
abbrev pub read_known : List ℕ → Known → Machine → Outcome EphemeralCompletionId
read_known key k v =
    ephemeral_read_numbered (option_or (asking_fault v.input_closed k)
    (missing_ephemeral v.counters)) key k v

-- a key is read in this phase
abbrev pub read_in : Phase → List ℕ → Machine → Outcome EphemeralCompletionId
read_in Processing key v = read_known key (value_known key v.state) v
read_in Replaying key v = refused fault.EphemeralCommandDuringReplay v
read_in phase key v = refused (state_fault phase) v

-- The handler reads a key of its state and leaves nothing of it in the journal: from version 8 on,
-- and not in replay.
unfoldable pub ephemeral_step : List ℕ → Machine → Outcome EphemeralCompletionId
ephemeral_step key v =
    if is_from_v8 v.version then read_in v.phase key v
    else refused fault.UnsupportedFeatureForNegotiatedVersion v

-- ---- its value

-- a key's value, as the handler sees it
abbrev pub value_found : Option (List ℕ) → Value
value_found None = value.Void
value_found (Some bytes) = value.Success bytes

-- The handler takes the value of a read, where it is there.
unfoldable pub take_ephemeral_step : ℕ → Machine → Outcome (Option Value)
take_ephemeral_step id v =
    if is_processing v.phase
    then Done (option_map value_found (value_at id v.ephemeral))
    (record v { ephemeral = without_ready id v.ephemeral })
    else refused (state_fault v.phase) v

-- an await answers before all else that some read's value is there
abbrev pub answers_ready : Machine → Bool
answers_ready v = not (is_some v.failure) && (is_processing v.phase && any_ready v.ephemeral)

-- it may answer this read
abbrev pub may_answer : ℕ → Machine → Bool
may_answer id v = not (is_some v.failure) && (is_processing v.phase && is_ready id v.ephemeral)

-- ---- its notification

-- what stands under a key, as a value or none
abbrev pub found_of : VoidOrValue → Option (List ℕ)
found_of stored.Void = None
found_of (stored.Value bytes) = Some bytes

-- a read's result comes; there has to be one, for any id
abbrev pub result_comes : ℕ → Option VoidOrValue → Machine → Outcome Unit
result_comes id None v = refused fault.EmptyGetStateEphemeralNotification v
result_comes id (Some found) v = Done tt
    (record v { ephemeral = with_read_completed id (found_of found) v.ephemeral })

-- a notification that was read
abbrev pub completed_by : Option GetStateEphemeralNotification → Machine → Outcome Unit
completed_by None v = refused fault.BadMessage v
completed_by (Some n) v = result_comes n.id n.result v

-- the result of an ephemeral read comes, in this phase
abbrev pub ephemeral_notification_step : RawMessage → Phase → Machine → Outcome Unit
ephemeral_notification_step raw Processing v = completed_by (ephemeral_notification_in raw.body) v
ephemeral_notification_step raw Closed v = Done tt v
ephemeral_notification_step raw phase v = refused fault.UnexpectedState v
