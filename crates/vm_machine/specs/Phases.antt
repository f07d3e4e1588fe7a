-- What the phases of a machine and the versions of the protocol allow.
use Rattle.std.specs.Prelude.{Bool, true, false}
use Rattle.journal_protocol.specs.NamedFault.{NamedFault}
use Rattle.journal_protocol.specs.NamedFault.TheVariants as fault
use Rattle.journal_protocol.specs.Version.{Version}
use Rattle.journal_protocol.specs.Version.TheVariants.{V8}
use Rattle.vm_types.specs.declared.types.State.{State}
use Rattle.vm_types.specs.declared.types.State.TheVariants as state
use Rattle.vm_machine.specs.declared.phase.Phase.{Phase}
use Rattle.vm_machine.specs.declared.phase.Phase.TheVariants.{WaitingStart, WaitingReplayEntries, Replaying, Processing, Closed}

-- the version is V8
abbrev pub is_from_v8 : Version → Bool
is_from_v8 V8 = true
is_from_v8 earlier = false

-- the handler runs
abbrev pub is_running : Phase → Bool
is_running WaitingStart = false
is_running WaitingReplayEntries = false
is_running Replaying = true
is_running Processing = true
is_running Closed = false

-- the handler runs past the recorded commands
abbrev pub is_processing : Phase → Bool
is_processing WaitingStart = false
is_processing WaitingReplayEntries = false
is_processing Replaying = false
is_processing Processing = true
is_processing Closed = false

-- the handler runs over recorded commands
abbrev pub is_replaying : Phase → Bool
is_replaying WaitingStart = false
is_replaying WaitingReplayEntries = false
is_replaying Replaying = true
is_replaying Processing = false
is_replaying Closed = false

-- ended, suspended or failed
abbrev pub is_closed : Phase → Bool
is_closed WaitingStart = false
is_closed WaitingReplayEntries = false
is_closed Replaying = false
is_closed Processing = false
is_closed Closed = true

-- known entries are missing
abbrev pub is_waiting : Phase → Bool
is_waiting WaitingStart = true
is_waiting WaitingReplayEntries = true
is_waiting Replaying = false
is_waiting Processing = false
is_waiting Closed = false

-- why a call is refused that may not be made in this phase
abbrev pub state_fault : Phase → NamedFault
state_fault WaitingStart = fault.UnexpectedState
state_fault WaitingReplayEntries = fault.UnexpectedState
state_fault Replaying = fault.UnexpectedState
state_fault Processing = fault.UnexpectedState
state_fault Closed = fault.Closed

-- the phase as a handler's runner sees it
abbrev pub shown_state : Phase → State
shown_state WaitingStart = state.WaitingPreFlight
shown_state WaitingReplayEntries = state.WaitingPreFlight
shown_state Replaying = state.Replaying
shown_state Processing = state.Processing
shown_state Closed = state.Closed
