-- What can be asked of a machine at any time.
use Rattle.std.specs.Prelude.{◌≡◌, ◌⊎◌, ℕ, ℤ, pos, negsuc, Bool, true, false, if◌then◌else◌, Option, Some, None, is_some, Result, Ok, Err}
use Rattle.journal_protocol.specs.Error.{Error}
use Rattle.journal_protocol.specs.NamedFault.TheVariants as fault
use Rattle.journal_protocol.specs.Errors.{named_error, no_memory}
use Rattle.vm_types.specs.declared.types.State.{State}
use Rattle.vm_types.specs.declared.types.State.TheVariants as state
use Rattle.vm_machine.specs.declared.machine.Machine.{Machine}
use Rattle.vm_machine.specs.declared.phase.Phase.{Phase}
use Rattle.vm_machine.specs.declared.phase.Phase.TheVariants.{WaitingStart, WaitingReplayEntries, Replaying, Processing, Closed}
use Rattle.vm_machine.specs.Phases.{shown_state}

-- whether a handler may run in this phase
abbrev pub ready_at : Phase → Result Bool Error
ready_at WaitingStart = Ok false
ready_at WaitingReplayEntries = Ok false
ready_at Replaying = Ok true
ready_at Processing = Ok true
ready_at Closed = Err (named_error fault.Closed None)

-- whether a handler may run: a failed machine answers its first error, or finds no memory
abbrev pub IsReadyAt : Option Error → Phase → Result Bool Error → Type 0
IsReadyAt None phase r = r ≡ ready_at phase
IsReadyAt (Some e) phase r = (r ≡ Err e) ⊎ (r ≡ Err no_memory)

-- the state as it is shown: a failed machine is closed
abbrev pub state_of : Machine → State
state_of v = if is_some v.failure then state.Closed else shown_state v.phase

-- minus one before any command
abbrev pub last_index : Option ℕ → ℤ
last_index None = negsuc 0
last_index (Some index) = pos index
