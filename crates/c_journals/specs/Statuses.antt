-- How a call of a journal ends by a fault.
use Rattle.std.specs.Prelude.{ℕ, ◌==◌, if◌then◌else◌, Option, Some, None}
use Rattle.journal_protocol.specs.Version.{Version}
use Rattle.journal_protocol.specs.Version.TheVariants as version
use Rattle.journal_entries.specs.declared.fault.JournalFault.{JournalFault}
use Rattle.journal_entries.specs.declared.fault.JournalFault.TheVariants as journal_fault
use Rattle.c_values.specs.declared.status.Status.{Status}
use Rattle.c_values.specs.declared.status.Status.TheVariants as status

-- what says a fault
abbrev pub fault_status : JournalFault → Status
fault_status journal_fault.Memory = status.NoMemory
fault_status journal_fault.NotANotification = status.NotANotification
fault_status journal_fault.NoSuchId = status.NoSuchId
fault_status journal_fault.SecondCompletion = status.SecondCompletion
fault_status journal_fault.WrongKind = status.WrongKind
fault_status journal_fault.RunIsProposed = status.RunIsProposed
fault_status journal_fault.JournalFull = status.JournalFull
fault_status journal_fault.BadJournal = status.BadJournal

-- `refused` holds of the fault that a status says
abbrev pub IsFaultOf : Status → (JournalFault → Type 0) → Type 0
IsFaultOf status.NoMemory refused = refused journal_fault.Memory
IsFaultOf status.NotANotification refused = refused journal_fault.NotANotification
IsFaultOf status.NoSuchId refused = refused journal_fault.NoSuchId
IsFaultOf status.SecondCompletion refused = refused journal_fault.SecondCompletion
IsFaultOf status.WrongKind refused = refused journal_fault.WrongKind
IsFaultOf status.RunIsProposed refused = refused journal_fault.RunIsProposed
IsFaultOf status.JournalFull refused = refused journal_fault.JournalFull
IsFaultOf status.BadJournal refused = refused journal_fault.BadJournal
IsFaultOf told refused = ⊥

-- the version of a number: those that a VM is made for
abbrev pub version_named : ℕ → Option Version
version_named n =
    if n == 5 then Some version.V5
    else if n == 6 then Some version.V6
    else if n == 7 then Some version.V7
    else if n == 8 then Some version.V8
    else None
