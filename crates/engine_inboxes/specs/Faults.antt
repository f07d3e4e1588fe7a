-- What the faults of rounds are to an engine.
use Rattle.std.specs.Prelude.{◌≡◌, ◌⊎◌}
use Rattle.journal_entries.specs.declared.fault.JournalFault.{JournalFault}
use Rattle.journal_entries.specs.declared.fault.JournalFault.TheVariants as journal_fault
use Rattle.engine_inboxes.specs.declared.types.InboxFault.{InboxFault}
use Rattle.engine_inboxes.specs.declared.types.InboxFault.TheVariants as inbox_fault
use Rattle.engine_inboxes.specs.declared.fault.EngineFault.{EngineFault}
use Rattle.engine_inboxes.specs.declared.fault.EngineFault.TheVariants as fault

-- what the fault of an arrival is
abbrev pub fault_of_arrival : JournalFault → EngineFault
fault_of_arrival journal_fault.Memory = fault.Memory
fault_of_arrival journal_fault.JournalFull = fault.Full
fault_of_arrival f = fault.Arrival f

-- it is out of memory, or a journal is full
abbrev pub IsMemoryOrFull : EngineFault → Type 0
IsMemoryOrFull f = (f ≡ fault.Memory) ⊎ (f ≡ fault.Full)

-- what the fault of a store is
abbrev pub fault_of_store : JournalFault → EngineFault
fault_of_store journal_fault.Memory = fault.Memory
fault_of_store journal_fault.JournalFull = fault.Full
fault_of_store f = fault.Stored f

-- what the fault of an entry's effect is
abbrev pub fault_of_entry : InboxFault → EngineFault
fault_of_entry inbox_fault.Memory = fault.Memory
fault_of_entry inbox_fault.IdNotNew = fault.IdNotNew
fault_of_entry inbox_fault.NotARun = fault.NotARun

-- it is not that of an arrival
abbrev pub IsNoArrival : EngineFault → Type 0
IsNoArrival (fault.Arrival f) = ⊥
IsNoArrival f = Unit {0}
