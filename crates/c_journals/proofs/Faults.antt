-- What ends by a fault ends as the status of this fault says.
use Rattle.std.proofs.Common.{ℕ, List, [], length, Option}
use Rattle.journal_protocol.specs.Version.{Version}
use Rattle.journal_entries.specs.declared.fault.JournalFault.{JournalFault}
use Rattle.journal_entries.specs.declared.fault.JournalFault.TheVariants as journal_fault
use Rattle.journal_store.specs.Stored.{IsStoringFault}
use Rattle.c_journals.specs.declared.journal.HeldJournal.{HeldJournal}
use Rattle.c_journals.specs.declared.row.Row.{Row}
use Rattle.c_journals.specs.declared.row.Stored.{Stored}
use Rattle.c_journals.specs.Journals.{EntryDone, EntryRefused, IsntStored, OutputDone}
use Rattle.c_journals.specs.Statuses.{fault_status}

-- an entry is refused
pub entry_refused : (fault : List (List ℕ) → Option JournalFault) (entry : List ℕ) (f : JournalFault) (row : Row) (old new : HeldJournal) → EntryRefused fault f row old new → EntryDone fault entry (fault_status f) row old new
entry_refused fault entry journal_fault.Memory row old new refused = refused
entry_refused fault entry journal_fault.NotANotification row old new refused = refused
entry_refused fault entry journal_fault.NoSuchId row old new refused = refused
entry_refused fault entry journal_fault.SecondCompletion row old new refused = refused
entry_refused fault entry journal_fault.WrongKind row old new refused = refused
entry_refused fault entry journal_fault.RunIsProposed row old new refused = refused
entry_refused fault entry journal_fault.JournalFull row old new refused = refused
entry_refused fault entry journal_fault.BadJournal row old new refused = refused

-- an output isn't stored
pub output_refused : (version : Version) (output : List ℕ) (f : JournalFault) (stored : Stored) (old new : HeldJournal) → IsStoringFault version (length output) output old.journal [] f → IsntStored stored old new → OutputDone version output (fault_status f) stored old new
output_refused version output journal_fault.Memory stored old new found undone = (found, undone)
output_refused version output journal_fault.NotANotification stored old new found undone = (found, undone)
output_refused version output journal_fault.NoSuchId stored old new found undone = (found, undone)
output_refused version output journal_fault.SecondCompletion stored old new found undone = (found, undone)
output_refused version output journal_fault.WrongKind stored old new found undone = (found, undone)
output_refused version output journal_fault.RunIsProposed stored old new found undone = (found, undone)
output_refused version output journal_fault.JournalFull stored old new found undone = (found, undone)
output_refused version output journal_fault.BadJournal stored old new found undone = (found, undone)
