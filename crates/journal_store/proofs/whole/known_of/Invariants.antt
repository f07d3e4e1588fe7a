use Rattle.std.proofs.Common.{[], take, drop}
use Rattle.journal_entries.specs.declared.fault.JournalFault.{JournalFault}
use Rattle.journal_entries.specs.Given.{AreGiven, FirstGiven}
use Rattle.journal_store.specs.Journals.{Holds}
use Rattle.journal_store.proofs.whole.known_of.Given as goal

abbrev pub invariant-loop-i : goal.invariant-loop-i
invariant-loop-i l = record {
  holds : Holds l.known (take l.i l.entries);
  goes_on : AreGiven (take l.i l.entries) (drop l.i l.entries) → AreGiven [] l.fn.entries;
  fails : (f : JournalFault) → FirstGiven (take l.i l.entries) (drop l.i l.entries) f → FirstGiven [] l.fn.entries f;
}
