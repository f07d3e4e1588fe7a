use Rattle.std.proofs.Common.{ap, subst, sym, ◌∙◌}
use Rattle.journal_entries.specs.Arrivals.{arrival_fault}
use Rattle.c_journals.specs.Journals.{EntryDone}
use Rattle.c_journals.specs.Rows.{no_row}
use Rattle.c_journals.proofs.Faults.{entry_refused}
use Rattle.c_journals.proofs.Undoing.{undone_from}
use Rattle.c_journals.proofs.journal.HeldJournal.arrive.Goals as goal

pub returns-in-Err : goal.returns-in-Err
returns-in-Err c = subst (λ named. EntryDone (arrival_fault c.args.entry.now) c.args.entry.now named c.no_row.result c.args.self.now c.undo.new.self) (sym (c.no_row.ensures.status ∙ c.fault_status.ensures)) (entry_refused _ _ c.in-Err.fault _ _ _ (record {
  found = c.in-Err.ensures.err;
  undone = undone_from _ _ _ c.in-Err.ensures.kept c.undo.ensures;
  answer = c.no_row.ensures.row ∙ ap (λ status. no_row status) c.fault_status.ensures;
}))
