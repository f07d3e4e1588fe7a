use Rattle.std.proofs.Common.{subst, sym, ◌∙◌}
use Rattle.c_journals.specs.Journals.{OutputDone}
use Rattle.c_journals.proofs.Faults.{output_refused}
use Rattle.c_journals.proofs.Undoing.{undone_from}
use Rattle.c_journals.proofs.journal.HeldJournal.store.Goals as goal

pub returns-in-Err-clause-done : goal.returns-in-Err-clause-done
returns-in-Err-clause-done c = subst (λ named. OutputDone c.args.version c.args.output.now named c.answer_store-in-Err.result c.args.self.now c.undo-in-Err.new.self) (sym (c.answer_store-in-Err.ensures.status ∙ c.fault_status.ensures)) (output_refused _ _ c.in-Err.fault _ _ _ c.in-Err.ensures.err (record {
  undone = undone_from _ _ _ c.in-Err.ensures.kept c.undo-in-Err.ensures;
  rows = c.answer_store-in-Err.ensures.rows;
  feed = c.answer_store-in-Err.ensures.feed;
}))
