use Rattle.std.proofs.Common.{sym, ◌∙◌}
use Rattle.journal_store.proofs.Appended.{arriving_room}
use Rattle.journal_store.proofs.journal.StoredJournal.arrive_read.Goals as goal

pub note-requires : goal.note-requires
note-requires c = arriving_room c.args.note.now.id c.args.note.now.result c.args.self.now c.arriving_fault.ensures.small (sym c.arriving_fault.ensures.fault ∙ c.in-None.is)
