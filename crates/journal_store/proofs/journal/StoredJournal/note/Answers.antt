use Rattle.journal_store.proofs.Appended.{noted}
use Rattle.journal_store.proofs.journal.StoredJournal.note.Goals as goal

pub returns-clause-ok : goal.returns-clause-ok
returns-clause-ok c = noted c.args.note.now c.self.inside.ids c.note.new.self c.self.inside.entries c.self.inside.kept c.args.self.now c.self.view_is c.in_ok-note.ensures.ok
