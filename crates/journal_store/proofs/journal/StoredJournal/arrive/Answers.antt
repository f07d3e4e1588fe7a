use Rattle.journal_store.proofs.Appended.{arrived}
use Rattle.journal_store.proofs.journal.StoredJournal.arrive.Goals as goal

pub returns-in-Ok-clause-ok : goal.returns-in-Ok-clause-ok
returns-in-Ok-clause-ok c =
    let note = rw c.in-Ok-Some.field-0-is at c.in-Ok-Some.ensures.note in
    arrived c.args.entry.now c.in-Ok-Some.note c.args.self.now c.arrive_read.new.self note c.in-Ok.ensures.ok.0 c.in-Ok.ensures.ok.1
