use Rattle.std.proofs.Common.{sym, ◌∙◌}
use Rattle.journal_store.proofs.Appended.{given_room}
use Rattle.journal_store.proofs.journal.StoredJournal.load.Goals as goal

pub append-requires : goal.append-requires
append-requires c = given_room c.args.raw.now c.args.read.now c.args.self.now c.given_fault.ensures.small (sym c.in-Ok-None.ensures.fault ∙ c.in-Ok-None.field-0-is)
