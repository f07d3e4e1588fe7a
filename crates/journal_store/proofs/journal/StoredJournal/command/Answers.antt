use Rattle.journal_store.proofs.Appended.{commanded}
use Rattle.journal_store.proofs.journal.StoredJournal.command.Goals as goal

pub returns-clause-ok : goal.returns-clause-ok
returns-clause-ok c = commanded c.args.command.now c.ids_in-called.result.called c.ids_in-called.result.result c.self.inside.ids c.carry_called.new.self c.carry_result.new.self c.self.inside.entries c.self.inside.kept c.args.self.now c.self.view_is c.ids_in-called.ensures c.in_ok-carry_called.ensures.ok c.in_ok-carry_result.ensures.ok
