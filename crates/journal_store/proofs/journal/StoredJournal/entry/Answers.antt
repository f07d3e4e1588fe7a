use Rattle.std.proofs.Common.{sym, ◌∙◌}
use Rattle.std.proofs.lemmas.Result.{on_ok_weaker}
use Rattle.journal_store.proofs.Appended.{entered}
use Rattle.journal_store.proofs.journal.StoredJournal.entry.Goals as goal

pub returns-in-Ok-Some-clause-ok : goal.returns-in-Ok-Some-clause-ok
returns-in-Ok-Some-clause-ok c = on_ok_weaker c.load_raw.result (λ h. entered c.args.entry.now c.in-Ok-Some.raw c.args.self.now c.load_raw.new.self (sym c.in-Ok-Some.ensures ∙ c.in-Ok-Some.field-0-is) h) c.load_raw.ensures.ok
