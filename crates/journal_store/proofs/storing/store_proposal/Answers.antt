use Rattle.std.proofs.Common.{sym, ◌∙◌}
use Rattle.journal_store.proofs.Stored.{completion_appends}
use Rattle.journal_store.proofs.storing.store_proposal.Goals as goal

pub returns-in-Ok-clause-ok : goal.returns-in-Ok-clause-ok
returns-in-Ok-clause-ok c = record {
  faultless = sym c.proposing_fault.ensures.fault ∙ c.in-None.is;
  stored = c.in-Ok.ensures.stored;
  waits = c.in-Ok.ensures.waits;
  whole = c.in-Ok.ensures.whole;
  appends = completion_appends c.args.proposal c.args.journal.now c.settle.new.journal c.in-Ok.ensures.whole.0 c.in-Ok.ensures.appended;
}
