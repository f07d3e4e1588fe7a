use Rattle.journal_store.proofs.KnownIds.{then_kept, then_now}
use Rattle.journal_store.proofs.ids.Ids.keep.Goals as goal

pub returns-clause-now : goal.returns-clause-now
returns-clause-now c = then_now c.self.inside.kept c.self.inside.since c.append.new.self c.append.new.other c.args.self.now c.self.view_is c.in_ok-append.ensures.inserts_all c.append.ensures.other_was_ordered c.in_ok-append.ensures.ok

pub returns-clause-kept : goal.returns-clause-kept
returns-clause-kept c = then_kept c.self.inside.kept c.self.inside.since c.append.new.self c.append.new.other c.args.self.now c.self.view_is c.in_ok-append.ensures.inserts_all c.append.ensures.other_was_ordered
