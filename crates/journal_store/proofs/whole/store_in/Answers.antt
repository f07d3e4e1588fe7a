use Rattle.std.proofs.Common.{[]}
use Rattle.std.proofs.lemmas.Result.{on_ok_weaker}
use Rattle.journal_store.proofs.Faults.{fault_here}
use Rattle.journal_store.proofs.whole.store_in.Goals as goal

pub returns-clause-ok : goal.returns-clause-ok
returns-clause-ok c = on_ok_weaker c.store_from.result (λ h. (h [] c.requires).0) c.store_from.ensures.ok

pub returns-clause-holds : goal.returns-clause-holds
returns-clause-holds c = on_ok_weaker c.store_from.result (λ h. (h [] c.requires).1) c.store_from.ensures.ok

pub returns-clause-err : goal.returns-clause-err
returns-clause-err c = fault_here c.args.version c.args.n c.args.unstored.now c.args.known.now c.args.entries.now.items c.store_from.result c.requires c.store_from.ensures.err
