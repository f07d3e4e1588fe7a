use Rattle.std.proofs.Common.{refl}
use Rattle.await_arrivals.specs.declared.index.Index.{Index}
use Rattle.await_arrivals.proofs.Inserts.{named}
use Rattle.await_arrivals.proofs.index.Index.insert.Goals as goal

pub returns-in_ok-insert-in-SignalName-clause-ok : goal.returns-in_ok-insert-in-SignalName-clause-ok
returns-in_ok-insert-in-SignalName-clause-ok c =
    let old = c.args.self.now in
    let after : Index = record { completions = old.completions; signals = old.signals; names = c.insert-in-SignalName.new.self } in
    let k = c.in_ok-clone-in-SignalName in
    rw c.in-SignalName.is (named c.in-SignalName.name k.field-0 c.args.slot old after k.ensures.cases refl refl c.in_ok-insert-in-SignalName.ensures.updates.0)
