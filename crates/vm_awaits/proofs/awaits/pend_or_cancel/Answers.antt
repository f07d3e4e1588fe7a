use Rattle.std.proofs.Common.{ap}
use Rattle.vm_machine.specs.declared.machine.Machine.{Machine}
use Rattle.vm_awaits.proofs.Resolving.{asleep_stays}
use Rattle.vm_awaits.proofs.awaits.pend_or_cancel.Goals as goal

pub returns-then-not-is_replaying : goal.returns-then-not-is_replaying
returns-then-not-is_replaying c =
    let v : Machine = c.args.machine.now in
    asleep_stays c.args.handle v (record v { results = c.use_all.new.results }) c.requires (ap (λ r. record v { results = r }) c.use_all.ensures) c.pend_on_either.result c.pend_on_either.new.machine c.pend_on_either.ensures
