use Rattle.std.proofs.Common.{ap}
use Rattle.vm_machine.specs.declared.machine.Machine.{Machine}
use Rattle.vm_awaits.proofs.Resolving.{woken_ends}
use Rattle.vm_awaits.proofs.awaits.await_either.Goals as goal

pub returns-in-Some : goal.returns-in-Some
returns-in-Some c =
    let v : Machine = c.args.machine.now in
    woken_ends c.args.handle c.in-Some.enough v (record v { results = c.use_first.new.results }) c.in-Some.ensures.least (ap (λ r. record v { results = r }) c.use_first.ensures) c.end_awake.result c.end_awake.new.machine c.end_awake.ensures
