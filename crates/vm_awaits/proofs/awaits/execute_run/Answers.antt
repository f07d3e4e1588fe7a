use Rattle.std.proofs.Common.{ap}
use Rattle.vm_machine.specs.declared.machine.Machine.{Machine}
use Rattle.vm_awaits.proofs.Waiting.{none_executed}
use Rattle.vm_awaits.proofs.awaits.execute_run.Goals as goal

pub returns-in-None-clause-none : goal.returns-in-None-clause-none
returns-in-None-clause-none c =
    let v : Machine = c.args.machine.now in
    ap (λ runs. record v { runs = runs }) (none_executed c.args.handles.now v.runs c.try_execute_run.new.self c.in-None.ensures.run c.in-None.ensures.rest)
