use Rattle.std.proofs.Common.{sym, ◌∙◌}
use Rattle.vm_inputs.proofs.Acknowledging.{none_acknowledged, some_acknowledged}
use Rattle.vm_inputs.proofs.messages.acknowledge.Goals as goal

pub returns-in_default-clause-step : goal.returns-in_default-clause-step
returns-in_default-clause-step c = rw c.refuse.ensures (none_acknowledged c.args.id c.args.machine.now c.acknowledge.new.self (sym c.in_default.is ∙ c.acknowledge.ensures.found) c.acknowledge.ensures.rest)

pub returns-clause-step : goal.returns-clause-step
returns-clause-step c =
    some_acknowledged c.args.id c.args.machine.now c.in-Some.proposed c.completion_result.result c.acknowledge.new.self c.enqueue.new.self c.in-Some.ensures.found c.acknowledge.ensures.rest c.completion_result.ensures c.in_ok-enqueue.ensures.ok
