use Rattle.std.proofs.Common.{ap, sym, ◌∙◌}
use Rattle.vm_runs.specs.Pending.{has_handle}
use Rattle.vm_machine.specs.declared.machine.Machine.{Machine}
use Rattle.vm_runs.proofs.Finding.{not_found}
use Rattle.vm_awaits.proofs.proposals.take_run.Goals as goal

pub returns-in-None-clause-none : goal.returns-in-None-clause-none
returns-in-None-clause-none c =
    let v : Machine = c.args.machine.now in
    let same = c.in-None.ensures.rest ∙ not_found (has_handle c.args.handle) v.runs (sym c.in-None.ensures.run) in
    ap (λ runs. record v { runs = runs }) same
