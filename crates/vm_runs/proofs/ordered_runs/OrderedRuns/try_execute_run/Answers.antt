use Rattle.std.proofs.Common.{Some, None, refl, subst, ◌∙◌}
use Rattle.std.specs.List.{find}
use Rattle.vm_runs.specs.Pending.{may_execute}
use Rattle.vm_runs.proofs.Rising.{Rise, chosen, chosen_changes, none_changes, rise_from}
use Rattle.vm_runs.proofs.ordered_runs.OrderedRuns.try_execute_run.Goals as goal

pub returns-in_err-handle-clause-run : goal.returns-in_err-handle-clause-run
returns-in_err-handle-clause-run c =
    c.from_residual.ensures ∙ chosen c.args.any_handle.now (find (may_execute c.args.any_handle.now) c.args.self.now) None c.in_err-handle.ensures

pub returns-in_err-handle-clause-rest : goal.returns-in_err-handle-clause-rest
returns-in_err-handle-clause-rest c = none_changes c.args.any_handle.now c.args.self.now c.in_err-handle.ensures

pub returns-clause-run : goal.returns-clause-run
returns-clause-run c = chosen c.args.any_handle.now (find (may_execute c.args.any_handle.now) c.args.self.now) (Some c.in_ok-handle.handle) c.in_ok-handle.ensures

pub returns-clause-rest : goal.returns-clause-rest
returns-clause-rest c =
    let rise = subst Rise c.self.view_is (rise_from c.self.inside.by_handle.entries c.self.invariant.0 c.self.invariant.1) in
    c.execute.ensures ∙ chosen_changes c.args.any_handle.now c.args.self.now rise (find (may_execute c.args.any_handle.now) c.args.self.now) refl c.in_ok-handle.handle c.in_ok-handle.ensures
