use Rattle.std.proofs.Common.{Some, ap, sym, ◌∙◌}
use Rattle.std.specs.List.{find, position}
use Rattle.vm_runs.specs.Firsts.{without_first}
use Rattle.vm_runs.specs.Pending.{has_handle}
use Rattle.vm_runs.proofs.Places.{first_at, found, removed, no_find, no_removal}
use Rattle.vm_runs.proofs.run_state.LateRuns.notify_execution_completed.Goals as goal

pub returns-in_err-at-clause-run : goal.returns-in_err-at-clause-run
returns-in_err-at-clause-run c = c.from_residual.ensures ∙ sym (no_find (has_handle c.args.executed) c.args.self.now (sym c.in_err-at.ensures))

pub returns-in_err-at-clause-rest : goal.returns-in_err-at-clause-rest
returns-in_err-at-clause-rest c = sym (no_removal (has_handle c.args.executed) c.args.self.now (sym c.in_err-at.ensures))

pub returns-clause-run : goal.returns-clause-run
returns-clause-run c =
    let p = has_handle c.args.executed in
    let runs = c.self.inside.pending.items in
    let first = first_at p runs c.in_ok-at.at c.remove.result (c.in_ok-at.ensures ∙ ap (position p) (sym c.self.view_is)) in
    ap Some c.remove.ensures.value ∙ sym (found p runs c.in_ok-at.at c.remove.result first) ∙ ap (find p) c.self.view_is

pub returns-clause-rest : goal.returns-clause-rest
returns-clause-rest c =
    let p = has_handle c.args.executed in
    let runs = c.self.inside.pending.items in
    let first = first_at p runs c.in_ok-at.at c.remove.result (c.in_ok-at.ensures ∙ ap (position p) (sym c.self.view_is)) in
    c.remove.ensures.items ∙ removed p runs c.in_ok-at.at c.remove.result first ∙ ap (without_first p) c.self.view_is
