use Rattle.std.proofs.Common.{Some, ap, sym, ◌∙◌}
use Rattle.std.proofs.Math.ListN.{set}
use Rattle.std.specs.List.{find, position}
use Rattle.std.specs.Option.{option_map}
use Rattle.vm_runs.specs.Firsts.{with_first}
use Rattle.vm_runs.specs.Pending.{handle_of, may_execute, run_started}
use Rattle.vm_runs.proofs.Places.{first_at, found, changed, no_find, no_change}
use Rattle.vm_runs.proofs.run_state.LateRuns.try_execute_run.Goals as goal

pub returns-in_err-at-clause-run : goal.returns-in_err-at-clause-run
returns-in_err-at-clause-run c =
    c.from_residual.ensures ∙ sym (ap (option_map handle_of) (no_find (may_execute c.args.any_handle.now) c.args.self.now (sym c.in_err-at.ensures)))

pub returns-in_err-at-clause-rest : goal.returns-in_err-at-clause-rest
returns-in_err-at-clause-rest c = sym (no_change (may_execute c.args.any_handle.now) run_started c.args.self.now (sym c.in_err-at.ensures))

pub returns-clause-run : goal.returns-clause-run
returns-clause-run c =
    let p = may_execute c.args.any_handle.now in
    let runs = c.self.inside.pending.items in
    let run = c.index_mut-run.result.now in
    let first = first_at p runs c.in_ok-at.at run (c.in_ok-at.ensures ∙ ap (position p) (sym c.self.view_is)) in
    ap (λ r. Some (handle_of r)) c.index_mut-run.ensures.value
    ∙ sym (ap (option_map handle_of) (found p runs c.in_ok-at.at run first))
    ∙ ap (λ rs. option_map handle_of (find p rs)) c.self.view_is

pub returns-clause-rest : goal.returns-clause-rest
returns-clause-rest c =
    let p = may_execute c.args.any_handle.now in
    let runs = c.self.inside.pending.items in
    let run = c.index_mut-run.result.now in
    let first = first_at p runs c.in_ok-at.at run (c.in_ok-at.ensures ∙ ap (position p) (sym c.self.view_is)) in
    ap (λ r. set runs c.in_ok-at.at (run_started r)) c.index_mut-run.ensures.value
    ∙ changed p run_started runs c.in_ok-at.at run first
    ∙ ap (with_first p run_started) c.self.view_is
