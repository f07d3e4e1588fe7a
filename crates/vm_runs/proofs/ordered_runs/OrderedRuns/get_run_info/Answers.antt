use Rattle.std.proofs.Common.{Some, ap, find, ◌∙◌}
use Rattle.std.specs.BTreeMap.{is_at}
use Rattle.std.specs.Option.{option_map}
use Rattle.std.specs.Ordering.{nat_cmp}
use Rattle.vm_runs.specs.Pending.{has_handle, run_info}
use Rattle.vm_runs.proofs.Entries.{found}
use Rattle.vm_runs.proofs.Rising.{handles_say}
use Rattle.vm_runs.proofs.ordered_runs.OrderedRuns.get_run_info.Goals as goal

pub returns-in_err-run : goal.returns-in_err-run
returns-in_err-run c =
    let h = c.args.handle.now.0 in
    let es = c.self.inside.by_handle.entries in
    ap (option_map (λ info. (info.0, info.1.now))) c.from_residual.ensures
    ∙ ap (option_map run_info) (c.in_err-run.ensures.value ∙ found (has_handle c.args.handle.now) (is_at (nat_cmp h)) es (handles_say h es c.self.invariant.0) ∙ ap (find (has_handle c.args.handle.now)) c.self.view_is)

pub returns : goal.returns
returns c =
    let h = c.args.handle.now.0 in
    let es = c.self.inside.by_handle.entries in
    ap (λ name. Some (c.in_ok-run.run'.now.command_index, name)) c.as_str.ensures
    ∙ ap (option_map run_info) (c.in_ok-run.ensures.value ∙ found (has_handle c.args.handle.now) (is_at (nat_cmp h)) es (handles_say h es c.self.invariant.0) ∙ ap (find (has_handle c.args.handle.now)) c.self.view_is)
