use Rattle.std.proofs.Common.{ap, find, ◌∙◌}
use Rattle.std.specs.Option.{option_map}
use Rattle.vm_runs.specs.Pending.{has_handle, run_info}
use Rattle.vm_runs.proofs.Places.{earlier_of, later_of}
use Rattle.vm_runs.proofs.run_state.RunState.get_run_info.Goals as goal

pub returns-in-Some : goal.returns-in-Some
returns-in-Some c =
    let p = has_handle c.args.handle.now in
    earlier_of run_info p c.self.inside.ordered c.self.inside.late (c.in-Some.info.0, c.in-Some.info.1.now) c.in-Some.ensures ∙ ap (λ runs. option_map run_info (find p runs)) c.self.view_is

pub returns-in-None : goal.returns-in-None
returns-in-None c =
    let p = has_handle c.args.handle.now in
    later_of run_info p c.self.inside.ordered c.self.inside.late (option_map (λ info. (info.0, info.1.now)) c.get_run_info-in-None.result) c.in-None.ensures c.get_run_info-in-None.ensures
    ∙ ap (λ runs. option_map run_info (find p runs)) c.self.view_is
