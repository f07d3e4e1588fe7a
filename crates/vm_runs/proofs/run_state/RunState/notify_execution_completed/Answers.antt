use Rattle.std.proofs.Common.{ap, find, sym, ◌++◌, ◌∙◌}
use Rattle.vm_runs.specs.Firsts.{without_first}
use Rattle.vm_runs.specs.Pending.{has_handle}
use Rattle.vm_runs.proofs.Places.{found_earlier, found_later, without_earlier, without_later}
use Rattle.vm_runs.proofs.run_state.RunState.notify_execution_completed.Goals as goal

pub returns-in-Some-clause-run : goal.returns-in-Some-clause-run
returns-in-Some-clause-run c =
    let p = has_handle c.args.executed in
    found_earlier p c.self.inside.ordered c.self.inside.late c.in-Some.run' c.in-Some.ensures.run ∙ ap (find p) c.self.view_is

pub returns-in-Some-clause-rest : goal.returns-in-Some-clause-rest
returns-in-Some-clause-rest c =
    let p = has_handle c.args.executed in
    ap (λ runs. runs ++ c.self.inside.late) c.notify_execution_completed.ensures.rest
    ∙ sym (without_earlier p c.self.inside.ordered c.self.inside.late c.in-Some.run' (sym c.in-Some.ensures.run)) ∙ ap (without_first p) c.self.view_is

pub returns-in-None-clause-run : goal.returns-in-None-clause-run
returns-in-None-clause-run c =
    let p = has_handle c.args.executed in
    found_later p c.self.inside.ordered c.self.inside.late c.notify_execution_completed-in-None.result c.in-None.ensures.run c.notify_execution_completed-in-None.ensures.run ∙ ap (find p) c.self.view_is

pub returns-in-None-clause-rest : goal.returns-in-None-clause-rest
returns-in-None-clause-rest c =
    let p = has_handle c.args.executed in
    ap (λ runs. runs ++ c.notify_execution_completed-in-None.new.self) c.notify_execution_completed.ensures.rest
    ∙ ap (λ runs. without_first p c.self.inside.ordered ++ runs) c.notify_execution_completed-in-None.ensures.rest
    ∙ sym (without_later p c.self.inside.ordered c.self.inside.late (sym c.in-None.ensures.run)) ∙ ap (without_first p) c.self.view_is
