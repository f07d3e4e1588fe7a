use Rattle.std.proofs.Common.{ap, find, sym, ◌++◌, ◌∙◌}
use Rattle.std.specs.Option.{option_map}
use Rattle.vm_runs.specs.Firsts.{with_first}
use Rattle.vm_runs.specs.Pending.{handle_of, may_execute, run_started}
use Rattle.vm_runs.proofs.Places.{earlier_of, later_of, with_earlier_of, with_later, none_of}
use Rattle.vm_runs.proofs.run_state.RunState.try_execute_run.Goals as goal

pub returns-in-Some-clause-run : goal.returns-in-Some-clause-run
returns-in-Some-clause-run c =
    let p = may_execute c.args.any_handle.now in
    earlier_of handle_of p c.self.inside.ordered c.self.inside.late c.in-Some.handle c.in-Some.ensures.run ∙ ap (λ runs. option_map handle_of (find p runs)) c.self.view_is

pub returns-in-Some-clause-rest : goal.returns-in-Some-clause-rest
returns-in-Some-clause-rest c =
    let p = may_execute c.args.any_handle.now in
    ap (λ runs. runs ++ c.self.inside.late) c.try_execute_run.ensures.rest
    ∙ with_earlier_of handle_of p c.self.inside.ordered c.self.inside.late run_started c.in-Some.handle c.in-Some.ensures.run ∙ ap (with_first p run_started) c.self.view_is

pub returns-in-None-clause-run : goal.returns-in-None-clause-run
returns-in-None-clause-run c =
    let p = may_execute c.args.any_handle.now in
    later_of handle_of p c.self.inside.ordered c.self.inside.late c.try_execute_run-in-None.result c.in-None.ensures.run c.try_execute_run-in-None.ensures.run ∙ ap (λ runs. option_map handle_of (find p runs)) c.self.view_is

pub returns-in-None-clause-rest : goal.returns-in-None-clause-rest
returns-in-None-clause-rest c =
    let p = may_execute c.args.any_handle.now in
    ap (λ runs. runs ++ c.try_execute_run-in-None.new.self) c.try_execute_run.ensures.rest
    ∙ ap (λ runs. with_first p run_started c.self.inside.ordered ++ runs) c.try_execute_run-in-None.ensures.rest
    ∙ sym (with_later p run_started c.self.inside.ordered c.self.inside.late (none_of handle_of p c.self.inside.ordered c.self.inside.late c.in-None.ensures.run)) ∙ ap (with_first p run_started) c.self.view_is
