use Rattle.std.proofs.Common.{ap, find, sym, ◌++◌, ◌∙◌}
use Rattle.std.specs.Option.{option_map}
use Rattle.vm_runs.specs.Firsts.{without_first}
use Rattle.vm_runs.specs.Kept.{is_for, result_of}
use Rattle.vm_runs.proofs.Places.{earlier_of, later_of, none_of, without_earlier_of, without_later}
use Rattle.vm_runs.proofs.kept.KeptProposals.acknowledge.Goals as goal

pub returns-in-Some-clause-found : goal.returns-in-Some-clause-found
returns-in-Some-clause-found c =
    let p = is_for c.args.completion_id in
    earlier_of result_of p c.self.inside.ordered c.self.inside.late c.in-Some.proposed c.in-Some.ensures.found ∙ ap (λ l. option_map result_of (find p l)) c.self.view_is

pub returns-in-Some-clause-rest : goal.returns-in-Some-clause-rest
returns-in-Some-clause-rest c =
    let p = is_for c.args.completion_id in
    ap (λ l. l ++ c.self.inside.late) c.acknowledge.ensures.rest
    ∙ without_earlier_of result_of p c.self.inside.ordered c.self.inside.late c.in-Some.proposed c.in-Some.ensures.found ∙ ap (without_first p) c.self.view_is

pub returns-in-None-clause-found : goal.returns-in-None-clause-found
returns-in-None-clause-found c =
    let p = is_for c.args.completion_id in
    later_of result_of p c.self.inside.ordered c.self.inside.late c.acknowledge-in-None.result c.in-None.ensures.found c.acknowledge-in-None.ensures.found
    ∙ ap (λ l. option_map result_of (find p l)) c.self.view_is

pub returns-in-None-clause-rest : goal.returns-in-None-clause-rest
returns-in-None-clause-rest c =
    let p = is_for c.args.completion_id in
    ap (λ l. l ++ c.acknowledge-in-None.new.self) c.acknowledge.ensures.rest
    ∙ ap (λ l. without_first p c.self.inside.ordered ++ l) c.acknowledge-in-None.ensures.rest
    ∙ sym (without_later p c.self.inside.ordered c.self.inside.late (none_of result_of p c.self.inside.ordered c.self.inside.late c.in-None.ensures.found)) ∙ ap (without_first p) c.self.view_is
