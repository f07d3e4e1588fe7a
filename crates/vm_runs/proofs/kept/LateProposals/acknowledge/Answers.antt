use Rattle.std.proofs.Common.{Some, ap, sym, ◌∙◌}
use Rattle.std.specs.List.{find, position}
use Rattle.std.specs.Option.{option_map}
use Rattle.vm_runs.specs.Firsts.{without_first}
use Rattle.vm_runs.specs.Kept.{is_for, result_of}
use Rattle.vm_runs.proofs.Places.{first_at, found, removed, no_find, no_removal}
use Rattle.vm_runs.proofs.kept.LateProposals.acknowledge.Goals as goal

pub returns-in_err-at-clause-found : goal.returns-in_err-at-clause-found
returns-in_err-at-clause-found c =
    c.from_residual.ensures ∙ sym (ap (option_map result_of) (no_find (is_for c.args.completion_id) c.args.self.now (sym c.in_err-at.ensures)))

pub returns-in_err-at-clause-rest : goal.returns-in_err-at-clause-rest
returns-in_err-at-clause-rest c = sym (no_removal (is_for c.args.completion_id) c.args.self.now (sym c.in_err-at.ensures))

pub returns-clause-found : goal.returns-clause-found
returns-clause-found c =
    let p = is_for c.args.completion_id in
    let kept = c.self.inside.kept.items in
    let first = first_at p kept c.in_ok-at.at c.remove.result (c.in_ok-at.ensures ∙ ap (position p) (sym c.self.view_is)) in
    ap (λ k. Some (result_of k)) c.remove.ensures.value
    ∙ sym (ap (option_map result_of) (found p kept c.in_ok-at.at c.remove.result first))
    ∙ ap (λ ks. option_map result_of (find p ks)) c.self.view_is

pub returns-clause-rest : goal.returns-clause-rest
returns-clause-rest c =
    let p = is_for c.args.completion_id in
    let kept = c.self.inside.kept.items in
    let first = first_at p kept c.in_ok-at.at c.remove.result (c.in_ok-at.ensures ∙ ap (position p) (sym c.self.view_is)) in
    c.remove.ensures.items ∙ removed p kept c.in_ok-at.at c.remove.result first ∙ ap (without_first p) c.self.view_is
