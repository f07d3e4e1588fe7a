use Rattle.std.proofs.Common.{ℕ, ◌≡◌, Option, Some, None, ap, find, sym, subst, nat_cmp, ◌∙◌}
use Rattle.std.specs.BTreeMap.{is_at}
use Rattle.std.specs.Map.{lookup, values_of}
use Rattle.std.specs.Option.{option_map}
use Rattle.std.proofs.lemmas.Map.{none_passes_from_lookup}
use Rattle.journal_attempt.specs.declared.runs.ProposeRunCompletion.{ProposeRunCompletion}
use Rattle.vm_runs.specs.Firsts.{without_first}
use Rattle.vm_runs.specs.Kept.{is_for, result_of}
use Rattle.vm_runs.proofs.Entries.{SayTheSame, found, removed}
use Rattle.vm_runs.proofs.Numbered.{AtNum, all_removed, none_left, not_found, not_removed, others_lead}
use Rattle.vm_runs.proofs.ordered_proposals.OrderedProposals.acknowledge.Goals as goal
use Rattle.vm_runs.proofs.ordered_proposals.OrderedProposals.acknowledge.Goals.{in-Some, in-None}

pub returns-in_err-number-clause-found : goal.returns-in_err-number-clause-found
returns-in_err-number-clause-found c =
    let id = c.args.completion_id in
    c.from_residual.ensures ∙ sym (ap (option_map result_of) (not_found id c.self.inside.kept.entries c.in_err-number.ensures.none)) ∙ ap (λ l. option_map result_of (find (is_for id) l)) c.self.view_is

pub returns-in_err-number-clause-rest : goal.returns-in_err-number-clause-rest
returns-in_err-number-clause-rest c =
    let id = c.args.completion_id in
    sym c.self.view_is ∙ not_removed id c.self.inside.kept.entries c.in_err-number.ensures.none ∙ ap (without_first (is_for id)) c.self.view_is

pub invariant_of-self : goal.invariant_of-self
invariant_of-self c =
    let id = c.args.completion_id in
    let test = is_at (nat_cmp c.in_ok-number.number) in
    let es = c.self.inside.kept.entries in
    let left = c.remove-2.new.self.entries in
    let old : ℕ → Option ℕ = λ q. lookup (is_at (nat_cmp q)) c.self.inside.numbers.entries in
    let new : ℕ → Option ℕ = λ q. lookup (is_at (nat_cmp q)) c.remove.new.self.entries in
    let entries = sym c.remove-2.ensures.entries in
    let same = subst (SayTheSame (is_for id) test) entries (all_removed (λ (e : ℕ × ProposeRunCompletion). is_for id e.1 ≡ test e.0) test es c.in_ok-number.ensures.some) in
    let none = none_left id test left same (none_passes_from_lookup test left c.remove-2.ensures.updates.1) in
    let at = subst (AtNum old) entries (all_removed (λ (e : ℕ × ProposeRunCompletion). old e.1.id ≡ Some e.0) test es c.self.invariant.0) in
    (others_lead old new id None left c.remove.ensures.updates.0 none at, c.remove-2.ensures.ordered)

pub returns-clause-found : goal.returns-clause-found
returns-clause-found c =
    let id = c.args.completion_id in
    let test = is_at (nat_cmp c.in_ok-number.number) in
    let es = c.self.inside.kept.entries in
    let result : c.match-remove.result ≡ option_map result_of c.remove-2.result = elim c.match-remove.branch [
      | in-Some w ↦ w.result-is ∙ sym (ap (option_map result_of) w.in-Some.is)
      | in-None w ↦ w.result-is ∙ sym (ap (option_map result_of) w.in-None.is)
    ] in
    result ∙ ap (option_map result_of) (c.remove-2.ensures.value ∙ found (is_for id) test es c.in_ok-number.ensures.some ∙ ap (find (is_for id)) c.self.view_is)

pub returns-clause-rest : goal.returns-clause-rest
returns-clause-rest c =
    let id = c.args.completion_id in
    let test = is_at (nat_cmp c.in_ok-number.number) in
    let es = c.self.inside.kept.entries in
    ap values_of c.remove-2.ensures.entries ∙ removed (is_for id) test es c.in_ok-number.ensures.some ∙ ap (without_first (is_for id)) c.self.view_is
