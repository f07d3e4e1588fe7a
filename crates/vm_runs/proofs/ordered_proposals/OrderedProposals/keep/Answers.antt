use Rattle.std.proofs.Common.{ℕ, ◌∷◌, [], ◌++◌, Option, Some, ap, sym, subst, nat_cmp, ◌∙◌}
use Rattle.std.specs.BTreeMap.{is_at}
use Rattle.std.specs.Map.{lookup, values_of}
use Rattle.journal_attempt.specs.declared.runs.ProposeRunCompletion.{ProposeRunCompletion}
use Rattle.vm_runs.proofs.Entries.{added, values_added}
use Rattle.vm_runs.proofs.Numbered.{AtNum, NoneFor, one_more, others_lead, unless_some}
use Rattle.vm_runs.proofs.ordered_proposals.OrderedProposals.keep.Goals as goal

pub invariant_of-self-in_err-insert-2 : goal.invariant_of-self-in_err-insert-2
invariant_of-self-in_err-insert-2 c =
    let id = c.args.completion_id in
    let es = c.self.inside.kept.entries in
    let old : ℕ → Option ℕ = λ q. lookup (is_at (nat_cmp q)) c.self.inside.numbers.entries in
    let new : ℕ → Option ℕ = λ q. lookup (is_at (nat_cmp q)) c.insert.new.self.entries in
    let none = unless_some (NoneFor id es) c.number_of.result (sym c.is_some.ensures ∙ c.if-is_some.false) c.number_of.ensures.none in
    let at = others_lead old new id (Some c.in-Some.number) es c.in_ok-insert.ensures.updates.0 none c.self.invariant.0 in
    (subst (AtNum new) (sym c.in_err-insert-2.ensures.err) at, c.insert-2.ensures.ordered)

pub invariant_of-self-2 : goal.invariant_of-self-2
invariant_of-self-2 c =
    let id = c.args.completion_id in
    let es = c.self.inside.kept.entries in
    let n = c.in-Some.number in
    let kept : ProposeRunCompletion = record { id = id; result = c.args.proposed } in
    let old : ℕ → Option ℕ = λ q. lookup (is_at (nat_cmp q)) c.self.inside.numbers.entries in
    let new : ℕ → Option ℕ = λ q. lookup (is_at (nat_cmp q)) c.insert.new.self.entries in
    let none = unless_some (NoneFor id es) c.number_of.result (sym c.is_some.ensures ∙ c.if-is_some.false) c.number_of.ensures.none in
    let at = others_lead old new id (Some n) es c.in_ok-insert.ensures.updates.0 none c.self.invariant.0 in
    let entries = c.in_ok-insert-2.ensures.entries ∙ added n kept es c.in-Some.ensures in
    (subst (AtNum new) (sym entries) (one_more new n kept es c.in_ok-insert.ensures.updates.1 at), c.insert-2.ensures.ordered)

pub returns-clause-kept : goal.returns-clause-kept
returns-clause-kept c =
    let kept : ProposeRunCompletion = record { id = c.args.completion_id; result = c.args.proposed } in
    let es = c.self.inside.kept.entries in
    ap values_of c.in_ok-insert-2.ensures.entries ∙ values_added c.in-Some.number kept es c.in-Some.ensures ∙ ap (λ l. l ++ kept ∷ []) c.self.view_is
