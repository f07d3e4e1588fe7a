use Rattle.std.proofs.Common.{ℕ, ◌≡◌, Option, Some, None, Bool, IfNone, ap, arith, subst, sym, false, nat_cmp, true, ◌∙◌}
use Rattle.std.specs.Prelude.{◌==◌}
use Rattle.std.specs.BTreeMap.{is_at}
use Rattle.std.specs.Map.{lookup}
use Rattle.std.specs.Cmp.{nat_cmp_total}
use Rattle.std.proofs.lemmas.Bool.Decides.{nat_tests}
use Rattle.std.proofs.lemmas.List.Elements.{recursion_from_All}
use Rattle.std.proofs.lemmas.Map.Views.{All-found}
use Rattle.journal_attempt.specs.declared.runs.ProposeRunCompletion.{ProposeRunCompletion}
use Rattle.vm_runs.specs.Kept.{is_for}
use Rattle.vm_runs.proofs.Numbered.{NoneFor, not_there, there}
use Rattle.vm_runs.proofs.ordered_proposals.number_of.Goals as goal

is_none : (k : ProposeRunCompletion) (b : Bool) → None ≡ Some k → b ≡ false
is_none k b e = absurd (none e)
  where
    none : None ≡ Some k → ⊥
    none e = cc

is_same : (k other : ProposeRunCompletion) → Some k ≡ Some other → k ≡ other
is_same k other e = cc

apart : (a b : ℕ) → (a ≡ b → ⊥) → (a == b) ≡ false
apart a b n = grind (arith, nat_tests)

itself : (a b : ℕ) → a ≡ b → (a == b) ≡ true
itself a b e = grind (arith, nat_tests)

pub returns-in_err-found-clause-none : goal.returns-in_err-found-clause-none
returns-in_err-found-clause-none c =
    let kept = c.args.kept.now in
    let num : ℕ → Option ℕ = λ q. lookup (is_at (nat_cmp q)) c.args.numbers.now.entries in
    let get : ℕ → Option ProposeRunCompletion = λ n. lookup (is_at (nat_cmp n)) kept.entries in
    let id = c.args.completion_id in
    let got = recursion_from_All (λ (e : ℕ × ProposeRunCompletion). get e.0 ≡ Some e.1) kept.entries (All-found nat_cmp_total kept c.len.ensures.ordered) in
    let none = not_there num get id c.in_ok-number.field-0.now (sym c.in_ok-number.ensures.value) kept.entries (λ k e. is_none k (is_for id k) (c.in_err-found.ensures.value ∙ e)) c.requires got in
    subst (λ o. IfNone o (NoneFor id kept.entries)) (sym c.from_residual-in_err-found.ensures) none

pub returns-then-found-completion_id-clause-some : goal.returns-then-found-completion_id-clause-some
returns-then-found-completion_id-clause-some c =
    let kept = c.args.kept.now in
    let num : ℕ → Option ℕ = λ q. lookup (is_at (nat_cmp q)) c.args.numbers.now.entries in
    let get : ℕ → Option ProposeRunCompletion = λ n. lookup (is_at (nat_cmp n)) kept.entries in
    let id = c.args.completion_id in
    let got = recursion_from_All (λ (e : ℕ × ProposeRunCompletion). get e.0 ≡ Some e.1) kept.entries (All-found nat_cmp_total kept c.len.ensures.ordered) in
    let k = c.in_ok-found.found.now in
    there num get id c.in_ok-number.field-0.now (sym c.in_ok-number.ensures.value) kept.entries k (sym c.in_ok-found.ensures.value) (itself k.id id c.if-found-completion_id.true) c.requires got

pub returns-else-found-completion_id-clause-none : goal.returns-else-found-completion_id-clause-none
returns-else-found-completion_id-clause-none c =
    let kept = c.args.kept.now in
    let num : ℕ → Option ℕ = λ q. lookup (is_at (nat_cmp q)) c.args.numbers.now.entries in
    let get : ℕ → Option ProposeRunCompletion = λ n. lookup (is_at (nat_cmp n)) kept.entries in
    let id = c.args.completion_id in
    let got = recursion_from_All (λ (e : ℕ × ProposeRunCompletion). get e.0 ≡ Some e.1) kept.entries (All-found nat_cmp_total kept c.len.ensures.ordered) in
    let found = c.in_ok-found.found.now in
    not_there num get id c.in_ok-number.field-0.now (sym c.in_ok-number.ensures.value) kept.entries
    (λ k e. ap (is_for id) (sym (is_same found k (c.in_ok-found.ensures.value ∙ e))) ∙ apart found.id id c.if-found-completion_id.false) c.requires got
