use Rattle.std.proofs.Common.{ℕ, ◌≡◌, ◌<◌, false, arith, nat_cmp, is_lt, subst}
use Rattle.std.specs.List.{AllByRecursion}
use Rattle.std.specs.Map.{keys_of}
use Rattle.std.proofs.lemmas.Bool.Decides.{nat_tests}
use Rattle.std.proofs.lemmas.List.Elements.{recursion_from_All}
use Rattle.vm_runs.specs.declared.pending.PendingRun.{PendingRun}
use Rattle.vm_runs.proofs.Rising.{all_below}
use Rattle.vm_runs.proofs.ordered_runs.OrderedRuns.is_next.Goals as goal

pub returns-in-Some : goal.returns-in-Some
returns-in-Some c less =
    let es = c.self.inside.by_handle.entries in
    let k = c.args.handle in
    let last = c.in-Some.last.now in
    subst (λ runs. AllByRecursion (λ (run : PendingRun). run.handle < k) runs) c.self.view_is
    (all_below k last es c.self.invariant.0 (recursion_from_All (λ (q : ℕ). is_lt (nat_cmp last q) ≡ false) (keys_of es) c.in-Some.ensures.all_up_to) (grind (arith, nat_tests, less)))
