use Rattle.std.proofs.Common.{ap, sym, subst, refl, ◌<◌, ◌∙◌, ◌∷◌, [], ◌++◌}
use Rattle.std.specs.List.{AllByRecursion}
use Rattle.std.specs.Map.{values_of}
use Rattle.vm_runs.specs.declared.pending.PendingRun.{PendingRun}
use Rattle.vm_runs.proofs.Entries.{added, values_added}
use Rattle.vm_runs.proofs.Rising.{AtHandles, at_added, keys_below}
use Rattle.vm_runs.proofs.ordered_runs.OrderedRuns.push.Goals as goal

pub invariant_of-self-2 : goal.invariant_of-self-2
invariant_of-self-2 c =
    let es = c.self.inside.by_handle.entries in
    let run = c.args.run in
    let below = keys_below run.handle es c.self.invariant.0 (subst (λ runs. AllByRecursion (λ (r : PendingRun). r.handle < run.handle) runs) (sym c.self.view_is) (c.is_next.ensures c.if-not-is_next.false)) in
    (subst AtHandles (sym (c.in_ok-insert.ensures.entries ∙ added run.handle run es below)) (at_added run.handle run es refl c.self.invariant.0), c.insert.ensures.ordered)

pub returns-clause-called : goal.returns-clause-called
returns-clause-called c =
    let es = c.self.inside.by_handle.entries in
    let run = c.args.run in
    let below = keys_below run.handle es c.self.invariant.0 (subst (λ runs. AllByRecursion (λ (r : PendingRun). r.handle < run.handle) runs) (sym c.self.view_is) (c.is_next.ensures c.if-not-is_next.false)) in
    ap values_of c.in_ok-insert.ensures.entries ∙ values_added run.handle run es below ∙ ap (λ runs. runs ++ run ∷ []) c.self.view_is
