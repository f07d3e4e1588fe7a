use Rattle.std.proofs.Common.{Some, ap, subst, sym, ◌∙◌, true, false, take_all}
use Rattle.std.specs.List.{find}
use Rattle.std.specs.Option.{option_map}
use Rattle.vm_runs.specs.declared.pending.PendingRun.{PendingRun}
use Rattle.vm_runs.specs.Pending.{may_execute}
use Rattle.vm_runs.proofs.Rising.{Rise, rise_from, taken_more, none_taken}
use Rattle.vm_runs.proofs.ordered_runs.OrderedRuns.handle_to_execute.Goals as goal
use Rattle.vm_runs.proofs.ordered_runs.OrderedRuns.handle_to_execute.Goals.{then-waits, else-waits}

pub loop-handle-init : goal.loop-handle-init
loop-handle-init c = none_taken c.args.self.now

pub loop-handle-preserved : goal.loop-handle-preserved
loop-handle-preserved c =
    let runs = c.args.self.now in
    let rise = subst Rise c.self.view_is (rise_from c.self.inside.by_handle.entries c.self.invariant.0 c.self.invariant.1) in
    let handles = c.args.any_handle.now in
    let i = c.loop-handle.handle-index in
    elim c.if-waits.branch [
      | then-waits w ↦ w.least-is ∙ ap Some w.lesser.ensures ∙ taken_more handles i runs rise c.loop-handle-test.true true (sym w.if-waits.true ∙ c.waits.ensures) c.loop-handle.least c.loop-handle.invariant
      | else-waits w ↦ w.least-is ∙ taken_more handles i runs rise c.loop-handle-test.true false (sym w.if-waits.false ∙ c.waits.ensures) c.loop-handle.least c.loop-handle.invariant
    ]

pub returns : goal.returns
returns c =
    c.loop-handle.invariant
    ∙ ap (λ hs. option_map (λ (run : PendingRun). run.handle) (find (may_execute hs) c.args.self.now)) (take_all c.loop-handle.handle-index c.args.any_handle.now c.loop-handle-test.false)
