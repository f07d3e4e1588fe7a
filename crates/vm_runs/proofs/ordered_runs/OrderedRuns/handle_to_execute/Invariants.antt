use Rattle.std.proofs.Common.{◌≡◌, take}
use Rattle.std.specs.List.{find}
use Rattle.std.specs.Option.{option_map}
use Rattle.vm_runs.specs.declared.pending.PendingRun.{PendingRun}
use Rattle.vm_runs.specs.Pending.{may_execute}
use Rattle.vm_runs.proofs.ordered_runs.OrderedRuns.handle_to_execute.Given as goal

abbrev pub invariant-loop-handle : goal.invariant-loop-handle
invariant-loop-handle l = l.least ≡ option_map (λ (run : PendingRun). run.handle) (find (may_execute (take l.handle-index l.any_handle)) l.self)
