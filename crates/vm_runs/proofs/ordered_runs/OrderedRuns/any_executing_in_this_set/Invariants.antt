use Rattle.std.proofs.Common.{◌≡◌, [], ◌∷◌, false, take}
use Rattle.std.specs.List.{list_any}
use Rattle.vm_runs.specs.Pending.{is_executing_in}
use Rattle.vm_runs.proofs.ordered_runs.OrderedRuns.any_executing_in_this_set.Given as goal

abbrev pub invariant-loop-handle : goal.invariant-loop-handle
invariant-loop-handle l = list_any (λ h. list_any (is_executing_in (h ∷ [])) l.self) (take l.handle-index l.any_handle) ≡ false
