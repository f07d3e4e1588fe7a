use Rattle.std.proofs.Common.{◌≡◌, take}
use Rattle.std.specs.Option.{option_map}
use Rattle.vm_runs.specs.Settling.{run_as_related}
use Rattle.vm_awaits.specs.Awaits.{last_run}
use Rattle.vm_awaits.proofs.awaits.last_related_run.Given as goal

abbrev pub invariant-loop-handle : goal.invariant-loop-handle
invariant-loop-handle l = l.found ≡ option_map run_as_related (last_run (take l.handle-index l.handles) l.machine)
