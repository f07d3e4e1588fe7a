use Rattle.std.proofs.Common.{length}
use Rattle.vm_parts.specs.Tracked.{unresolved_handles}
use Rattle.vm_awaits.proofs.Cancelling.{Gathered}
use Rattle.vm_awaits.proofs.awaits.gather_ids.Given as goal

abbrev pub invariant-loop-handle : goal.invariant-loop-handle
invariant-loop-handle l = Gathered l.initial.machine l.machine

abbrev pub decreases-loop-handle : goal.decreases-loop-handle
decreases-loop-handle l = length (unresolved_handles l.machine.tracked)
