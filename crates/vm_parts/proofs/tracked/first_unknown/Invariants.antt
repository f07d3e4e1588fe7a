use Rattle.std.proofs.Common.{◌≡◌, [], take}
use Rattle.vm_parts.specs.Tracked.{unresolved_handles}
use Rattle.vm_parts.proofs.tracked.first_unknown.Given as goal

abbrev pub invariant-loop-place : goal.invariant-loop-place
invariant-loop-place l = unresolved_handles (take l.place l.calls) ≡ []
