use Rattle.std.proofs.Common.{◌≡◌}
use Rattle.vm_state.specs.StateKeys.{number_of_front}
use Rattle.vm_state.proofs.state_key.front_of.Given as goal

abbrev pub invariant-loop-i : goal.invariant-loop-i
invariant-loop-i l = l.number ≡ number_of_front l.i l.bytes
