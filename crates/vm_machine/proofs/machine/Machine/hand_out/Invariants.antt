use Rattle.std.proofs.Common.{◌≡◌}
use Rattle.vm_machine.proofs.Preparing.{mapped_to}
use Rattle.vm_machine.proofs.machine.Machine.hand_out.Given as goal

abbrev pub invariant-loop-i : goal.invariant-loop-i
invariant-loop-i l = record { mapped : l.self ≡ mapped_to l.i l.fn.self }
