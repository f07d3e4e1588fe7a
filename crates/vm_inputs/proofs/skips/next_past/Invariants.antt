use Rattle.std.proofs.Common.{◌≡◌, drop}
use Rattle.vm_asks.specs.Carried.{past_all}
use Rattle.vm_inputs.proofs.skips.next_past.Given as goal

abbrev pub invariant-loop-i : goal.invariant-loop-i
invariant-loop-i l = past_all l.next (drop l.i l.commands.items) ≡ past_all l.machine.counters.completion (drop 1 l.machine.commands)
