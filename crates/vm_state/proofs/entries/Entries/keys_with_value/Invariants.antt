use Rattle.std.proofs.Common.{◌≡◌, ◌++◌}
use Rattle.vm_state.specs.Entries.{keys_with_value}
use Rattle.vm_state.proofs.entries.Entries.keys_with_value.Given as goal

abbrev pub invariant-loop-key : goal.invariant-loop-key
invariant-loop-key l = l.keys ++ keys_with_value l.key-iterator ≡ keys_with_value l.self
