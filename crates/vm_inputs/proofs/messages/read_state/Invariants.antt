use Rattle.std.proofs.Common.{◌≡◌, take, drop}
use Rattle.std.specs.List.{list_all}
use Rattle.vm_state.specs.Entries.{entries_of}
use Rattle.vm_inputs.proofs.States.{key_is_text}
use Rattle.vm_inputs.proofs.messages.read_state.Given as goal

abbrev pub invariant-loop-pair : goal.invariant-loop-pair
invariant-loop-pair l = record {
  read : l.entries ≡ entries_of (take l.pair-index l.pairs);
  rest : list_all key_is_text l.pairs ≡ list_all key_is_text (drop l.pair-index l.pairs);
}
