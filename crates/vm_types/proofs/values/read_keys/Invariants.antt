use Rattle.std.proofs.Common.{◌≡◌, take, drop}
use Rattle.std.specs.List.{list_all}
use Rattle.std.specs.Str.{is_utf8}
use Rattle.vm_types.proofs.values.read_keys.Given as goal

abbrev pub invariant-loop-key : goal.invariant-loop-key
invariant-loop-key l = record {
  read : l.texts ≡ take l.key-index l.keys;
  rest : list_all is_utf8 l.keys ≡ list_all is_utf8 (drop l.key-index l.keys);
}
