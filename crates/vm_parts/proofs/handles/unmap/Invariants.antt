use Rattle.std.proofs.Common.{◌≡◌, ◌++◌, take, drop}
use Rattle.vm_parts.specs.Deliveries.{unmapped}
use Rattle.vm_parts.proofs.handles.unmap.Given as goal

abbrev pub invariant-loop-i : goal.invariant-loop-i
invariant-loop-i l = record {
  kept : l.mappings.items ≡ l.initial.mappings.items;
  left : unmapped l.handle l.initial.mappings.items ≡ take l.i l.initial.mappings.items ++ unmapped l.handle (drop l.i l.initial.mappings.items);
}
