use Rattle.std.proofs.Common.{◌≡◌, drop}
use Rattle.vm_parts.specs.Deliveries.{id_at}
use Rattle.vm_parts.proofs.handles.find_mapped.Given as goal

abbrev pub invariant-loop-mapping : goal.invariant-loop-mapping
invariant-loop-mapping l = id_at l.handle l.mappings ≡ id_at l.handle (drop l.mapping-index l.mappings)
