use Rattle.std.proofs.Common.{◌<◌, length, arith}
use Rattle.vm_parts.proofs.Mapped.{unmapped_at}
use Rattle.vm_parts.proofs.handles.unmap.Goals as goal

pub returns-then-index-handle : goal.returns-then-index-handle
returns-then-index-handle c =
    let below : c.loop-i.i < length c.loop-i.mappings.items = omega arith in
    let left = rw (← c.loop-i.invariant.kept) at c.loop-i.invariant.left in
    rw (c.remove.ensures.by_index.2, ← c.loop-i.invariant.kept) (unmapped_at c.args.handle c.loop-i.mappings.items c.loop-i.i c.index.result.now below c.index.ensures c.if-index-handle.true left)
