use Rattle.vm_parts.proofs.Outboxes.{whole_frames}
use Rattle.vm_parts.proofs.outbox.Outbox.len.Goals as goal

pub returns-clause-whole : goal.returns-clause-whole
returns-clause-whole c = rw (← c.self.view_is) (whole_frames c.self.inside.stream.items c.self.invariant)
