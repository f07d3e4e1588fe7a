use Rattle.std.proofs.Common.{◌∙◌, subst, sym}
use Rattle.vm_parts.specs.Outboxes.{WholeStream}
use Rattle.vm_parts.proofs.Outboxes.{joined}
use Rattle.vm_parts.proofs.outbox.Outbox.as_slice.Goals as goal

pub returns-clause-bytes : goal.returns-clause-bytes
returns-clause-bytes c = rw (← c.self.view_is) (c.as_slice.ensures.value ∙ joined c.self.inside.stream.items c.self.invariant)

pub returns-clause-whole : goal.returns-clause-whole
returns-clause-whole c = subst WholeStream (sym c.as_slice.ensures.value) c.self.invariant
