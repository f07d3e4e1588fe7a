use Rattle.std.proofs.Common.{◌≡◌, subst}
use Rattle.std.specs.Prelude.{IfOk}
use Rattle.vm_parts.proofs.Outboxes.{whole_frames, copied}
use Rattle.vm_parts.proofs.outbox.Outbox.bytes.Goals as goal

pub returns-clause-bytes : goal.returns-clause-bytes
returns-clause-bytes c =
    rw (← c.self.view_is) (copied c.self.inside.stream.items c.copy_from_slice.result c.self.invariant (subst (λ s. IfOk c.copy_from_slice.result (λ b. b ≡ s)) c.as_slice.ensures.value c.copy_from_slice.ensures))

pub returns-clause-frames : goal.returns-clause-frames
returns-clause-frames c = rw (← c.self.view_is) (whole_frames c.self.inside.stream.items c.self.invariant)
