use Rattle.vm_layers.specs.ShortLaws.{part_of_frame, part_of_length}
use Rattle.vm_layers.proofs.short.payload_len.Goals as goal

pub returns-in_default : goal.returns-in_default
returns-in_default c = λ v. part_of_length v c.args.bytes.now (rw c.in_default.is at c.length_at.ensures)

pub returns-then-bytes-len : goal.returns-then-bytes-len
returns-then-bytes-len c = λ v.
    part_of_frame v c.args.bytes.now c.in-Some.ensures.0 (rw c.in-Some.ensures.2 at c.if-bytes-len.true)
