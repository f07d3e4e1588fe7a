use Rattle.std.proofs.Common.{refl, ap, ◌∙◌, sym}
use Rattle.journal_protocol.specs.Frames.{next_of}
use Rattle.vm_layers.proofs.Framed.{found, no_part, only_memory}
use Rattle.vm_layers.proofs.short.framed.Goals as goal

pub returns-in-Ok-Some-clause-framed : goal.returns-in-Ok-Some-clause-framed
returns-in-Ok-Some-clause-framed c =
    let is = c.in_ok-push.ensures.ok ∙ rw (c.new-decoder.ensures, c.in_ok-encode.ensures.written) refl in
    let next = rw c.in-Ok-Some.field-0-is at c.in-Ok-Some.ensures.next in
    found c.args.message.now c.in-Ok-Some.raw c.next_frame.new.self c.in_ok-encode.ensures.valid (ap next_of (sym is) ∙ next)

pub unreachable-requires : goal.unreachable-requires
unreachable-requires c =
    let is = c.in_ok-push.ensures.ok ∙ rw (c.new-decoder.ensures, c.in_ok-encode.ensures.written) refl in
    let next = rw c.in-Ok-None.field-0-is at c.in-Ok-None.ensures.next in
    no_part c.args.message.now c.in_ok-encode.ensures.valid (ap next_of (sym is) ∙ next.0)

pub returns-clause-memory : goal.returns-clause-memory
returns-clause-memory c =
    let is = c.in_ok-push.ensures.ok ∙ rw (c.new-decoder.ensures, c.in_ok-encode.ensures.written) refl in
    c.from.ensures ∙ only_memory c.args.message.now c.in-Err.fault c.push.new.self c.next_frame.new.self c.in_ok-encode.ensures.valid is c.in-Err.ensures.next
