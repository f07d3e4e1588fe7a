use Rattle.std.proofs.Common.{◌≡◌, ◌∙◌, ℕ, Global, Vec, ap, subst, sym}
use Rattle.vm_parts.specs.Outboxes.{WholeStream}
use Rattle.vm_parts.proofs.Outboxes.{joined}
use Rattle.vm_parts.proofs.outbox.Outbox.move_to.Goals as goal

pub returns-clause-moved : goal.returns-clause-moved
returns-clause-moved c =
    let same : c.swap.new.y.items ≡ c.self.inside.stream.items = ap (λ (v : Vec ℕ Global). v.items) c.swap.ensures.y_after in
    rw (← c.self.view_is) (same ∙ joined c.self.inside.stream.items c.self.invariant)

pub returns-clause-whole : goal.returns-clause-whole
returns-clause-whole c =
    let same : c.swap.new.y.items ≡ c.self.inside.stream.items = ap (λ (v : Vec ℕ Global). v.items) c.swap.ensures.y_after in
    subst WholeStream (sym same) c.self.invariant
