use Rattle.std.proofs.Common.{◌≡◌, ◌++◌, true, false, sym}
use Rattle.std.specs.Option.{is_some}
use Rattle.vm_parts.specs.Deliveries.{id_at, unmapped}
use Rattle.vm_parts.specs.Mappings.{live_mappings}
use Rattle.vm_parts.proofs.Mapped.{first_unmapped, other_unmapped}
use Rattle.vm_parts.proofs.handles.Handles.remove.Goals as goal

pub returns-then-not-forget : goal.returns-then-not-forget
returns-then-not-forget c =
    let s = c.self.inside in
    let none : is_some (id_at c.args.handle (live_mappings s.ascending.items)) ≡ false = cc in
    rw (← c.self.view_is, c.forget.ensures.left, c.unmap.ensures) (sym (other_unmapped c.args.handle (live_mappings s.ascending.items) s.others.items none))

pub returns : goal.returns
returns c =
    let s = c.self.inside in
    let one : is_some (id_at c.args.handle (live_mappings s.ascending.items)) ≡ true = cc in
    let left : live_mappings c.forget.new.held.items ++ s.others.items ≡ unmapped c.args.handle (live_mappings s.ascending.items ++ s.others.items) = rw c.forget.ensures.left (sym (first_unmapped c.args.handle (live_mappings s.ascending.items) s.others.items one)) in
    rw (← c.self.view_is) left
