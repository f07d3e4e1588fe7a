use Rattle.std.proofs.Common.{◌≡◌, Some, None}
use Rattle.vm_parts.specs.Deliveries.{id_at}
use Rattle.vm_parts.specs.Mappings.{live_mappings}
use Rattle.vm_parts.proofs.Mapped.{first_found, other_found}
use Rattle.vm_parts.proofs.handles.Handles.find.Goals as goal

pub returns-in-Some : goal.returns-in-Some
returns-in-Some c =
    let s = c.self.inside in
    let e : Some c.in-Some.id.now ≡ id_at c.args.handle (live_mappings s.ascending.items) = rw (← c.deref.ensures.value) c.in-Some.ensures in
    rw (← c.self.view_is) (first_found c.args.handle (live_mappings s.ascending.items) s.others.items c.in-Some.id.now e)

pub returns-in-None : goal.returns-in-None
returns-in-None c =
    let s = c.self.inside in
    let none : None ≡ id_at c.args.handle (live_mappings s.ascending.items) = rw (← c.deref.ensures.value) c.in-None.ensures in
    let e = rw c.deref-in-None.ensures.value at c.find_mapped.ensures in
    rw (← c.self.view_is) (other_found c.args.handle (live_mappings s.ascending.items) s.others.items _ none e)
