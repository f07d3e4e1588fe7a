use Rattle.std.proofs.Common.{◌≡◌, None, refl}
use Rattle.std.specs.Option.{option_copied}
use Rattle.vm_parts.specs.Tracked.{IsTrackedAt, IsBetween, id_noted}
use Rattle.vm_parts.proofs.Tracking.{IsTracking-known, noted-at, noted-between, noted-none}
use Rattle.vm_parts.proofs.tracked.TrackedCalls.note.Goals as goal

pub returns-in_default-clause-ok : goal.returns-in_default-clause-ok
returns-in_default-clause-ok c =
    let calls = c.self.inside.calls.items in
    let between : IsBetween c.args.handle calls c.in_default.field-0 = rw (← c.deref.ensures.value) c.in_default.ensures in
    rw (← c.self.view_is) (noted-between c.args.handle (option_copied c.args.id) calls c.in_default.field-0 between)

pub returns-in_default-id-clause-ok : goal.returns-in_default-id-clause-ok
returns-in_default-id-clause-ok c =
    let calls = c.self.inside.calls.items in
    let at : IsTrackedAt c.args.handle calls c.in-Ok.place = rw (← c.deref.ensures.value) c.in-Ok.ensures in
    let none : id_noted c.args.handle None calls ≡ None = noted-none c.args.handle calls c.in-Ok.place at in
    (rw (c.in_default-id.is, ← c.self.view_is) none, refl)

pub invariant_of-self : goal.invariant_of-self
invariant_of-self c =
    let s = c.self.inside in
    IsTracking-known s.calls.items s.resolved c.in-Ok.place c.index_mut.result.now c.in_ok-id.id c.self.invariant c.index_mut.ensures.value

pub returns-clause-ok : goal.returns-clause-ok
returns-clause-ok c =
    let calls = c.self.inside.calls.items in
    let at : IsTrackedAt c.args.handle calls c.in-Ok.place = rw (← c.deref.ensures.value) c.in-Ok.ensures in
    rw (c.in-Some.is, ← c.self.view_is, ← c.in_ok-id.ensures)
    (noted-at c.args.handle c.in_ok-id.id calls c.in-Ok.place c.index_mut.result.now c.self.invariant.ascend at c.index_mut.ensures.value)
