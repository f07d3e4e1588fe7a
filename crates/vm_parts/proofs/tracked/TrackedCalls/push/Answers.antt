use Rattle.std.proofs.Common.{sym}
use Rattle.vm_parts.specs.Tracked.{IsTrackedAt, IsBetween}
use Rattle.vm_parts.proofs.Tracking.{IsTracking-insert, IsTracking-set, with_call-at, with_call-between}
use Rattle.vm_parts.proofs.tracked.TrackedCalls.push.Goals as goal

pub invariant_of-self : goal.invariant_of-self
invariant_of-self c =
    let s = c.self.inside in
    let at : IsTrackedAt c.args.handle s.calls.items c.in-Ok.place = rw (← c.deref.ensures.value) c.in-Ok.ensures in
    rw c.min-self-inside.ensures (IsTracking-set s.calls.items s.resolved c.in-Ok.place c.args.handle c.self.invariant at)

pub invariant_of-self-in-Err : goal.invariant_of-self-in-Err
invariant_of-self-in-Err c =
    let s = c.self.inside in
    let between : IsBetween c.args.handle s.calls.items c.in-Err.place = rw (← c.deref.ensures.value) c.in-Err.ensures in
    rw (c.min-self-inside-in-Err.ensures, c.in_ok-insert-in-Err.ensures.items) (IsTracking-insert s.calls.items s.resolved c.in-Err.place c.args.handle c.self.invariant between)

pub returns-in-Ok-clause-ok : goal.returns-in-Ok-clause-ok
returns-in-Ok-clause-ok c =
    let s = c.self.inside in
    let at : IsTrackedAt c.args.handle s.calls.items c.in-Ok.place = rw (← c.deref.ensures.value) c.in-Ok.ensures in
    rw (← c.self.view_is) (sym (with_call-at c.args.handle s.calls.items c.in-Ok.place c.self.invariant.ascend at))

pub returns-in_ok-insert-in-Err-clause-ok : goal.returns-in_ok-insert-in-Err-clause-ok
returns-in_ok-insert-in-Err-clause-ok c =
    let s = c.self.inside in
    let between : IsBetween c.args.handle s.calls.items c.in-Err.place = rw (← c.deref.ensures.value) c.in-Err.ensures in
    rw (← c.self.view_is, c.in_ok-insert-in-Err.ensures.items) (sym (with_call-between c.args.handle s.calls.items c.in-Err.place between))
