use Rattle.std.proofs.Common.{◌≤◌, ◌<◌, length, sym, ap, arith}
use Rattle.vm_parts.specs.Tracked.{IsNextUnresolved}
use Rattle.vm_parts.proofs.Tracking.{IsTracking-known, IsTracking-next, unresolved-end, with_next_id-end, with_next_id-next}
use Rattle.vm_parts.proofs.tracked.TrackedCalls.resolve_first.Goals as goal

pub returns-then-self-len : goal.returns-then-self-len
returns-then-self-len c =
    let calls = c.self.inside.calls.items in
    let place = c.first_unknown-self-inside.result in
    let next : IsNextUnresolved calls place = rw (← c.deref.ensures.value) c.first_unknown-self-inside.ensures in
    let past : length calls ≤ place = omega (arith, ap length c.deref.ensures.value) in
    rw (← c.self.view_is) (sym (with_next_id-end c.args.id calls (unresolved-end calls place next past)))

pub invariant_of-self-2 : goal.invariant_of-self-2
invariant_of-self-2 c =
    let calls = c.self.inside.calls.items in
    let place = c.first_unknown-self-inside.result in
    let next : IsNextUnresolved calls place = rw (← c.deref.ensures.value) c.first_unknown-self-inside.ensures in
    IsTracking-known calls place place c.index_mut.result.now c.args.id (IsTracking-next calls place c.self.invariant.ascend next) c.index_mut.ensures.value

pub returns : goal.returns
returns c =
    let calls = c.self.inside.calls.items in
    let place = c.first_unknown-self-inside.result in
    let next : IsNextUnresolved calls place = rw (← c.deref.ensures.value) c.first_unknown-self-inside.ensures in
    let within : place < length calls = omega (arith, next.within, ap length c.deref.ensures.value) in
    rw (← c.self.view_is) (sym (with_next_id-next c.args.id calls place c.index_mut.result.now next within c.index_mut.ensures.value))
