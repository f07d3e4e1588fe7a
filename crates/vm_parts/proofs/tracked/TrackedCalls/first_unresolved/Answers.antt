use Rattle.std.proofs.Common.{◌≡◌, ◌+◌, ◌≤◌, ◌<◌, drop, get_or, length}
use Rattle.vm_parts.specs.Tracked.{IsNextUnresolved, unresolved_handles}
use Rattle.vm_parts.proofs.Tracking.{unresolved-end, unresolved-next}
use Rattle.vm_parts.proofs.tracked.TrackedCalls.first_unresolved.Goals as goal
use Rattle.vm_parts.proofs.tracked.TrackedCalls.first_unresolved.Goals.{in-None, in-Some}

pub returns-clause-first : goal.returns-clause-first
returns-clause-first c =
    let calls = c.self.inside.calls.items in
    let place = c.first_unknown-self-inside.result in
    let next : IsNextUnresolved calls place = rw (← c.deref.ensures.value) c.first_unknown-self-inside.ensures in
    elim c.match-get.branch [
      | in-None w ↦
          let past : length calls ≤ place = rw (← c.deref-2.ensures.value) w.in-None.ensures.lookup.3 in
          rw (w.result-is, ← c.self.view_is) (unresolved-end calls place next past)
      | in-Some w ↦
          let call = w.in-Some.call.now in
          let within : place < length calls = rw (← c.deref-2.ensures.value) w.in-Some.ensures.lookup.3.0 in
          let is : call ≡ get_or calls place call = rw (← c.deref-2.ensures.value) w.in-Some.ensures.lookup.1 in
          rw (w.result-is, ← c.self.view_is) (unresolved_handles (drop (place + 1) calls), unresolved-next calls place call next within is)
    ]
