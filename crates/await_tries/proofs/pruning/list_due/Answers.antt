use Rattle.std.proofs.Common.{refl, sym}
use Rattle.std.specs.BinaryHeap.{heap_items}
use Rattle.await_tries.specs.Courses.{course_at, end_of}
use Rattle.await_tries.proofs.Listing.{listed_push, listed_skip}
use Rattle.await_tries.proofs.pruning.list_due.Goals.{in-Some+in_ok-push, in_default}
use Rattle.await_tries.proofs.pruning.list_due.Goals as goal

pub loop-place-preserved : goal.loop-place-preserved
loop-place-preserved c = elim c.match-end.branch [
  | in-Some+in_ok-push w ↦
      rw w.due-is
      (listed_push (λ it. it.0) (λ child. end_of (course_at c.args.courses.now child)) (heap_items c.loop-place.due) (heap_items w.push.new.self) c.args.children.now c.loop-place.place w.in-Some.by _ refl
      (sym w.in-Some.ensures) w.in_ok-push.ensures.permutation c.loop-place.invariant)
  | in_default w ↦
      rw w.due-is
      (listed_skip (λ it. it.0) (λ child. end_of (course_at c.args.courses.now child)) (heap_items c.loop-place.due) c.args.children.now c.loop-place.place (sym w.in_default.ensures) c.loop-place.invariant)
]
