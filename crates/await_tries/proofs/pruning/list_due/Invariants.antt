use Rattle.std.specs.BinaryHeap.{heap_items}
use Rattle.await_tries.specs.Courses.{course_at, end_of}
use Rattle.await_tries.specs.Due.{Listed}
use Rattle.await_tries.proofs.pruning.list_due.Given as goal

abbrev pub invariant-loop-place : goal.invariant-loop-place
invariant-loop-place l = Listed (λ it. it.0) (λ child. end_of (course_at l.courses child)) (heap_items l.due) l.children l.place
