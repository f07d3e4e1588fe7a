use Rattle.std.proofs.Common.{◌+◌, ◌<◌, ◌≤◌, ℕ, List, length, take, get_or}
use Rattle.std.specs.BinaryHeap.{heap_items}
use Rattle.await_tries.specs.Courses.{course_at, end_of, ends_at}
use Rattle.await_tries.specs.Due.{Listed}
use Rattle.await_tries.specs.Pruned.{Swept}
use Rattle.await_tries.proofs.pruning.sweep.Given as goal

abbrev pub invariant-loop-by : goal.invariant-loop-by
invariant-loop-by l = record {
  within : l.count ≤ length l.children;
  numbers : (k : ℕ) → k < length l.children → get_or l.children k 0 < length l.courses;
  listed : Listed (λ it. it.0) (λ child. end_of (course_at l.courses child)) (heap_items l.due) l.children l.count;
  so_far : (rs : List ℕ) → Swept (ends_at l.courses) (take l.count l.children) rs → Swept (ends_at l.courses) l.initial.children rs;
}

abbrev pub decreases-loop-by : goal.decreases-loop-by
decreases-loop-by l = l.count + l.count + length (heap_items l.due)
