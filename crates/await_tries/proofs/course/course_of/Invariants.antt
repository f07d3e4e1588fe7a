use Rattle.std.proofs.Common.{◌≡◌, ◌≤◌, ℕ, length, drop}
use Rattle.await_arrivals.specs.Came.{enough}
use Rattle.await_trees.specs.Outcomes.{outcome_of}
use Rattle.await_tries.specs.Courses.{course_at, any_fires_by, all_wait_by}
use Rattle.await_tries.proofs.course.course_of.Given as goal

abbrev pub invariant-loop-i : goal.invariant-loop-i
invariant-loop-i l = record {
  within : l.i ≤ length l.children;
  outcome : l.course.outcome ≡ outcome_of l.kind;
  done : (n : ℕ) → enough l.course.done n ≡ all_wait_by (course_at l.courses) l.kind n (drop l.i l.children);
  fired : (n : ℕ) → enough l.course.fired n ≡ any_fires_by (course_at l.courses) l.kind n (drop l.i l.children);
}

abbrev pub decreases-loop-i : goal.decreases-loop-i
decreases-loop-i l = l.i
