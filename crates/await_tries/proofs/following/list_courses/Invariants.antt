use Rattle.std.proofs.Common.{◌≡◌, ◌≤◌, ℕ, length}
use Rattle.await_trees.specs.Tree.{Tree}
use Rattle.await_tries.specs.Await.{outcomes}
use Rattle.await_tries.specs.Courses.{FollowsCourse, course_at}
use Rattle.await_tries.specs.Spells.{Spells}
use Rattle.await_tries.proofs.following.list_courses.Given as goal

abbrev pub invariant-loop-i : goal.invariant-loop-i
invariant-loop-i l = record {
  within : l.i ≤ length l.nodes;
  each : length l.courses.items ≡ length l.nodes;
  known : (m : ℕ) (t : Tree) → l.i ≤ m → Spells l.nodes l.kids m t → FollowsCourse (outcomes l.delivery l.results) t (course_at l.courses.items m);
}

abbrev pub decreases-loop-i : goal.decreases-loop-i
decreases-loop-i l = l.i
