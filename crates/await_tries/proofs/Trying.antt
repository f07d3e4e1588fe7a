-- A try, by the courses of its nodes.
use Rattle.std.proofs.Common.{◌≡◌, ℕ, ◌||◌, List, length, Option, ◌∙◌, arith}
use Rattle.await_arrivals.specs.Came.{enough}
use Rattle.journal_values.specs.declared.delivery.SignalDelivery.{SignalDelivery}
use Rattle.vm_parts.specs.Arrived.{Arrived}
use Rattle.await_trees.specs.declared.nodes.Node.{Node}
use Rattle.await_trees.specs.Outcomes.{outcome, fires, awake, is_done}
use Rattle.await_trees.specs.Tree.{Tree}
use Rattle.await_trees.proofs.Bools.{or_neither}
use Rattle.await_tries.specs.declared.course.Course.{Course}
use Rattle.await_tries.specs.Await.{outcomes, NeverAwake, LeftPending}
use Rattle.await_tries.specs.Courses.{outcome_by, FollowsCourse, course_at, ends_at}
use Rattle.await_tries.specs.Pruned.{Pruned}
use Rattle.await_tries.specs.Spells.{Spells}
use Rattle.await_tries.proofs.PrunedTrees.{left}
use Rattle.await_tries.proofs.Waking.{course_wakes, tree_pending, ends_known}

module _ (delivery : SignalDelivery) (v : Arrived) (t : Tree) (ns : List Node) (kids : List ℕ) (cs : List Course) (spelled : Spells ns kids 0 t)
    (follow : (n : ℕ) (u : Tree) → Spells ns kids n u → FollowsCourse (outcomes delivery v) u (course_at cs n)) where
  -- it wakes as the course of the first node says
  pub root_wakes : (by : Option ℕ) (root : Course) → root ≡ course_at cs 0 → ((n : ℕ) → enough by n ≡ (is_done (outcome_by root n) || enough root.fired n)) → (n : ℕ) → enough by n ≡ awake (outcomes delivery v n) t
  root_wakes by root r is n =
      let f : FollowsCourse (outcomes delivery v) t root = rw r (follow 0 t spelled) in
      is n ∙ course_wakes delivery v t root f n

  -- if it stays pending, pruned nodes represent what is left
  pub left_spelled : NeverAwake delivery v t → (ms : List Node) (lids : List ℕ) → length ms ≡ length ns → Pruned (ends_at cs) ns kids ms lids → (r : Tree) × Spells ms lids 0 r × LeftPending delivery v t r
  left_spelled asleep ms lids len pruned =
      let at = outcomes delivery v (length v.queued) in
      let quiet = (or_neither (is_done (outcome at t)) (fires at t) (asleep (length v.queued) (omega arith))).1 in
      let (r, s, p) = left at (ends_at cs) ns ms kids lids len pruned (λ m u q. ends_known delivery v u (course_at cs m) (follow m u q)) 0 t spelled quiet in
      (r, s, tree_pending delivery v t r asleep p)
