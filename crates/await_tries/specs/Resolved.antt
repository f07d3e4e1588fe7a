-- What a try of a future answers.
use Rattle.std.specs.Prelude.{ℕ, ◌≡◌, length}
use Rattle.journal_values.specs.declared.delivery.SignalDelivery.{SignalDelivery}
use Rattle.vm_parts.specs.Arrived.{Arrived}
use Rattle.await_trees.specs.Tree.{Tree}
use Rattle.await_tries.specs.declared.residue.Resolution.{Resolution}
use Rattle.await_tries.specs.declared.residue.Resolution.TheVariants.{AnyCompleted, Pending}
use Rattle.await_tries.specs.Await.{LeastAwake, LeftPending}
use Rattle.await_tries.specs.Left.{tree_left}
use Rattle.await_tries.specs.Used.{used}

-- Awake by the least number of notifications, which are used, and no further one; or all are used,
-- the tree stays pending, and what is left of it is answered.
abbrev pub Resolved : SignalDelivery → Arrived → Tree → Arrived → Resolution → Type 0
Resolved delivery v t w AnyCompleted = (n : ℕ) × LeastAwake delivery v t n × (w ≡ used v n)
Resolved delivery v t w (Pending left) = LeftPending delivery v t (tree_left left)
    × (w ≡ used v (length v.queued))
