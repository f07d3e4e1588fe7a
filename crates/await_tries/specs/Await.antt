-- When an await wakes.
use Rattle.std.specs.Prelude.{ℕ, zero, suc, ◌≡◌, ◌<◌, ◌≤◌, true, false, length}
use Rattle.await_trees.specs.declared.outcome.Outcome.{Outcome}
use Rattle.await_trees.specs.declared.outcome.Outcome.TheVariants.{Pending}
use Rattle.vm_parts.specs.Arrived.{Arrived}
use Rattle.journal_values.specs.declared.delivery.SignalDelivery.{SignalDelivery}
use Rattle.await_tries.specs.Leaves.{leaf_outcome}
use Rattle.await_tries.specs.Used.{used}
use Rattle.await_trees.specs.Outcomes.{awake, first_of, Grows}
use Rattle.await_trees.specs.Residual.{Residual}
use Rattle.await_trees.specs.Tree.{Tree}

-- the first outcome of a leaf in a try, before its n-th notification is used
abbrev pub earlier : SignalDelivery → Arrived → ℕ → ℕ → Outcome
earlier delivery v zero h = Pending
earlier delivery v (suc n) h = first_of (earlier delivery v n h)
    (leaf_outcome delivery (used v n) h)

-- and after it
abbrev pub outcomes : SignalDelivery → Arrived → ℕ → ℕ → Outcome
outcomes delivery v n = earlier delivery v (suc n)

-- n is the least number of notifications by which the tree is awake
pub record LeastAwake (delivery : SignalDelivery) (v : Arrived) (t : Tree) (n : ℕ) : Type 0 where
  pub known : n ≤ length v.queued
  pub wakes : awake (outcomes delivery v n) t ≡ true
  pub least : (m : ℕ) → m < n → awake (outcomes delivery v m) t ≡ false

-- no number of the known notifications wakes the tree
abbrev pub NeverAwake : SignalDelivery → Arrived → Tree → Type 0
NeverAwake delivery v t = (m : ℕ) → m ≤ length v.queued → awake (outcomes delivery v m) t ≡ false

-- for all later outcomes of the leaves, the two are awake alike
abbrev pub AwakeAlike : (ℕ → Outcome) → Tree → Tree → Type 0
AwakeAlike at t r = (bt : ℕ → Outcome) → Grows at bt → awake bt r ≡ awake bt t

pub record LeftPending (delivery : SignalDelivery) (v : Arrived) (t r : Tree) : Type 0 where
  pub never : NeverAwake delivery v t
  pub residual : Residual (outcomes delivery v (length v.queued)) t r
  pub alike : AwakeAlike (outcomes delivery v (length v.queued)) t r
