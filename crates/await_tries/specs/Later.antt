-- A tree and its residual, over all later arrivals.
use Rattle.std.specs.Prelude.{ℕ, ◌≡◌, ◌<◌, ◌≤◌, true, false, List, [], ◌++◌, ◌+◌, length, None}
use Rattle.journal_values.specs.declared.notification.Notification.{Notification}
use Rattle.journal_values.specs.declared.notification.NotificationId.{NotificationId}
use Rattle.journal_values.specs.declared.notification.NotificationId.TheVariants.{CompletionId}
use Rattle.await_arrivals.specs.Results.{results_of}
use Rattle.journal_values.specs.declared.delivery.SignalDelivery.{SignalDelivery}
use Rattle.journal_values.specs.declared.delivery.SignalDelivery.TheVariants.{Queued}
use Rattle.vm_parts.specs.Arrived.{Arrived}
use Rattle.vm_parts.specs.Deliveries.{id_at, is_listed, present_result_for}
use Rattle.await_trees.specs.Outcomes.{is_done, awake}
use Rattle.await_trees.specs.Tree.{Tree, Forest, leaf, node, none, more}
use Rattle.await_tries.specs.Leaves.{leaf_outcome}
use Rattle.await_tries.specs.Used.{used}

-- more notifications came
abbrev pub with_later : Arrived → List Notification → Arrived
with_later v ns = record v { queued = v.queued ++ ns }

-- no present result is replaced by a later one
abbrev pub Stays : SignalDelivery → Arrived → Type 0
Stays delivery v = (m n h : ℕ) → m ≤ n → is_done (leaf_outcome delivery (used v m) h) ≡ true
    → leaf_outcome delivery (used v n) h ≡ leaf_outcome delivery (used v m) h

-- at each number of used notifications, from all that v knows on, the two are awake alike
abbrev pub WakesAlike : SignalDelivery → Arrived → Tree → Tree → Type 0
WakesAlike delivery v t r =
    (later : List Notification) → Stays delivery (with_later v later) → (n : ℕ)
    → length v.queued ≤ n
    → awake (leaf_outcome delivery (used (with_later v later) n)) r
    ≡ awake (leaf_outcome delivery (used (with_later v later) n)) t

-- Signals are queued, no completion has two results among the notifications and the eager reads,
-- and only completions are read eagerly.
pub record EachOnce (delivery : SignalDelivery) (v : Arrived) : Type 0 where
  pub queued : delivery ≡ Queued
  pub once : (i : ℕ) → length (results_of (CompletionId i) (v.ready.delivered ++ v.queued)) + length
      (results_of (CompletionId i) v.ready.eager) ≤ 1
  pub completions : (id : NotificationId) → is_listed Queued id ≡ true → results_of id v.ready.eager
      ≡ []

-- as many notifications as wake the tree and no fewer, by what the leaves are at each number
pub record PlainlyLeast (delivery : SignalDelivery) (v : Arrived) (t : Tree) (n : ℕ) : Type 0 where
  pub wakes : awake (leaf_outcome delivery (used v n)) t ≡ true
  pub least : (m : ℕ) → m < n → awake (leaf_outcome delivery (used v m)) t ≡ false

-- a handle without a present result
abbrev pub IsAbsent : SignalDelivery → Arrived → ℕ → Type 0
IsAbsent delivery v h = present_result_for delivery (id_at h v.handles) v.ready ≡ None

-- this holds of each leaf of a tree
abbrev mutual
  pub EachLeaf : (ℕ → Type 0) → Tree → Type 0
  EachLeaf P (leaf h) = P h
  EachLeaf P (node k ts) = EachLeafOf P ts

  pub EachLeafOf : (ℕ → Type 0) → Forest → Type 0
  EachLeafOf P none = Unit {0}
  EachLeafOf P (more t ts) = EachLeaf P t × EachLeafOf P ts
