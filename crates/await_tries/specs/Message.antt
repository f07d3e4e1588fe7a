-- What a suspension says, over all later arrivals.
use Rattle.std.specs.Prelude.{ℕ, ◌≡◌, ◌+◌, List, take, length, Option}
use Rattle.journal_values.specs.declared.notification.Notification.{Notification}
use Rattle.journal_values.specs.declared.notification.NotificationId.{NotificationId}
use Rattle.await_arrivals.specs.Results.{results_of, first}
use Rattle.journal_values.specs.declared.delivery.SignalDelivery.{SignalDelivery}
use Rattle.vm_parts.specs.Arrived.{Arrived}
use Rattle.vm_parts.specs.Deliveries.{id_at}
use Rattle.await_trees.specs.declared.outcome.Outcome.{Outcome}
use Rattle.await_trees.specs.Outcomes.{awake}
use Rattle.await_trees.specs.Tree.{Tree}
use Rattle.await_trees.specs.Wires.{tree_of_nodes, sent, Mapped}
use Rattle.await_tries.specs.Leaves.{leaf_outcome, result_outcome}
use Rattle.await_tries.specs.Later.{with_later, EachOnce}
use Rattle.await_tries.specs.Used.{used}

-- the id that each handle stands for
abbrev pub ids : Arrived → ℕ → Option NotificationId
ids v h = id_at h v.handles

-- an id is judged by its first delivery among these
abbrev pub first_delivery : List Notification → NotificationId → Outcome
first_delivery ns id = result_outcome (first (results_of id ns))

-- by the first n later arrivals the wire future of the residual r is awake where the tree t is
abbrev pub MessageWakes : SignalDelivery → Arrived → Tree → Tree → Type 0
MessageWakes delivery v t r =
    (later : List Notification) → EachOnce delivery (with_later v later) → Mapped (ids v) r
    → (n : ℕ)
    → awake (first_delivery (take n later)) (tree_of_nodes (sent (ids v) r))
    ≡ awake (leaf_outcome delivery (used (with_later v later) (length v.queued + n))) t
