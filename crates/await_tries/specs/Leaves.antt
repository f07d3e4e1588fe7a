-- The outcome of the leaf of a handle.
use Rattle.std.specs.Prelude.{ℕ, Option, Some, None}
use Rattle.journal_values.specs.declared.notification.NotificationResult.{NotificationResult}
use Rattle.journal_values.specs.declared.notification.NotificationResult.TheVariants.{Void, Value, Failure, StateKeys, InvocationId}
use Rattle.journal_values.specs.declared.delivery.SignalDelivery.{SignalDelivery}
use Rattle.vm_parts.specs.Arrived.{Arrived}
use Rattle.vm_parts.specs.Deliveries.{id_at, present_result_for}
use Rattle.await_trees.specs.declared.outcome.Outcome.{Outcome}
use Rattle.await_trees.specs.declared.outcome.Outcome.TheVariants.{Pending, Succeeded, Failed}

-- failed by a failure, succeeded by any other result, else pending
abbrev pub result_outcome : Option NotificationResult → Outcome
result_outcome None = Pending
result_outcome (Some Void) = Succeeded
result_outcome (Some (Value bytes)) = Succeeded
result_outcome (Some (Failure failure)) = Failed
result_outcome (Some (StateKeys keys)) = Succeeded
result_outcome (Some (InvocationId id)) = Succeeded

-- a leaf is judged by the present result of its handle's id
abbrev pub leaf_outcome : SignalDelivery → Arrived → ℕ → Outcome
leaf_outcome delivery v h = result_outcome (present_result_for delivery (id_at h v.handles) v.ready)
