-- Whether a future that was sent is awake by notifications.
use Rattle.std.specs.Prelude.{Bool, List, []}
use Rattle.std.specs.Option.{option_or}
use Rattle.journal_protocol.specs.FutureNode.{FutureNode}
use Rattle.journal_protocol.specs.Notification.{Notification}
use Rattle.journal_protocol.specs.NotificationId.{NotificationId}
use Rattle.await_arrivals.specs.Came.{Came}
use Rattle.await_arrivals.specs.Results.{first, results_of}
use Rattle.await_trees.specs.declared.outcome.Outcome.{Outcome}
use Rattle.await_trees.specs.Outcomes.{awake}
use Rattle.await_trees.specs.Wires.{tree_of_nodes}
use Rattle.await_tries.specs.Leaves.{result_outcome}

-- the outcome of an id by what came: the first result counts
abbrev pub outcome_in : Came → NotificationId → Outcome
outcome_in came id = result_outcome
    (option_or (first (results_of id came.delivered)) (first (results_of id came.queued)))

-- notifications that came, of which none was used
abbrev pub only_came : List Notification → Came
only_came notes = record { queued = notes; delivered = [] }

-- the tree that the nodes are is awake by these notifications
abbrev pub is_awake_by : List FutureNode → List Notification → Bool
is_awake_by nodes notes = awake (outcome_in (only_came notes)) (tree_of_nodes nodes)
