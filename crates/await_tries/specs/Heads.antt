-- A node of a wire future, as its children are read.
use Rattle.std.specs.Prelude.{ℕ, ◌+◌, ◌++◌, [], Option}
use Rattle.journal_attempt.specs.declared.future.FutureKind.{FutureKind}
use Rattle.journal_attempt.specs.declared.future.FutureNode.{FutureNode}
use Rattle.journal_values.specs.declared.notification.NotificationId.{NotificationId}
use Rattle.await_trees.specs.Tree.{Forest}
use Rattle.await_trees.specs.Wires.{with_completion_id, signal_of, with_signal_name, completions, signals, names, inner}

-- it waits for nothing yet
abbrev pub bare : FutureKind → FutureNode
bare k = record {
  kind = k;
  waiting_completions = [];
  waiting_signals = [];
  waiting_named_signals = [];
  nested = 0;
}

-- an id stands last in the list of its kind
abbrev pub with_leaf_id : Option NotificationId → FutureNode → FutureNode
with_leaf_id id n = record n {
  waiting_completions = n.waiting_completions ++ with_completion_id id [];
  waiting_signals = n.waiting_signals ++ signal_of id [];
  waiting_named_signals = n.waiting_named_signals ++ with_signal_name id [];
}

-- further children
abbrev pub with_children : (ℕ → Option NotificationId) → FutureNode → Forest → FutureNode
with_children id n ts = record n {
  waiting_completions = n.waiting_completions ++ completions id ts;
  waiting_signals = n.waiting_signals ++ signals id ts;
  waiting_named_signals = n.waiting_named_signals ++ names id ts;
  nested = n.nested + inner ts;
}
