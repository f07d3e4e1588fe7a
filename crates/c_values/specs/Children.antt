-- The outcomes of a node's children.
use Rattle.std.specs.Prelude.{Bool, cond, ◌&&◌, ◌||◌, List, [], ◌∷◌, ◌++◌, map}
use Rattle.std.specs.List.{list_all, list_any}
use Rattle.journal_protocol.specs.FutureKind.{FutureKind}
use Rattle.journal_protocol.specs.FutureNode.{FutureNode}
use Rattle.journal_protocol.specs.NotificationId.{NotificationId}
use Rattle.journal_protocol.specs.NotificationId.TheVariants.{CompletionId, SignalId, SignalName}
use Rattle.await_trees.specs.declared.outcome.Outcome.{Outcome}
use Rattle.await_trees.specs.declared.outcome.Outcome.TheVariants.{Pending}
use Rattle.await_trees.specs.Outcomes.{outcome, fires, fires_on, outcome_of, waits_for}
use Rattle.await_trees.specs.Tree.{TreeOver, ForestOver, none, more}
use Rattle.c_values.specs.declared.judged.JudgedTree.{JudgedTree}

-- by the outcome of each id: that of a tree, and whether a part of it wakes the attempt
abbrev pub judged : (NotificationId → Outcome) → TreeOver NotificationId → JudgedTree
judged at t = record { outcome = outcome at t; fires = fires at t }

-- of a row of trees, the first one last
abbrev pub stacked : (NotificationId → Outcome) → ForestOver NotificationId → List JudgedTree
stacked at none = []
stacked at (more t ts) = stacked at ts ++ judged at t ∷ []

-- a child wakes the attempt
abbrev pub wakes : FutureKind → JudgedTree → Bool
wakes kind child = fires_on kind child.outcome || child.fires

-- the outcome of each id that a node lists
abbrev pub listed_outcomes : (NotificationId → Outcome) → FutureNode → List Outcome
listed_outcomes at n = map (λ i. at (CompletionId i)) n.waiting_completions
    ++ (map (λ i. at (SignalId i)) n.waiting_signals
    ++ map (λ i. at (SignalName i)) n.waiting_named_signals)

-- a node waits for each of its children: leaves with these outcomes, and these trees
abbrev pub each_waits : FutureKind → List Outcome → List JudgedTree → Bool
each_waits kind leaves trees =
    list_all (waits_for kind) leaves && list_all (λ child. waits_for kind child.outcome) trees

-- one of them wakes the attempt
abbrev pub any_wakes : FutureKind → List Outcome → List JudgedTree → Bool
any_wakes kind leaves trees = list_any (fires_on kind) leaves || list_any (wakes kind) trees

-- a node by its children
abbrev pub judged_by : FutureKind → List Outcome → List JudgedTree → JudgedTree
judged_by kind leaves trees = record {
  outcome = cond (each_waits kind leaves trees) (outcome_of kind) Pending;
  fires = any_wakes kind leaves trees;
}
