-- A tree as it is sent, and how what is sent reads.
use Rattle.std.specs.Prelude.{ℕ, zero, suc, List, [], ◌∷◌, ◌++◌, Option, Some, None}
use Rattle.journal_attempt.specs.declared.future.FutureKind.{FutureKind}
use Rattle.journal_attempt.specs.declared.future.FutureKind.TheVariants.{FirstCompleted, Unknown}
use Rattle.journal_attempt.specs.declared.future.FutureNode.{FutureNode}
use Rattle.journal_values.specs.declared.notification.NotificationId.{NotificationId}
use Rattle.journal_values.specs.declared.notification.NotificationId.TheVariants.{CompletionId, SignalId, SignalName}
use Rattle.await_trees.specs.declared.outcome.Outcome.{Outcome}
use Rattle.await_trees.specs.declared.outcome.Outcome.TheVariants.{Pending}
use Rattle.await_trees.specs.Tree.{TreeOver, ForestOver, Tree, Forest, leaf, node, none, more}

-- ---- what is sent

-- a completion id stands before other completion ids; no id, and an id of another kind, leave them
-- as they are
abbrev pub with_completion_id : Option NotificationId → List ℕ → List ℕ
with_completion_id None is = is
with_completion_id (Some (CompletionId i)) is = i ∷ is
with_completion_id (Some (SignalId i)) is = is
with_completion_id (Some (SignalName i)) is = is

-- and so for signals
abbrev pub signal_of : Option NotificationId → List ℕ → List ℕ
signal_of None is = is
signal_of (Some (CompletionId i)) is = is
signal_of (Some (SignalId i)) is = i ∷ is
signal_of (Some (SignalName i)) is = is

-- and for signals by name
abbrev pub with_signal_name : Option NotificationId → List (List ℕ) → List (List ℕ)
with_signal_name None is = is
with_signal_name (Some (CompletionId i)) is = is
with_signal_name (Some (SignalId i)) is = is
with_signal_name (Some (SignalName i)) is = i ∷ is

-- how many of these are no leaves
abbrev pub inner : Forest → ℕ
inner none = zero
inner (more (leaf h) ts) = inner ts
inner (more (node k us) ts) = suc (inner ts)

-- by the ids that handles stand for; a leaf whose handle stands for none is left out
module _ (id : ℕ → Option NotificationId) where
  -- the completion ids of the leaves among these, in order
  abbrev pub completions : Forest → List ℕ
  completions none = []
  completions (more (leaf h) ts) = with_completion_id (id h) (completions ts)
  completions (more (node k us) ts) = completions ts

  abbrev pub signals : Forest → List ℕ
  signals none = []
  signals (more (leaf h) ts) = signal_of (id h) (signals ts)
  signals (more (node k us) ts) = signals ts

  abbrev pub names : Forest → List (List ℕ)
  names none = []
  names (more (leaf h) ts) = with_signal_name (id h) (names ts)
  names (more (node k us) ts) = names ts

  -- a node without those that nest in it
  abbrev pub head_of : FutureKind → Forest → FutureNode
  head_of k ts = record {
    kind = k;
    waiting_completions = completions ts;
    waiting_signals = signals ts;
    waiting_named_signals = names ts;
    nested = inner ts;
  }

  -- those that are no leaves nest, in order, each with what nests in it
  abbrev pub nested : Forest → List FutureNode
  nested none = []
  nested (more (leaf h) ts) = nested ts
  nested (more (node k us) ts) = head_of k us ∷ (nested us ++ nested ts)

  -- the wire future of a tree, in preorder; a leaf alone is the first of one
  abbrev pub sent : Tree → List FutureNode
  sent (leaf h) = head_of FirstCompleted (more (leaf h) none) ∷ []
  sent (node k ts) = head_of k ts ∷ nested ts

-- ---- how it reads

-- the first n trees of a row
abbrev pub first_trees : {L : Type 0} → ℕ → ForestOver L → ForestOver L
first_trees zero ts = none
first_trees (suc n) none = none
first_trees (suc n) (more t ts) = more t (first_trees n ts)

-- and the others
abbrev pub other_trees : {L : Type 0} → ℕ → ForestOver L → ForestOver L
other_trees zero ts = ts
other_trees (suc n) none = none
other_trees (suc n) (more t ts) = other_trees n ts

-- one leaf for each id, before other trees
abbrev pub leaves : {X L : Type 0} → (X → L) → List X → ForestOver L → ForestOver L
leaves f [] ts = ts
leaves f (i ∷ is) ts = more (leaf (f i)) (leaves f is ts)

-- a node with the trees that nest in it: its kind over a leaf for each id that it lists, and over
-- those trees
abbrev pub read_node : FutureNode → ForestOver NotificationId → TreeOver NotificationId
read_node n ts = node n.kind
    (leaves CompletionId n.waiting_completions
    (leaves SignalId n.waiting_signals (leaves SignalName n.waiting_named_signals ts)))

-- the trees that nodes in preorder represent: in each node nest as many trees after it as it says
abbrev pub readings : List FutureNode → ForestOver NotificationId
readings [] = none
readings (n ∷ ns) = more (read_node n (first_trees n.nested (readings ns)))
    (other_trees n.nested (readings ns))

abbrev pub first_tree : ForestOver NotificationId → TreeOver NotificationId
first_tree none = node Unknown none
first_tree (more t ts) = t

-- a wire future as a tree over notification ids
abbrev pub tree_of_nodes : List FutureNode → TreeOver NotificationId
tree_of_nodes ns = first_tree (readings ns)

-- ---- leaves by their ids

-- the outcome of a leaf, by its id
abbrev pub outcome_of_leaf : (NotificationId → Outcome) → Option NotificationId → Outcome
outcome_of_leaf at None = Pending
outcome_of_leaf at (Some i) = at i

abbrev pub has_id : Option NotificationId → Type 0
has_id None = ⊥
has_id (Some i) = Unit {0}

-- each handle of a tree stands for an id
abbrev mutual
  pub Mapped : (ℕ → Option NotificationId) → Tree → Type 0
  Mapped id (leaf h) = has_id (id h)
  Mapped id (node k ts) = AllMapped id ts

  pub AllMapped : (ℕ → Option NotificationId) → Forest → Type 0
  AllMapped id none = Unit {0}
  AllMapped id (more t ts) = Mapped id t × AllMapped id ts
