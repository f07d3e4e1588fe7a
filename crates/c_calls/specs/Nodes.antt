-- How a tree of awaits is written as a row of nodes.
use Rattle.std.specs.Prelude.{◌≡◌, ◌≢◌, ◌⊎◌, ◌<◌, ℕ, ◌+◌, ◌==◌, if◌then◌else◌, List, [], ◌∷◌, ◌++◌, length, Option, Some, None}
use Rattle.std.specs.List.{flat_map}
use Rattle.journal_protocol.specs.FutureKind.{FutureKind}
use Rattle.journal_protocol.specs.FutureKind.TheVariants.{FirstCompleted, AllCompleted, FirstSucceededOrAllFailed, AllSucceededOrFirstFailed, Unknown}
use Rattle.await_trees.specs.Tree.{Tree, Forest, leaf, node, none, more, tree_of}
use Rattle.await_trees.specs.declared.tree.UnresolvedFuture.{UnresolvedFuture}
use Rattle.invocation_vm.specs.Calls.{CallsFlatAwait}
use Rattle.invocation_vm.specs.Views.{View}
use Rattle.vm_types.specs.declared.reply.Reply.{Reply}
use Rattle.vm_types.specs.declared.reply.Reply.TheVariants as reply
use Rattle.vm_calls.specs.Called.{RepliesWith}
use Rattle.c_values.specs.declared.status.Status.{Status}
use Rattle.c_values.specs.declared.status.Status.TheVariants as status
use Rattle.c_calls.specs.declared.nodes.Node.{Node}

-- the number of a kind; 0 is a handle's
abbrev pub node_code : FutureKind → ℕ
node_code FirstCompleted = 1
node_code AllCompleted = 2
node_code FirstSucceededOrAllFailed = 3
node_code AllSucceededOrFirstFailed = 4
node_code Unknown = 5

-- the kind of a number, if it names one
abbrev pub kind_at : ℕ → Option FutureKind
kind_at n =
    if n == 1 then Some FirstCompleted
    else if n == 2 then Some AllCompleted
    else if n == 3 then Some FirstSucceededOrAllFailed
    else if n == 4 then Some AllSucceededOrFirstFailed
    else if n == 5 then Some Unknown
    else None

-- how many trees stand in a row
abbrev pub trees_in : Forest → ℕ
trees_in none = 0
trees_in (more t others) = 1 + trees_in others

-- A handle is one node. A node over children stands after all of theirs, and says how many children
-- there are.
abbrev mutual
  pub nodes_of : Tree → List Node
  nodes_of (leaf handle) = record { kind = 0; number = handle } ∷ []
  nodes_of (node kind children) = rows_of children
      ++ record { kind = node_code kind; number = trees_in children } ∷ []

  pub rows_of : Forest → List Node
  rows_of none = []
  rows_of (more t others) = nodes_of t ++ rows_of others

-- the nodes of a row of futures
abbrev pub row_of : List UnresolvedFuture → List Node
row_of futures = flat_map (λ future. nodes_of (tree_of future)) futures

-- the tree that is written as these nodes is awaited
abbrev pub AwaitsTree : List Node → Reply → View → View → Type 0
AwaitsTree nodes told old new = (future : UnresolvedFuture) × (nodes_of (tree_of future) ≡ nodes)
    × RepliesWith reply.Awaited (CallsFlatAwait future) told old new

-- A node can't stand after `many` trees: no memory is found for it, its kind is none, or it is over
-- more trees than there are.
abbrev pub CantStand : Node → ℕ → Status → Type 0
CantStand n many status.NoMemory = Unit {0}
CantStand n many status.BadNumber = (n.kind ≢ 0) × (kind_at n.kind ≡ None)
CantStand n many status.BadTree =
    (kind : FutureKind) × (node_code kind ≡ n.kind) × (many < n.number)
CantStand n many other = ⊥

-- the first node that can't stand after the trees that those in front of it are
pub record StopsAtNode (nodes : List Node) (given : Status) : Type 0 where
  pub front : List UnresolvedFuture
  pub at : Node
  pub rest : List Node
  pub split : row_of front ++ at ∷ rest ≡ nodes
  pub cant : CantStand at (length front) given

-- all nodes are trees, but not one alone
pub record IsNotOneTree (nodes : List Node) : Type 0 where
  pub trees : List UnresolvedFuture
  pub all : row_of trees ≡ nodes
  pub many : length trees ≢ 1

-- Why nodes aren't awaited: no memory is found; a number names no kind; or they aren't one tree,
-- for a node is over more trees than stand in front of it, or the nodes are no tree or several.
abbrev pub FailsAsTree : List Node → Status → Type 0
FailsAsTree nodes status.NoMemory = Unit {0}
FailsAsTree nodes status.BadNumber = StopsAtNode nodes status.BadNumber
FailsAsTree nodes status.BadTree = StopsAtNode nodes status.BadTree ⊎ IsNotOneTree nodes
FailsAsTree nodes other = ⊥
