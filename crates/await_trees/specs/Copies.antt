-- The future that a tree is.
use Rattle.std.specs.Prelude.{List, [], ◌∷◌}
use Rattle.journal_attempt.specs.declared.future.FutureKind.{FutureKind}
use Rattle.journal_attempt.specs.declared.future.FutureKind.TheVariants.{FirstCompleted as OfFirst, AllCompleted as OfAll, FirstSucceededOrAllFailed as OfAny, AllSucceededOrFirstFailed as OfEvery, Unknown as OfUnknown}
use Rattle.await_trees.specs.declared.tree.UnresolvedFuture.{UnresolvedFuture}
use Rattle.await_trees.specs.declared.tree.UnresolvedFuture.TheVariants.{Single, FirstCompleted, AllCompleted, FirstSucceededOrAllFailed, AllSucceededOrFirstFailed, Unknown}
use Rattle.await_trees.specs.Tree.{Tree, Forest, leaf, node, none, more}

-- a node over children
abbrev pub future_node : FutureKind → List UnresolvedFuture → UnresolvedFuture
future_node OfFirst us = FirstCompleted us
future_node OfAll us = AllCompleted us
future_node OfAny us = FirstSucceededOrAllFailed us
future_node OfEvery us = AllSucceededOrFirstFailed us
future_node OfUnknown us = Unknown us

abbrev mutual
  pub future_at : Tree → UnresolvedFuture
  future_at (leaf h) = Single (record { 0 = h })
  future_at (node k ts) = future_node k (futures_at ts)

  pub futures_at : Forest → List UnresolvedFuture
  futures_at none = []
  futures_at (more t ts) = future_at t ∷ futures_at ts
