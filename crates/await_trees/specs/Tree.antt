-- A tree of awaits, over leaves of any kind: handles as a handler awaits them, notification ids as
-- they are sent.
use Rattle.std.specs.Prelude.{ℕ, List, [], ◌∷◌, map}
use Rattle.journal_attempt.specs.declared.future.FutureKind.{FutureKind}
use Rattle.journal_attempt.specs.declared.future.FutureKind.TheVariants.{FirstCompleted as OfFirst, AllCompleted as OfAll, FirstSucceededOrAllFailed as OfAny, AllSucceededOrFirstFailed as OfEvery, Unknown as OfUnknown}
use Rattle.await_trees.specs.declared.tree.UnresolvedFuture.{UnresolvedFuture}
use Rattle.await_trees.specs.declared.tree.UnresolvedFuture.TheOpen.{UnresolvedFuture-F, Single, FirstCompleted, AllCompleted, FirstSucceededOrAllFailed, AllSucceededOrFirstFailed, Unknown}
use Rattle.await_trees.specs.declared.tree.UnresolvedFuture.TheFolds.{fold-UnresolvedFuture}

-- a leaf, or a kind over a row of trees
mutual
  pub data TreeOver (L : Type 0) : Type 0 where
    leaf : L → TreeOver L
    node : FutureKind → ForestOver L → TreeOver L

  pub data ForestOver (L : Type 0) : Type 0 where
    none : ForestOver L
    more : TreeOver L → ForestOver L → ForestOver L

-- a tree over handles
abbrev pub Tree : Type 0
Tree = TreeOver ℕ

abbrev pub Forest : Type 0
Forest = ForestOver ℕ

-- a row of trees
abbrev pub forest : {L : Type 0} → List (TreeOver L) → ForestOver L
forest [] = none
forest (t ∷ ts) = more t (forest ts)

-- a future whose children are trees already
abbrev pub tree_step : UnresolvedFuture-F Tree → Tree
tree_step (Single h) = leaf h.0
tree_step (FirstCompleted ts) = node OfFirst (forest ts)
tree_step (AllCompleted ts) = node OfAll (forest ts)
tree_step (FirstSucceededOrAllFailed ts) = node OfAny (forest ts)
tree_step (AllSucceededOrFirstFailed ts) = node OfEvery (forest ts)
tree_step (Unknown ts) = node OfUnknown (forest ts)

-- the tree that a future is
abbrev pub tree_of : UnresolvedFuture → Tree
tree_of = fold-UnresolvedFuture Tree tree_step

abbrev pub forest_of : List UnresolvedFuture → Forest
forest_of futures = forest (map tree_of futures)
