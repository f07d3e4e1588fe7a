-- `tree_of` at each form.
use Rattle.std.proofs.Common.{◌≡◌, List, sym, ◌∙◌, ap}
use Rattle.await_trees.specs.Tree.{Tree, leaf, node, tree_step, tree_of, forest_of}
use Rattle.journal_attempt.specs.declared.future.FutureKind.TheVariants.{FirstCompleted as OfFirst, AllCompleted as OfAll, FirstSucceededOrAllFailed as OfAny, AllSucceededOrFirstFailed as OfEvery, Unknown as Other}
use Rattle.await_trees.specs.declared.handle.NotificationHandle.{NotificationHandle}
use Rattle.await_trees.specs.declared.tree.UnresolvedFuture.{UnresolvedFuture}
use Rattle.await_trees.specs.declared.tree.UnresolvedFuture.TheVariants.{Single, FirstCompleted, AllCompleted, FirstSucceededOrAllFailed, AllSucceededOrFirstFailed, Unknown, rolls-Single, rolls-FirstCompleted, rolls-AllCompleted, rolls-FirstSucceededOrAllFailed, rolls-AllSucceededOrFirstFailed, rolls-Unknown}
use Rattle.await_trees.specs.declared.tree.UnresolvedFuture.TheFolds.{fold-roll-UnresolvedFuture}

pub tree_of-Single : (h : NotificationHandle) → tree_of (Single h) ≡ leaf h.0
tree_of-Single h = ap tree_of (sym (rolls-Single h)) ∙ fold-roll-UnresolvedFuture Tree tree_step _

pub tree_of-FirstCompleted : (us : List UnresolvedFuture) → tree_of (FirstCompleted us) ≡ node OfFirst (forest_of us)
tree_of-FirstCompleted us = ap tree_of (sym (rolls-FirstCompleted us)) ∙ fold-roll-UnresolvedFuture Tree tree_step _

pub tree_of-AllCompleted : (us : List UnresolvedFuture) → tree_of (AllCompleted us) ≡ node OfAll (forest_of us)
tree_of-AllCompleted us = ap tree_of (sym (rolls-AllCompleted us)) ∙ fold-roll-UnresolvedFuture Tree tree_step _

pub tree_of-FirstSucceededOrAllFailed : (us : List UnresolvedFuture) → tree_of (FirstSucceededOrAllFailed us) ≡ node OfAny (forest_of us)
tree_of-FirstSucceededOrAllFailed us = ap tree_of (sym (rolls-FirstSucceededOrAllFailed us)) ∙ fold-roll-UnresolvedFuture Tree tree_step _

pub tree_of-AllSucceededOrFirstFailed : (us : List UnresolvedFuture) → tree_of (AllSucceededOrFirstFailed us) ≡ node OfEvery (forest_of us)
tree_of-AllSucceededOrFirstFailed us = ap tree_of (sym (rolls-AllSucceededOrFirstFailed us)) ∙ fold-roll-UnresolvedFuture Tree tree_step _

pub tree_of-Unknown : (us : List UnresolvedFuture) → tree_of (Unknown us) ≡ node Other (forest_of us)
tree_of-Unknown us = ap tree_of (sym (rolls-Unknown us)) ∙ fold-roll-UnresolvedFuture Tree tree_step _
