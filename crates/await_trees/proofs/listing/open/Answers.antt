use Rattle.std.proofs.Common.{ap, ◌∙◌, refl, length}
use Rattle.journal_attempt.specs.declared.future.FutureKind.TheVariants.{FirstCompleted, AllCompleted, FirstSucceededOrAllFailed, AllSucceededOrFirstFailed, Unknown}
use Rattle.await_trees.specs.Tree.{tree_of}
use Rattle.await_trees.proofs.Preorders.{row_code}
use Rattle.await_trees.proofs.TreeOf.{tree_of-FirstCompleted, tree_of-AllCompleted, tree_of-FirstSucceededOrAllFailed, tree_of-AllSucceededOrFirstFailed, tree_of-Unknown}
use Rattle.await_trees.proofs.listing.open.Goals as goal

pub returns-in-FirstCompleted : goal.returns-in-FirstCompleted
returns-in-FirstCompleted c =
    let us = c.in-FirstCompleted.children in
    row_code FirstCompleted c.args.future.now us c.inner.result.1.now (length us) c.inner.result.0 (ap tree_of c.in-FirstCompleted.is ∙ tree_of-FirstCompleted us) refl c.inner.ensures.node c.inner.ensures.children

pub returns-in-AllCompleted : goal.returns-in-AllCompleted
returns-in-AllCompleted c =
    let us = c.in-AllCompleted.children in
    row_code AllCompleted c.args.future.now us c.inner-in-AllCompleted.result.1.now (length us) c.inner-in-AllCompleted.result.0 (ap tree_of c.in-AllCompleted.is ∙ tree_of-AllCompleted us) refl c.inner-in-AllCompleted.ensures.node c.inner-in-AllCompleted.ensures.children

pub returns-in-FirstSucceededOrAllFailed : goal.returns-in-FirstSucceededOrAllFailed
returns-in-FirstSucceededOrAllFailed c =
    let us = c.in-FirstSucceededOrAllFailed.children in
    row_code FirstSucceededOrAllFailed c.args.future.now us c.inner-in-FirstSucceededOrAllFailed.result.1.now (length us) c.inner-in-FirstSucceededOrAllFailed.result.0 (ap tree_of c.in-FirstSucceededOrAllFailed.is ∙ tree_of-FirstSucceededOrAllFailed us) refl c.inner-in-FirstSucceededOrAllFailed.ensures.node c.inner-in-FirstSucceededOrAllFailed.ensures.children

pub returns-in-AllSucceededOrFirstFailed : goal.returns-in-AllSucceededOrFirstFailed
returns-in-AllSucceededOrFirstFailed c =
    let us = c.in-AllSucceededOrFirstFailed.children in
    row_code AllSucceededOrFirstFailed c.args.future.now us c.inner-in-AllSucceededOrFirstFailed.result.1.now (length us) c.inner-in-AllSucceededOrFirstFailed.result.0 (ap tree_of c.in-AllSucceededOrFirstFailed.is ∙ tree_of-AllSucceededOrFirstFailed us) refl c.inner-in-AllSucceededOrFirstFailed.ensures.node c.inner-in-AllSucceededOrFirstFailed.ensures.children

pub returns-in-Unknown : goal.returns-in-Unknown
returns-in-Unknown c =
    let us = c.in-Unknown.children in
    row_code Unknown c.args.future.now us c.inner-in-Unknown.result.1.now (length us) c.inner-in-Unknown.result.0 (ap tree_of c.in-Unknown.is ∙ tree_of-Unknown us) refl c.inner-in-Unknown.ensures.node c.inner-in-Unknown.ensures.children
