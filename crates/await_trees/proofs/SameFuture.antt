-- A future is the one that its tree is.
use Rattle.std.proofs.Common.{◌≡◌, List, [], ◌∷◌, map, refl, sym, ap, subst, ◌∙◌}
use Rattle.await_trees.specs.declared.tree.UnresolvedFuture.{UnresolvedFuture, roll-UnresolvedFuture}
use Rattle.await_trees.specs.declared.tree.UnresolvedFuture.TheFolds.{fold-roll-UnresolvedFuture, ind-UnresolvedFuture, map-UnresolvedFuture}
use Rattle.await_trees.specs.declared.tree.UnresolvedFuture.TheOpen as Open
use Rattle.await_trees.specs.declared.tree.UnresolvedFuture.TheOpen.{UnresolvedFuture-F}
use Rattle.await_trees.specs.declared.tree.UnresolvedFuture.TheVariants.{rolls-Single, rolls-FirstCompleted, rolls-AllCompleted, rolls-FirstSucceededOrAllFailed, rolls-AllSucceededOrFirstFailed, rolls-Unknown, FirstCompleted, AllCompleted, FirstSucceededOrAllFailed, AllSucceededOrFirstFailed, Unknown}
use Rattle.await_trees.specs.Copies.{future_at, futures_at}
use Rattle.await_trees.specs.Tree.{Tree, tree_step, tree_of, forest_of}

abbrev IsSame : UnresolvedFuture → Type 0
IsSame u = future_at (tree_of u) ≡ u

same_row : (es : List ((u : UnresolvedFuture) × IsSame u)) → futures_at (forest_of (map (λ e. e.0) es)) ≡ map (λ e. e.0) es
same_row [] = refl
same_row (e ∷ es) = λ i. e.1 i ∷ same_row es i

at_layer : (y : UnresolvedFuture-F ((u : UnresolvedFuture) × IsSame u)) → IsSame (roll-UnresolvedFuture (map-UnresolvedFuture ((u : UnresolvedFuture) × IsSame u) UnresolvedFuture (λ e. e.0) y))
at_layer (Open.Single h) = ap future_at (fold-roll-UnresolvedFuture Tree tree_step _) ∙ sym (rolls-Single h)
at_layer (Open.FirstCompleted es) = ap future_at (fold-roll-UnresolvedFuture Tree tree_step _) ∙ ap FirstCompleted (same_row es) ∙ sym (rolls-FirstCompleted (map (λ e. e.0) es))
at_layer (Open.AllCompleted es) = ap future_at (fold-roll-UnresolvedFuture Tree tree_step _) ∙ ap AllCompleted (same_row es) ∙ sym (rolls-AllCompleted (map (λ e. e.0) es))
at_layer (Open.FirstSucceededOrAllFailed es) = ap future_at (fold-roll-UnresolvedFuture Tree tree_step _) ∙ ap FirstSucceededOrAllFailed (same_row es) ∙ sym (rolls-FirstSucceededOrAllFailed (map (λ e. e.0) es))
at_layer (Open.AllSucceededOrFirstFailed es) = ap future_at (fold-roll-UnresolvedFuture Tree tree_step _) ∙ ap AllSucceededOrFirstFailed (same_row es) ∙ sym (rolls-AllSucceededOrFirstFailed (map (λ e. e.0) es))
at_layer (Open.Unknown es) = ap future_at (fold-roll-UnresolvedFuture Tree tree_step _) ∙ ap Unknown (same_row es) ∙ sym (rolls-Unknown (map (λ e. e.0) es))

pub same_future : (u : UnresolvedFuture) → future_at (tree_of u) ≡ u
same_future = ind-UnresolvedFuture IsSame (λ x y is. subst (λ z. IsSame (roll-UnresolvedFuture z)) is (at_layer y))
