use Rattle.std.proofs.Common.{◌≡◌, suc, ap, ◌∙◌, sym}
use Rattle.await_trees.specs.Counts.{count, in_row, in_some}
use Rattle.await_trees.proofs.Counting.{taken_apart, count-Single, count-FirstCompleted, count-AllCompleted, count-FirstSucceededOrAllFailed, count-AllSucceededOrFirstFailed, count-Unknown}
use Rattle.await_trees.proofs.tree.UnresolvedFuture.drop.Goals.{in-Single, in-FirstCompleted, in-AllCompleted, in-FirstSucceededOrAllFailed, in-AllSucceededOrFirstFailed, in-Unknown}
use Rattle.await_trees.proofs.tree.UnresolvedFuture.drop.Goals as goal

pub trees-smaller : goal.trees-smaller
trees-smaller c =
    let opened : count c.trees.self ≡ suc (in_some c.match-self.found) = elim c.match-self.branch [
      | in-Single w ↦ ap count w.in-Single.is ∙ count-Single w.in-Single.field-0 ∙ sym (ap (λ z. suc (in_some z)) w.found-is)
      | in-FirstCompleted w ↦ ap count w.in-FirstCompleted.is ∙ count-FirstCompleted w.in-FirstCompleted.children ∙ sym (ap (λ z. suc (in_some z)) w.found-is ∙ ap (λ z. suc (in_row z)) w.into_vec.ensures)
      | in-AllCompleted w ↦ ap count w.in-AllCompleted.is ∙ count-AllCompleted w.in-AllCompleted.children ∙ sym (ap (λ z. suc (in_some z)) w.found-is ∙ ap (λ z. suc (in_row z)) w.into_vec-in-AllCompleted.ensures)
      | in-FirstSucceededOrAllFailed w ↦ ap count w.in-FirstSucceededOrAllFailed.is ∙ count-FirstSucceededOrAllFailed w.in-FirstSucceededOrAllFailed.children ∙ sym (ap (λ z. suc (in_some z)) w.found-is ∙ ap (λ z. suc (in_row z)) w.into_vec-in-FirstSucceededOrAllFailed.ensures)
      | in-AllSucceededOrFirstFailed w ↦ ap count w.in-AllSucceededOrFirstFailed.is ∙ count-AllSucceededOrFirstFailed w.in-AllSucceededOrFirstFailed.children ∙ sym (ap (λ z. suc (in_some z)) w.found-is ∙ ap (λ z. suc (in_row z)) w.into_vec-in-AllSucceededOrFirstFailed.ensures)
      | in-Unknown w ↦ ap count w.in-Unknown.is ∙ count-Unknown w.in-Unknown.children ∙ sym (ap (λ z. suc (in_some z)) w.found-is ∙ ap (λ z. suc (in_row z)) w.into_vec-in-Unknown.ensures)
    ] in
    taken_apart (count c.trees.self) (in_some c.match-self.found) (in_some c.trees.row) (count c.in-Some.tree) (in_row c.in-Some.others.items) opened c.in-Some.ensures
