use Rattle.std.proofs.Common.{◌≡◌, Bool, true, false, List, [], ◌∷◌, refl, sym, ap, ◌∙◌}
use Rattle.await_trees.specs.declared.tree.UnresolvedFuture.{UnresolvedFuture}
use Rattle.await_trees.specs.declared.tree.UnresolvedFuture.TheVariants.{FirstCompleted}
use Rattle.await_trees.specs.Tree.{tree_of}
use Rattle.await_trees.proofs.TreeOf.{tree_of-FirstCompleted}
use Rattle.vm_awaits.specs.Awaits.{is_first_of_none}
use Rattle.vm_awaits.proofs.awaits.is_first_of_none.Goals as goal

-- whether it has no parts
of_parts : (b : Bool) (us : List UnresolvedFuture) → (b ≡ true → us ≡ []) → (us ≡ [] → b ≡ true) → b ≡ is_first_of_none (tree_of (FirstCompleted us))
of_parts b [] only so = so refl ∙ sym (ap is_first_of_none (tree_of-FirstCompleted []))
of_parts true (u ∷ us) only so = absurd (let nothing = only refl in cc)
of_parts false (u ∷ us) only so = sym (ap is_first_of_none (tree_of-FirstCompleted (u ∷ us)))

pub returns-in-FirstCompleted : goal.returns-in-FirstCompleted
returns-in-FirstCompleted c =
    of_parts c.is_empty.result c.in-FirstCompleted.children c.is_empty.ensures.0 c.is_empty.ensures.1 ∙ ap (λ u. is_first_of_none (tree_of u)) (sym c.in-FirstCompleted.is)
