use Rattle.std.proofs.Common.{rules, ◌≡◌, Some, ap, ◌∙◌}
use Rattle.await_trees.specs.Copies.{future_at}
use Rattle.await_trees.specs.Tree.{tree_of}
use Rattle.await_trees.proofs.SameFuture.{same_future}
use Rattle.await_trees.proofs.copying.copy_of.Goals as goal

pub unwrap-requires : goal.unwrap-requires
unwrap-requires c =
    let e : c.in_ok-copy.copy ≡ Some (future_at (tree_of c.args.future.now)) = c.in_ok-copy.ensures (tree_of c.args.future.now) (c.as_slice.ensures.value ∙ c.in_ok-nodes.ensures) in
    rw e (search rules)

pub returns : goal.returns
returns c =
    let e : c.in_ok-copy.copy ≡ Some (future_at (tree_of c.args.future.now)) = c.in_ok-copy.ensures (tree_of c.args.future.now) (c.as_slice.ensures.value ∙ c.in_ok-nodes.ensures) in
    let f : c.in_ok-copy.copy ≡ Some c.args.future.now = e ∙ ap Some (same_future c.args.future.now) in
    search rules
