use Rattle.std.proofs.Common.{◌≡◌, ◌<◌, ◌+◌, [], length, drop, ap, ◌∙◌, arith}
use Rattle.std.proofs.lemmas.List.{drop_all}
use Rattle.journal_attempt.specs.declared.future.FutureNode.{FutureNode}
use Rattle.await_tries.specs.Heads.{bare, with_leaf_id, with_children}
use Rattle.await_tries.specs.Message.{ids}
use Rattle.await_tries.specs.Walks.{reads}
use Rattle.await_tries.proofs.Heading.{whole_head, leaf_turn, inner_turn}
use Rattle.await_tries.proofs.wire_future.head_over.Goals.{in-Leaf+in_ok-put_id-in-Leaf, in-Inner}
use Rattle.await_tries.proofs.wire_future.head_over.Goals as goal

pub loop-child-preserved : goal.loop-child-preserved
loop-child-preserved c =
    let ns = c.args.nodes.now in
    let cs = c.args.children.now in
    let id = ids c.args.results.now in
    let i = c.loop-child.child-index in
    let head = c.loop-child.head in
    let after = c.match-nodes-child.head in
    let inside : i < length cs = omega arith in
    let some : 0 < length ns = let b = c.requires i inside in omega arith in
    let few = c.loop-child.invariant.few in
    elim c.match-nodes-child.branch [
      | in-Leaf+in_ok-put_id-in-Leaf w ↦
          let put : after ≡ with_leaf_id (id w.in-Leaf.handle) head = w.head-is ∙ w.in_ok-put_id-in-Leaf.ensures ∙ ap (λ o. with_leaf_id o head) w.find.ensures in
          let same : after.nested ≡ head.nested = ap (λ (z : FutureNode). z.nested) put in
          record {
            few = omega arith;
            filled = λ kids. leaf_turn id ns kids cs i (with_children id (bare c.args.kind) (reads ns kids cs)) head after inside some w.in-Leaf.handle w.in-Leaf.is put (c.loop-child.invariant.filled kids);
          }
      | in-Inner w ↦
          let put : after ≡ record head { nested = head.nested + 1 } = w.head-is in
          let more : after.nested ≡ head.nested + 1 = ap (λ (z : FutureNode). z.nested) put in
          record {
            few = omega arith;
            filled = λ kids. inner_turn id ns kids cs i (with_children id (bare c.args.kind) (reads ns kids cs)) head after inside some w.in-Inner.field-0 w.in-Inner.is put (c.loop-child.invariant.filled kids);
          }
    ]

pub returns : goal.returns
returns c = λ kids.
    let over : drop c.loop-child.child-index c.args.children.now ≡ [] = drop_all c.loop-child.child-index c.args.children.now (omega arith) in
    whole_head (ids c.args.results.now) c.args.kind c.loop-child.head (reads c.args.nodes.now kids c.args.children.now) (reads c.args.nodes.now kids (drop c.loop-child.child-index c.args.children.now)) (c.loop-child.invariant.filled kids) (ap (reads c.args.nodes.now kids) over)
