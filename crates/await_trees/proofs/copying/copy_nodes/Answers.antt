use Rattle.std.proofs.Common.{◌≡◌, ◌-◌, suc, reverse, sym, ap, ◌∙◌, arith}
use Rattle.std.proofs.lemmas.List.{length-reverse}
use Rattle.await_trees.proofs.Copied.{behind_at, nothing_behind}
use Rattle.await_trees.proofs.Stacks.{push_reverse}
use Rattle.await_trees.proofs.copying.copy_nodes.Goals as goal

pub loop-i-init : goal.loop-i-init
loop-i-init c = record {
  within = omega arith;
  copied = λ t e. ap reverse c.new-trees.ensures.items ∙ sym (nothing_behind c.args.nodes.now t e);
}

pub loop-i-preserved-in-Continue-1 : goal.loop-i-preserved-in-Continue-1
loop-i-preserved-in-Continue-1 c =
    let h = c.loop-i.i - 1 in
    let one : c.loop-i.i ≡ suc h = omega arith in
    let stack = reverse c.loop-i.trees.items in
    let top = ap reverse c.in_ok-push-in-Leaf.ensures.items ∙ push_reverse c.loop-i.trees.items _ in
    record {
      within = omega arith;
      copied = λ t e.
          let b = behind_at c.args.nodes.now t h stack e (omega arith) (rw one at (c.loop-i.invariant.copied t e)) in
          top ∙ b.a_leaf c.in-Leaf.handle c.in-Leaf.is;
    }

pub loop-i-preserved : goal.loop-i-preserved
loop-i-preserved c =
    let h = c.loop-i.i - 1 in
    let one : c.loop-i.i ≡ suc h = omega arith in
    let stack = reverse c.loop-i.trees.items in
    let k = c.in-Inner.kind in
    let top = ap reverse c.in_ok-push-in-Inner.ensures.items ∙ push_reverse c.take_trees.new.trees.items c.node_over.result in
    let rev = length-reverse c.loop-i.trees.items in
    record {
      within = omega arith;
      copied = λ t e.
          let b = behind_at c.args.nodes.now t h stack e (omega arith) (rw one at (c.loop-i.invariant.copied t e)) in
          let room = b.enough k c.in-Inner.is in
          let taken = c.in_ok-children-in-Inner.ensures.taken (omega arith) in
          let left = c.in_ok-children-in-Inner.ensures.left (omega arith) in
          top ∙ rw (c.node_over.ensures, taken, left) (b.a_node k c.in-Inner.is);
    }
