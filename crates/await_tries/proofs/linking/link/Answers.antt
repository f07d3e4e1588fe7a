use Rattle.std.proofs.Common.{◌≡◌, ◌-◌, ◌<◌, suc, ◌∷◌, length, reverse, refl, ap, ◌∙◌, arith}
use Rattle.std.proofs.lemmas.List.{get_or_read, length-set, length-reverse}
use Rattle.await_trees.specs.declared.nodes.Node.{Node}
use Rattle.await_tries.specs.Spells.{blank}
use Rattle.await_tries.proofs.Links.{linking_start, linking_step}
use Rattle.await_trees.proofs.Stacks.{push_reverse}
use Rattle.await_tries.proofs.linking.link.Goals as goal

pub loop-i-init : goal.loop-i-init
loop-i-init c =
    let n : c.len-i.result ≡ length c.args.nodes.now.items = omega arith in
    record {
      len = refl;
      within = omega arith;
      linking = λ t e. rw (c.new-kids.ensures.items, c.new-roots.ensures.items, n) (linking_start c.args.nodes.now.items t e);
    }

pub loop-i-preserved : goal.loop-i-preserved
loop-i-preserved c =
    let inv = c.loop-i.invariant in
    let h = c.loop-i.i - 1 in
    let ns = c.loop-i.nodes.items in
    let kids = c.loop-i.kids.items in
    let inside : h < length ns = omega arith in
    let is = get_or_read ns h c.index.result.now inside c.index.ensures blank in
    let mut_is = get_or_read ns h c.index_mut.result.now inside c.index_mut.ensures.value blank in
    let size : c.len.result ≡ length kids = omega arith in
    let e = rw is at c.in_ok-take_roots.ensures in
    let rev = length-reverse c.loop-i.roots.items in
    let i_is : c.loop-i.i ≡ suc h = omega arith in
    let top : reverse c.push.new.self.items ≡ h ∷ reverse c.take_roots.new.roots.items = ap reverse c.in_ok-push.ensures.items ∙ push_reverse c.take_roots.new.roots.items h in
    record {
      len = length-set ns h _ ∙ inv.len;
      within = omega (arith, length-set {A = Node});
      linking = λ t q.
          let p = rw i_is at (inv.linking t q) in
          rw (mut_is, size, top) (linking_step ns kids c.take_roots.new.kids.items (reverse c.loop-i.roots.items) (reverse c.take_roots.new.roots.items) h inside p.fits (p.above h refl) (λ b. e.kids (omega (arith, rev))) (λ b. e.roots (omega (arith, rev))) c.args.nodes.now.items t inv.len q p);
    }
