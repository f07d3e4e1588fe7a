use Rattle.std.proofs.Common.{◌≡◌, reverse, arith}
use Rattle.await_trees.proofs.Stacks.{one_taken}
use Rattle.await_tries.proofs.linking.take_roots.Goals as goal

pub loop-i-preserved : goal.loop-i-preserved
loop-i-preserved c =
    let h = c.loop-i.invariant in
    let p = one_taken (reverse c.args.roots.now.items) c.loop-i.kids.items c.push.new.self.items c.loop-i.roots.items c.pop.new.self.items c.loop-i.i c.in-Some.root c.args.kids.now.items h.kids h.roots c.in-Some.ensures.items c.in_ok-push-in-Some.ensures.items in
    record { kids = p.0; roots = p.1 }

pub returns : goal.returns
returns c =
    let h = c.loop-i.invariant in
    let all : c.args.count ≡ c.loop-i.i = omega arith in
    record { kids = λ _. rw all h.kids; roots = λ _. rw all h.roots }
