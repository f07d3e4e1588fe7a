use Rattle.std.proofs.Common.{◌≡◌, ◌<◌, [], length, reverse, refl, arith, rules}
use Rattle.await_trees.proofs.Stacks.{none_to_take, one_taken}
use Rattle.await_trees.proofs.copying.take_trees.Goals as goal

pub loop-i-init : goal.loop-i-init
loop-i-init c = record { row = c.new-row.ensures; trees = refl }

pub returns-in-None : goal.returns-in-None
returns-in-None c =
    let empty : c.loop-i.trees.items ≡ [] = search rules in
    let none : length c.args.trees.now.items < c.args.count = none_to_take c.args.trees.now.items c.loop-i.trees.items c.loop-i.i c.args.count c.loop-i.invariant.trees empty c.loop-i-test.true in
    record { taken = λ fits. absurd (omega (arith, none, fits)); left = λ fits. absurd (omega (arith, none, fits)) }

pub returns : goal.returns
returns c =
    let at : c.loop-i.i ≡ c.args.count = omega arith in
    record { taken = λ _. rw (← at) c.loop-i.invariant.row; left = λ _. rw (← at) c.loop-i.invariant.trees }

pub loop-i-preserved : goal.loop-i-preserved
loop-i-preserved c =
    let h = c.loop-i.invariant in
    let p = one_taken (reverse c.args.trees.now.items) c.loop-i.row c.push.new.self c.loop-i.trees.items c.pop.new.self.items c.loop-i.i c.in-Some.tree [] h.row h.trees c.in-Some.ensures.items c.in_ok-push-in-Some.ensures.ok in
    record { row = p.0; trees = p.1 }
