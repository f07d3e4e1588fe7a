use Rattle.await_trees.specs.Tree.{leaf}
use Rattle.await_tries.specs.Await.{LeftPending}
use Rattle.await_tries.specs.Left.{tree_left}
use Rattle.await_tries.proofs.OneLeaf.{whole_leaf}
use Rattle.await_tries.proofs.Waking.{leaf_wakes, least, never, leaf_pending}
use Rattle.await_tries.proofs.tries.try_leaf.Goals as goal

pub returns-in-Some-clause-ok : goal.returns-in-Some-clause-ok
returns-in-Some-clause-ok c =
    let v = c.args.results.now in
    let h = c.args.handle in
    let by = c.uses_until.result in
    (c.in-Some.enough, least c.args.delivery v (leaf h) by (leaf_wakes c.args.delivery v h by c.uses_until.ensures) c.in-Some.enough c.in-Some.is, c.use_first.ensures)

pub new-requires-2 : goal.new-requires-2
new-requires-2 c =
    let items = rw c.in_ok-nodes.ensures.items at c.in_ok-push.ensures.items in
    whole_leaf c.push.new.self.items c.new.result.items c.args.handle items c.new.ensures.items

pub returns-clause-ok : goal.returns-clause-ok
returns-clause-ok c =
    let v = c.args.results.now in
    let h = c.args.handle in
    let by = c.uses_until.result in
    let items = rw c.in_ok-nodes.ensures.items at c.in_ok-push.ensures.items in
    let asleep = never c.args.delivery v (leaf h) by (leaf_wakes c.args.delivery v h by c.uses_until.ensures) c.in_default.is in
    let left : LeftPending c.args.delivery v (leaf h) (tree_left c.new-2.result) = rw (c.new-2.ensures, items) (leaf_pending c.args.delivery v h asleep) in
    (left, c.use_all.ensures)
