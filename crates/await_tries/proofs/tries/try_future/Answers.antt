use Rattle.std.proofs.Common.{◌<◌, length, arith}
use Rattle.std.proofs.lemmas.List.{get_or_read}
use Rattle.await_trees.specs.Tree.{tree_of}
use Rattle.await_tries.specs.Await.{LeftPending}
use Rattle.await_tries.specs.Courses.{never}
use Rattle.await_tries.specs.Left.{tree_left}
use Rattle.await_tries.proofs.Spelled.{whole, spelled_at}
use Rattle.await_tries.proofs.Trying.{root_wakes, left_spelled}
use Rattle.await_tries.proofs.Waking as waking
use Rattle.await_tries.proofs.tries.try_future.Goals as goal

pub returns-in-Some : goal.returns-in-Some
returns-in-Some c =
    let v = c.args.results.now in
    let t = tree_of c.args.future.now in
    let linked = c.in_ok-kids.ensures t c.in_ok-nodes.ensures in
    let all = rw (c.deref.ensures.value, c.deref-2.ensures.value) at c.in_ok-courses.ensures in
    let cs = c.in_ok-courses.courses.items in
    let some : 0 < length cs = omega (arith, all.0, linked.some) in
    let root = get_or_read cs 0 c.index.result.now some c.index.ensures never in
    let is = root_wakes c.args.delivery v t c.link.new.nodes.items c.in_ok-kids.kids.items cs linked.spelled all.1 c.awake.result c.index.result.now root c.awake.ensures in
    record { ok = (c.in-Some.enough, waking.least c.args.delivery v t c.awake.result is c.in-Some.enough c.in-Some.is, c.use_first.ensures); err = tt }

pub new-requires : goal.new-requires
new-requires c =
    let v = c.args.results.now in
    let t = tree_of c.args.future.now in
    let linked = c.in_ok-kids.ensures t c.in_ok-nodes.ensures in
    let all = rw (c.deref.ensures.value, c.deref-2.ensures.value) at c.in_ok-courses.ensures in
    let cs = c.in_ok-courses.courses.items in
    let some : 0 < length cs = omega (arith, all.0, linked.some) in
    let root = get_or_read cs 0 c.index.result.now some c.index.ensures never in
    let is = root_wakes c.args.delivery v t c.link.new.nodes.items c.in_ok-kids.kids.items cs linked.spelled all.1 c.awake.result c.index.result.now root c.awake.ensures in
    let pruned = rw c.deref-3.ensures.value at c.in_ok-prune.ensures.pruned in
    let left = left_spelled c.args.delivery v t c.link.new.nodes.items c.in_ok-kids.kids.items cs linked.spelled all.1 (waking.never c.args.delivery v t c.awake.result is c.in_default-awake.is)
    c.prune.new.nodes.items c.prune.new.kids.items pruned.0 pruned.1 in
    whole (record { nodes = c.prune.new.nodes.items; kids = c.prune.new.kids.items }) left.0 c.in_ok-prune.ensures.ranged left.1

pub returns : goal.returns
returns c =
    let v = c.args.results.now in
    let t = tree_of c.args.future.now in
    let linked = c.in_ok-kids.ensures t c.in_ok-nodes.ensures in
    let all = rw (c.deref.ensures.value, c.deref-2.ensures.value) at c.in_ok-courses.ensures in
    let cs = c.in_ok-courses.courses.items in
    let some : 0 < length cs = omega (arith, all.0, linked.some) in
    let root = get_or_read cs 0 c.index.result.now some c.index.ensures never in
    let is = root_wakes c.args.delivery v t c.link.new.nodes.items c.in_ok-kids.kids.items cs linked.spelled all.1 c.awake.result c.index.result.now root c.awake.ensures in
    let pruned = rw c.deref-3.ensures.value at c.in_ok-prune.ensures.pruned in
    let left = left_spelled c.args.delivery v t c.link.new.nodes.items c.in_ok-kids.kids.items cs linked.spelled all.1 (waking.never c.args.delivery v t c.awake.result is c.in_default-awake.is)
    c.prune.new.nodes.items c.prune.new.kids.items pruned.0 pruned.1 in
    let same = spelled_at c.prune.new.nodes.items c.prune.new.kids.items 0 left.0 left.1 in
    let pending : LeftPending c.args.delivery v t (tree_left c.new.result) = rw (c.new.ensures, same) left.2 in
    record { ok = (pending, c.use_all.ensures); err = tt }
