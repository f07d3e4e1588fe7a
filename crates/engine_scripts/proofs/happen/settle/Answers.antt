use Rattle.std.proofs.Common.{◌<◌, ◌-◌, rules}
use Rattle.engine_scripts.proofs.Playing.{one_less, some_at_most, some_more}
use Rattle.engine_scripts.proofs.happen.settle.Goals as goal

pub returns-then-not-branch-clause-does : goal.returns-then-not-branch-clause-does
returns-then-not-branch-clause-does c =
    let some : 0 < c.loop-left.left = search rules in
    some_at_most c.args.times (c.loop-left.left - 1) c.args.engine.now c.settle_once.new.engine
    (some_more c.args.times c.loop-left.left (c.loop-left.left - 1) c.args.engine.now c.loop-left.engine c.settle_once.new.engine c.loop-left.invariant (one_less c.loop-left.left some) c.in_ok-settle_once.ensures.does)
