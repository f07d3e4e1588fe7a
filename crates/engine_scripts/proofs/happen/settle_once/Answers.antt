use Rattle.std.proofs.Common.{◌<◌, length, rules}
use Rattle.engine_scripts.proofs.Playing.{settles_more}
use Rattle.engine_scripts.proofs.happen.settle_once.Goals as goal

pub loop-place-preserved : goal.loop-place-preserved
loop-place-preserved c =
    let lt : c.loop-place.place < length c.args.engine.now.invocations.items = search rules in
    settles_more c.loop-place.place c.args.engine.now c.loop-place.engine c.settle_one.new.engine c.loop-place.invariant lt c.in_ok-settle_one.ensures.does
