use Rattle.std.proofs.Common.{◌<◌, ◌-◌, rules}
use Rattle.engine_scripts.proofs.Playing.{delivers_more, moves_to, one_less, room_left}
use Rattle.engine_scripts.proofs.happen.deliver_all.Goals as goal

pub loop-left-preserved : goal.loop-left-preserved
loop-left-preserved c =
    let some : 0 < c.loop-left.left = search rules in
    record {
      room = room_left c.loop-left.at c.loop-left.left c.place_after-at.result c.inbox_len.result c.inbox_len-was.result c.loop-left.invariant.room some c.place_after-at.ensures;
      on = delivers_more c.args.place c.loop-left.at c.loop-left.left (c.loop-left.left - 1) c.place_after-at.result c.args.engine.now c.loop-left.engine c.deliver.new.engine c.loop-left.invariant.on (one_less c.loop-left.left some) c.in_ok-one.ensures.does
          (moves_to c.args.place c.loop-left.at c.inbox_len-was.result c.inbox_len.result c.place_after-at.result c.loop-left.engine c.deliver.new.engine c.inbox_len-was.ensures c.inbox_len.ensures c.place_after-at.ensures);
    }
