use Rattle.std.proofs.Common.{◌≢◌, ◌+◌, [], arith, refl}
use Rattle.frame_runs.proofs.Streaming.{line_read}
use Rattle.frame_runs.proofs.run.frames_of.Goals as goal

pub loop-rest-preserved : goal.loop-rest-preserved
loop-rest-preserved c =
    let some : c.loop-rest.rest.now ≢ [] = grind arith in
    let added = c.in-Ok.ensures.value in record {
      has_read = line_read c.args.text.now c.loop-rest.rest.now c.first_line.result.1.now c.first_line.result.0.now added.0 c.loop-rest.frames.items c.add_line.new.frames.items c.loop-rest.number (c.loop-rest.number + 1) c.loop-rest.invariant.has_read some c.first_line.ensures.first added.1 added.2 refl;
      few = omega arith;
    }
