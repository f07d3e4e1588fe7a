use Rattle.std.proofs.Common.{◌≢◌, ◌+◌, [], arith, refl}
use Rattle.world_scripts.specs.Scripts.{said_parts}
use Rattle.world_scripts.proofs.Placing.{begun_more}
use Rattle.world_scripts.proofs.Reading.{read_more}
use Rattle.world_scripts.proofs.script.add_lines.Goals as goal

pub loop-rest-preserved : goal.loop-rest-preserved
loop-rest-preserved c =
    let some : c.loop-rest.rest.now ≢ [] = grind arith in record {
      reads_on = read_more c.args.text.now c.loop-rest.rest.now c.first_line.result.0.now c.first_line.result.1.now (said_parts c.args.so_far.now) (said_parts c.loop-rest.so_far) (said_parts c.add_line.new.so_far) c.loop-rest.invariant.reads_on some c.first_line.ensures.first c.in-Ok.ensures.value;
      has_read = begun_more c.args.text.now c.loop-rest.rest.now c.first_line.result.0.now c.first_line.result.1.now (said_parts c.args.so_far.now) (said_parts c.loop-rest.so_far) (said_parts c.add_line.new.so_far) c.loop-rest.number (c.loop-rest.number + 1) c.loop-rest.invariant.has_read some c.first_line.ensures.first c.in-Ok.ensures.value refl;
      few = omega arith;
    }
