use Rattle.std.proofs.Common.{◌≢◌, [], arith}
use Rattle.engine_lines.specs.Scripts.{script_parts}
use Rattle.engine_lines.proofs.Reading.{read_more}
use Rattle.engine_lines.proofs.script.add_lines.Goals as goal

pub loop-rest-preserved : goal.loop-rest-preserved
loop-rest-preserved c =
    let some : c.loop-rest.rest.now ≢ [] = grind arith in record {
      reads_on = read_more c.loop-rest.number c.args.text.now c.loop-rest.rest.now c.first_line.result.0.now c.first_line.result.1.now (script_parts c.args.so_far.now) (script_parts c.loop-rest.so_far) (script_parts c.add_line.new.so_far) c.loop-rest.invariant.reads_on some c.first_line.ensures.first c.in-Ok.ensures;
      few = omega arith;
    }
