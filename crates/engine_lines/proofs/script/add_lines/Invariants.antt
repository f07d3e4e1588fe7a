use Rattle.std.proofs.Common.{◌+◌, ◌≤◌, length}
use Rattle.engine_lines.specs.Scripts.{script_parts}
use Rattle.engine_lines.proofs.Reading.{ReadsOn}
use Rattle.engine_lines.proofs.script.add_lines.Given as goal

abbrev pub invariant-loop-rest : goal.invariant-loop-rest
invariant-loop-rest l = record {
  reads_on : ReadsOn l.number l.text l.rest (script_parts l.initial.so_far) (script_parts l.so_far);
  few : l.number + length l.rest ≤ length l.text;
}

abbrev pub decreases-loop-rest : goal.decreases-loop-rest
decreases-loop-rest l = length l.rest
