use Rattle.std.proofs.Common.{◌+◌, ◌≤◌, length}
use Rattle.world_scripts.specs.Scripts.{said_parts}
use Rattle.world_scripts.proofs.Placing.{HasRead}
use Rattle.world_scripts.proofs.Reading.{ReadsOn}
use Rattle.world_scripts.proofs.script.add_lines.Given as goal

abbrev pub invariant-loop-rest : goal.invariant-loop-rest
invariant-loop-rest l = record {
  reads_on : ReadsOn l.text l.rest (said_parts l.initial.so_far) (said_parts l.so_far);
  has_read : HasRead l.text l.rest (said_parts l.initial.so_far) (said_parts l.so_far) l.number;
  few : l.number + length l.rest ≤ length l.text;
}

abbrev pub decreases-loop-rest : goal.decreases-loop-rest
decreases-loop-rest l = length l.rest
