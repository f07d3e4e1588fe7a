use Rattle.std.proofs.Common.{◌+◌, ◌≤◌, length}
use Rattle.frame_runs.proofs.Streaming.{HasRead}
use Rattle.frame_runs.proofs.run.frames_of.Given as goal

abbrev pub invariant-loop-rest : goal.invariant-loop-rest
invariant-loop-rest l = record {
  has_read : HasRead l.text l.rest l.frames.items l.number;
  few : l.number + length l.rest ≤ length l.text;
}

abbrev pub decreases-loop-rest : goal.decreases-loop-rest
decreases-loop-rest l = length l.rest
