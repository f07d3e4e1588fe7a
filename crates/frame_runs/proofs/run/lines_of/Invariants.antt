use Rattle.std.proofs.Common.{length}
use Rattle.frame_runs.proofs.Streaming.{PrintsOn}
use Rattle.frame_runs.proofs.run.lines_of.Given as goal

abbrev pub invariant-loop-text : goal.invariant-loop-text
invariant-loop-text l = PrintsOn l.initial.decoder l.decoder l.text

abbrev pub decreases-loop-text : goal.decreases-loop-text
decreases-loop-text l = length l.decoder
