use Rattle.std.proofs.Common.{length}
use Rattle.world_scripts.specs.Printed.{AddsSome}
use Rattle.world_scripts.proofs.report.print_frames.Given as goal

abbrev pub invariant-loop-raw : goal.invariant-loop-raw
invariant-loop-raw l = AddsSome l.initial.report l.report

abbrev pub decreases-loop-raw : goal.decreases-loop-raw
decreases-loop-raw l = length l.decoder
