use Rattle.std.proofs.Common.{length}
use Rattle.c_values.specs.Noting.{NotedUpTo}
use Rattle.c_values.proofs.future.read_all.Given as goal

abbrev pub invariant-loop-decoder : goal.invariant-loop-decoder
invariant-loop-decoder l = NotedUpTo l.stream l.came l.decoder

abbrev pub decreases-loop-decoder : goal.decreases-loop-decoder
decreases-loop-decoder l = length l.decoder
