use Rattle.std.proofs.Common.{length}
use Rattle.journal_attempt.proofs.Nodes.{Begun}
use Rattle.journal_attempt.proofs.future.FutureWire.get.Given as goal

abbrev pub invariant-loop-awaited : goal.invariant-loop-awaited
invariant-loop-awaited l = Begun l.fn.input l.awaited l.nodes l.input

abbrev pub decreases-loop-awaited : goal.decreases-loop-awaited
decreases-loop-awaited l = length l.input
