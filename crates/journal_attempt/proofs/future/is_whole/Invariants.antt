use Rattle.std.proofs.Common.{◌≡◌, drop}
use Rattle.journal_attempt.specs.Futures.{are_whole}
use Rattle.journal_attempt.proofs.future.is_whole.Given as goal

abbrev pub invariant-loop-node : goal.invariant-loop-node
invariant-loop-node l = are_whole 1 l.nodes ≡ are_whole l.awaited (drop l.node-index l.nodes)
