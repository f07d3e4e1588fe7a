use Rattle.std.proofs.Common.{◌≡◌, ◌++◌, take}
use Rattle.std.specs.List.{flat_map, AllByRecursion}
use Rattle.journal_attempt.specs.Futures.{node, node_format}
use Rattle.journal_attempt.proofs.future.FutureWire.put.Given as goal

abbrev pub invariant-loop-node : goal.invariant-loop-node
invariant-loop-node l = record {
  written : l.out.items ≡ l.fn.out.items ++ flat_map node (take l.node-index l.self);
  valid : AllByRecursion node_format.valid (take l.node-index l.self);
}
