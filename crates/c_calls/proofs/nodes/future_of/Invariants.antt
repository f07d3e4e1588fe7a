use Rattle.std.proofs.Common.{◌≡◌, take}
use Rattle.c_calls.specs.Nodes.{row_of}
use Rattle.c_calls.proofs.nodes.future_of.Given as goal

abbrev pub invariant-loop-node : goal.invariant-loop-node
invariant-loop-node l = row_of l.trees.items ≡ take l.node-index l.nodes
