use Rattle.std.proofs.Common.{◌≡◌, ◌++◌, [], drop, reverse}
use Rattle.frame_values.specs.Futures.{nodes_text}
use Rattle.frame_values.proofs.future.print_nodes.Given as goal

abbrev pub invariant-loop-node : goal.invariant-loop-node
invariant-loop-node l = l.line ++ nodes_text (reverse l.left.items) (drop l.node-index l.nodes) ≡ l.initial.line ++ nodes_text [] l.nodes
