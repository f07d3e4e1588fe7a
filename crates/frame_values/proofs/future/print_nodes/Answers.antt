use Rattle.std.proofs.Common.{arith}
use Rattle.frame_values.proofs.Nesting.{nodes_done, nodes_more}
use Rattle.frame_values.proofs.future.print_nodes.Goals as goal

pub loop-node-preserved : goal.loop-node-preserved
loop-node-preserved c =
    nodes_more _ c.loop-node.line c.print_node.new.line c.loop-node.left.items c.print_node.new.left.items c.args.nodes.now c.loop-node.node-index c.node-item.result (omega arith) c.node-item.is c.in_ok-print_node.ensures c.loop-node.invariant

pub returns : goal.returns
returns c = nodes_done _ c.loop-node.line c.loop-node.left.items c.args.nodes.now c.loop-node.node-index c.loop-node-test.false c.loop-node.invariant
