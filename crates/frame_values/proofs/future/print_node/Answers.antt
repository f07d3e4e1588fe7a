use Rattle.frame_values.proofs.Nesting.{open_written, whole_written}
use Rattle.frame_values.proofs.future.print_node.Goals as goal

pub returns-then-node-eq0 : goal.returns-then-node-eq0
returns-then-node-eq0 c =
    whole_written c.args.line.now c.print_head.new.line c.print_ends.new.line c.args.left.now.items c.print_ends.new.left.items c.args.node.now c.if-node-eq0.true c.in_ok-print_head.ensures c.in_ok-print_ends.ensures.text c.in_ok-print_ends.ensures.left

pub returns : goal.returns
returns c = open_written c.args.line.now c.print_head.new.line c.args.left.now.items c.push.new.self.items c.args.node.now c.if-node-eq0.false c.in_ok-print_head.ensures c.in_ok-push.ensures.items
