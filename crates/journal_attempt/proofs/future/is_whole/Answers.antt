use Rattle.std.proofs.Common.{sym, ◌∙◌}
use Rattle.journal_attempt.proofs.Nodes.{counted_more, counted_out}
use Rattle.journal_attempt.proofs.future.is_whole.Goals as goal

pub returns-in_default : goal.returns-in_default
returns-in_default c = sym (c.loop-node.invariant ∙ counted_out c.args.nodes.now c.loop-node.node-index c.node-item.result c.loop-node.awaited c.loop-node-test.true c.node-item.is c.in_default.ensures)

pub loop-node-preserved : goal.loop-node-preserved
loop-node-preserved c =
    c.loop-node.invariant ∙ counted_more c.args.nodes.now c.loop-node.node-index c.node-item.result c.loop-node.awaited c.in-Some.behind c.loop-node-test.true c.node-item.is c.in-Some.ensures.0 c.in-Some.ensures.1
