use Rattle.std.proofs.Common.{arith}
use Rattle.std.proofs.lemmas.Result.{err_from_is_err_and}
use Rattle.journal_attempt.proofs.Nodes.{begun, begun_more, begun_end, node_shorter, node_refused, refused, whole_read}
use Rattle.journal_attempt.proofs.future.FutureWire.get.Goals as goal

pub loop-awaited-init : goal.loop-awaited-init
loop-awaited-init c = rw c.new-nodes.ensures (begun c.args.input.now)

pub returns-in_err-node : goal.returns-in_err-node
returns-in_err-node c =
    let p = err_from_is_err_and c.from_residual.result c.from_residual.ensures.1 in
    rw (p.1, p.2) (node_refused c.args.input.now c.loop-awaited.input c.get.new.input c.get.new.input c.loop-awaited.awaited c.loop-awaited.nodes _ (omega (arith, c.loop-awaited-test.true)) c.loop-awaited.invariant c.in_err-node.ensures)

pub returns-in_default : goal.returns-in_default
returns-in_default c =
    refused c.args.input.now c.loop-awaited.input c.get.new.input c.loop-awaited.awaited c.loop-awaited.nodes c.in_ok-node.node (omega (arith, c.loop-awaited-test.true)) (rw (← c.len.ensures.value) c.in_default.ensures) c.loop-awaited.invariant c.in_ok-node.ensures

pub loop-awaited-smaller : goal.loop-awaited-smaller
loop-awaited-smaller c = node_shorter c.loop-awaited.input c.get.new.input c.in_ok-node.node c.in_ok-node.ensures

pub loop-awaited-preserved : goal.loop-awaited-preserved
loop-awaited-preserved c =
    rw c.in_ok-push.ensures.ok (begun_more c.args.input.now c.loop-awaited.input c.get.new.input c.loop-awaited.awaited c.in-Some.behind c.loop-awaited.nodes c.in_ok-node.node c.in-Some.ensures.0 c.in-Some.ensures.1 c.loop-awaited.invariant c.in_ok-node.ensures)

pub invariant_of-result : goal.invariant_of-result
invariant_of-result c =
    whole_read c.args.input.now c.loop-awaited.input c.loop-awaited.nodes (begun_end c.args.input.now c.loop-awaited.input c.loop-awaited.awaited c.loop-awaited.nodes (omega (arith, c.loop-awaited-test.false)) c.loop-awaited.invariant)

pub returns : goal.returns
returns c = begun_end c.args.input.now c.loop-awaited.input c.loop-awaited.awaited c.loop-awaited.nodes (omega (arith, c.loop-awaited-test.false)) c.loop-awaited.invariant
