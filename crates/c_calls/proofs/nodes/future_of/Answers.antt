use Rattle.std.proofs.Common.{◌≡◌, Err, arith, rules}
use Rattle.std.proofs.lemmas.Grind.{common_steps}
use Rattle.c_calls.proofs.Rows.{stops}
use Rattle.c_calls.proofs.nodes.future_of.Goals as goal

pub returns-in_err-put_node-clause-err : goal.returns-in_err-put_node-clause-err
returns-in_err-put_node-clause-err c =
    let is : c.from_residual.result ≡ Err c.in_err-put_node.field-0.0 = search rules in
    rw is (stops c.args.nodes.now c.loop-node.trees.items c.loop-node.node-index _ _ (grind (arith, common_steps)) c.loop-node.invariant c.in_err-put_node.ensures.err)
