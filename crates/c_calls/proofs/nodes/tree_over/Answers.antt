use Rattle.std.proofs.Common.{◌≡◌, ◌+◌, ◌∙◌, ap, arith, length}
use Rattle.std.proofs.lemmas.Grind.{common_steps}
use Rattle.await_trees.specs.Tree.{tree_of}
use Rattle.await_trees.specs.Copies.{future_node}
use Rattle.c_calls.specs.Nodes.{nodes_of, row_of}
use Rattle.c_calls.proofs.Rows.{over}
use Rattle.c_calls.proofs.nodes.tree_over.Goals as goal

pub returns-in-Ok-clause-ok : goal.returns-in-Ok-clause-ok
returns-in-Ok-clause-ok c =
    let fits : c.in-Some-checked_sub.at + c.args.node.number ≡ length c.args.trees.now.items = grind (arith, common_steps) in
    rw (c.node_over.ensures, c.from_vec.ensures, c.in-Ok.ensures.items, c.in-Ok.ensures.tail) (over c.in-Some.kind c.args.trees.now.items c.in-Some-checked_sub.at c.args.node c.in-Some.ensures.numbered fits)
