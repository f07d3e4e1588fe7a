use Rattle.std.proofs.lemmas.List.{get_or_read}
use Rattle.await_tries.specs.Spells.{blank}
use Rattle.await_tries.proofs.Nodes.{others_same}
use Rattle.await_tries.proofs.pruning.prune_node.Goals as goal

pub returns-clause-others : goal.returns-clause-others
returns-clause-others c =
    let ns = c.args.nodes.now.items in
    let is = get_or_read ns c.args.i c.index.result.now c.requires.within c.index.ensures blank in
    let e = rw is at c.sweep_range.ensures in
    others_same ns c.args.kids.now.items c.sweep_range.new.kids.items c.args.i _ c.requires.ranged c.requires.within e.len e.before e.behind
