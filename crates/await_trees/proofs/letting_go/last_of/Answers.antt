use Rattle.std.proofs.Common.{ap}
use Rattle.await_trees.specs.Counts.{in_some}
use Rattle.await_trees.proofs.Counting.{popped}
use Rattle.await_trees.proofs.letting_go.last_of.Goals as goal

pub returns-in-Some : goal.returns-in-Some
returns-in-Some c = popped c.in_ok-row.row.items c.pop.new.self.items c.in-Some.tree (in_some c.args.row) (ap in_some c.in_ok-row.was) c.in-Some.ensures.items
