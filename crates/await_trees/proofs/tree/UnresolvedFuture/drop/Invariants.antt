use Rattle.std.proofs.Common.{◌+◌}
use Rattle.await_trees.specs.Counts.{count, in_some}
use Rattle.await_trees.proofs.Counting.{triangle}
use Rattle.await_trees.proofs.tree.UnresolvedFuture.drop.Given as goal

abbrev pub decreases-trees : goal.decreases-trees
decreases-trees l = triangle (count l.self + in_some l.row) + count l.self
