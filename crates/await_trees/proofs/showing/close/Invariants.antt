use Rattle.std.proofs.Common.{length}
use Rattle.await_trees.proofs.showing.close.Given as goal

abbrev pub decreases-loop-children : goal.decreases-loop-children
decreases-loop-children g l = length l.left.items
