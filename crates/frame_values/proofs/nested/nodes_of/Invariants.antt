use Rattle.std.proofs.Common.{length, reverse}
use Rattle.frame_values.proofs.Reading.{Stands}
use Rattle.frame_values.proofs.nested.nodes_of.Given as goal

abbrev pub invariant-loop-current : goal.invariant-loop-current
invariant-loop-current l = Stands l.text l.next (reverse l.open.items) l.nodes.items l.rest

abbrev pub decreases-loop-current : goal.decreases-loop-current
decreases-loop-current l = length l.rest
