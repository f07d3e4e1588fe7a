use Rattle.std.proofs.Common.{length}
use Rattle.frame_values.proofs.Nesting.{EndsOn}
use Rattle.frame_values.proofs.future.print_ends.Given as goal

abbrev pub invariant-loop-count : goal.invariant-loop-count
invariant-loop-count l = EndsOn l.initial.line l.initial.left.items l.line l.left.items

abbrev pub decreases-loop-count : goal.decreases-loop-count
decreases-loop-count l = length l.left.items
