use Rattle.line_parts.proofs.TreeWords.{Unbroken}
use Rattle.line_parts.proofs.trees.cut.Given as goal

abbrev pub invariant-loop-i : goal.invariant-loop-i
invariant-loop-i l = Unbroken l.text l.i
