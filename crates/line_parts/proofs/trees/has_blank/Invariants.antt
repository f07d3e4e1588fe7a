use Rattle.line_parts.proofs.TreeBlanks.{Blankless}
use Rattle.line_parts.proofs.trees.has_blank.Given as goal

abbrev pub invariant-loop-byte : goal.invariant-loop-byte
invariant-loop-byte l = Blankless l.text l.byte-index
