use Rattle.lines.proofs.Cutting.{IsCut}
use Rattle.lines.proofs.pieces.pieces.Given as goal

abbrev pub invariant-loop-i : goal.invariant-loop-i
invariant-loop-i l = IsCut l.separator l.start l.i l.text l.pieces.items l.nesting
