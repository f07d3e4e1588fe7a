use Rattle.std.proofs.Common.{◌≤◌}
use Rattle.lines.specs.Pieces.{ArePlain}
use Rattle.lines.proofs.pieces.Nesting.plain_end.Given as goal

abbrev pub invariant-loop-i : goal.invariant-loop-i
invariant-loop-i l = (l.from ≤ l.i) × ArePlain l.from l.i l.text
