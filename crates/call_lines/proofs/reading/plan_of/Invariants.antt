use Rattle.std.proofs.Common.{take}
use Rattle.call_lines.specs.Said.{AreSaid}
use Rattle.call_lines.proofs.reading.plan_of.Given as goal

abbrev pub invariant-loop-line : goal.invariant-loop-line
invariant-loop-line l = AreSaid (take l.line-index l.lines) l.steps.items
