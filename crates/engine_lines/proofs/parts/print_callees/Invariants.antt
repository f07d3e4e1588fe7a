use Rattle.std.proofs.Common.{◌≡◌, ◌++◌, flat_map, take}
use Rattle.engine_lines.specs.Parts.{callee_text}
use Rattle.engine_lines.proofs.parts.print_callees.Given as goal

abbrev pub invariant-loop-callee : goal.invariant-loop-callee
invariant-loop-callee l = l.report ≡ l.initial.report ++ flat_map callee_text (take l.callee-index l.callees)
