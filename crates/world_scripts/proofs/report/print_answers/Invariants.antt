use Rattle.std.proofs.Common.{◌≡◌, ◌++◌, take}
use Rattle.world_scripts.specs.Printed.{answer_lines}
use Rattle.world_scripts.proofs.report.print_answers.Given as goal

abbrev pub invariant-loop-answer : goal.invariant-loop-answer
invariant-loop-answer l = l.report ≡ l.initial.report ++ answer_lines (take l.answer-index l.answers)
