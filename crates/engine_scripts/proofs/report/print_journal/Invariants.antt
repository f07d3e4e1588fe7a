use Rattle.engine_lines.specs.Printed.{AddsText}
use Rattle.engine_scripts.proofs.report.print_journal.Given as goal

abbrev pub invariant-loop-entry : goal.invariant-loop-entry
invariant-loop-entry l = AddsText l.initial.report l.report
