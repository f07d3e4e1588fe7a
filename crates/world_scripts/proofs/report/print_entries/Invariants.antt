use Rattle.world_scripts.specs.Printed.{AddsSome}
use Rattle.world_scripts.proofs.report.print_entries.Given as goal

abbrev pub invariant-loop-entry : goal.invariant-loop-entry
invariant-loop-entry l = AddsSome l.initial.report l.report
