use Rattle.std.proofs.Common.{◌≡◌}
use Rattle.engine_scripts.proofs.Printing.{PrintsOn}
use Rattle.engine_scripts.proofs.report.print_engine.Given as goal

abbrev pub invariant-loop-it : goal.invariant-loop-it
invariant-loop-it l = record {
  number : l.number ≡ l.it-index;
  so_far : PrintsOn l.engine l.it-index l.engine.invocations.items l.initial.report l.report;
}
