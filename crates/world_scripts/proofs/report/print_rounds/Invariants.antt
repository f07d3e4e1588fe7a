use Rattle.std.proofs.Common.{◌≡◌}
use Rattle.world_rounds.specs.Inside.{report_view}
use Rattle.world_scripts.specs.Printed.{IsRoundText}
use Rattle.world_scripts.proofs.Printing.{PrintsOn}
use Rattle.world_scripts.proofs.report.print_rounds.Given as goal

abbrev pub invariant-loop-round : goal.invariant-loop-round
invariant-loop-round l = record {
  number : l.number ≡ l.round-index;
  so_far : PrintsOn (λ number report. IsRoundText number (report_view report)) 1 l.rounds l.round-index l.initial.report l.report;
}
