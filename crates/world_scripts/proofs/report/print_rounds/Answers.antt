use Rattle.std.proofs.Common.{◌≡◌, ◌+◌, ap, subst, arith}
use Rattle.world_rounds.specs.Inside.{report_view}
use Rattle.world_scripts.specs.Printed.{IsRoundText}
use Rattle.world_scripts.proofs.Printing.{print_all, print_more}
use Rattle.world_scripts.proofs.report.print_rounds.Goals as goal

pub loop-round-preserved : goal.loop-round-preserved
loop-round-preserved c =
    let on : c.loop-round.number + 1 ≡ 1 + c.loop-round.round-index = omega (arith, c.loop-round.invariant.number) in
    let added = c.in_ok-print_round.ensures in record {
      number = ap (λ m. m + 1) c.loop-round.invariant.number;
      so_far = print_more (λ number report. IsRoundText number (report_view report)) 1 c.args.rounds.now c.loop-round.round-index c.round-item.result added.0 c.args.report.now c.loop-round.report c.print_round.new.report c.loop-round-test.true c.round-item.is
          (subst (λ m. IsRoundText m (report_view c.round-item.result) added.0) on added.1) added.2 c.loop-round.invariant.so_far;
    }

pub returns : goal.returns
returns c =
    print_all (λ number report. IsRoundText number (report_view report)) 1 c.args.rounds.now c.loop-round.round-index c.args.report.now c.loop-round.report (omega (arith, c.loop-round-test.false)) c.loop-round.invariant.so_far
