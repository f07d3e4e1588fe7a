use Rattle.std.proofs.Common.{[], subst}
use Rattle.engine_scripts.specs.Runs.{AllDo}
use Rattle.engine_scripts.proofs.Playing.{all_kept}
use Rattle.engine_scripts.proofs.play.report_of.Goals as goal

pub returns-in-Ok : goal.returns-in-Ok
returns-in-Ok c =
    let first = c.new_engine-engine.result in
    let last = c.all-happened.new.engine in
    let told = c.all-happened.new.report in
    let happen : AllDo c.args.events.items first [] last told = subst (λ begun. AllDo c.args.events.items first begun last told) c.new-report.ensures c.in-Ok.ensures.does in record {
      first = first;
      new = c.new_engine-engine.ensures;
      last = last;
      told = told;
      happen = happen;
      kept = all_kept c.args.events.items first [] last told c.new_engine-engine.ensures.none happen;
      prints = c.in_ok-print_engine-in-Ok.ensures;
    }
