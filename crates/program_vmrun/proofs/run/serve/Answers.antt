use Rattle.std.proofs.Common.{subst}
use Rattle.program_vmrun.specs.Runs.{Drives}
use Rattle.program_vmrun.proofs.run.serve.Goals as goal

pub returns : goal.returns
returns g c =
    let fed = c.feed_all.new.attempt.record_of in
    let driven = c.drive-ending.new.attempt.record_of in
    let drives = subst (λ h. Drives (g.H.Handler.meaning h) fed c.drive-ending.result driven) c.feed_all.ensures.handler c.drive-ending.ensures in
    (fed, driven, c.feed_all.ensures.fed, drives, c.in_ok-output.ensures.does.0, c.in_ok-output.ensures.does.2)
