use Rattle.std.proofs.Common.{arith, take}
use Rattle.engine_fences.proofs.Granting.{fenced_all, fenced_more}
use Rattle.engine_fences.proofs.Unseen.{fenced_replay}
use Rattle.engine_fences.proofs.fences.run_fenced.Goals as goal

pub loop-asked-preserved : goal.loop-asked-preserved
loop-asked-preserved g c = fenced_more (λ h. g.H.Handler.meaning h) c.args.events.now c.args.engine c.loop-asked.engine c.happen.new.self c.loop-asked.asked-index c.asked-item.result c.loop-asked-test.true c.asked-item.is c.loop-asked.invariant c.in-Ok.ensures.does

pub returns-clause-does : goal.returns-clause-does
returns-clause-does g c = fenced_all (λ h. g.H.Handler.meaning h) c.args.events.now c.args.engine c.loop-asked.engine c.loop-asked.asked-index (omega (arith, c.loop-asked-test.false)) c.loop-asked.invariant

pub returns-in-Err-clause-replaying : goal.returns-in-Err-clause-replaying
returns-in-Err-clause-replaying g c = λ r. c.in-Err.ensures.replaying (fenced_replay (λ h. g.H.Handler.meaning h) (take c.loop-asked.asked-index c.args.events.now) c.args.engine c.loop-asked.engine c.loop-asked.invariant r)
