use Rattle.std.proofs.Common.{arith, take}
use Rattle.engines.proofs.Changing.{happens_all, happens_more}
use Rattle.engines.proofs.Replaying.{all_replay}
use Rattle.engines.proofs.happen.run_engine.Goals as goal

pub loop-event-preserved : goal.loop-event-preserved
loop-event-preserved g c = happens_more (λ h. g.H.Handler.meaning h) c.args.events.now c.args.engine c.loop-event.engine c.happen.new.self c.loop-event.event-index c.event-item.result c.loop-event-test.true c.event-item.is c.loop-event.invariant c.in-Ok.ensures.does

pub returns-clause-does : goal.returns-clause-does
returns-clause-does g c = happens_all (λ h. g.H.Handler.meaning h) c.args.events.now c.args.engine c.loop-event.engine c.loop-event.event-index (omega (arith, c.loop-event-test.false)) c.loop-event.invariant

pub returns-in-Err-clause-replaying : goal.returns-in-Err-clause-replaying
returns-in-Err-clause-replaying g c = λ r. c.in-Err.ensures.replaying (all_replay (λ h. g.H.Handler.meaning h) (take c.loop-event.event-index c.args.events.now) c.args.engine c.loop-event.engine c.loop-event.invariant r)
