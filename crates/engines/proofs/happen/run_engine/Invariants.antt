use Rattle.std.proofs.Common.{take}
use Rattle.engines.specs.Engines.{AllHappen}
use Rattle.engines.proofs.happen.run_engine.Given as goal

abbrev pub invariant-loop-event : goal.invariant-loop-event
invariant-loop-event g l = AllHappen (λ h. g.H.Handler.meaning h) (take l.event-index l.events) l.initial.engine l.engine
