use Rattle.std.proofs.Common.{◌≡◌}
use Rattle.world_laws.proofs.Checking.{Stepped}
use Rattle.world_laws.proofs.steps.replay_steps.Given as goal

abbrev pub invariant-loop-left : goal.invariant-loop-left
invariant-loop-left g l = record {
  same_handler : l.attempt.handler.now ≡ l.fn.attempt.handler.now;
  stepped : Stepped (g.H.Handler.meaning l.fn.attempt.handler.now) l.fn.steps l.left l.fn.attempt.record_of l.attempt.record_of;
}

abbrev pub decreases-loop-left : goal.decreases-loop-left
decreases-loop-left g l = l.left
