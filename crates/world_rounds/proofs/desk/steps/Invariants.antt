use Rattle.std.proofs.Common.{◌≡◌}
use Rattle.world_rounds.specs.Rounds.{Now, StepsHappen}
use Rattle.world_rounds.specs.Inside.{the_now}
use Rattle.world_rounds.proofs.desk.steps.Given as goal

abbrev pub invariant-loop-left : goal.invariant-loop-left
invariant-loop-left g l = record {
  same_handler : l.attempt.handler.now ≡ l.fn.attempt.handler.now;
  made_for : (l.attempt.version ≡ l.fn.attempt.version) × (l.attempt.options ≡ l.fn.attempt.options);
  goes_on : (final : Now) → StepsHappen (g.H.Handler.meaning l.fn.attempt.handler.now) l.left (the_now l.desk l.attempt.record_of) final
      → StepsHappen (g.H.Handler.meaning l.fn.attempt.handler.now) l.count (the_now l.fn.desk l.fn.attempt.record_of) final;
}

abbrev pub decreases-loop-left : goal.decreases-loop-left
decreases-loop-left g l = l.left
