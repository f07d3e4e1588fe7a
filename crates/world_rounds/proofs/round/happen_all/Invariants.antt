use Rattle.std.proofs.Common.{◌≡◌, take}
use Rattle.world_rounds.specs.Rounds.{Happen}
use Rattle.world_rounds.specs.Inside.{the_now}
use Rattle.world_rounds.proofs.round.happen_all.Given as goal

abbrev pub invariant-loop-place : goal.invariant-loop-place
invariant-loop-place g l = record {
  same_handler : l.attempt.handler.now ≡ l.fn.attempt.handler.now;
  made_for : (l.attempt.version ≡ l.fn.attempt.version) × (l.attempt.options ≡ l.fn.attempt.options);
  so_far : Happen (g.H.Handler.meaning l.fn.attempt.handler.now) (take l.place l.events) (the_now l.fn.desk l.fn.attempt.record_of) (the_now l.desk l.attempt.record_of);
}
