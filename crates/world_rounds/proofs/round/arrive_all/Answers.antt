use Rattle.world_rounds.proofs.Placing.{arrival_faults_at}
use Rattle.world_rounds.proofs.round.arrive_all.Goals as goal

pub returns-in-Err-clause-err : goal.returns-in-Err-clause-err
returns-in-Err-clause-err c =
    arrival_faults_at c.args.events.now _ _ c.loop-place.place c.index-events-place.result c.in-Err.fault c.loop-place-test.true c.index-events-place.is c.loop-place.invariant.so_far c.in-Err.ensures.err
