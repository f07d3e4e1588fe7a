use Rattle.engine_scripts.proofs.Playing.{stored_more}
use Rattle.engine_scripts.proofs.happen.store.Goals as goal

pub returns-then-eq-clause-does : goal.returns-then-eq-clause-does
returns-then-eq-clause-does c = stored_more c.args.place c.args.engine.now c.loop-left.engine c.store_next.new.engine c.loop-left.invariant c.in_ok-one.ensures.does

pub loop-left-preserved : goal.loop-left-preserved
loop-left-preserved c = stored_more c.args.place c.args.engine.now c.loop-left.engine c.store_next.new.engine c.loop-left.invariant c.in_ok-one.ensures.does
