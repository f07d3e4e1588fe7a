use Rattle.engines.proofs.Keeping.{kept_from_nothing}
use Rattle.engines.proofs.Storing.{if_ok_then}
use Rattle.engines.specs.Between.{AllKept}
use Rattle.engines.specs.Engines.{AllHappen}
use Rattle.engines.specs.Replaying.{AllReplay}
use Rattle.engines.proofs.Replaying.{none_replays, premise_then}
use Rattle.world_rounds.specs.Rounds.{ReplaysAndQueues}
use Rattle.engines.proofs.happen.play_engine.Goals as goal

pub returns-clause-kept : goal.returns-clause-kept
returns-clause-kept g c = if_ok_then c.run_engine.result (AllHappen (λ h. g.H.Handler.meaning h) c.args.events.now c.new.result) AllKept (λ e d. kept_from_nothing (λ h. g.H.Handler.meaning h) c.args.events.now c.new.result e c.new.ensures.none d) c.run_engine.ensures.does

pub returns-clause-replaying : goal.returns-clause-replaying
returns-clause-replaying g c = premise_then (AllReplay c.new.result) (ReplaysAndQueues c.args.options) c.run_engine.result (λ r. none_replays c.new.result c.args.options c.new.ensures.none c.new.ensures.options r) c.run_engine.ensures.replaying
