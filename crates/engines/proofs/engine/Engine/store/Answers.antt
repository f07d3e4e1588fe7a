use Rattle.engine_inboxes.proofs.Coming.{on_ok_then}
use Rattle.engines.proofs.Changing.{stored_alone, stored_then}
use Rattle.engines.specs.Engines.{DoesEffect, StoresAndPerforms}
use Rattle.engines.specs.Replaying.{AllReplay}
use Rattle.engines.proofs.Replaying.{no_arrival, under_premise}
use Rattle.engines.proofs.engine.Engine.store.Goals as goal

pub returns-in-Ok-Some-clause-does : goal.returns-in-Ok-Some-clause-does
returns-in-Ok-Some-clause-does g c = on_ok_then c.perform.result (DoesEffect c.args.place c.in-Ok-Some.effect c.store_next.new.self c.perform.new.self) (StoresAndPerforms (λ h. g.H.Handler.meaning h) c.args.place c.args.self.now c.perform.new.self)
    (stored_then (λ h. g.H.Handler.meaning h) c.args.place c.in-Ok-Some.field-0 c.in-Ok-Some.effect c.args.self.now c.store_next.new.self c.perform.new.self c.in-Ok-Some.field-0-is c.in-Ok-Some.ensures.none c.in-Ok-Some.ensures.does)
    c.perform.ensures.does

pub returns-in-Ok-None-clause-does : goal.returns-in-Ok-None-clause-does
returns-in-Ok-None-clause-does g c = stored_alone (λ h. g.H.Handler.meaning h) c.args.place c.in-Ok-None.field-0 c.args.self.now c.store_next.new.self c.in-Ok-None.field-0-is c.in-Ok-None.ensures.does

pub returns-in-Ok-Some-clause-err : goal.returns-in-Ok-Some-clause-err
returns-in-Ok-Some-clause-err g c = no_arrival c.perform.result c.perform.ensures.err

pub returns-in-Ok-Some-clause-replaying : goal.returns-in-Ok-Some-clause-replaying
returns-in-Ok-Some-clause-replaying g c = under_premise (AllReplay c.args.self.now) c.perform.result c.perform.ensures.err
