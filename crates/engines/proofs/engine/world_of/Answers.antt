use Rattle.std.proofs.Common.{length, refl}
use Rattle.engines.proofs.Beginnings.{began_new, ids_new}
use Rattle.engines.proofs.Storing.{first_unknown}
use Rattle.engines.proofs.engine.world_of.Goals as goal

pub returns-in-Ok-new-clause-new : goal.returns-in-Ok-new-clause-new
returns-in-Ok-new-clause-new c = first_unknown c.in-Ok-clone.input c.in-Ok-new.world.journal c.in-Ok-new.ensures.journal c.in-Ok-new.ensures.whole

pub returns-in-Ok-new-clause-began : goal.returns-in-Ok-new-clause-began
returns-in-Ok-new-clause-began c = began_new (length c.in-Ok-new.world.journal) c.in-Ok-new.world.journal c.in-Ok-clone.input refl c.in-Ok-new.ensures.journal c.in-Ok-new.ensures.whole

pub returns-in-Ok-new-clause-ids : goal.returns-in-Ok-new-clause-ids
returns-in-Ok-new-clause-ids c = ids_new c.in-Ok-clone.input c.in-Ok-new.world.journal c.in-Ok-new.ensures.journal c.in-Ok-new.ensures.whole
