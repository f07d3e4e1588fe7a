use Rattle.std.proofs.Common.{refl}
use Rattle.world_rounds.proofs.desk.close.Goals as goal

pub returns-clause-does : goal.returns-clause-does
returns-clause-does g c = (c.close-closed.result, c.close-closed.new.self.record_of, c.close-closed.ensures.does, rw (c.note.ensures, c.memory_error.ensures) refl)
