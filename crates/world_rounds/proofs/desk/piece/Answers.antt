use Rattle.std.proofs.Common.{refl, rules}
use Rattle.world_rounds.proofs.Pieces.{pieces_open}
use Rattle.world_rounds.proofs.desk.piece.Goals as goal

pub returns-clause-does : goal.returns-clause-does
returns-clause-does g c =
    pieces_open _ _ _ _ (search rules) c.feed-fed.result c.feed-fed.new.self.record_of (rw (← c.in-Ok.ensures.front) c.feed-fed.ensures.does)
    (rw (c.in-Ok.ensures.rest, c.note.ensures, c.memory_error.ensures) refl)
