use Rattle.std.proofs.Common.{refl}
use Rattle.lines.specs.Pieces.{nesting_after}
use Rattle.lines.proofs.pieces.items.Goals as goal

pub pieces-requires : goal.pieces-requires
unfolding nesting_after
pieces-requires c = refl
