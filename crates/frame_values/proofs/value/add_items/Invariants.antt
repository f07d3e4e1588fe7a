use Rattle.std.proofs.Common.{take}
use Rattle.std.specs.List.{AllZip}
use Rattle.frame_values.specs.Notation.{SaysInside}
use Rattle.frame_values.proofs.value.add_items.Given as goal

abbrev pub invariant-loop-piece : goal.invariant-loop-piece
invariant-loop-piece g l = AllZip (λ piece item. SaysInside g.T.Value.notation.Says piece.now item) (take l.piece-index l.pieces) l.items
