use Rattle.std.proofs.Common.{◌≡◌, Err, rules, []}
use Rattle.frame_values.specs.Notation.{SaysInside}
use Rattle.lines.proofs.Growing.{zip_more}
use Rattle.frame_values.proofs.Refusing.{none_said, piece_blamed}
use Rattle.frame_values.proofs.value.add_items.Goals as goal

pub loop-piece-init : goal.loop-piece-init
loop-piece-init g c = none_said g.T.Value.notation.Says c.args.items.now c.requires

pub loop-piece-preserved : goal.loop-piece-preserved
loop-piece-preserved g c =
    zip_more (λ piece item. SaysInside g.T.Value.notation.Says piece.now item) c.args.pieces.now c.loop-piece.piece-index (record { ref_ptr = (0, 0); now = [] }) c.loop-piece.items c.push.new.self c.in_ok-item.item c.loop-piece-test.true c.loop-piece.invariant c.in_ok-item.ensures.value c.in_ok-push.ensures.ok

pub returns-in_err-item-clause-none : goal.returns-in_err-item-clause-none
returns-in_err-item-clause-none g c =
    let is : c.from_residual.result ≡ Err c.in_err-item.field-0.0 = search rules in
    let none = c.in_err-item.ensures.none in
    rw is (λ exact text some are. piece_blamed g.T.Value.notation.Says text c.args.pieces.now c.loop-piece.piece-index (record { ref_ptr = (0, 0); now = [] }) _ some are c.loop-piece-test.true (none exact))
