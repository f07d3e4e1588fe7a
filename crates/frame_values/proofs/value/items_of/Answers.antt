use Rattle.std.proofs.Common.{◌≡◌, length, refl, subst, sym, arith}
use Rattle.std.proofs.lemmas.Bool.Decides.{nat_tests}
use Rattle.lines.specs.Pieces.{ArePieces, nesting_after}
use Rattle.frame_values.proofs.value.items_of.Goals as goal

pub pieces-requires : goal.pieces-requires
unfolding nesting_after
pieces-requires g c = refl

pub returns-clause-none : goal.returns-clause-none
returns-clause-none g c =
    let some : length c.args.text.now ≡ 0 → ⊥ = grind (arith, nat_tests) in
    λ exact. c.in-Err.ensures.none exact c.args.text.now some (subst (λ pieces. ArePieces 44 c.args.text.now pieces) (sym c.as_slice.ensures.value) c.in_ok-pieces.ensures.pieces)
