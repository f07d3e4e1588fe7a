-- A list is cut in one way.
use Rattle.std.proofs.Common.{◌≡◌, ◌++◌, ℕ, suc, List, [], ◌∷◌, length, fold, ap, sym, ◌∙◌, arith, length-append, append_assoc, refl}
use Rattle.std.specs.Borrow.{Bor}
use Rattle.std.specs.List.{All}
use Rattle.std.proofs.lemmas.List.{append-nil, append_cancel_right}
use Rattle.std.proofs.lemmas.List.Sums.{fold-append}
use Rattle.lines.specs.Pieces.{ArePieces, IsPiece, nesting_after, outside, place}
use Rattle.lines.proofs.Cutting.{ended}
use Rattle.lines.proofs.Once.{Same, ended_once}

-- a text has one list of pieces
pub pieces_once : (separator : ℕ) (text : List ℕ) (ps qs : List (Bor (List ℕ))) → ArePieces separator text ps → ArePieces separator text qs → Same ps qs
pieces_once separator text ps qs a b = ended_once separator ps qs a.0 b.0 (sym a.1 ∙ b.1)

comma_closed : nesting_after outside 44 ≡ outside
unfolding nesting_after
comma_closed = refl

-- pieces with a comma between each two
abbrev joined : List (Bor (List ℕ)) → List ℕ
joined [] = []
joined (p ∷ []) = p.now
joined (p ∷ q ∷ ps) = (p.now ++ 44 ∷ []) ++ joined (q ∷ ps)

joined_ended : (p : Bor (List ℕ)) (ps : List (Bor (List ℕ))) → joined (p ∷ ps) ++ 44 ∷ [] ≡ ended 44 (p ∷ ps)
joined_ended p [] = sym (append-nil (p.now ++ 44 ∷ []))
joined_ended p (q ∷ ps) = append_assoc (p.now ++ 44 ∷ []) (joined (q ∷ ps)) (44 ∷ []) ∙ ap (λ l. (p.now ++ 44 ∷ []) ++ l) (joined_ended q ps)

joined_closed : (ps : List (Bor (List ℕ))) → All (λ p. IsPiece 44 p.now) ps → place (joined ps) ≡ outside
joined_closed [] whole = refl
joined_closed (p ∷ []) whole = (whole 0 p (omega arith)).0
joined_closed (p ∷ q ∷ ps) whole =
    let first : place p.now ≡ outside = (whole 0 p (omega arith)).0 in
    fold-append nesting_after outside (p.now ++ 44 ∷ []) (joined (q ∷ ps))
    ∙ ap (λ s. fold nesting_after s (joined (q ∷ ps))) (fold-append nesting_after outside p.now (44 ∷ []) ∙ ap (λ s. nesting_after s 44) first ∙ comma_closed)
    ∙ joined_closed (q ∷ ps) (λ k d h. whole (suc k) d (omega arith))

-- a text that has pieces is closed
pub pieces_close : (text : List ℕ) (pieces : List (Bor (List ℕ))) → ArePieces 44 text pieces → place text ≡ outside
pieces_close text [] are = let long = ap length are.1 in absurd (omega (arith, long, length-append text (44 ∷ [])))
pieces_close text (p ∷ ps) are =
    ap place (append_cancel_right text (joined (p ∷ ps)) (44 ∷ []) (are.1 ∙ sym (joined_ended p ps))) ∙ joined_closed (p ∷ ps) are.0
