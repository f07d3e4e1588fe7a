-- Blanks after the commas of a tree's text.
use Rattle.std.proofs.Common.{◌≡◌, ◌<◌, ℕ, zero, suc, Bool, true, false, List, [], ◌∷◌, length, get_or, refl, ap, arith}
use Rattle.std.specs.Prelude.{◌==◌}
use Rattle.line_parts.specs.Trees.{comma, without_blanks}

-- a text without a blank up to a place
abbrev pub Blankless : List ℕ → ℕ → Type 0
Blankless text i = (k : ℕ) → k < i → (get_or text k 0 == 32) ≡ false

-- none is left out of a text that has none
pub none_left_out : (after : Bool) (text : List ℕ) → Blankless text (length text) → without_blanks after text ≡ text
none_left_out after [] h = refl
none_left_out true (c ∷ cs) h =
    let first : (c == 32) ≡ false = h zero (omega arith) in
    rw first (ap (λ z. c ∷ z) (none_left_out (c == comma) cs (λ k l. h (suc k) (omega arith))))
none_left_out false (c ∷ cs) h = ap (λ z. c ∷ z) (none_left_out (c == comma) cs (λ k l. h (suc k) (omega arith)))
