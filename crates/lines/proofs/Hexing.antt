-- The digits of the kit's hex texts are those of a line.
use Rattle.std.proofs.Common.{◌≡◌, ◌<◌, ◌/◌, ◌%◌, ◌==◌, ◌&&◌, ℕ, zero, suc, Bool, true, List, [], ◌∷◌, get_or, inl, inr, refl, arith}
use Rattle.std.specs.Char.{digit_char}
use Rattle.std.specs.List.{flat_map}
use Rattle.std.proofs.lemmas.Bool.{and_parts, cases_lt, eqb-true}
use Rattle.hex.specs.Hex.{encode_lower, encode_with, lower_digits}
use Rattle.lines.specs.Atoms.{in_hex}

-- the first n digits are the same, as a test that computes
abbrev agree : ℕ → Bool
agree zero = true
agree (suc n) = (get_or lower_digits n 0 == digit_char n) && agree n

digit_below : (n d : ℕ) → agree n ≡ true → d < n → get_or lower_digits d 0 ≡ digit_char d
digit_below zero d all h = absurd (omega arith)
digit_below (suc n) d all h =
    let parts = and_parts (get_or lower_digits n 0 == digit_char n) (agree n) all in
    elim (cases_lt d n) [
      | inl below ↦ digit_below n d parts.1 below
      | inr top ↦
          let last : d ≡ n = omega arith in
          rw last (eqb-true (get_or lower_digits n 0) (digit_char n) parts.0)
    ]

-- bytes are encoded as they are printed
pub digits_are : (bytes : List ℕ) → ((k : ℕ) → get_or bytes k 0 < 256) → encode_lower bytes ≡ flat_map in_hex bytes
unfolding encode_with
digits_are [] small = refl
digits_are (b ∷ bytes) small =
    let h : b < 256 = small 0 in
    let high = digit_below 16 (b / 16) refl (omega arith) in
    let low = digit_below 16 (b % 16) refl (omega arith) in
    rw (high, low, digits_are bytes (λ k. small (suc k))) refl
