-- Numerals that are read digit by digit.
use Rattle.std.proofs.Common.{◌≡◌, ℕ, zero, suc, ◌+◌, ◌*◌, ◌<◌, ◌≤◌, ◌^◌, List, [], ◌∷◌, ◌++◌, length, take, drop, get_or, refl, ap, sym, ◌∙◌, arith}
use Rattle.std.specs.Char.{digit_value}
use Rattle.std.specs.Str.Parse.{AllDigits, digits_value, digits_value_after}
use Rattle.std.proofs.lemmas.Int.Digits.{digits_value_more}
use Rattle.std.proofs.lemmas.List.{take-append-drop}
use Rattle.lines.specs.Atoms.{IsNumber}

-- each byte of a numeral is a digit
digit_at : (ds : List ℕ) (i : ℕ) → i < length ds → AllDigits 10 ds → digit_value (get_or ds i 0) < 10
digit_at [] i h all = absurd (omega arith)
digit_at (d ∷ ds) zero h all = all.0
digit_at (d ∷ ds) (suc i) h all = digit_at ds i (omega arith) all.1

-- a text with another byte is no number
pub no_digit : (text : List ℕ) (i : ℕ) → i < length text → (digit_value (get_or text i 0) < 10 → ⊥) → IsNumber text → ⊥
no_digit text i h other number = other (digit_at text i h number.0.1)

-- more digits make no smaller number
grows : (ds : List ℕ) (n : ℕ) → n ≤ digits_value_after 10 n ds
grows [] n = omega arith
grows (d ∷ ds) n = omega (arith, grows ds (n * 10 + digit_value d))

after_both : (n : ℕ) (xs ys : List ℕ) → digits_value_after 10 n (xs ++ ys) ≡ digits_value_after 10 (digits_value_after 10 n xs) ys
after_both n [] ys = refl
after_both n (x ∷ xs) ys = after_both (n * 10 + digit_value x) xs ys

front_is_less : (i : ℕ) (ds : List ℕ) → digits_value 10 (take i ds) ≤ digits_value 10 ds
front_is_less i ds =
    let whole = ap (digits_value 10) (sym (take-append-drop i ds)) ∙ after_both 0 (take i ds) (drop i ds) in
    omega (arith, grows (drop i ds) (digits_value 10 (take i ds)))

-- if the first digits don't fit, the whole doesn't
pub too_large : (text : List ℕ) (i : ℕ) → i < length text → 2 ^ 64 ≤ digits_value 10 (take i text) * 10 + digit_value (get_or text i 0) → IsNumber text → ⊥
too_large text i h large number = absurd (omega (arith, digits_value_more 10 text i h, front_is_less (i + 1) text, number.1))
