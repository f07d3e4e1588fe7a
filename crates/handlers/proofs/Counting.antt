-- The count of some bytes, against what reads them as a number.
use Rattle.std.proofs.Common.{◌≡◌, refl, sym, ap, ◌∙◌, subst, arith, ℕ, ◌<◌, ◌≤◌, ◌^◌, Bool, true, false, List, length, Result, Ok, Err}
use Rattle.std.specs.Prelude.{◌&&◌, nat_le, nat_lt, if◌then◌else◌}
use Rattle.std.specs.Str.{all_ascii_digits, IsUtf8}
use Rattle.std.specs.Str.Parse.{AllDigits, IsNumeral, ParsesUnsigned, digits_value, without_leading_plus}
use Rattle.std.specs.Result.{result_unwrap_or}
use Rattle.std.proofs.lemmas.Str.{IsUtf8-from_ascii}
use Rattle.std.proofs.lemmas.Bool.{le-leb, leb-true, lt-ltb}
use Rattle.std.proofs.lemmas.Str.Parse.{digits_value_short, numerals_by_value, tells_all_ascii_digits, tells_digits}
use Rattle.std.proofs.lemmas.Fmt.{IsAscii-from_digits}
use Rattle.handlers.specs.Counter.{count_in}

all_true : (a b d : Bool) (n : ℕ) → a ≡ true → b ≡ true → d ≡ true → n ≡ (if a && b && d then n else 0)
all_true a b d n ea eb ed = rw (ea, eb, ed) refl

last_false : (a b d : Bool) (n : ℕ) → (d ≡ true → ⊥) → 0 ≡ (if a && b && d then n else 0)
last_false true true true n wrong = absurd (wrong refl)
last_false true true false n wrong = refl
last_false true false d n wrong = refl
last_false false b d n wrong = refl

-- the bytes are decimal digits
are_digits : (bytes : List ℕ) → all_ascii_digits bytes ≡ true → AllDigits 10 bytes
are_digits bytes = (numerals_by_value (λ ds. all_ascii_digits ds ≡ true) tells_all_ascii_digits).to bytes

digits_are : (bytes : List ℕ) → AllDigits 10 bytes → all_ascii_digits bytes ≡ true
digits_are bytes = (numerals_by_value (λ ds. all_ascii_digits ds ≡ true) tells_all_ascii_digits).from bytes

-- fewer than 19 digits are a number below this
small : (bytes : List ℕ) → AllDigits 10 bytes → length bytes ≤ 18 → digits_value 10 bytes < 10 ^ 18
small bytes digits few = digits_value_short (numerals_by_value (AllDigits 10) tells_digits) bytes 18 digits few

-- decimal digits, 1 to 18 of them, are the count
counted : (bytes : List ℕ) → 0 < length bytes → length bytes ≤ 18 → AllDigits 10 bytes → digits_value 10 bytes ≡ count_in bytes
counted bytes some few digits =
    all_true (nat_lt 0 (length bytes)) (nat_le (length bytes) 18) (all_ascii_digits bytes) (digits_value 10 bytes) (lt-ltb 0 (length bytes) some) (le-leb (length bytes) 18 few) (digits_are bytes digits)

-- bytes that aren't digits count nothing
uncounted : (bytes : List ℕ) → (AllDigits 10 bytes → ⊥) → 0 ≡ count_in bytes
uncounted bytes wrong =
    last_false (nat_lt 0 (length bytes)) (nat_le (length bytes) 18) (all_ascii_digits bytes) (digits_value 10 bytes) (λ all. wrong (are_digits bytes all))

-- bytes that aren't UTF-8 are no digits
pub no_text : (bytes : List ℕ) → (IsUtf8 bytes → ⊥) → 0 ≡ count_in bytes
no_text bytes wrong = uncounted bytes (λ digits. wrong (IsUtf8-from_ascii bytes (IsAscii-from_digits bytes digits)))

-- what is read as a number of at most 18 digits is the count
pub read : {E : Type 0} (bytes text : List ℕ) (r : Result ℕ E) → text ≡ bytes → 0 < length bytes → length bytes ≤ 18 → without_leading_plus bytes ≡ bytes → ParsesUnsigned 64 10 text r → result_unwrap_or r 0 ≡ count_in bytes
read bytes text (Ok n) same some few plain parses =
    let whole : without_leading_plus text ≡ bytes = ap without_leading_plus same ∙ plain in
    parses.1 ∙ ap (digits_value 10) whole ∙ counted bytes some few (subst (AllDigits 10) whole parses.0.0.1)
read bytes text (Err e) same some few plain parses =
    let whole : without_leading_plus text ≡ bytes = ap without_leading_plus same ∙ plain in
    uncounted bytes (λ digits. let fits : digits_value 10 bytes < 2 ^ 64 = omega (arith, small bytes digits few) in parses (subst (λ t. IsNumeral 10 t × (digits_value 10 t < 2 ^ 64)) (sym whole) ((some, digits), fits)))

count_small : (a b d : Bool) (n : ℕ) → (a ≡ true → b ≡ true → d ≡ true → n < 10 ^ 18) → (if a && b && d then n else 0) < 10 ^ 18
count_small true true true n less = less refl refl refl
count_small true true false n less = omega arith
count_small true false d n less = omega arith
count_small false b d n less = omega arith

-- each count fits
pub count_fits : (bytes : List ℕ) → count_in bytes < 10 ^ 18
count_fits bytes =
    count_small (nat_lt 0 (length bytes)) (nat_le (length bytes) 18) (all_ascii_digits bytes) (digits_value 10 bytes) (λ some few digits. small bytes (are_digits bytes digits) (leb-true (length bytes) 18 few))
