-- Durations that are read, and those that aren't.
use Rattle.std.proofs.Common.{◌≡◌, ◌≢◌, ◌<◌, ◌≤◌, ◌*◌, ◌++◌, inl, inr, ℕ, List, [], ◌∷◌, codes, ap, subst, sym, ◌∙◌, arith}
use Rattle.std.proofs.lemmas.List.{append_cancel_right}
use Rattle.std.specs.Duration.{as_nanos, max_nanos}
use Rattle.std.specs.declared.time.Duration.{Duration}
use Rattle.std.specs.Str.Parse.{AllDigits, IsNumeral, digits_value}
use Rattle.plain.specs.declared.fault.Fault.{Fault}
use Rattle.lines.specs.Readings.{Blames}
use Rattle.lines.specs.Durations.{IsTime}

pub nanos_is : (text digits : List ℕ) (time : Duration) → text ≡ digits ++ codes "ns" → IsNumeral 10 digits → as_nanos time ≡ digits_value 10 digits → as_nanos time ≤ max_nanos → IsTime text time
nanos_is text digits time e numeral value fits = (inr (digits, numeral, e, value), fits)

pub millis_is : (text : List ℕ) (time : Duration) → IsNumeral 10 text → as_nanos time ≡ digits_value 10 text * 1000000 → as_nanos time ≤ max_nanos → IsTime text time
millis_is text time numeral value fits = (inl (numeral, value), fits)

-- letters are no digits
no_letters : (digits : List ℕ) → AllDigits 10 (digits ++ codes "ns") → ⊥
no_letters [] all = let n = all.0 in absurd (omega (arith, n))
no_letters (c ∷ cs) all = no_letters cs all.1

ends_as_digits : (text digits : List ℕ) → text ≡ digits ++ codes "ns" → IsNumeral 10 text → ⊥
ends_as_digits text digits e numeral = no_letters digits (subst (AllDigits 10) e numeral.1)

-- a number of nanoseconds that is none, or too great
pub nanos_blamed : (text digits : List ℕ) (fault : Fault) → text ≡ digits ++ codes "ns" → (IsNumeral 10 digits → max_nanos < digits_value 10 digits) → Blames (IsTime text) fault
nanos_blamed text digits fault e great = record { nothing = λ bad time is. go time is.0 is.1 }
  where
    go : (time : Duration) → Rattle.lines.specs.Durations.IsDuration text (as_nanos time) → as_nanos time ≤ max_nanos → ⊥
    go time (inl (numeral, value)) fits = ends_as_digits text digits e numeral
    go time (inr (others, numeral, o, value)) fits =
        let same : others ≡ digits = append_cancel_right others digits (codes "ns") (sym o ∙ e) in
        let more = great (subst (λ d. IsNumeral 10 d) same numeral) in
        let is : as_nanos time ≡ digits_value 10 digits = value ∙ ap (digits_value 10) same in
        absurd (omega arith)

-- a number of milliseconds that is none, or too great
pub millis_blamed : (text : List ℕ) (fault : Fault) → ((front : List ℕ) → text ≢ front ++ codes "ns") → (IsNumeral 10 text → max_nanos < digits_value 10 text * 1000000) → Blames (IsTime text) fault
millis_blamed text fault other great = record { nothing = λ bad time is. go time is.0 is.1 }
  where
    go : (time : Duration) → Rattle.lines.specs.Durations.IsDuration text (as_nanos time) → as_nanos time ≤ max_nanos → ⊥
    go time (inl (numeral, value)) fits = let more = great numeral in absurd (omega arith)
    go time (inr (digits, numeral, o, value)) fits = other digits o
