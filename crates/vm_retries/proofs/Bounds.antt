-- Intervals, and what bounds them.
use Rattle.std.proofs.Common.{◌≡◌, ℕ, zero, suc, ◌-◌, ◌≤◌, ◌⊎◌, inl, inr, sym, ap, ◌∙◌, arith, min, Option, Some, None}
use Rattle.std.proofs.Math.Nat.{min-eq_left, min-eq_right}
use Rattle.std.proofs.lemmas.Bool.{cases_lt}
use Rattle.std.specs.Duration.{as_nanos, max_nanos}
use Rattle.std.specs.Option.{unwrap_or}
use Rattle.std.specs.declared.time.Duration.{Duration}
use Rattle.vm_retries.specs.declared.fraction.Fraction.{Fraction}
use Rattle.vm_retries.specs.Intervals.{times, multiplied, interval, delay, most_counted}
use Rattle.vm_retries.proofs.Multiples.{multiplied-zero, multiplied-suc, multiplied_falls, times_rises}

-- a bound of one multiplication is of no account where the next is bounded too
bound_once : (f : Fraction) (m most : ℕ) → (m ≤ most) ⊎ (f.denominator ≤ f.numerator) → min (times f (min m most)) most ≡ min (times f m) most
bound_once f m most k = elim (cases_lt most m) [
  | inr within ↦ ap (λ (v : ℕ). min (times f v) most) (min-eq_left within)
  | inl above ↦ elim k [
    | inl within ↦ absurd (omega arith)
    | inr grows ↦
        let capped : min m most ≡ most = omega arith in
        let a = times_rises f most grows in
        let b = times_rises f m grows in
        let c : times f (min m most) ≡ times f most = ap (times f) capped in
        let d : most ≤ times f (min m most) = omega (arith, a, c) in
        let e : most ≤ times f m = omega arith in
        min-eq_right d ∙ sym (min-eq_right e)
  ]
]

-- a number that is multiplied stays below a bound, or grows
within_or_grows : (f : Fraction) (n k most : ℕ) → n ≤ most → (multiplied f n k ≤ most) ⊎ (f.denominator ≤ f.numerator)
within_or_grows f n k most h = elim (cases_lt f.numerator f.denominator) [
  | inl less ↦ let e : f.numerator ≤ f.denominator = omega arith in inl (omega (arith, multiplied_falls f n k e))
  | inr grows ↦ inr grows
]

-- the interval is the result of the multiplications alone, as far as a duration goes
interval-suc : (f : Fraction) (n k : ℕ) → n ≤ max_nanos → interval n f (suc k) ≡ min (multiplied f n k) max_nanos
unfolding interval
interval-suc f n zero h = sym (min-eq_left h) ∙ ap (λ (m : ℕ). min m max_nanos) (sym (multiplied-zero f n))
interval-suc f n (suc k) h =
    ap (λ (m : ℕ). min (times f m) max_nanos) (interval-suc f n k h)
    ∙ bound_once f (multiplied f n k) max_nanos (within_or_grows f n k max_nanos h)
    ∙ ap (λ (m : ℕ). min m max_nanos) (sym (multiplied-suc f n k))

pub interval_is : (f : Fraction) (n count : ℕ) → n ≤ max_nanos → interval n f count ≡ min (multiplied f n (count - 1)) max_nanos
unfolding interval
interval_is f n zero h = sym (min-eq_left h) ∙ ap (λ (m : ℕ). min m max_nanos) (sym (multiplied-zero f n))
interval_is f n (suc k) h =
    let e : suc k - 1 ≡ k = omega arith in
    interval-suc f n k h ∙ ap (λ (m : ℕ). min (multiplied f n m) max_nanos) (sym e)

-- a bound within that of a duration
pub interval_within : (f : Fraction) (n count most : ℕ) → n ≤ max_nanos → most ≤ max_nanos → min (multiplied f n (count - 1)) most ≡ min (interval n f count) most
interval_within f n count most h k = let e = interval_is f n count h in omega (arith, e)

-- the longest duration
abbrev pub longest : Duration
longest = record { secs = 18446744073709551615; nanos = 999999999 }

pub delay_is : (f : Fraction) (initial : Duration) (most : Option Duration) (count : ℕ) → as_nanos initial ≤ max_nanos → as_nanos (unwrap_or most longest) ≤ max_nanos
    → min (multiplied f (as_nanos initial) (min count most_counted - 1)) (as_nanos (unwrap_or most longest)) ≡ delay initial f most count
delay_is f initial None count h k = sym (interval_is f (as_nanos initial) (min count most_counted) h)
delay_is f initial (Some most) count h k = interval_within f (as_nanos initial) (min count most_counted) (as_nanos most) h k
