-- What the laws say of delays.
use Rattle.std.proofs.Common.{◌≡◌, ℕ, zero, suc, ◌+◌, ◌-◌, ◌*◌, ◌/◌, ◌^◌, ◌≤◌, sym, ap, ◌∙◌, arith, min, Option, Some, None, inl, inr, subst, ◌<◌, refl, pow_mono}
use Rattle.std.proofs.Math.Nat.{div-mul-le_self, div-one, min-eq_right, mul-le-mul, mul-le-mul_right, mul-one, pow-le-pow_left, pow-suc, pow-zero}
use Rattle.std.proofs.lemmas.Bool.{cases_lt}
use Rattle.std.specs.Duration.{as_nanos, max_nanos}
use Rattle.std.specs.declared.time.Duration.{Duration}
use Rattle.vm_retries.specs.declared.fraction.Fraction.{Fraction}
use Rattle.vm_retries.specs.Intervals.{at_most, delay, interval, most_counted, multiplied, times}
use Rattle.vm_retries.proofs.Bounds.{interval_is}
use Rattle.vm_retries.proofs.Multiples.{multiplied-zero, multiplied-suc, multiplied-add, multiplied_rises, multiplied_falls}

at_most-le : (most : Option Duration) (m n : ℕ) → m ≤ n → at_most most m ≤ at_most most n
at_most-le None m n h = h
at_most-le (Some most) m n h = omega arith

at_most-within : (most : Option Duration) (n : ℕ) → at_most most n ≤ n
at_most-within None n = omega arith
at_most-within (Some most) n = omega arith

-- the multiplications apart by which the later interval is further on
apart : (f : Fraction) (n count later : ℕ) → count ≤ later → multiplied f n (later - 1) ≡ multiplied f (multiplied f n (count - 1)) ((later - 1) - (count - 1))
apart f n count later h =
    let e : later - 1 ≡ (count - 1) + ((later - 1) - (count - 1)) = omega arith in
    ap (multiplied f n) e ∙ multiplied-add f n (count - 1) ((later - 1) - (count - 1))

pub never_falls : (initial : Duration) (f : Fraction) (most : Option Duration) (count later : ℕ) → as_nanos initial ≤ max_nanos → f.denominator ≤ f.numerator → count ≤ later
    → delay initial f most count ≤ delay initial f most later
never_falls initial f most count later h rises order =
    let n = as_nanos initial in
    let few = min count most_counted in
    let many = min later most_counted in
    let a = apart f n few many (omega arith) in
    let b = multiplied_rises f (multiplied f n (few - 1)) ((many - 1) - (few - 1)) rises in
    let i = interval_is f n few h in
    let j = interval_is f n many h in
    at_most-le most (interval n f few) (interval n f many) (omega (arith, a, b, i, j))

pub never_rises : (initial : Duration) (f : Fraction) (most : Option Duration) (count later : ℕ) → as_nanos initial ≤ max_nanos → f.numerator ≤ f.denominator → count ≤ later
    → delay initial f most later ≤ delay initial f most count
never_rises initial f most count later h falls order =
    let n = as_nanos initial in
    let few = min count most_counted in
    let many = min later most_counted in
    let a = apart f n few many (omega arith) in
    let b = multiplied_falls f (multiplied f n (few - 1)) ((many - 1) - (few - 1)) falls in
    let i = interval_is f n few h in
    let j = interval_is f n many h in
    at_most-le most (interval n f many) (interval n f few) (omega (arith, a, b, i, j))

multiplied_whole : (f : Fraction) (n k : ℕ) → f.denominator ≡ 1 → multiplied f n k ≡ n * f.numerator ^ k
multiplied_whole f n zero h = multiplied-zero f n ∙ sym (ap (λ (m : ℕ). n * m) (pow-zero f.numerator) ∙ mul-one n)
multiplied_whole f n (suc k) h =
    let p = pow-suc f.numerator k in
    let e : n * f.numerator ^ k * f.numerator ≡ n * f.numerator ^ suc k = omega (arith, ap (λ (m : ℕ). n * m) p) in
    multiplied-suc f n k ∙ ap (λ (m : ℕ). m * f.numerator / f.denominator) (multiplied_whole f n k h)
    ∙ ap (λ (m : ℕ). n * f.numerator ^ k * f.numerator / m) h ∙ div-one (n * f.numerator ^ k * f.numerator) ∙ e

-- by two or more each number but zero is above the longest duration
past : (n b k : ℕ) → 1 ≤ n → 2 ≤ b → 9999 ≤ k → max_nanos ≤ n * b ^ k
past n b k h two many =
    let above : 1 * 2 ^ k ≤ n * b ^ k = mul-le-mul h (pow-le-pow_left two k) in
    let of_two : 2 ^ 94 ≤ 2 ^ k = pow_mono {i = 94} {j = k} (omega (arith, many)) in
    let most : 2 ^ 94 ≡ 19807040628566084398385987584 = refl in
    omega (arith, above, of_two, most)

zero_power : (k : ℕ) → 1 ≤ k → 0 ^ k ≡ 0
zero_power zero h = absurd (omega (arith, h))
zero_power (suc k) h = let p = pow-suc 0 k in omega (arith, p)

one_power : (k : ℕ) → 1 ^ k ≡ 1
one_power zero = pow-zero 1
one_power (suc k) = let p = pow-suc 1 k in omega (arith, p, one_power k)

-- after 9999 multiplications by a whole number nothing changes any more, as far as a duration goes
settled : (n b k : ℕ) → 9999 ≤ k → min (n * b ^ 9999) max_nanos ≡ min (n * b ^ k) max_nanos
settled zero b k many = let e : zero * b ^ 9999 ≡ zero * b ^ k = omega arith in ap (λ (m : ℕ). min m max_nanos) e
settled (suc n) zero k many = ap (λ (m : ℕ). min (suc n * m) max_nanos) (zero_power 9999 (omega arith) ∙ sym (zero_power k (omega (arith, many))))
settled (suc n) (suc zero) k many = ap (λ (m : ℕ). min (suc n * m) max_nanos) (one_power 9999 ∙ sym (one_power k))
settled (suc n) (suc (suc b)) k many =
    let few = past (suc n) (suc (suc b)) 9999 (omega arith) (omega arith) (omega arith) in
    let more = past (suc n) (suc (suc b)) k (omega arith) (omega arith) many in
    min-eq_right few ∙ sym (min-eq_right more)

pub whole : (initial : Duration) (f : Fraction) (most : Option Duration) (steps : ℕ) → as_nanos initial ≤ max_nanos → f.denominator ≡ 1
    → delay initial f most (steps + 1) ≡ at_most most (min (as_nanos initial * f.numerator ^ steps) max_nanos)
whole initial f most steps h one =
    let n = as_nanos initial in
    let counted = min (steps + 1) most_counted - 1 in
    ap (at_most most) (interval_is f n (min (steps + 1) most_counted) h
    ∙ ap (λ (m : ℕ). min m max_nanos) (multiplied_whole f n counted one)
    ∙ (elim (cases_lt steps 9999) [
      | inl few ↦ let e : counted ≡ steps = omega (arith, few) in ap (λ (m : ℕ). min (n * f.numerator ^ m) max_nanos) e
      | inr many ↦ let e : counted ≡ 9999 = omega (arith, many) in ap (λ (m : ℕ). min (n * f.numerator ^ m) max_nanos) e ∙ settled n f.numerator steps many
    ]))

multiplied_below : (f : Fraction) (n k : ℕ) → multiplied f n k * f.denominator ^ k ≤ n * f.numerator ^ k
multiplied_below f n zero =
    let a : multiplied f n 0 * f.denominator ^ 0 ≡ n * 1 = ap (λ (m : ℕ). m * f.denominator ^ 0) (multiplied-zero f n) ∙ ap (λ (m : ℕ). n * m) (pow-zero f.denominator) in
    let b : n * f.numerator ^ 0 ≡ n * 1 = ap (λ (m : ℕ). n * m) (pow-zero f.numerator) in
    omega (arith, a, b)
multiplied_below f n (suc k) =
    let m = multiplied f n k in
    let d = f.denominator ^ k in
    let p = f.numerator ^ k in
    let a : multiplied f n (suc k) * f.denominator ^ suc k ≡ times f m * (d * f.denominator) = ap (λ (x : ℕ). x * f.denominator ^ suc k) (multiplied-suc f n k)
    ∙ ap (λ (x : ℕ). times f m * x) (pow-suc f.denominator k) in
    let b : times f m * (d * f.denominator) ≡ times f m * f.denominator * d = omega arith in
    let c : times f m * f.denominator * d ≤ m * f.numerator * d = mul-le-mul_right d (div-mul-le_self (m * f.numerator) f.denominator) in
    let e : m * f.numerator * d ≡ m * d * f.numerator = omega arith in
    let g : m * d * f.numerator ≤ n * p * f.numerator = mul-le-mul_right f.numerator (multiplied_below f n k) in
    let i : n * f.numerator ^ suc k ≡ n * p * f.numerator = ap (λ (x : ℕ). n * x) (pow-suc f.numerator k) ∙ omega arith in
    omega (arith, a, b, c, e, g, i)

below_counted : (initial : Duration) (f : Fraction) (most : Option Duration) (count : ℕ) → as_nanos initial ≤ max_nanos
    → delay initial f most count * f.denominator ^ (min count most_counted - 1) ≤ as_nanos initial * f.numerator ^ (min count most_counted - 1)
below_counted initial f most count h =
    let n = as_nanos initial in
    let counted = min count most_counted in
    let i = interval_is f n counted h in
    let a = at_most-within most (interval n f counted) in
    let within : delay initial f most count ≤ multiplied f n (counted - 1) = omega (arith, a, i) in
    let b = mul-le-mul_right (f.denominator ^ (counted - 1)) within in
    let c = multiplied_below f n (counted - 1) in
    omega (arith, b, c)

pub below : (initial : Duration) (f : Fraction) (most : Option Duration) (steps : ℕ) → as_nanos initial ≤ max_nanos → steps < most_counted
    → delay initial f most (steps + 1) * f.denominator ^ steps ≤ as_nanos initial * f.numerator ^ steps
below initial f most steps h few =
    let e : min (steps + 1) most_counted - 1 ≡ steps = omega (arith, few) in
    subst (λ (m : ℕ). delay initial f most (steps + 1) * f.denominator ^ m ≤ as_nanos initial * f.numerator ^ m) e (below_counted initial f most (steps + 1) h)
