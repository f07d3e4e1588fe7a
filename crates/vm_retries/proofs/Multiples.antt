-- Numbers multiplied by a fraction, again and again.
use Rattle.std.proofs.Common.{◌≡◌, ℕ, zero, suc, ◌+◌, ◌*◌, ◌/◌, ◌<◌, ◌≤◌, refl, sym, ap, ◌∙◌, arith}
use Rattle.std.proofs.Math.Nat.{div-le_of_le-mul, mul-le-mul_left}
use Rattle.std.proofs.lemmas.Nat.{le-div, div-mul-add}
use Rattle.vm_retries.specs.declared.fraction.Fraction.{Fraction}
use Rattle.vm_retries.specs.Intervals.{times, multiplied}

pub multiplied-zero : (f : Fraction) (n : ℕ) → multiplied f n 0 ≡ n
unfolding multiplied
multiplied-zero f n = refl

pub multiplied-suc : (f : Fraction) (n k : ℕ) → multiplied f n (suc k) ≡ times f (multiplied f n k)
unfolding multiplied
multiplied-suc f n k = refl

-- the first multiplication apart
pub multiplied-first : (f : Fraction) (n k : ℕ) → multiplied f n (suc k) ≡ multiplied f (times f n) k
unfolding multiplied
multiplied-first f n zero = refl
multiplied-first f n (suc k) = ap (times f) (multiplied-first f n k)

pub multiplied-add : (f : Fraction) (n j k : ℕ) → multiplied f n (j + k) ≡ multiplied f (multiplied f n j) k
multiplied-add f n zero k = let e : zero + k ≡ k = omega arith in ap (multiplied f n) e ∙ ap (λ (m : ℕ). multiplied f m k) (sym (multiplied-zero f n))
multiplied-add f n (suc j) k =
    let e : suc j + k ≡ suc (j + k) = omega arith in
    ap (multiplied f n) e ∙ multiplied-first f n (j + k) ∙ multiplied-add f (times f n) j k ∙ ap (λ (m : ℕ). multiplied f m k) (sym (multiplied-first f n j))

-- what one multiplication leaves, all do
pub multiplied-same : (f : Fraction) (n k : ℕ) → times f n ≡ n → multiplied f n k ≡ n
unfolding multiplied
multiplied-same f n zero e = refl
multiplied-same f n (suc k) e = ap (times f) (multiplied-same f n k e) ∙ e

-- ---- fractions of at least one, and of at most one

pub times_rises : (f : Fraction) (n : ℕ) → f.denominator ≤ f.numerator → n ≤ times f n
times_rises f n h = le-div n (n * f.numerator) f.denominator f.divides (mul-le-mul_left n h)

pub times_falls : (f : Fraction) (n : ℕ) → f.numerator ≤ f.denominator → times f n ≤ n
times_falls f n h = div-le_of_le-mul f.denominator (omega (arith, mul-le-mul_left n h))

pub multiplied_rises : (f : Fraction) (n k : ℕ) → f.denominator ≤ f.numerator → n ≤ multiplied f n k
multiplied_rises f n zero h = omega (arith, multiplied-zero f n)
multiplied_rises f n (suc k) h = omega (arith, multiplied_rises f n k h, multiplied-suc f n k, times_rises f (multiplied f n k) h)

pub multiplied_falls : (f : Fraction) (n k : ℕ) → f.numerator ≤ f.denominator → multiplied f n k ≤ n
multiplied_falls f n zero h = omega (arith, multiplied-zero f n)
multiplied_falls f n (suc k) h = omega (arith, multiplied_falls f n k h, multiplied-suc f n k, times_falls f (multiplied f n k) h)

-- ---- quotients

-- the result is q, if the product with the numerator is q denominators and less than one more
pub times_is : (f : Fraction) (n q r : ℕ) → n * f.numerator ≡ q * f.denominator + r → r < f.denominator → times f n ≡ q
times_is f n q r e h = ap (λ (m : ℕ). m / f.denominator) e ∙ div-mul-add q f.denominator r h
