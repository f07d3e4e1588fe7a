-- Multiplications that change a number by the same amount, one after another.
use Rattle.std.proofs.Common.{◌≡◌, ℕ, zero, suc, ◌+◌, ◌-◌, ◌*◌, ◌/◌, ◌%◌, ◌<◌, ◌≤◌, min, refl, sym, ap, ◌∙◌, arith, inl, inr}
use Rattle.std.proofs.Math.Nat.{div-div-eq-div-mul, div-le_self, div-mul-le_self, mod-lt, mul-le-mul_right}
use Rattle.std.specs.Duration.{max_nanos}
use Rattle.std.specs.Int.{abs_diff}
use Rattle.std.proofs.lemmas.Bool.{cases_lt}
use Rattle.std.proofs.lemmas.Nat.{div-add-mod'}
use Rattle.vm_retries.specs.declared.fraction.Fraction.{Fraction}
use Rattle.vm_retries.specs.Intervals.{times, multiplied}
use Rattle.vm_retries.proofs.Multiples.{multiplied-zero, multiplied-first, times_is, times_rises, times_falls}

-- each of them moves the remainder up by g * e
pub rising : (f : Fraction) (e g j n next r : ℕ) → f.numerator ≡ f.denominator + e → next ≡ n + g → n * f.numerator ≡ next * f.denominator + r
    → r + j * (g * e) < f.denominator → multiplied f n (suc j) ≡ next + j * g
rising f e g zero n next r apart up product room =
    multiplied-first f n zero ∙ multiplied-zero f (times f n) ∙ times_is f n next r product (omega arith) ∙ omega arith
rising f e g (suc j) n next r apart up product room =
    let one : times f n ≡ next = times_is f n next r product (omega arith) in
    let a : next * f.numerator ≡ n * f.numerator + g * f.numerator = ap (λ (m : ℕ). m * f.numerator) up ∙ omega arith in
    let b : g * f.numerator ≡ g * f.denominator + g * e = ap (λ (m : ℕ). g * m) apart ∙ omega arith in
    let again : next * f.numerator ≡ (next + g) * f.denominator + (r + g * e) = omega arith in
    let left : (r + g * e) + j * (g * e) < f.denominator = omega arith in
    multiplied-first f n (suc j) ∙ ap (λ (m : ℕ). multiplied f m (suc j)) one ∙ rising f e g j next (next + g) (r + g * e) apart refl again left ∙ omega arith

-- where the number falls by l and the remainder has room for l * e more, it falls by l again
falls_again : (numerator e l next r : ℕ) → (next + l) * numerator ≡ next * (numerator + e) + r → r + l * e < numerator + e → l ≤ next
falls_again numerator e l next r product room = elim (cases_lt next l) [
  | inl under ↦ absurd (none (l - (next + 1)) (omega arith))
  | inr over ↦ over
]
  where
    none : (t : ℕ) → l ≡ next + 1 + t → ⊥
    none t is =
        let a : (next + l) * numerator ≡ next * numerator + (next + 1 + t) * numerator = ap (λ (m : ℕ). (next + m) * numerator) is ∙ omega arith in
        let b : l * e ≡ (next + 1 + t) * e = ap (λ (m : ℕ). m * e) is in
        omega arith

pub falling : (f : Fraction) (e l j n next r : ℕ) → f.denominator ≡ f.numerator + e → n ≡ next + l → n * f.numerator ≡ next * f.denominator + r
    → r + j * (l * e) < f.denominator → multiplied f n (suc j) + j * l ≡ next
falling f e l zero n next r apart down product room =
    let one : multiplied f n 1 ≡ next = multiplied-first f n zero ∙ multiplied-zero f (times f n) ∙ times_is f n next r product (omega arith) in
    omega (arith, one)
falling f e l (suc j) n next r apart down product room =
    let one : times f n ≡ next = times_is f n next r product (omega arith) in
    let full : (next + l) * f.numerator ≡ next * (f.numerator + e) + r = ap (λ (m : ℕ). m * f.numerator) (sym down) ∙ product ∙ ap (λ (m : ℕ). next * m + r) apart in
    let more : l ≤ next = falls_again f.numerator e l next r full (omega arith) in
    let lower : next ≡ (next - l) + l = omega arith in
    let a : next * f.denominator ≡ (next - l) * f.denominator + l * f.denominator = ap (λ (m : ℕ). m * f.denominator) lower ∙ omega arith in
    let b : l * f.denominator ≡ l * f.numerator + l * e = ap (λ (m : ℕ). l * m) apart ∙ omega arith in
    let c : n * f.numerator ≡ next * f.numerator + l * f.numerator = ap (λ (m : ℕ). m * f.numerator) down ∙ omega arith in
    let again : next * f.numerator ≡ (next - l) * f.denominator + (r + l * e) = omega arith in
    let left : (r + l * e) + j * (l * e) < f.denominator = omega arith in
    let rest = falling f e l j next (next - l) (r + l * e) apart lower again left in
    let whole : multiplied f n (suc (suc j)) ≡ multiplied f next (suc j) = multiplied-first f n (suc j) ∙ ap (λ (m : ℕ). multiplied f m (suc j)) one in
    omega (arith, whole, rest)

-- as many steps as the room holds stay within it
pub within_room : (room change apart j : ℕ) → j ≤ room / change / apart → j * (change * apart) ≤ room
within_room room change apart j h =
    let a = div-div-eq-div-mul room change apart in
    let b = div-mul-le_self room (change * apart) in
    let c = mul-le-mul_right (change * apart) h in
    let d : room / change / apart * (change * apart) ≡ room / (change * apart) * (change * apart) = ap (λ (m : ℕ). m * (change * apart)) a in
    omega (arith, b, c, d)

-- what they change the number by is less than the denominator
pub change_within : (x n d change apart j further : ℕ) → j ≡ min ((d - 1 - x * n % d) / change / apart) further → j * change ≤ d - 1
change_within x n d change apart j further is =
    let room = d - 1 - x * n % d in
    let few : j ≤ room / change = omega (arith, is, div-le_self (room / change) apart) in
    omega (arith, mul-le-mul_right change few, div-mul-le_self room change)

-- so what they lead to has room in 128 bits
pub reached_within : (x n d change apart j further : ℕ) → j ≡ min ((d - 1 - x * n % d) / change / apart) further → x ≤ max_nanos → n < 4294967296 → d < 4294967296
    → x * n / d + j * change < 340282366920938463463374607431768211456
reached_within x n d change apart j further is most small short =
    let product : x * n ≤ max_nanos * n = mul-le-mul_right n most in
    omega (arith, product, div-le_self (x * n) d, change_within x n d change apart j further is)

-- they are no more than those left
pub step_within : (left further j most : ℕ) → 0 < left → further ≡ left - 1 → j ≡ min most further → 1 + j ≤ left
step_within left further j most some less is = omega arith

-- ---- a stride over numbers as a program has them

module _ (f : Fraction) (n d x change apart k : ℕ) (en : n ≡ f.numerator) (ed : d ≡ f.denominator) (ec : change ≡ abs_diff (x * n / d) x) (ea : apart ≡ abs_diff n d)
    (h : k ≤ (d - 1 - x * n % d) / change / apart) where
  product : x * f.numerator ≡ x * n / d * f.denominator + x * n % d
  product = ap (λ (m : ℕ). x * m) (sym en) ∙ sym (div-add-mod' (x * n) d) ∙ ap (λ (m : ℕ). x * n / d * m + x * n % d) ed

  room : x * n % d + k * (change * apart) < f.denominator
  room =
      let a = within_room (d - 1 - x * n % d) change apart k h in
      let p : 0 < d = omega (arith, f.divides) in
      let b = mod-lt (x * n) p in
      omega (arith, a, b)

  one : times f x ≡ x * n / d
  one = ap (λ (m : ℕ). x * m / f.denominator) (sym en) ∙ ap (λ (m : ℕ). x * n / m) (sym ed)

  pub strides_up : x < x * n / d → multiplied f x (1 + k) ≡ x * n / d + k * change
  strides_up up =
      let more : f.denominator < f.numerator = elim (cases_lt f.denominator f.numerator) [
        | inl under ↦ under
        | inr over ↦ absurd (omega (arith, times_falls f x over, one))
      ] in
      let e : f.numerator ≡ f.denominator + apart = omega arith in
      let g : x * n / d ≡ x + change = omega arith in
      let count : 1 + k ≡ suc k = omega arith in
      ap (multiplied f x) count ∙ rising f apart change k x (x * n / d) (x * n % d) e g product room

  pub strides_down : x * n / d < x → multiplied f x (1 + k) + k * change ≡ x * n / d
  strides_down down =
      let less : f.numerator < f.denominator = elim (cases_lt f.numerator f.denominator) [
        | inl under ↦ under
        | inr over ↦ absurd (omega (arith, times_rises f x over, one))
      ] in
      let e : f.denominator ≡ f.numerator + apart = omega arith in
      let g : x ≡ x * n / d + change = omega arith in
      let count : 1 + k ≡ suc k = omega arith in
      ap (λ (m : ℕ). multiplied f x m + k * change) count ∙ falling f apart change k x (x * n / d) (x * n % d) e g product room
