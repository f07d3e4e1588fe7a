-- Keys whose numbers differ are in the order of these.
use Rattle.std.proofs.Common.{◌≡◌, ◌<◌, ◌≤◌, ◌+◌, ◌*◌, ◌^◌, ℕ, zero, suc, Bool, true, false, nat_lt, List, [], ◌∷◌, get_or, refl, ap, sym, ◌∙◌, below_more, arith}
use Rattle.std.specs.Cmp.Lexicographic.{slice_cmp}
use Rattle.std.specs.declared.cmp.Ordering.TheVariants.{Less, Equal, Greater}
use Rattle.std.specs.Ordering.{nat_cmp, ordering_then}
use Rattle.std.proofs.lemmas.Bool.Decides.{nat_tests}
use Rattle.vm_state.specs.StateKeys.{IsKeyNumber, number_of_front}

abbrev pub AreBytes : List ℕ → Type 0
AreBytes text = (k : ℕ) → get_or text k 0 < 256

-- ---- a number of n bytes fits

abbrev scale : ℕ → ℕ
scale zero = 1
scale (suc n) = scale n * 256

front_fits : (n : ℕ) (text : List ℕ) → AreBytes text → number_of_front n text < scale n
front_fits zero text small = omega arith
front_fits (suc n) text small = omega (arith, front_fits n text small, small n)

scale_grows : (n m : ℕ) → n ≤ m → scale n ≤ scale m
scale_grows zero zero h = omega arith
scale_grows zero (suc m) h = omega (arith, scale_grows zero m (omega arith))
scale_grows (suc n) zero h = absurd (omega arith)
scale_grows (suc n) (suc m) h = omega (arith, scale_grows n m (omega arith))

pub more_fits : (n : ℕ) (text : List ℕ) → AreBytes text → n < 8 → number_of_front n text * 256 + get_or text n 0 < 2 ^ 64
more_fits n text small few =
    let eight : scale 8 ≡ 2 ^ 64 = refl in
    omega (arith, front_fits (suc n) text small, scale_grows (suc n) 8 (omega arith), eight)

-- ---- texts of which one byte differs, after bytes that are the same

first_differs : (n : ℕ) (xs ys : List ℕ) → ((k : ℕ) → k < n → get_or xs k 0 ≡ get_or ys k 0) → get_or xs n 0 < get_or ys n 0
    → (slice_cmp nat_cmp xs ys ≡ Less) × (slice_cmp nat_cmp ys xs ≡ Greater)
first_differs n [] [] same less = absurd (omega arith)
first_differs n [] (y ∷ ys) same less = (refl, refl)
first_differs n (x ∷ xs) [] same less = absurd (omega arith)
first_differs zero (x ∷ xs) (y ∷ ys) same less = (grind (arith, nat_tests), grind (arith, nat_tests))
first_differs (suc n) (x ∷ xs) (y ∷ ys) same less =
    let e : x ≡ y = same zero (omega arith) in
    let rest = first_differs n xs ys (λ k h. same (suc k) (omega arith)) less in
    let one : nat_cmp x y ≡ Equal = grind (arith, nat_tests) in
    let other : nat_cmp y x ≡ Equal = grind (arith, nat_tests) in
    (ap (λ o. ordering_then o (slice_cmp nat_cmp xs ys)) one ∙ rest.0, ap (λ o. ordering_then o (slice_cmp nat_cmp ys xs)) other ∙ rest.1)

same_bytes : (n : ℕ) (xs ys : List ℕ) → AreBytes xs → AreBytes ys → number_of_front n xs ≡ number_of_front n ys → (k : ℕ) → k < n → get_or xs k 0 ≡ get_or ys k 0
same_bytes zero xs ys a b e k h = absurd (omega arith)
same_bytes (suc n) xs ys a b e k h =
    let p = a n in
    let q = b n in
    below_more (λ j. get_or xs j 0 ≡ get_or ys j 0) n (same_bytes n xs ys a b (omega arith)) (omega arith) k (omega arith)

ordered : (n : ℕ) (xs ys : List ℕ) → AreBytes xs → AreBytes ys → number_of_front n xs < number_of_front n ys → (slice_cmp nat_cmp xs ys ≡ Less) × (slice_cmp nat_cmp ys xs ≡ Greater)
ordered zero xs ys a b less = absurd (omega arith)
ordered (suc n) xs ys a b less = go (ordered n xs ys a b) (nat_lt (number_of_front n xs) (number_of_front n ys)) refl
  where
    go : (number_of_front n xs < number_of_front n ys → (slice_cmp nat_cmp xs ys ≡ Less) × (slice_cmp nat_cmp ys xs ≡ Greater)) → (t : Bool) → nat_lt (number_of_front n xs) (number_of_front n ys) ≡ t
        → (slice_cmp nat_cmp xs ys ≡ Less) × (slice_cmp nat_cmp ys xs ≡ Greater)
    go rest true e = rest (grind (arith, nat_tests))
    go rest false e =
        let p = a n in
        let q = b n in
        let not_less : number_of_front n ys ≤ number_of_front n xs = grind (arith, nat_tests) in
        first_differs n xs ys (same_bytes n xs ys a b (omega arith)) (omega arith)

-- a key with the smaller number is the smaller one
pub front_below : (f g : ℕ) (xs ys : List ℕ) → IsKeyNumber f xs → IsKeyNumber g ys → f < g → Less ≡ slice_cmp nat_cmp xs ys
front_below f g xs ys a b less = sym (ordered 8 xs ys a.bytes b.bytes (omega (arith, a.is, b.is))).0

pub front_above : (f g : ℕ) (xs ys : List ℕ) → IsKeyNumber f xs → IsKeyNumber g ys → g < f → Greater ≡ slice_cmp nat_cmp xs ys
front_above f g xs ys a b less = sym (ordered 8 ys xs b.bytes a.bytes (omega (arith, a.is, b.is))).1
