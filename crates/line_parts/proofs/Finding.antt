-- The first item of a list that passes a test, item by item.
use Rattle.std.proofs.Common.{◌≡◌, ◌<◌, ◌+◌, ℕ, zero, suc, Bool, true, false, if◌then◌else◌, List, [], ◌∷◌, Some, None, find, length, take, get_or, refl, sym, ◌∙◌, arith, nat_eq}
use Rattle.std.proofs.lemmas.Slice.Eq.{bytes_eq-Decides}
use Rattle.std.specs.Cmp.Lexicographic.{pointwise}

-- if no item is found, the first isn't it
none_first : {A : Type 0} (p : A → Bool) (x : A) (xs : List A) → find p (x ∷ xs) ≡ None → (p x ≡ false) × (find p xs ≡ None)
none_first {A = A} p x xs e = go (p x) refl e
  where
    go : (b : Bool) → p x ≡ b → (if b then Some x else find p xs) ≡ None → (p x ≡ false) × (find p xs ≡ None)
    go true at e = absurd (cc e)
    go false at e = (at, e)

-- the next item isn't it
pub none_more : {A : Type 0} (p : A → Bool) (xs : List A) (i n : ℕ) (d : A) → n ≡ i + 1 → i < length xs → find p (take i xs) ≡ None → p (get_or xs i d) ≡ false → find p (take n xs) ≡ None
none_more p [] i n d e h none isnt = absurd (omega arith)
none_more p (x ∷ xs) i zero d e h none isnt = absurd (omega arith)
none_more p (x ∷ xs) zero (suc n) d e h none isnt = let last : n ≡ 0 = omega arith in rw (isnt, last) refl
none_more p (x ∷ xs) (suc i) (suc n) d e h none isnt =
    let first = none_first p x (take i xs) none in
    rw first.0 (none_more p xs i n d (omega arith) (omega arith) first.1 isnt)

-- the next item is it
pub found_here : {A : Type 0} (p : A → Bool) (xs : List A) (i : ℕ) (d : A) → i < length xs → find p (take i xs) ≡ None → p (get_or xs i d) ≡ true → find p xs ≡ Some (get_or xs i d)
found_here p [] i d h none is = absurd (omega arith)
found_here p (x ∷ xs) zero d h none is = rw is refl
found_here p (x ∷ xs) (suc i) d h none is =
    let first = none_first p x (take i xs) none in
    rw first.0 (found_here p xs i d (omega arith) first.1 is)

-- none of the items has this name
find_none : {A : Type 0} (p : A → Bool) (xs : List A) (i : ℕ) (d : A) → i < length xs → find p xs ≡ None → p (get_or xs i d) ≡ false
find_none p [] i d h none = absurd (omega arith)
find_none p (x ∷ xs) zero d h none = (none_first p x xs none).0
find_none p (x ∷ xs) (suc i) d h none = find_none p xs i d (omega arith) (none_first p x xs none).1

pub none_named : {A : Type 0} (name : A → List ℕ) (xs : List A) (text : List ℕ) → find (λ x. pointwise nat_eq text (name x)) xs ≡ None → (i : ℕ) (d : A) → i < length xs → text ≡ name (get_or xs i d) → ⊥
none_named name xs text none i d h e =
    cc (sym (find_none (λ x. pointwise nat_eq text (name x)) xs i d h none) ∙ (bytes_eq-Decides text (name (get_or xs i d))).1 e)
