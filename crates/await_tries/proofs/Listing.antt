-- The places of children that go, as they are listed.
use Rattle.std.proofs.Common.{◌≡◌, ◌≢◌, ℕ, suc, ◌+◌, ◌<◌, ◌≤◌, false, List, [], ◌∷◌, length, take, get_or, Option, Some, None, refl, sym, ap, ◌∙◌, arith, ◌⊎◌, inl, inr, ⊎_elim}
use Rattle.std.proofs.Math.ListN.{set}
use Rattle.std.specs.List.{Contains}
use Rattle.std.specs.List.Sorted.{IsPermutation}
use Rattle.std.specs.Option.{is_some}
use Rattle.std.proofs.lemmas.Bool.{cases_lt}
use Rattle.std.proofs.lemmas.List.{get_or-set_other, get_or-take, length-take-le}
use Rattle.std.proofs.lemmas.List.Elements.{Contains-append_right, Contains-get_or, Contains-push_cases, Contains-append_cases}
use Rattle.std.proofs.lemmas.List.Sorted.{Contains-permutation}
use Rattle.await_tries.specs.Due.{Listed}

module _ {D : Type 0} (key : D → ℕ × ℕ) (end : ℕ → Option ℕ) where
  -- an entry more
  has_old : (old new : List D) (d x : D) → IsPermutation (x ∷ old) new → Contains old d → Contains new d
  has_old old new d x p c = Contains-permutation (x ∷ old) new d p (Contains-append_right (x ∷ []) old d c)

  has_new : (old new : List D) (x : D) → IsPermutation (x ∷ old) new → Contains new x
  has_new old new x p = Contains-permutation (x ∷ old) new x p (Contains-get_or (x ∷ old) 0 x (omega arith))

  pub listed_none : (xs : List ℕ) → Listed key end [] xs 0
  listed_none xs p t l e = absurd (omega arith)

  -- the next child goes
  pub listed_push : (old new : List D) (xs : List ℕ) (n t : ℕ) (x : D) → key x ≡ (t, n) → end (get_or xs n 0) ≡ Some t → IsPermutation (x ∷ old) new → Listed key end old xs n → Listed key end new xs (n + 1)
  listed_push old new xs n t x k e p h q s l f =
      ⊎_elim
      (λ (lt : q < n). let (d, c, is) = h q s lt f in (d, has_old old new d x p c, is))
      (λ (ge : n ≤ q).
      let at : q ≡ n = omega arith in
      let same : s ≡ t = some_same (sym f ∙ ap (λ z. end (get_or xs z 0)) at ∙ e) in
      (x, has_new old new x p, k ∙ rw (at, same) refl))
      (cases_lt q n)
    where
      some_same : {a b : ℕ} → Some a ≡ Some b → a ≡ b
      some_same e = cc

  -- the next child stays
  pub listed_skip : (due : List D) (xs : List ℕ) (n : ℕ) → end (get_or xs n 0) ≡ None → Listed key end due xs n → Listed key end due xs (n + 1)
  listed_skip due xs n e h q s l f =
      ⊎_elim
      (λ (lt : q < n). h q s lt f)
      (λ (ge : n ≤ q). let at : q ≡ n = omega arith in let g : end (get_or xs n 0) ≡ Some s = rw (← at) f in cc)
      (cases_lt q n)

  -- ---- an entry is taken

  still : (old new : List D) (x d : D) → IsPermutation old (x ∷ new) → Contains old d → (x ≡ d) ⊎ Contains new d
  still old new x d p c =
      ⊎_elim
      (λ a. ⊎_elim (λ none. absurd (no_element d none)) (λ is. inl is) (Contains-push_cases [] x d a))
      (λ b. inr b)
      (Contains-append_cases (x ∷ []) new d (Contains-permutation old (x ∷ new) d p c))
    where
      no_element : (d : D) → Contains [] d → ⊥
      no_element d c = let l = c.1 in absurd (omega arith)

  -- the child at its place goes at another time, or none is there
  pub listed_pop : (old new : List D) (xs : List ℕ) (n by place : ℕ) (x : D) → key x ≡ (by, place) → IsPermutation old (x ∷ new)
      → (place < n → end (get_or xs place 0) ≢ Some by) → Listed key end old xs n → Listed key end new xs n
  listed_pop old new xs n by place x k p other h q s l f =
      let (d, c, is) = h q s l f in
      ⊎_elim
      (λ (e : x ≡ d).
      let same : (by, place) ≡ (s, q) = sym k ∙ ap key e ∙ is in
      let at : place ≡ q = ap (λ (z : ℕ × ℕ). z.1) same in
      let when : by ≡ s = ap (λ (z : ℕ × ℕ). z.0) same in
      absurd (other (rw at l) (rw (at, when) f)))
      (λ m. (d, m, is))
      (still old new x d p c)

  -- the child at its place goes, and the last comes there
  pub listed_gone : (old new : List D) (xs : List ℕ) (m by place : ℕ) (x : D) → key x ≡ (by, place) → place ≤ m → m < length xs → IsPermutation old (x ∷ new)
      → Listed key end old xs (suc m) → (q s : ℕ) → q < m → q ≢ place → end (get_or (set xs place (get_or xs m 0)) q 0) ≡ Some s → (d : D) × Contains new d × (key d ≡ (s, q))
  listed_gone old new xs m by place x k l b p h q s lq apart f =
      let unmoved : get_or (set xs place (get_or xs m 0)) q 0 ≡ get_or xs q 0 = get_or-set_other xs place q (get_or xs m 0) 0 apart in
      let (d, c, is) = h q s (omega arith) (rw unmoved at f) in
      ⊎_elim
      (λ (e : x ≡ d).
      let same : (by, place) ≡ (s, q) = sym k ∙ ap key e ∙ is in
      let at : place ≡ q = ap (λ (z : ℕ × ℕ). z.1) same in
      absurd (apart (sym at)))
      (λ m. (d, m, is))
      (still old new x d p c)

  module _ (old new : List D) (xs : List ℕ) (m by place : ℕ) (x : D) (k : key x ≡ (by, place)) (l : place ≤ m) (b : m < length xs) (p : IsPermutation old (x ∷ new)) (h : Listed key end old xs (suc m)) where
    abbrev moved : List ℕ
    moved = set xs place (get_or xs m 0)

    pub listed_moved : (last : List D) (t : ℕ) (y : D) → key y ≡ (t, place) → end (get_or moved place 0) ≡ Some t → IsPermutation (y ∷ new) last → Listed key end last moved m
    listed_moved last t y ky e r q s lq f =
        ⊎_elim
        (λ (lt : q < place). old_one (omega arith))
        (λ (ge : place ≤ q). ⊎_elim (λ (gt : place < q). old_one (omega arith)) (λ (le : q ≤ place). here (omega arith)) (cases_lt place q))
        (cases_lt q place)
      where
        old_one : q ≢ place → (d : D) × Contains last d × (key d ≡ (s, q))
        old_one apart = let (d, c, is) = listed_gone old new xs m by place x k l b p h q s lq apart f in (d, has_old new last d y r c, is)

        here : q ≡ place → (d : D) × Contains last d × (key d ≡ (s, q))
        here at =
            let g : end (get_or moved place 0) ≡ Some s = ap (λ z. end (get_or moved z 0)) (sym at) ∙ f in
            let same : t ≡ s = cc in
            (y, has_new new last y r, rw (at, ← same) ky)

    pub listed_stays : end (get_or moved place 0) ≡ None → Listed key end new moved m
    listed_stays e q s lq f =
        ⊎_elim
        (λ (lt : q < place). listed_gone old new xs m by place x k l b p h q s lq (omega arith) f)
        (λ (ge : place ≤ q). ⊎_elim (λ (gt : place < q). listed_gone old new xs m by place x k l b p h q s lq (omega arith) f) (λ (le : q ≤ place). here (omega arith)) (cases_lt place q))
        (cases_lt q place)
      where
        here : q ≡ place → (d : D) × Contains new d × (key d ≡ (s, q))
        here at = let g : end (get_or moved place 0) ≡ Some s = ap (λ z. end (get_or moved z 0)) (sym at) ∙ f in cc

  -- nothing is listed any more
  pub none_go : (due : List D) (xs : List ℕ) (n : ℕ) → length due ≡ 0 → n ≤ length xs → Listed key end due xs n → (p : ℕ) → p < length (take n xs) → is_some (end (get_or (take n xs) p 0)) ≡ false
  none_go due xs n none b h p l =
      let size : length (take n xs) ≡ n = length-take-le n xs b in
      let below : p < n = omega arith in
      let same : get_or (take n xs) p 0 ≡ get_or xs p 0 = get_or-take n xs p 0 below in
      rw same (go below (end (get_or xs p 0)) refl)
    where
      go : p < n → (o : Option ℕ) → end (get_or xs p 0) ≡ o → is_some o ≡ false
      go below None e = refl
      go below (Some t) e = let (d, c, is) = h p t below e in let z = c.1 in absurd (omega arith)
