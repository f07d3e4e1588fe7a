-- Children that go, the last one taking the place of each.
use Rattle.std.proofs.Common.{◌≡◌, ℕ, zero, suc, ◌-◌, ◌<◌, ◌≤◌, Bool, true, false, List, [], ◌∷◌, length, take, get_or, refl, sym, ap, ◌∙◌, arith}
use Rattle.std.proofs.Math.ListN.{set}
use Rattle.await_tries.specs.Pruned.{Put, here, later, Swept, none_left, gone, kept}

-- a list with its last element used to the front
abbrev put_second : {X : Type 0} → X → List X → List X
put_second x [] = x ∷ []
put_second x (y ∷ ys) = y ∷ x ∷ ys

abbrev last_first : {X : Type 0} → List X → List X
last_first [] = []
last_first (x ∷ xs) = put_second x (last_first xs)

put_turn : {c d : ℕ} {xs ys zs : List ℕ} → Put c xs ys → Put d ys zs → (us : List ℕ) × Put d xs us × Put c us zs
put_turn {c} {d} {xs} a here = (d ∷ xs, here, later a)
put_turn here (later b) = (_, b, here)
put_turn (later a) (later b) = let (us, p, q) = put_turn a b in (_ ∷ us, later p, later q)

last_of : (ys : List ℕ) (m : ℕ) → suc m ≤ length ys → last_first (take (suc m) ys) ≡ get_or ys m 0 ∷ take m ys
last_of [] m h = absurd (omega arith)
last_of (y ∷ ys) zero h = refl
last_of (y ∷ ys) (suc m) h = rw (last_of ys m (omega arith)) refl

turned : (ys : List ℕ) (m x : ℕ) → m ≤ length ys → (0 < m → x ≡ get_or ys (m - 1) 0) → take m (x ∷ ys) ≡ last_first (take m ys)
turned ys zero x h e = refl
turned ys (suc m) x h e =
    let f : x ≡ get_or ys m 0 = e (omega arith) ∙ ap (λ z. get_or ys z 0) (omega arith) in
    rw f (sym (last_of ys m h))

module _ (v : ℕ → Bool) where
  swept_turn : {c d : ℕ} {cs rs : List ℕ} → Swept v (c ∷ d ∷ cs) rs → Swept v (d ∷ c ∷ cs) rs
  swept_turn (gone h (gone e rest)) = gone e (gone h rest)
  swept_turn (gone h (kept e rest a)) = kept e (gone h rest) a
  swept_turn (kept h (gone e rest) a) = gone e (kept h rest a)
  swept_turn (kept h (kept e rest a) b) = let (xs, p, q) = put_turn a b in kept e (kept h rest p) q

  swept_second : (c : ℕ) (cs rs : List ℕ) → Swept v (put_second c cs) rs → Swept v (c ∷ cs) rs
  swept_second c [] rs s = s
  swept_second c (d ∷ cs) rs s = swept_turn s

  swept_more : (c : ℕ) (cs ds : List ℕ) → ((rs : List ℕ) → Swept v cs rs → Swept v ds rs) → (rs : List ℕ) → Swept v (c ∷ cs) rs → Swept v (c ∷ ds) rs
  swept_more c cs ds f rs (gone h rest) = gone h (f _ rest)
  swept_more c cs ds f rs (kept h rest a) = kept h (f _ rest) a

  swept_last_first : (cs rs : List ℕ) → Swept v (last_first cs) rs → Swept v cs rs
  swept_last_first [] rs s = s
  swept_last_first (c ∷ cs) rs s = swept_more c _ _ (swept_last_first cs) rs (swept_second c (last_first cs) rs s)

  -- the child at a place goes, and the last of the first m + 1 comes there
  pub goes : (xs : List ℕ) (p m : ℕ) → p ≤ m → m < length xs → v (get_or xs p 0) ≡ true → (rs : List ℕ) → Swept v (take m (set xs p (get_or xs m 0))) rs → Swept v (take (suc m) xs) rs
  goes [] p m l b h rs s = absurd (omega arith)
  goes (x ∷ xs) zero m l b h rs s =
      let last : 0 < m → get_or (x ∷ xs) m 0 ≡ get_or xs (m - 1) 0 = λ z. at_last xs x m z in
      gone h (swept_last_first (take m xs) rs (rw (turned xs m (get_or (x ∷ xs) m 0) (omega arith) last) at s))
    where
      at_last : (xs : List ℕ) (x m : ℕ) → 0 < m → get_or (x ∷ xs) m 0 ≡ get_or xs (m - 1) 0
      at_last xs x zero z = absurd (omega arith)
      at_last xs x (suc m) z = ap (λ k. get_or xs k 0) (omega arith)
  goes (x ∷ xs) (suc p) zero l b h rs s = absurd (omega arith)
  goes (x ∷ xs) (suc p) (suc m) l b h rs s = swept_more x _ _ (λ us t. goes xs p m (omega arith) (omega arith) h us t) rs s

  -- if no child is removed, all are left
  pub all_stay : (cs : List ℕ) → ((p : ℕ) → p < length cs → v (get_or cs p 0) ≡ false) → Swept v cs cs
  all_stay [] h = none_left
  all_stay (c ∷ cs) h = kept (h 0 (omega arith)) (all_stay cs (λ p l. h (suc p) (omega arith))) here

pub under_set : (xs : List ℕ) (i x n : ℕ) → ((k : ℕ) → k < length xs → get_or xs k 0 < n) → x < n → (k : ℕ) → k < length (set xs i x) → get_or (set xs i x) k 0 < n
under_set [] i x n h l k b = absurd (omega arith)
under_set (y ∷ ys) zero x n h l zero b = l
under_set (y ∷ ys) zero x n h l (suc k) b = h (suc k) b
under_set (y ∷ ys) (suc i) x n h l zero b = h 0 (omega arith)
under_set (y ∷ ys) (suc i) x n h l (suc k) b = under_set ys i x n (λ j c. h (suc j) (omega arith)) l k (omega arith)
