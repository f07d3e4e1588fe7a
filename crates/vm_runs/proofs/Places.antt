-- The first item of a list that passes a test, by its place.
use Rattle.std.proofs.Common.{◌≡◌, ℕ, zero, suc, ◌+◌, ◌<◌, ◌≤◌, List, [], ◌∷◌, ◌++◌, length, get_or, Bool, true, false, not, cond, Option, Some, None, refl, sym, ap, ◌∙◌, arith, inl, inr}
use Rattle.std.proofs.Math.ListN.{set}
use Rattle.std.specs.List.{find, position, position_or_len, remove}
use Rattle.std.proofs.lemmas.Bool.{cases_lt, lt-ltb}
use Rattle.std.specs.Option.{option_map, option_or}
use Rattle.std.proofs.lemmas.List.Folds.{find-append}
use Rattle.std.proofs.lemmas.List.Quantifiers.{position-Some}
use Rattle.vm_runs.specs.Firsts.{with_first, without_first}

-- no item passes
abbrev NonePasses : {A : Type 0} → (A → Bool) → List A → Type 0
NonePasses p xs = length xs ≤ position_or_len p xs

none_passes : {A : Type 0} (p : A → Bool) (xs : List A) → position p xs ≡ None → NonePasses p xs
none_passes p xs e = elim (cases_lt (position_or_len p xs) (length xs)) [
  | inl within ↦ absurd (none (sym (ap (λ t. cond t (Some (position_or_len p xs)) None) (lt-ltb (position_or_len p xs) (length xs) within)) ∙ e))
  | inr out ↦ out
]
  where
    none : {i : ℕ} → Some i ≡ None → ⊥
    none e = cc

-- the first item doesn't pass, nor does any other
others : {A : Type 0} (p : A → Bool) (x : A) (xs : List A) (b : Bool) → p x ≡ b → NonePasses p (x ∷ xs) → (p x ≡ false) × NonePasses p xs
others p x xs true e h = let z : position_or_len p (x ∷ xs) ≡ 0 = ap (λ t. cond (not t) (1 + position_or_len p xs) 0) e in absurd (omega arith)
others p x xs false e h = let z : position_or_len p (x ∷ xs) ≡ 1 + position_or_len p xs = ap (λ t. cond (not t) (1 + position_or_len p xs) 0) e in (e, omega arith)

find_none : {A : Type 0} (p : A → Bool) (xs : List A) → NonePasses p xs → find p xs ≡ None
find_none p [] h = refl
find_none p (x ∷ xs) h = let o = others p x xs (p x) refl h in ap (λ t. cond t (Some x) (find p xs)) o.0 ∙ find_none p xs o.1

without_none : {A : Type 0} (p : A → Bool) (xs : List A) → NonePasses p xs → without_first p xs ≡ xs
without_none p [] h = refl
without_none p (x ∷ xs) h = let o = others p x xs (p x) refl h in ap (λ t. cond t xs (x ∷ without_first p xs)) o.0 ∙ ap (λ ys. x ∷ ys) (without_none p xs o.1)

with_none : {A : Type 0} (p : A → Bool) (f : A → A) (xs : List A) → NonePasses p xs → with_first p f xs ≡ xs
with_none p f [] h = refl
with_none p f (x ∷ xs) h = let o = others p x xs (p x) refl h in ap (λ t. cond t (f x ∷ xs) (x ∷ with_first p f xs)) o.0 ∙ ap (λ ys. x ∷ ys) (with_none p f xs o.1)

pub no_find : {A : Type 0} (p : A → Bool) (xs : List A) → position p xs ≡ None → find p xs ≡ None
no_find p xs e = find_none p xs (none_passes p xs e)

pub no_removal : {A : Type 0} (p : A → Bool) (xs : List A) → position p xs ≡ None → without_first p xs ≡ xs
no_removal p xs e = without_none p xs (none_passes p xs e)

pub no_change : {A : Type 0} (p : A → Bool) (f : A → A) (xs : List A) → position p xs ≡ None → with_first p f xs ≡ xs
no_change p f xs e = with_none p f xs (none_passes p xs e)

-- ---- the item at a place passes, and none before it does

pub record FirstAt {A : Type 0} (p : A → Bool) (xs : List A) (i : ℕ) (d : A) : Type 0 where
  pub within : i < length xs
  pub passes : p (get_or xs i d) ≡ true
  pub before : (k : ℕ) → k < i → p (get_or xs k d) ≡ false

rest_first : {A : Type 0} (p : A → Bool) (x : A) (xs : List A) (i : ℕ) (d : A) → FirstAt p (x ∷ xs) (suc i) d → FirstAt p xs i d
rest_first p x xs i d h = record { within = omega (arith, h.within); passes = h.passes; before = λ k l. h.before (suc k) (omega arith) }

pub found : {A : Type 0} (p : A → Bool) (xs : List A) (i : ℕ) (d : A) → FirstAt p xs i d → find p xs ≡ Some (get_or xs i d)
found p [] i d h = absurd (omega (arith, h.within))
found p (x ∷ xs) zero d h = ap (λ t. cond t (Some x) (find p xs)) h.passes
found p (x ∷ xs) (suc i) d h = ap (λ t. cond t (Some x) (find p xs)) (h.before 0 (omega arith)) ∙ found p xs i d (rest_first p x xs i d h)

pub removed : {A : Type 0} (p : A → Bool) (xs : List A) (i : ℕ) (d : A) → FirstAt p xs i d → remove xs i ≡ without_first p xs
removed p [] i d h = absurd (omega (arith, h.within))
removed p (x ∷ xs) zero d h = sym (ap (λ t. cond t xs (x ∷ without_first p xs)) h.passes)
removed p (x ∷ xs) (suc i) d h =
    ap (λ ys. x ∷ ys) (removed p xs i d (rest_first p x xs i d h))
    ∙ sym (ap (λ t. cond t xs (x ∷ without_first p xs)) (h.before 0 (omega arith)))

pub changed : {A : Type 0} (p : A → Bool) (f : A → A) (xs : List A) (i : ℕ) (d : A) → FirstAt p xs i d → set xs i (f (get_or xs i d)) ≡ with_first p f xs
changed p f [] i d h = absurd (omega (arith, h.within))
changed p f (x ∷ xs) zero d h = sym (ap (λ t. cond t (f x ∷ xs) (x ∷ with_first p f xs)) h.passes)
changed p f (x ∷ xs) (suc i) d h =
    ap (λ ys. x ∷ ys) (changed p f xs i d (rest_first p x xs i d h))
    ∙ sym (ap (λ t. cond t (f x ∷ xs) (x ∷ with_first p f xs)) (h.before 0 (omega arith)))

pub first_at : {A : Type 0} (p : A → Bool) (xs : List A) (i : ℕ) (d : A) → Some i ≡ position p xs → FirstAt p xs i d
first_at p xs i d e = let h = position-Some p xs i d (sym e) in record { within = h.0; passes = h.1; before = h.2 }

-- ---- two lists, one after the other

pub without_later : {A : Type 0} (p : A → Bool) (xs ys : List A) → find p xs ≡ None → without_first p (xs ++ ys) ≡ without_first p xs ++ without_first p ys
without_later p [] ys e = refl
without_later p (x ∷ xs) ys e = at (p x) (without_later p xs ys) e
  where
    none : Some x ≡ None → ⊥
    none e = cc

    at : (b : Bool) → (find p xs ≡ None → without_first p (xs ++ ys) ≡ without_first p xs ++ without_first p ys) → cond b (Some x) (find p xs) ≡ None
        → cond b (xs ++ ys) (x ∷ without_first p (xs ++ ys)) ≡ cond b xs (x ∷ without_first p xs) ++ without_first p ys
    at true rest e = absurd (none e)
    at false rest e = ap (λ l. x ∷ l) (rest e)

pub without_earlier : {A : Type 0} (p : A → Bool) (xs ys : List A) (a : A) → find p xs ≡ Some a → without_first p (xs ++ ys) ≡ without_first p xs ++ ys
without_earlier p [] ys a e = absurd (none e)
  where
    none : None ≡ Some a → ⊥
    none e = cc
without_earlier p (x ∷ xs) ys a e = at (p x) (without_earlier p xs ys a) e
  where
    at : (b : Bool) → (find p xs ≡ Some a → without_first p (xs ++ ys) ≡ without_first p xs ++ ys) → cond b (Some x) (find p xs) ≡ Some a
        → cond b (xs ++ ys) (x ∷ without_first p (xs ++ ys)) ≡ cond b xs (x ∷ without_first p xs) ++ ys
    at true rest e = refl
    at false rest e = ap (λ l. x ∷ l) (rest e)

pub with_later : {A : Type 0} (p : A → Bool) (f : A → A) (xs ys : List A) → find p xs ≡ None → with_first p f (xs ++ ys) ≡ with_first p f xs ++ with_first p f ys
with_later p f [] ys e = refl
with_later p f (x ∷ xs) ys e = at (p x) (with_later p f xs ys) e
  where
    none : Some x ≡ None → ⊥
    none e = cc

    at : (b : Bool) → (find p xs ≡ None → with_first p f (xs ++ ys) ≡ with_first p f xs ++ with_first p f ys) → cond b (Some x) (find p xs) ≡ None
        → cond b (f x ∷ xs ++ ys) (x ∷ with_first p f (xs ++ ys)) ≡ cond b (f x ∷ xs) (x ∷ with_first p f xs) ++ with_first p f ys
    at true rest e = absurd (none e)
    at false rest e = ap (λ l. x ∷ l) (rest e)

pub with_earlier : {A : Type 0} (p : A → Bool) (f : A → A) (xs ys : List A) (a : A) → find p xs ≡ Some a → with_first p f (xs ++ ys) ≡ with_first p f xs ++ ys
with_earlier p f [] ys a e = absurd (none e)
  where
    none : None ≡ Some a → ⊥
    none e = cc
with_earlier p f (x ∷ xs) ys a e = at (p x) (with_earlier p f xs ys a) e
  where
    at : (b : Bool) → (find p xs ≡ Some a → with_first p f (xs ++ ys) ≡ with_first p f xs ++ ys) → cond b (Some x) (find p xs) ≡ Some a
        → cond b (f x ∷ xs ++ ys) (x ∷ with_first p f (xs ++ ys)) ≡ cond b (f x ∷ xs) (x ∷ with_first p f xs) ++ ys
    at true rest e = refl
    at false rest e = ap (λ l. x ∷ l) (rest e)

either : {A B : Type 0} (f : A → B) (b : B) (o q : Option A) → Some b ≡ option_map f o → Some b ≡ option_map f (option_or o q)
either f b None q e = absurd (none e)
  where
    none : Some b ≡ None → ⊥
    none e = cc
either f b (Some a) q e = e

neither : {A B : Type 0} (f : A → B) (o q : Option A) → None ≡ option_map f o → o ≡ None
neither f None q e = refl
neither f (Some a) q e = absurd (none e)
  where
    none : None ≡ Some (f a) → ⊥
    none e = cc

module _ {A B : Type 0} (f : A → B) (p : A → Bool) (xs ys : List A) where
  pub none_of : None ≡ option_map f (find p xs) → find p xs ≡ None
  none_of e = neither f (find p xs) None e

  -- what the first list has is what both have
  pub earlier_of : (b : B) → Some b ≡ option_map f (find p xs) → Some b ≡ option_map f (find p (xs ++ ys))
  earlier_of b e = either f b (find p xs) (find p ys) e ∙ sym (ap (option_map f) (find-append p xs ys))

  pub later_of : (o : Option B) → None ≡ option_map f (find p xs) → o ≡ option_map f (find p ys) → o ≡ option_map f (find p (xs ++ ys))
  later_of o none e = e ∙ sym (ap (option_map f) (find-append p xs ys ∙ ap (λ q. option_or q (find p ys)) (none_of none)))

  pub with_earlier_of : (change : A → A) (b : B) → Some b ≡ option_map f (find p xs) → with_first p change xs ++ ys ≡ with_first p change (xs ++ ys)
  with_earlier_of change b e = at (find p xs) refl e
    where
      none : Some b ≡ None → ⊥
      none e = cc

      at : (o : Option A) → find p xs ≡ o → Some b ≡ option_map f o → with_first p change xs ++ ys ≡ with_first p change (xs ++ ys)
      at None found e = absurd (none e)
      at (Some a) found e = sym (with_earlier p change xs ys a found)

  pub without_earlier_of : (b : B) → Some b ≡ option_map f (find p xs) → without_first p xs ++ ys ≡ without_first p (xs ++ ys)
  without_earlier_of b e = at (find p xs) refl e
    where
      none : Some b ≡ None → ⊥
      none e = cc

      at : (o : Option A) → find p xs ≡ o → Some b ≡ option_map f o → without_first p xs ++ ys ≡ without_first p (xs ++ ys)
      at None found e = absurd (none e)
      at (Some a) found e = sym (without_earlier p xs ys a found)

pub found_earlier : {A : Type 0} (p : A → Bool) (xs ys : List A) (a : A) → Some a ≡ find p xs → Some a ≡ find p (xs ++ ys)
found_earlier p xs ys a e = ap (λ o. option_or o (find p ys)) e ∙ sym (find-append p xs ys)

pub found_later : {A : Type 0} (p : A → Bool) (xs ys : List A) (o : Option A) → None ≡ find p xs → o ≡ find p ys → o ≡ find p (xs ++ ys)
found_later p xs ys o none e = e ∙ ap (λ q. option_or q (find p ys)) none ∙ sym (find-append p xs ys)
