-- What is among a list, and the element at a place.
use Rattle.std.proofs.Common.{◌≡◌, ◌⊎◌, inl, inr, zero, suc, slice_index_or, slice_set, ℕ, ◌<◌, ◌≤◌, Bool, true, false, List, [], ◌∷◌, ◌++◌, length, Some, None, refl, sym, ap, ◌∙◌, subst, arith}
use Rattle.std.specs.Prelude.{◌||◌, slice_get}
use Rattle.std.specs.List.{AllByRecursion, AllZip, remove}
use Rattle.engine_inboxes.specs.declared.types.Waiting.{Waiting}
use Rattle.engine_inboxes.specs.Deliverable.{WaitOnce, is_waited, waits_for_id}
use Rattle.engines.specs.Between.{IsOneOf}

pub all_among : {A : Type 0} (P : A → Type 0) (xs : List A) (x : A) → AllByRecursion P xs → IsOneOf x xs → P x
all_among P [] x a h = absurd h
all_among P (y ∷ ys) x a (inl e) = subst P (sym e) a.0
all_among P (y ∷ ys) x a (inr h) = all_among P ys x a.1 h

-- what is so of each of them follows from what was
pub all_with : {A : Type 0} (P Q : A → Type 0) (xs : List A) → ((x : A) → IsOneOf x xs → P x → Q x) → AllByRecursion P xs → AllByRecursion Q xs
all_with P Q [] f a = tt
all_with P Q (x ∷ xs) f a = (f x (inl refl) a.0, all_with P Q xs (λ y h. f y (inr h)) a.1)

pub all_push : {A : Type 0} (P : A → Type 0) (xs : List A) (x : A) → AllByRecursion P xs → P x → AllByRecursion P (xs ++ x ∷ [])
all_push P [] x a p = (p, tt)
all_push P (y ∷ ys) x a p = (a.0, all_push P ys x a.1 p)

pub zip_with : {A B : Type 0} (R S : A → B → Type 0) (xs : List A) (ys : List B) → ((x : A) (y : B) → R x y → S x y) → AllZip R xs ys → AllZip S xs ys
zip_with R S [] [] f a = tt
zip_with R S [] (y ∷ ys) f a = absurd a
zip_with R S (x ∷ xs) [] f a = absurd a
zip_with R S (x ∷ xs) (y ∷ ys) f a = (f x y a.0, zip_with R S xs ys f a.1)

pub zip_push : {A B : Type 0} (R : A → B → Type 0) (xs : List A) (ys : List B) (x : A) (y : B) → AllZip R xs ys → R x y → AllZip R (xs ++ x ∷ []) (ys ++ y ∷ [])
zip_push R [] [] x y a r = (r, tt)
zip_push R [] (z ∷ zs) x y a r = absurd a
zip_push R (z ∷ zs) [] x y a r = absurd a
zip_push R (v ∷ vs) (z ∷ zs) x y a r = (a.0, zip_push R vs zs x y a.1 r)

pub among_left : {A : Type 0} (xs ys : List A) (x : A) → IsOneOf x xs → IsOneOf x (xs ++ ys)
among_left [] ys x h = absurd h
among_left (y ∷ xs) ys x (inl e) = inl e
among_left (y ∷ xs) ys x (inr h) = inr (among_left xs ys x h)

pub among_right : {A : Type 0} (xs ys : List A) (x : A) → IsOneOf x ys → IsOneOf x (xs ++ ys)
among_right [] ys x h = h
among_right (y ∷ xs) ys x h = inr (among_right xs ys x h)

pub among_either : {A : Type 0} (xs ys : List A) (x : A) → IsOneOf x (xs ++ ys) → IsOneOf x xs ⊎ IsOneOf x ys
among_either [] ys x h = inr h
among_either (y ∷ xs) ys x (inl e) = inl (inl e)
among_either (y ∷ xs) ys x (inr h) = elim (among_either xs ys x h) as (λ _. IsOneOf x (y ∷ xs) ⊎ IsOneOf x ys) [ inl a ↦ inl (inr a) | inr b ↦ inr b ]

pub among_at : {A : Type 0} (xs : List A) (i : ℕ) (x : A) → i < length xs → x ≡ slice_index_or xs i x → IsOneOf x xs
among_at [] i x lt is = absurd (omega (arith, lt))
among_at (y ∷ ys) zero x lt is = inl is
among_at (y ∷ ys) (suc i) x lt is = inr (among_at ys i x (omega (arith, lt)) is)

-- it is the one that was taken out, or still there
pub among_kept : {A : Type 0} (xs : List A) (i : ℕ) (w v : A) → i < length xs → w ≡ slice_index_or xs i w → IsOneOf v xs → (v ≡ w) ⊎ IsOneOf v (remove xs i)
among_kept [] i w v lt is h = absurd h
among_kept (x ∷ xs) zero w v lt is (inl e) = inl (e ∙ sym is)
among_kept (x ∷ xs) zero w v lt is (inr h) = inr h
among_kept (x ∷ xs) (suc i) w v lt is (inl e) = inr (inl e)
among_kept (x ∷ xs) (suc i) w v lt is (inr h) = elim (among_kept xs i w v (omega (arith, lt)) is h) as (λ _. (v ≡ w) ⊎ IsOneOf v (remove (x ∷ xs) (suc i))) [ inl e ↦ inl e | inr r ↦ inr (inr r) ]

pub among_rest : {A : Type 0} (xs : List A) (i : ℕ) (v : A) → IsOneOf v (remove xs i) → IsOneOf v xs
among_rest [] zero v h = h
among_rest [] (suc i) v h = h
among_rest (x ∷ xs) zero v h = inr h
among_rest (x ∷ xs) (suc i) v (inl e) = inl e
among_rest (x ∷ xs) (suc i) v (inr h) = inr (among_rest xs i v h)

-- ---- what waits

none_both : (b : Bool) → b ≡ true → b ≡ false → ⊥
none_both b t f = let x : true ≡ false = sym t ∙ f in cc

-- two that wait for one id are one
pub one_each : (ws : List Waiting) (v w : Waiting) (id : ℕ) → WaitOnce ws → IsOneOf v ws → IsOneOf w ws → waits_for_id id v ≡ true → waits_for_id id w ≡ true → v ≡ w
one_each [] v w id o a b f g = absurd a
one_each (x ∷ xs) v w id o (inl a) (inl b) f g = a ∙ sym b
one_each (x ∷ xs) v w id o (inl a) (inr b) f g = absurd (none_both (waits_for_id id w) g (all_among (λ y. (q : ℕ) → waits_for_id q x ≡ true → waits_for_id q y ≡ false) xs w o.0 b id (ap (waits_for_id id) (sym a) ∙ f)))
one_each (x ∷ xs) v w id o (inr a) (inl b) f g = absurd (none_both (waits_for_id id v) f (all_among (λ y. (q : ℕ) → waits_for_id q x ≡ true → waits_for_id q y ≡ false) xs v o.0 a id (ap (waits_for_id id) (sym b) ∙ g)))
one_each (x ∷ xs) v w id o (inr a) (inr b) f g = one_each xs v w id o.1 a b f g

or_true : (b : Bool) → (b || true) ≡ true
or_true true = refl
or_true false = refl

pub waited_among : (ws : List Waiting) (w : Waiting) (id : ℕ) → IsOneOf w ws → waits_for_id id w ≡ true → is_waited id ws ≡ true
waited_among [] w id h f = absurd h
waited_among (x ∷ xs) w id (inl e) f = ap (λ b. b || is_waited id xs) (ap (waits_for_id id) (sym e) ∙ f)
waited_among (x ∷ xs) w id (inr h) f = ap (λ b. waits_for_id id x || b) (waited_among xs w id h f) ∙ or_true (waits_for_id id x)

-- ---- the element at a place

pub get_read : {A : Type 0} (xs : List A) (i : ℕ) (x : A) → i < length xs → x ≡ slice_index_or xs i x → slice_get xs i ≡ Some x
get_read [] i x lt is = absurd (omega (arith, lt))
get_read (y ∷ ys) zero x lt is = ap (λ v. Some v) (sym is)
get_read (y ∷ ys) (suc i) x lt is = get_read ys i x (omega (arith, lt)) is

pub get_past : {A : Type 0} (xs : List A) (i : ℕ) → length xs ≤ i → slice_get xs i ≡ None
get_past [] i le = refl
get_past (y ∷ ys) zero le = absurd (omega (arith, le))
get_past (y ∷ ys) (suc i) le = get_past ys i (omega (arith, le))

pub get_within : {A : Type 0} (xs : List A) (i : ℕ) (x : A) → slice_get xs i ≡ Some x → i < length xs
get_within [] i x e = absurd (cc)
get_within (y ∷ ys) zero x e = omega arith
get_within (y ∷ ys) (suc i) x e = let h : i < length ys = get_within ys i x e in omega (arith, h)

pub get_set : {A : Type 0} (xs : List A) (i : ℕ) (x : A) → i < length xs → slice_get (slice_set xs i x) i ≡ Some x
get_set [] i x lt = absurd (omega (arith, lt))
get_set (y ∷ ys) zero x lt = refl
get_set (y ∷ ys) (suc i) x lt = get_set ys i x (omega (arith, lt))

pub get_other : {A : Type 0} (xs : List A) (i k : ℕ) (x : A) → (k ≡ i → ⊥) → slice_get (slice_set xs i x) k ≡ slice_get xs k
get_other [] i k x ne = refl
get_other (y ∷ ys) zero zero x ne = absurd (ne refl)
get_other (y ∷ ys) zero (suc k) x ne = refl
get_other (y ∷ ys) (suc i) zero x ne = refl
get_other (y ∷ ys) (suc i) (suc k) x ne = get_other ys i k x (λ e. ne (ap (λ n. suc n) e))

pub get_left : {A : Type 0} (xs ys : List A) (i : ℕ) (x : A) → slice_get xs i ≡ Some x → slice_get (xs ++ ys) i ≡ Some x
get_left [] ys i x e = absurd (cc)
get_left (z ∷ zs) ys zero x e = e
get_left (z ∷ zs) ys (suc i) x e = get_left zs ys i x e

pub get_last : {A : Type 0} (xs : List A) (x : A) → slice_get (xs ++ x ∷ []) (length xs) ≡ Some x
get_last [] x = refl
get_last (z ∷ zs) x = get_last zs x

pub get_pushed : {A : Type 0} (xs : List A) (y : A) (i : ℕ) (x : A) → slice_get (xs ++ y ∷ []) i ≡ Some x → (slice_get xs i ≡ Some x) ⊎ ((i ≡ length xs) × (y ≡ x))
get_pushed [] y zero x e = inr (refl, cc)
get_pushed [] y (suc i) x e = absurd (cc)
get_pushed (z ∷ zs) y zero x e = inl e
get_pushed (z ∷ zs) y (suc i) x e = elim (get_pushed zs y i x e) as (λ _. (slice_get (z ∷ zs) (suc i) ≡ Some x) ⊎ ((suc i ≡ length (z ∷ zs)) × (y ≡ x))) [ inl a ↦ inl a | inr b ↦ inr (ap (λ n. suc n) b.0, b.1) ]

pub first_none : {A : Type 0} (xs : List A) → slice_get xs 0 ≡ None → xs ≡ []
first_none [] e = refl
first_none (x ∷ xs) e = absurd (cc)
