-- The first item that passes a test: if there is none, and what a function makes of it.
use Rattle.std.proofs.Common.{◌≡◌, Bool, true, false, cond, List, [], ◌∷◌, Option, Some, None, refl, ap}
use Rattle.std.specs.List.{find}
use Rattle.std.specs.Option.{option_map}
use Rattle.vm_runs.specs.Firsts.{without_first}

pub not_found : {A : Type 0} (p : A → Bool) (xs : List A) → find p xs ≡ None → without_first p xs ≡ xs
not_found p [] e = refl
not_found p (x ∷ xs) e = by_test (p x) (not_found p xs) e
  where
    by_test : (b : Bool) → (find p xs ≡ None → without_first p xs ≡ xs) → cond b (Some x) (find p xs) ≡ None → cond b xs (x ∷ without_first p xs) ≡ x ∷ xs
    by_test true more h = absurd cc
    by_test false more h = ap (λ l. x ∷ l) (more h)

pub mapped_none : {A B : Type 0} (f : A → B) (o : Option A) → None ≡ option_map f o → o ≡ None
mapped_none f None e = refl
mapped_none f (Some x) e = absurd cc

pub mapped_some : {A B : Type 0} (f : A → B) (o : Option A) (y : B) → Some y ≡ option_map f o → (x : A) × (o ≡ Some x) × (y ≡ f x)
mapped_some f None y e = absurd cc
mapped_some f (Some x) y e = (x, refl, same)
  where
    same : y ≡ f x
    same = cc
