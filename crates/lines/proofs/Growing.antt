-- Lists that grow side by side.
use Rattle.std.proofs.Common.{◌≡◌, ◌<◌, ◌+◌, ◌++◌, ℕ, List, [], ◌∷◌, length, take, get_or, sym, subst}
use Rattle.std.proofs.lemmas.List.{take_more}
use Rattle.std.specs.List.{AllZip}

-- one more at the end
pub zip_push : {A B : Type 0} (R : A → B → Type 0) (xs : List A) (ys : List B) (x : A) (y : B) → AllZip R xs ys → R x y → AllZip R (xs ++ x ∷ []) (ys ++ y ∷ [])
zip_push R [] [] x y all more = (more, tt)
zip_push R [] (b ∷ ys) x y all more = absurd all
zip_push R (a ∷ xs) [] x y all more = absurd all
zip_push R (a ∷ xs) (b ∷ ys) x y all more = (all.0, zip_push R xs ys x y all.1 more)

-- one more, at the next place
pub zip_more : {A B : Type 0} (R : A → B → Type 0) (xs : List A) (i : ℕ) (d : A) (ys after : List B) (y : B) → i < length xs → AllZip R (take i xs) ys → R (get_or xs i d) y → after ≡ ys ++ y ∷ [] → AllZip R (take (i + 1) xs) after
zip_more R xs i d ys after y h all more is =
    let pushed = zip_push R (take i xs) ys (get_or xs i d) y all more in
    subst (λ zs. AllZip R (take (i + 1) xs) zs) (sym is) (subst (λ ws. AllZip R ws (ys ++ y ∷ [])) (sym (take_more xs i d h)) pushed)
