-- Keys that are texts.
use Rattle.std.proofs.Common.{◌≡◌, ℕ, Bool, true, false, ◌&&◌, List, [], ◌∷◌, ◌++◌, refl, sym, ap, ◌∙◌}
use Rattle.std.specs.List.{list_all}
use Rattle.std.specs.Str.{IsUtf8, is_utf8}
use Rattle.std.proofs.lemmas.Str.{is_utf8-from_IsUtf8}
use Rattle.world_rounds.specs.States.{HaveTextKeys}

pub text_is : (bytes : List ℕ) → IsUtf8 bytes → is_utf8 bytes ≡ true
text_is bytes h = is_utf8-from_IsUtf8 bytes h

pub texts_more : (pairs : List (List ℕ × List ℕ)) (key value : List ℕ) → HaveTextKeys pairs → is_utf8 key ≡ true → HaveTextKeys (pairs ++ (key, value) ∷ [])
texts_more [] key value h is = ap (λ b. b && true) is
texts_more (p ∷ pairs) key value h is = by_test (is_utf8 p.0) h (texts_more pairs key value)
  where
    by_test : (b : Bool) → (b && list_all (λ p. is_utf8 p.0) pairs) ≡ true → (HaveTextKeys pairs → is_utf8 key ≡ true → HaveTextKeys (pairs ++ (key, value) ∷ [])) → (b && list_all (λ p. is_utf8 p.0) (pairs ++ (key, value) ∷ [])) ≡ true
    by_test true e ih = ih e is
    by_test false e ih = absurd (let z : false ≡ true = e in cc)
