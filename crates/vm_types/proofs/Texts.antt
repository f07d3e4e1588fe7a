-- Bytes that are texts.
use Rattle.std.proofs.Common.{◌≡◌, ℕ, ◌+◌, ◌<◌, Bool, true, false, List, [], ◌∷◌, ◌++◌, length, take, drop, get_or, refl, sym, ap, ◌∙◌}
use Rattle.std.specs.List.{list_all}
use Rattle.std.specs.Str.{IsUtf8, is_utf8}
use Rattle.std.proofs.lemmas.Str.{IsUtf8-from_is_utf8, is_utf8-from_IsUtf8}
use Rattle.std.proofs.lemmas.List.{take_more}
use Rattle.plain.proofs.Places.{from_place}

is_false : (b : Bool) → (b ≡ true → ⊥) → b ≡ false
is_false true h = absurd (h refl)
is_false false h = refl

-- the test of bytes that are no text
pub not_text : (bytes : List ℕ) → (IsUtf8 bytes → ⊥) → is_utf8 bytes ≡ false
not_text bytes fails = is_false (is_utf8 bytes) (λ t. fails (IsUtf8-from_is_utf8 bytes t))

-- one that is no text, at its place
pub some_no_text : (keys : List (List ℕ)) (i : ℕ) (key : List ℕ) → i < length keys → key ≡ get_or keys i key → (IsUtf8 key → ⊥)
    → list_all is_utf8 keys ≡ list_all is_utf8 (drop i keys) → list_all is_utf8 keys ≡ false
some_no_text keys i key l e fails rest =
    rest ∙ ap (list_all is_utf8) (from_place keys i key l e) ∙ rw (not_text key fails) refl

-- one more that is a text
pub text_more : (keys : List (List ℕ)) (i : ℕ) (key : List ℕ) → i < length keys → key ≡ get_or keys i key → IsUtf8 key
    → list_all is_utf8 keys ≡ list_all is_utf8 (drop i keys) → list_all is_utf8 keys ≡ list_all is_utf8 (drop (i + 1) keys)
text_more keys i key l e holds rest =
    rest ∙ ap (list_all is_utf8) (from_place keys i key l e) ∙ rw (is_utf8-from_IsUtf8 key holds) refl

pub take_next : {X : Type 0} (xs : List X) (i : ℕ) (x : X) → i < length xs → x ≡ get_or xs i x → take (i + 1) xs ≡ take i xs ++ x ∷ []
take_next xs i x l e = take_more xs i x l ∙ ap (λ y. take i xs ++ y ∷ []) (sym e)
