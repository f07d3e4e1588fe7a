-- The handed-out state as it is read, pair by pair.
use Rattle.std.proofs.Common.{◌≡◌, ℕ, ◌+◌, ◌<◌, Bool, false, List, [], length, take, drop, get_or, Some, refl, ap, ◌∙◌}
use Rattle.std.specs.List.{list_all}
use Rattle.std.specs.Str.{IsUtf8, is_utf8}
use Rattle.std.proofs.lemmas.Str.{is_utf8-from_IsUtf8}
use Rattle.std.proofs.lemmas.List.Sums.{fold_push}
use Rattle.vm_state.specs.Entries.{entries_of, with_entry}
use Rattle.plain.proofs.Places.{from_place}
use Rattle.vm_types.proofs.Texts.{not_text, take_next}

abbrev pub Pair : Type 0
Pair = List ℕ × List ℕ

abbrev pub key_is_text : Pair → Bool
key_is_text p = is_utf8 p.0

pub some_key_no_text : (pairs : List Pair) (i : ℕ) (p : Pair) → i < length pairs → p ≡ get_or pairs i p → (IsUtf8 p.0 → ⊥)
    → list_all key_is_text pairs ≡ list_all key_is_text (drop i pairs) → list_all key_is_text pairs ≡ false
some_key_no_text pairs i p l e fails rest =
    rest ∙ ap (list_all key_is_text) (from_place pairs i p l e) ∙ rw (not_text p.0 fails) refl

pub key_text_more : (pairs : List Pair) (i : ℕ) (p : Pair) → i < length pairs → p ≡ get_or pairs i p → IsUtf8 p.0
    → list_all key_is_text pairs ≡ list_all key_is_text (drop i pairs) → list_all key_is_text pairs ≡ list_all key_is_text (drop (i + 1) pairs)
key_text_more pairs i p l e holds rest =
    rest ∙ ap (list_all key_is_text) (from_place pairs i p l e) ∙ rw (is_utf8-from_IsUtf8 p.0 holds) refl

pub entry_more : (pairs : List Pair) (i : ℕ) (p : Pair) → i < length pairs → p ≡ get_or pairs i p
    → entries_of (take (i + 1) pairs) ≡ with_entry p.0 (Some p.1) (entries_of (take i pairs))
entry_more pairs i p l e = ap entries_of (take_next pairs i p l e) ∙ fold_push (λ es p. with_entry p.0 (Some p.1) es) [] (take i pairs) p
