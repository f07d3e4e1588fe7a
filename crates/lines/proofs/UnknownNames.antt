-- The first name among words that is unknown.
use Rattle.std.proofs.Common.{◌≡◌, ◌<◌, ◌≤◌, ◌+◌, ℕ, zero, suc, true, false, List, [], ◌∷◌, length, drop, get_or, Some, None, refl, arith, add-one}
use Rattle.std.specs.Borrow.{Bor}
use Rattle.lines.specs.Hints.{has_field, field_name, unknown_name}

module _ (form_words : List (Bor (List ℕ))) (d : Bor (List ℕ)) where
  -- the words from here on, if the word here has no name
  no_name_here : (words : List (Bor (List ℕ))) (i : ℕ) → i < length words → field_name (get_or words i d).now ≡ None → unknown_name form_words (drop i words) ≡ unknown_name form_words (drop (suc i) words)
  no_name_here [] i h e = absurd (omega arith)
  no_name_here (word ∷ words) zero h e = rw e refl
  no_name_here (word ∷ words) (suc i) h e = no_name_here words i (omega arith) e

  pub no_name : (words : List (Bor (List ℕ))) (i : ℕ) → i < length words → field_name (get_or words i d).now ≡ None → unknown_name form_words (drop i words) ≡ unknown_name form_words (drop (i + 1) words)
  no_name words i h e = rw add-one (no_name_here words i h e)

  -- if it is a field's
  known_here : (words : List (Bor (List ℕ))) (i : ℕ) (name : List ℕ) → i < length words → field_name (get_or words i d).now ≡ Some name → has_field form_words name ≡ true → unknown_name form_words (drop i words) ≡ unknown_name form_words (drop (suc i) words)
  known_here [] i name h e known = absurd (omega arith)
  known_here (word ∷ words) zero name h e known = rw (e, known) refl
  known_here (word ∷ words) (suc i) name h e known = known_here words i name (omega arith) e known

  pub known_name : (words : List (Bor (List ℕ))) (i : ℕ) (name : List ℕ) → i < length words → field_name (get_or words i d).now ≡ Some name → has_field form_words name ≡ true → unknown_name form_words (drop i words) ≡ unknown_name form_words (drop (i + 1) words)
  known_name words i name h e known = rw add-one (known_here words i name h e known)

  -- if it is none
  pub first_unknown : (words : List (Bor (List ℕ))) (i : ℕ) (name : List ℕ) → i < length words → field_name (get_or words i d).now ≡ Some name → has_field form_words name ≡ false → unknown_name form_words (drop i words) ≡ Some name
  first_unknown [] i name h e other = absurd (omega arith)
  first_unknown (word ∷ words) zero name h e other = rw (e, other) refl
  first_unknown (word ∷ words) (suc i) name h e other = first_unknown words i name (omega arith) e other

-- no words
pub none_unknown : (form_words words : List (Bor (List ℕ))) (i : ℕ) → length words ≤ i → unknown_name form_words (drop i words) ≡ None
none_unknown form_words [] zero h = refl
none_unknown form_words [] (suc i) h = refl
none_unknown form_words (word ∷ words) zero h = absurd (omega arith)
none_unknown form_words (word ∷ words) (suc i) h = none_unknown form_words words i (omega arith)
