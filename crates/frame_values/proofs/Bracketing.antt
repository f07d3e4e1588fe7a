-- A text has one case, so what stands after its word is refused only if the text says nothing.
use Rattle.std.proofs.Common.{◌≡◌, ◌≢◌, ◌++◌, ◌==◌, ℕ, Bool, true, false, if◌then◌else◌, List, [], ◌∷◌, Option, Some, None, length, take, drop, nat_eq, ap, sym, refl, subst, ◌∙◌, arith}
use Rattle.std.specs.Borrow.{Bor}
use Rattle.std.specs.Cmp.Lexicographic.{pointwise}
use Rattle.std.proofs.Math.Seq.{drop-append_seam, take-append_seam}
use Rattle.std.proofs.lemmas.List.{append_cancel_right, take-append-drop}
use Rattle.std.proofs.lemmas.Slice.Eq.{bytes_eq-Decides}
use Rattle.plain.specs.declared.fault.Fault.{Fault}
use Rattle.plain.specs.declared.fault.Fault.TheVariants.{Malformed}
use Rattle.lines.specs.Readings.{Blames}
use Rattle.lines.specs.Pieces.{AreWords, IsWithin, outside, place}
use Rattle.lines.proofs.Closing.{words_close}
use Rattle.lines.proofs.Once.{words_once}
use Rattle.lines.specs.Fields.{is_named, text_behind}
use Rattle.frame_values.specs.Notation.{AreFields, AreInside, Fields, HoldsAfterWord, HoldsFields, IsBehind, Notation, SaysInside}
use Rattle.frame_values.proofs.Refusing.{same_fields}

-- texts that compare as unequal are unequal
pub unequal : (xs ys : List ℕ) → pointwise nat_eq xs ys ≡ false → xs ≢ ys
unequal xs ys differ e = cc (sym differ ∙ (bytes_eq-Decides xs ys).1 e)

-- what stands in front of the first round bracket
abbrev pub front : List ℕ → List ℕ
front [] = []
front (b ∷ text) = if b == 40 then [] else b ∷ front text

-- a word without a bracket
abbrev pub IsPlainWord : List ℕ → Type 0
IsPlainWord word = (rest : List ℕ) → front (word ++ 40 ∷ rest) ≡ word

behind_is : (word text behind : List ℕ) → text_behind word text ≡ Some behind → text ≡ word ++ behind
unfolding text_behind
behind_is word text behind e = go (is_named word text) refl e
  where
    go : (b : Bool) → is_named word text ≡ b → (if b then Some (drop (length word) text) else None) ≡ Some behind → text ≡ word ++ behind
    go false at e = absurd (cc e)
    go true at e =
        let begins : word ≡ take (length word) text = (bytes_eq-Decides word (take (length word) text)).0 at in
        let rest : drop (length word) text ≡ behind = cc e in
        sym (take-append-drop (length word) text) ∙ ap (λ l. l ++ drop (length word) text) (sym begins) ∙ ap (λ l. word ++ l) rest

is_behind : (word text behind : List ℕ) → text ≡ word ++ behind → text_behind word text ≡ Some behind
unfolding text_behind
is_behind word text behind e =
    let begins : word ≡ take (length word) text = sym (ap (take (length word)) e ∙ take-append_seam word behind) in
    let named : is_named word text ≡ true = (bytes_eq-Decides word (take (length word) text)).1 begins in
    rw named (ap Some (ap (drop (length word)) e ∙ drop-append_seam word behind))

pub begins_with : (word text behind : List ℕ) → text_behind word text ≡ Some behind → text ≡ word ++ behind
begins_with word text behind at = behind_is word text behind at

pub begins_without : (word text : List ℕ) → text_behind word text ≡ None → (behind : List ℕ) → text ≢ word ++ behind
begins_without word text none behind e = cc (sym none ∙ is_behind word text behind e)

front_is : (word text inside : List ℕ) → IsPlainWord word → IsBehind word text inside → front text ≡ word
front_is word text inside plain is = ap front is ∙ plain (inside ++ 41 ∷ [])

-- one text stands in the brackets
inside_once : (word text xs ys : List ℕ) → IsBehind word text xs → IsBehind word text ys → xs ≡ ys
inside_once word text xs ys p q =
    let same : 40 ∷ (xs ++ 41 ∷ []) ≡ 40 ∷ (ys ++ 41 ∷ []) =
    sym (drop-append_seam word (40 ∷ (xs ++ 41 ∷ []))) ∙ ap (drop (length word)) (sym p ∙ q) ∙ drop-append_seam word (40 ∷ (ys ++ 41 ∷ [])) in
    append_cancel_right xs ys (41 ∷ []) (ap (drop 1) same)

-- ---- what stands after a word

pub within_behind : (word text behind inside : List ℕ) → text_behind word text ≡ Some behind → IsWithin 40 41 behind inside → IsBehind word text inside
within_behind word text behind inside at within = behind_is word text behind at ∙ ap (λ b. word ++ b) within

-- another word, or no bracket
pub not_behind : (word text inside : List ℕ) → text_behind word text ≡ None → IsBehind word text inside → ⊥
not_behind word text inside none is = cc (sym none ∙ is_behind word text (40 ∷ (inside ++ 41 ∷ [])) is)

pub not_within : (word text behind inside : List ℕ) → text_behind word text ≡ Some behind → ((xs : List ℕ) → IsWithin 40 41 behind xs → ⊥) → IsBehind word text inside → ⊥
not_within word text behind inside at none is =
    let same : behind ≡ 40 ∷ (inside ++ 41 ∷ []) = cc (sym at ∙ is_behind word text (40 ∷ (inside ++ 41 ∷ [])) is) in none inside same

-- ---- cases

-- another word stands there
pub another : (word other text inside xs : List ℕ) → IsPlainWord word → IsPlainWord other → pointwise nat_eq word other ≡ false → IsBehind other text inside → IsBehind word text xs → ⊥
another word other text inside xs plain plain_other differ behind is =
    unequal word other differ (sym (front_is word text xs plain is) ∙ front_is other text inside plain_other behind)

-- a word alone, and one with a bracket after it
pub not_alone : (word other text inside : List ℕ) → front word ≡ word → IsPlainWord other → pointwise nat_eq word other ≡ false → IsBehind other text inside → text ≢ word
not_alone word other text inside plain plain_other differ behind is =
    unequal word other differ (sym (ap front is ∙ plain) ∙ front_is other text inside plain_other behind)

module _ {A : Type 0} (word : List ℕ) (value : Notation A) (text : List ℕ) (fault : Fault) where
  pub unheld : ((inside : List ℕ) → IsBehind word text inside → ⊥) → Blames (HoldsAfterWord word value text) fault
  unheld none = record { nothing = λ bad it holds. none holds.0 holds.1 }

  pub held_blamed : (inside : List ℕ) → IsBehind word text inside → Blames (SaysInside value.Says inside) fault → Blames (HoldsAfterWord word value text) fault
  held_blamed inside behind blames = record {
    nothing = λ bad it holds. blames.nothing bad it (subst (λ t. SaysInside value.Says t it) (inside_once word text holds.0 inside holds.1 behind) holds.2);
  }

  pub held_by_another : (other inside : List ℕ) → IsPlainWord word → IsPlainWord other → pointwise nat_eq word other ≡ false → IsBehind other text inside → Blames (HoldsAfterWord word value text) fault
  held_by_another other inside plain plain_other differ behind = unheld (λ xs is. another word other text inside xs plain plain_other differ behind is)

module _ {A : Type 0} (word : List ℕ) (fields : Fields A) (text : List ℕ) (fault : Fault) where
  pub no_fields : ((inside : List ℕ) → IsBehind word text inside → ⊥) → Blames (HoldsFields word fields text) fault
  no_fields none = record { nothing = λ bad it holds. none holds.0 holds.1 }

  pub fields_blamed : (inside : List ℕ) → IsBehind word text inside → Blames (AreInside fields inside) fault → Blames (HoldsFields word fields text) fault
  fields_blamed inside behind blames = record {
    nothing = λ bad it holds. blames.nothing bad it (subst (λ t. AreInside fields t it) (inside_once word text holds.0 inside holds.1 behind) holds.2);
  }

  pub fields_of_another : (other inside : List ℕ) → IsPlainWord word → IsPlainWord other → pointwise nat_eq word other ≡ false → IsBehind other text inside → Blames (HoldsFields word fields text) fault
  fields_of_another other inside plain plain_other differ behind = no_fields (λ xs is. another word other text inside xs plain plain_other differ behind is)

-- ---- the words in brackets

module _ {A : Type 0} (fields : Fields A) (inside : List ℕ) (fault : Fault) where
  pub words_blamed : (words : List (Bor (List ℕ))) → AreWords inside words → Blames (AreFields fields words) fault → Blames (AreInside fields inside) fault
  words_blamed words are blames = record {
    nothing = λ bad it holds. blames.nothing bad it (same_fields fields holds.0 words it (words_once inside holds.0 words holds.1 are) holds.2);
  }

  pub unclosed_words_blamed : (fault ≡ Malformed → place inside ≢ outside) → Blames (AreInside fields inside) fault
  unclosed_words_blamed unclosed = record { nothing = λ bad it holds. unclosed bad (words_close inside holds.0 holds.1) }
