-- Texts that are no key with its value.
use Rattle.std.proofs.Common.{◌≡◌, ◌≢◌, ◌<◌, ◌∙◌, ℕ, zero, suc, List, [], ◌∷◌, Option, Some, None, length, get_or, refl, subst, arith, Global, string_bytes}
use Rattle.std.specs.Borrow.{Bor}
use Rattle.std.specs.declared.string.String.{String}
use Rattle.plain.specs.declared.fault.Fault.{Fault}
use Rattle.lines.specs.Atoms.{IsAtom, IsText}
use Rattle.lines.specs.Pieces.{AreWordsWithin}
use Rattle.lines.specs.Readings.{Blames}
use Rattle.lines.specs.Fields.{text_behind, texts_named}
use Rattle.line_parts.proofs.Pairs.{within_at, within_length}
use Rattle.world_scripts.specs.Worlds.{AreStateTexts, IsStateText}

pub unbraced_blamed : (text : List ℕ) (fault : Fault) → Blames (AreWordsWithin 123 125 text) fault → Blames (IsStateText text) fault
unbraced_blamed text fault blames = record { nothing = λ bad pair is. blames.nothing bad is.words is.are_words }

pub count_blamed : (text : List ℕ) (ws : List (Bor (List ℕ))) (fault : Fault) → AreWordsWithin 123 125 text ws → length ws ≢ 2 → Blames (IsStateText text) fault
count_blamed text ws fault are other = record { nothing = λ bad pair is. other (within_length 123 125 text ws is.words are is.are_words ∙ is.two) }

pub key_blamed : (text : List ℕ) (ws : List (Bor (List ℕ))) (d : Bor (List ℕ)) (fault : Fault) → AreWordsWithin 123 125 text ws → length ws ≡ 2 → Blames (IsText (get_or ws 0 d).now) fault → Blames (IsStateText text) fault
key_blamed text ws d fault are two blames = record {
  nothing = λ bad pair is. blames.nothing bad pair.0 (subst (λ t. IsText t pair.0) (within_at 0 123 125 text ws is.words d (omega arith) are is.are_words) is.is_key);
}

pub value_blamed : (text : List ℕ) (ws : List (Bor (List ℕ))) (d : Bor (List ℕ)) (fault : Fault) → AreWordsWithin 123 125 text ws → length ws ≡ 2 → Blames (IsAtom (get_or ws 1 d).now) fault → Blames (IsStateText text) fault
value_blamed text ws d fault are two blames = record {
  nothing = λ bad pair is. blames.nothing bad pair.1 (subst (λ t. IsAtom t pair.1) (within_at 1 123 125 text ws is.words d (omega arith) are is.are_words) is.is_value);
}

-- ---- a state

abbrev Entries : Type 0
Entries = List (String Global × List ℕ)

-- a text that is no entry, after other words
behind_first : (name : List ℕ) (w : Bor (List ℕ)) (words : List (Bor (List ℕ))) (found : Option (List ℕ)) → text_behind name w.now ≡ found → ((entries : Entries) → AreStateTexts (texts_named name words) entries → ⊥)
    → (entries : Entries) → AreStateTexts (texts_named name (w ∷ words)) entries → ⊥
behind_first name w words None at none entries are = none entries (rw at at are)
behind_first name w words (Some t) at none [] are = rw at at are
behind_first name w words (Some t) at none (x ∷ entries) are = let both = rw at at are in none entries both.1

no_entries : (name : List ℕ) (words : List (Bor (List ℕ))) (i : ℕ) (d : Bor (List ℕ)) (text : List ℕ) → i < length words → text_behind name (get_or words i d).now ≡ Some text → ((pair : List ℕ × List ℕ) → IsStateText text pair → ⊥)
    → (entries : Entries) → AreStateTexts (texts_named name words) entries → ⊥
no_entries name [] i d text h e none entries are = absurd (omega arith)
no_entries name (w ∷ words) zero d text h e none [] are = rw e at are
no_entries name (w ∷ words) zero d text h e none (x ∷ entries) are = let both = rw e at are in none (string_bytes x.0, x.1) both.0
no_entries name (w ∷ words) (suc i) d text h e none entries are =
    behind_first name w words (text_behind name w.now) refl (λ others them. no_entries name words i d text (omega arith) e none others them) entries are

pub state_blamed : (name : List ℕ) (words : List (Bor (List ℕ))) (i : ℕ) (d : Bor (List ℕ)) (text : List ℕ) (fault : Fault) → i < length words → text_behind name (get_or words i d).now ≡ Some text → Blames (IsStateText text) fault → Blames (AreStateTexts (texts_named name words)) fault
state_blamed name words i d text fault h e blames = record { nothing = λ bad entries are. no_entries name words i d text h e (blames.nothing bad) entries are }
