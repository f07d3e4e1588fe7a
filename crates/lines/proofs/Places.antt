-- Words by their places.
use Rattle.std.proofs.Common.{◌≡◌, ◌<◌, ◌-◌, ℕ, zero, suc, List, [], ◌∷◌, length, length-drop, take, drop, get_or, ap, sym, ◌∙◌, refl, subst, arith}
use Rattle.std.proofs.Math.Seq.{take-length}
use Rattle.std.specs.Borrow.{Bor}
use Rattle.lines.specs.Atoms.{IsAtom, IsText}
use Rattle.lines.specs.Words.{AreThreeTexts, AreTwoTexts, words_after_first, text_at}

pub word_at : (words : List (Bor (List ℕ))) (i : ℕ) (d : Bor (List ℕ)) → i < length words → (get_or words i d).now ≡ text_at i words
word_at [] i d h = absurd (omega arith)
word_at (w ∷ words) zero d h = refl
word_at (w ∷ words) (suc i) d h = word_at words i d (omega arith)

pub text_is_at : (i : ℕ) (words : List (Bor (List ℕ))) (d : Bor (List ℕ)) (bytes : List ℕ) → i < length words → IsText (get_or words i d).now bytes → IsText (text_at i words) bytes
text_is_at i words d bytes h is = subst (λ t. IsText t bytes) (word_at words i d h) is

pub atom_is_at : (i : ℕ) (words : List (Bor (List ℕ))) (d : Bor (List ℕ)) (bytes : List ℕ) → i < length words → IsAtom (get_or words i d).now bytes → IsAtom (text_at i words) bytes
atom_is_at i words d bytes h is = subst (λ t. IsAtom t bytes) (word_at words i d h) is

-- the words after the first n
pub behind_is : {A : Type 0} (n : ℕ) (words : List A) → take (length words - n) (drop n words) ≡ drop n words
behind_is n words = ap (λ m. take m (drop n words)) (sym (length-drop n words)) ∙ take-length (drop n words)

pub drop_first : (words : List (Bor (List ℕ))) → drop 1 words ≡ words_after_first words
drop_first [] = refl
drop_first (w ∷ words) = refl

-- and those after the first
pub others_are : (words : List (Bor (List ℕ))) → take (length words - 1) (drop 1 words) ≡ words_after_first words
others_are words = behind_is 1 words ∙ drop_first words

pub drop_two_more : (words others : List (Bor (List ℕ))) → others ≡ drop 1 words → drop 2 others ≡ drop 3 words
drop_two_more [] others e = ap (drop 2) e
drop_two_more (w ∷ words) others e = ap (drop 2) e

-- one text, and two after it
pub three_texts_are : (words others : List (Bor (List ℕ))) (first second third : List ℕ) → others ≡ drop 1 words → IsText (text_at 0 words) first → AreTwoTexts others (second, third) → AreThreeTexts words (first, second, third)
three_texts_are [] others first second third e is are = let two = subst (λ ws. AreTwoTexts ws (second, third)) e are in (is, two.0, two.1)
three_texts_are (w ∷ words) others first second third e is are = let two = subst (λ ws. AreTwoTexts ws (second, third)) e are in (is, two.0, two.1)
