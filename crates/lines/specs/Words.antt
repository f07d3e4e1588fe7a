-- The words of a line by their places.
use Rattle.std.specs.Prelude.{◌≡◌, ◌<◌, ◌^◌, ℕ, zero, suc, List, [], ◌∷◌, length}
use Rattle.std.specs.Borrow.{Bor}
use Rattle.std.specs.Str.Parse.{IsNumeral, digits_value}
use Rattle.lines.specs.Atoms.{IsAtom, IsText}

-- the text of the word at this index; empty if there are fewer words
abbrev pub text_at : ℕ → List (Bor (List ℕ)) → List ℕ
text_at i [] = []
text_at zero (word ∷ words) = word.now
text_at (suc i) (word ∷ words) = text_at i words

-- the words after the first
abbrev pub words_after_first : List (Bor (List ℕ)) → List (Bor (List ℕ))
words_after_first [] = []
words_after_first (word ∷ words) = words

-- the decimal digits of a number below 2 ^ bits
abbrev pub IsNumberOf : ℕ → List ℕ → ℕ → Type 0
IsNumberOf bits text number =
    IsNumeral 10 text × (number ≡ digits_value 10 text) × (number < 2 ^ bits)

-- one atom of these bytes, and no other word
abbrev pub IsOneAtom : List (Bor (List ℕ)) → List ℕ → Type 0
IsOneAtom words bytes = (length words ≡ 1) × IsAtom (text_at 0 words) bytes

-- one text, and no other word
abbrev pub IsOneText : List (Bor (List ℕ)) → List ℕ → Type 0
IsOneText words bytes = (length words ≡ 1) × IsText (text_at 0 words) bytes

-- the words begin with these texts
abbrev pub AreTwoTexts : List (Bor (List ℕ)) → List ℕ × List ℕ → Type 0
AreTwoTexts words two = IsText (text_at 0 words) two.0 × IsText (text_at 1 words) two.1

abbrev pub AreThreeTexts : List (Bor (List ℕ)) → List ℕ × List ℕ × List ℕ → Type 0
AreThreeTexts words three = IsText (text_at 0 words) three.0 × IsText (text_at 1 words) three.1
    × IsText (text_at 2 words) three.2
