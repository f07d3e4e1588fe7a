-- The words of a future: each ends before a blank or a closing bracket, unless that stands in a
-- list, or in quotes in a list.
use Rattle.std.specs.Prelude.{◌==◌, ◌||◌, ℕ, Bool, false, if◌then◌else◌, List, [], ◌∷◌}
use Rattle.frame_values.specs.declared.words.Within.{Within}
use Rattle.frame_values.specs.declared.words.Within.TheVariants.{Nothing, List as InList, Quotes, Escaped}

-- what the place after a byte stands in
abbrev pub within_after : Within → ℕ → Within
within_after Nothing b = if b == 91 then InList else Nothing
within_after InList b = if b == 93 then Nothing else if b == 34 then Quotes else InList
within_after Quotes b = if b == 34 then InList else if b == 92 then Escaped else Quotes
within_after Escaped b = Quotes

-- whether a word ends before the byte
abbrev pub ends_word : Within → ℕ → Bool
ends_word Nothing b = b == 32 || b == 41
ends_word InList b = false
ends_word Quotes b = false
ends_word Escaped b = false

-- the text up to where its first word ends
abbrev pub first_word : Within → List ℕ → List ℕ
first_word within [] = []
first_word within (b ∷ text) =
    if ends_word within b then [] else b ∷ first_word (within_after within b) text

-- and the rest from there
abbrev pub after_word : Within → List ℕ → List ℕ
after_word within [] = []
after_word within (b ∷ text) =
    if ends_word within b then b ∷ text else after_word (within_after within b) text

-- whether a blank comes next, or the bracket that closes a future
abbrev pub ends_part : List ℕ → Bool
ends_part [] = false
ends_part (b ∷ bs) = b == 32 || b == 41
