-- A text by its lines.
use Rattle.std.specs.Prelude.{◌≡◌, ◌≢◌, ◌⊎◌, ◌==◌, ◌||◌, ℕ, Bool, List, [], ◌∷◌, ◌++◌, All, codes, length, nat_eq}
use Rattle.std.specs.List.{starts_with}

-- whether a line without blanks at its ends is empty or a comment
unfoldable pub says_nothing : List ℕ → Bool
says_nothing text = length text == 0 || starts_with nat_eq text (codes "#")

-- the text's first line, without its end, and what follows it; the last line may have no end
abbrev pub IsFirstLine : List ℕ → List ℕ → List ℕ → Type 0
IsFirstLine text line rest =
    All (λ b. b ≢ 10) line × ((text ≡ line ++ 10 ∷ rest) ⊎ ((text ≡ line) × (rest ≡ [])))

-- the text is these lines, one after another, and then this rest
abbrev pub AreFirstLines : List (List ℕ) → List ℕ → List ℕ → Type 0
AreFirstLines [] text rest = text ≡ rest
AreFirstLines (line ∷ lines) text rest = (text ≢ [])
    × ((behind : List ℕ) × IsFirstLine text line behind × AreFirstLines lines behind rest)
