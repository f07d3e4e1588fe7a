-- A text cut into pieces at a separator, and its words.
use Rattle.std.specs.Prelude.{◌≡◌, ◌≢◌, ◌+◌, ◌-◌, ◌<◌, ◌≤◌, ◌==◌, ◌||◌, ℕ, Bool, true, not, if◌then◌else◌, List, [], ◌∷◌, ◌++◌, length, take, Option, Some, None, All, filter, map, flat_map, fold, slice_index}
use Rattle.std.specs.Borrow.{Bor}
use Rattle.std.specs.Char.{is_ascii_alphanumeric}
use Rattle.lines.specs.declared.pieces.Nesting.{Nesting}
use Rattle.lines.specs.declared.pieces.Quotes.{Quotes}
use Rattle.lines.specs.declared.pieces.Quotes.TheVariants.{Outside, Inside, Escaped}

-- ( [ and {
abbrev pub opens : ℕ → Bool
opens b = b == 40 || b == 91 || b == 123

-- ) ] and }
abbrev pub closes : ℕ → Bool
closes b = b == 41 || b == 93 || b == 125

-- in which quotes the text is after the byte: " begins and ends them, and between them \ escapes
-- the next byte
abbrev pub quotes_behind : Quotes → ℕ → Quotes
quotes_behind Outside b = if b == 34 then Inside else Outside
quotes_behind Inside b = if b == 34 then Outside else if b == 92 then Escaped else Inside
quotes_behind Escaped b = Inside

-- In how many brackets the text is after the byte. Brackets between quotes don't count. None if the
-- byte closes a bracket that wasn't opened.
abbrev pub brackets_behind : Quotes → ℕ → ℕ → Option ℕ
brackets_behind Outside n b =
    if opens b then Some (n + 1) else if closes b then (if n == 0 then None else Some (n - 1))
    else Some n
brackets_behind quotes n b = Some n

-- in these brackets, if any, and in these quotes
abbrev pub nested : Option ℕ → Quotes → Option Nesting
nested None quotes = None
nested (Some n) quotes = Some (record { brackets = n; quotes = quotes })

-- in which brackets and quotes the text is after the byte
unfoldable pub nesting_after : Option Nesting → ℕ → Option Nesting
nesting_after None b = None
nesting_after (Some n) b = nested (brackets_behind n.quotes n.brackets b) (quotes_behind n.quotes b)

-- in no brackets, and in no quotes
abbrev pub outside : Option Nesting
outside = Some (record { brackets = 0; quotes = Outside })

-- in which brackets and quotes the end of the text is
abbrev pub place : List ℕ → Option Nesting
place text = fold nesting_after outside text

-- each separator in the text stands in brackets or in quotes
abbrev pub IsUncut : ℕ → List ℕ → Type 0
IsUncut separator text =
    (k : ℕ) → k < length text → slice_index text k ≡ separator → place (take k text) ≢ outside

-- letters and digits stand in the text between two places
abbrev pub ArePlain : ℕ → ℕ → List ℕ → Type 0
ArePlain from to text =
    (k : ℕ) → from ≤ k → k < to → is_ascii_alphanumeric (slice_index text k) ≡ true

-- the text closes its brackets and quotes, and each separator in it stands in these
abbrev pub IsPiece : ℕ → List ℕ → Type 0
IsPiece separator text = (place text ≡ outside) × IsUncut separator text

-- The text is these pieces, with a separator between each two. Said with one separator more: the
-- pieces, with a separator after each, are the text with a separator after it.
abbrev pub ArePieces : ℕ → List ℕ → List (Bor (List ℕ)) → Type 0
ArePieces separator text pieces =
    All (λ p. IsPiece separator p.now) pieces
    × (text ++ separator ∷ [] ≡ flat_map (λ p. p.now ++ separator ∷ []) pieces)

-- the texts of pieces
abbrev pub piece_texts : List (Bor (List ℕ)) → List (List ℕ)
piece_texts pieces = map (λ p. p.now) pieces

-- whether there is anything of a piece
abbrev pub is_word : Bor (List ℕ) → Bool
is_word piece = not (length piece.now == 0)

-- these words, and the piece if it is one
unfoldable pub with_word : List (Bor (List ℕ)) → Bor (List ℕ) → List (Bor (List ℕ))
with_word words piece = words ++ filter is_word (piece ∷ [])

-- the words of the text are its pieces between blanks, without those that are empty
abbrev pub AreWords : List ℕ → List (Bor (List ℕ)) → Type 0
AreWords text words =
    (pieces : List (Bor (List ℕ))) × ArePieces 32 text pieces × (words ≡ filter is_word pieces)

-- the text is this, between an opening and a closing byte
abbrev pub IsWithin : ℕ → ℕ → List ℕ → List ℕ → Type 0
IsWithin opening closing text inside = text ≡ opening ∷ (inside ++ closing ∷ [])

-- the words of what stands between an opening and a closing byte
pub record AreWordsWithin (opening closing : ℕ) (text : List ℕ)
    (words : List (Bor (List ℕ))) : Type 0 where
  pub inside : List ℕ
  pub within : IsWithin opening closing text inside
  pub are_words : AreWords inside words
