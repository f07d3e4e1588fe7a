-- A line of a text by its number.
use Rattle.std.specs.Prelude.{◌≡◌, ◌-◌, ◌<◌, ◌==◌, ℕ, List, Some, slice_get}
use Rattle.std.specs.List.{slice_split}

-- the lines of a text, which a byte 10 ends
abbrev pub text_lines : List ℕ → List (List ℕ)
text_lines text = slice_split (λ b. b == 10) text

-- this is the text's line of this number, counted from 1, without its end
abbrev pub IsLineNumbered : List ℕ → ℕ → List ℕ → Type 0
IsLineNumbered text number line =
    (0 < number) × (slice_get (text_lines text) (number - 1) ≡ Some line)
