-- The note that a person reads of a line that is refused.
use Rattle.std.specs.Prelude.{◌≡◌, ◌++◌, ℕ, if◌then◌else◌, List, [], ◌∷◌, length, take, flat_map, Some, nat_le, codes}
use Rattle.std.specs.Borrow.{Bor}
use Rattle.std.specs.Fmt.{decimal}
use Rattle.lines.specs.Atoms.{quoted}
use Rattle.lines.specs.Hints.{IsHint, form_word}
use Rattle.lines.specs.declared.hint.Hint.{Hint}
use Rattle.lines.specs.declared.hint.Hint.TheVariants.{NoText, Unclosed, UnknownWord, UnknownField, Form}

-- the line with a word in quotes more; if the word has more than 60 bytes, the first of them, and
-- two dots
abbrev pub with_quoted : List ℕ → List ℕ → List ℕ
with_quoted line word =
    if nat_le (length word) 60 then line ++ quoted word
    else line ++ quoted (take 60 word) ++ codes ".."

-- the first words of forms, each after a comma and a blank
abbrev pub more_first_words : List (Bor (List ℕ)) → List ℕ
more_first_words forms = flat_map (λ form. codes ", " ++ form_word form.now) forms

-- the line with the first words of forms more, with a comma and a blank between each two
abbrev pub with_first_words : List ℕ → List (Bor (List ℕ)) → List ℕ
with_first_words line [] = line
with_first_words line (form ∷ forms) = line ++ form_word form.now ++ more_first_words forms

-- the line with a hint more
abbrev pub with_hint : List ℕ → Hint → List ℕ
with_hint line NoText = line ++ codes "it isn't UTF-8"
with_hint line Unclosed =
    line ++ codes "a quote or a bracket isn't closed, or one is closed that wasn't opened"
with_hint line (UnknownWord word forms) =
    with_first_words (with_quoted line word.now ++ codes " is none of these: ") forms.now
with_hint line (UnknownField name form) =
    with_quoted line name.now ++ codes " is no field of this line: " ++ form.now
with_hint line (Form form) = line ++ codes "its form is: " ++ form.now

-- the line's number, and its hint
abbrev pub note_text : ℕ → Hint → List ℕ
note_text number hint = with_hint (codes "line " ++ decimal number ++ codes ": ") hint

-- this is the note on the line of this number; `Holds` says which hint the line's words have
pub record IsNote (Holds : List (Bor (List ℕ)) → Hint → Type 0) (number : ℕ) (line note : List ℕ)
    : Type 0 where
  pub hint : Hint
  pub is_hint : IsHint Holds line (Some hint)
  pub is : note ≡ note_text number hint
