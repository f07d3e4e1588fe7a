-- The hint that a person gets whose line is refused.
use Rattle.std.specs.Prelude.{◌≡◌, ◌≢◌, ◌⊎◌, ◌+◌, ◌==◌, ◌&&◌, ◌||◌, ℕ, Bool, not, if◌then◌else◌, List, [], ◌∷◌, map, take, Option, Some, None, nat_eq, nat_le, codes}
use Rattle.std.specs.Borrow.{Bor}
use Rattle.std.specs.Cmp.Lexicographic.{pointwise}
use Rattle.std.specs.List.{before_first, filter_map, find, list_all, list_any, position, starts_with}
use Rattle.std.specs.Str.{IsTrimAscii, IsUtf8}
use Rattle.lines.specs.Pieces.{AreWords, outside, place}
use Rattle.lines.specs.declared.hint.Hint.{Hint}
use Rattle.lines.specs.declared.hint.Hint.TheVariants.{NoText, Unclosed, UnknownWord, UnknownField, Form}

-- a form's first word
abbrev pub form_word : List ℕ → List ℕ
form_word form = before_first (λ b. b == 32) form

-- whether a form begins with this word
abbrev pub begins_with : List ℕ → List ℕ → Bool
begins_with form word = pointwise nat_eq (form_word form) word

-- the first of these forms that begins with this word
abbrev pub first_form : List ℕ → List (Bor (List ℕ)) → Option (Bor (List ℕ))
first_form word forms = find (λ form. begins_with form.now word) forms

-- a small letter, or `_`
abbrev pub is_in_name : ℕ → Bool
is_in_name b = nat_le 97 b && nat_le b 122 || b == 95

-- what a word begins with up to here, with the `=` there, if it is a name
abbrev pub name_to : Option ℕ → List ℕ → Option (List ℕ)
name_to None word = None
name_to (Some at) word =
    if list_all is_in_name (take at word) then Some (take (at + 1) word) else None

-- the name that a word begins with, up to its first `=`, and with it
unfoldable pub field_name : List ℕ → Option (List ℕ)
field_name word = name_to (position (λ b. b == 61) word) word

-- a field's text, without the bracket of one that may be left out
abbrev pub unbracketed : List ℕ → List ℕ
unbracketed [] = []
unbracketed (b ∷ text) = if b == 91 then text else b ∷ text

-- whether a word of a form is a field of this name
abbrev pub is_field : List ℕ → List ℕ → Bool
is_field word name = starts_with nat_eq (unbracketed word) name

-- whether one of a form's words is a field of this name
abbrev pub has_field : List (Bor (List ℕ)) → List ℕ → Bool
has_field form_words name = list_any (λ word. is_field word.now name) form_words

-- the first name among the words that is no field of the form
abbrev pub unknown_name : List (Bor (List ℕ)) → List (Bor (List ℕ)) → Option (List ℕ)
unknown_name form_words words =
    find (λ name. not (has_field form_words name)) (filter_map (λ word. field_name word.now) words)

-- No name among the words is unknown to the form. A form's own brackets are closed.
abbrev pub KnowsNames : List ℕ → List (Bor (List ℕ)) → Type 0
KnowsNames form words = place form ≡ outside → (form_words : List (Bor (List ℕ)))
    × AreWords form form_words × (unknown_name form_words words ≡ None)

-- this is the first name among the words that is no field of the form
abbrev pub IsUnknownName : List ℕ → List (Bor (List ℕ)) → List ℕ → Type 0
IsUnknownName form words name = (form_words : List (Bor (List ℕ))) × AreWords form form_words
    × (unknown_name form_words words ≡ Some name)

-- The hint for the words after a line's first, which begins this form: the form, and the first
-- name that is no field of it, if there is one.
abbrev pub IsHintAfterFirst : Bor (List ℕ) → List (Bor (List ℕ)) → Hint → Type 0
IsHintAfterFirst form others (UnknownField name shown) =
    (shown ≡ form) × IsUnknownName form.now others name.now
IsHintAfterFirst form others (Form shown) = (shown ≡ form) × KnowsNames form.now others
IsHintAfterFirst form others hint = ⊥

-- the hint for a line's words, by these forms
abbrev pub IsWordsHint : List (Bor (List ℕ)) → List (Bor (List ℕ)) → Hint → Type 0
IsWordsHint forms [] hint = ⊥
IsWordsHint forms (first ∷ others) (UnknownWord word looked) = (word.now ≡ first.now)
    × (looked.now ≡ forms) × (first_form first.now forms ≡ None)
IsWordsHint forms (first ∷ others) hint = (form : Bor (List ℕ))
    × (first_form first.now forms ≡ Some form) × IsHintAfterFirst form others hint

-- the hint for a line's words, by forms with these texts
abbrev pub IsHintByForms : List (List ℕ) → List (Bor (List ℕ)) → Hint → Type 0
IsHintByForms texts words hint = (forms : List (Bor (List ℕ)))
    × (map (λ form. form.now) forms ≡ texts) × IsWordsHint forms words hint

-- the hint for a line that has no words: it isn't UTF-8, or its quotes or brackets aren't closed
abbrev pub IsUnreadHint : List ℕ → Hint → Type 0
IsUnreadHint line NoText = ¬ IsUtf8 line
IsUnreadHint line Unclosed = IsUtf8 line × (place line ≢ outside)
IsUnreadHint line hint = ⊥

-- The hint, if there is one, for a line without the blanks around it. `Holds` says which hint the
-- line's words have.
abbrev pub IsInnerHint : (List (Bor (List ℕ)) → Hint → Type 0) → List ℕ → Option Hint → Type 0
IsInnerHint Holds line None = IsUtf8 line × AreWords line []
IsInnerHint Holds line (Some hint) = IsUnreadHint line hint
    ⊎ (IsUtf8 line × ((words : List (Bor (List ℕ))) × AreWords line words × Holds words hint))

-- the same for a line; the blanks around it don't count
abbrev pub IsHint : (List (Bor (List ℕ)) → Hint → Type 0) → List ℕ → Option Hint → Type 0
IsHint Holds line hint = (inner : List ℕ) × IsTrimAscii line inner × IsInnerHint Holds inner hint

-- whether a frame may follow this word of a script of rounds
abbrev pub takes_frame : List ℕ → Bool
takes_frame word = pointwise nat_eq word (codes "arrive") || pointwise nat_eq word (codes "entry")

-- whether the first of these words, if there is one, is no bytes as they are
abbrev pub may_be_frame : List (Bor (List ℕ)) → Bool
may_be_frame words =
    list_any (λ word. not (starts_with nat_eq word.now (codes "0x"))) (take 1 words)

-- the words of the frame of an arrival or an entry
abbrev pub frame_words : List (Bor (List ℕ)) → Option (List (Bor (List ℕ)))
frame_words [] = None
frame_words (word ∷ others) =
    if takes_frame word.now && may_be_frame others then Some others else None

-- the hint for words, or for those of a frame, if there are any
abbrev pub IsHintOfEither : List (List ℕ) → List (List ℕ) → List (Bor (List ℕ))
    → Option (List (Bor (List ℕ))) → Hint → Type 0
IsHintOfEither rounds frames words None hint = IsHintByForms rounds words hint
IsHintOfEither rounds frames words (Some frame) hint = IsHintByForms frames frame hint

-- The hint for the words of a script of rounds, by the forms of its lines. If they are an arrival
-- or an entry with a frame, it is the hint for the frame's words, by the forms of frames.
abbrev pub IsRoundHint : List (List ℕ) → List (List ℕ) → List (Bor (List ℕ)) → Hint → Type 0
IsRoundHint rounds frames words hint =
    IsHintOfEither rounds frames words (frame_words words) hint
