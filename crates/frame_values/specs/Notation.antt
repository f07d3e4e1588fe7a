-- How the values of fields are printed on a line, and which value a text says.
use Rattle.std.specs.Prelude.{◌≡◌, ◌⊎◌, ◌==◌, ℕ, Bool, true, false, not, if◌then◌else◌, List, [], ◌∷◌, ◌++◌, length, Option, Some, None, codes, fold, flat_map}
use Rattle.std.specs.Borrow.{Bor}
use Rattle.std.specs.Fmt.{decimal}
use Rattle.std.specs.List.{AllZip}
use Rattle.std.specs.Str.{IsTrimAscii}
use Rattle.lines.specs.Atoms.{IsAtom, IsText, quoted}
use Rattle.lines.specs.Pieces.{ArePieces, AreWords, AreWordsWithin, IsWithin}
use Rattle.lines.specs.Fields.{are_named, texts_named}
use Rattle.lines.specs.Words.{IsNumberOf, text_at}
use Rattle.journal_protocol.specs.Header.{Header}

-- A type's values: how they are printed, which of them are a default, whose field is left out, and
-- which value a text says. If it is exact, only a text that says no value is refused.
pub record Notation (A : Type 0) : Type 1 where
  pub text : A → List ℕ
  pub is_left_out : A → Bool
  pub Says : List ℕ → A → Type 0
  pub IsExact : Type 0

-- ---- values

-- decimal digits of a number of `bits` bits; left out at 0
abbrev pub number : ℕ → Notation ℕ
number bits = record {
  text = decimal;
  is_left_out = λ n. n == 0;
  Says = IsNumberOf bits;
  IsExact = Unit {0};
}

abbrev pub flag_word : Bool → List ℕ
flag_word true = codes "true"
flag_word false = codes "false"

-- `true` or `false`; left out at false
abbrev pub flag_notation : Notation Bool
flag_notation = record {
  text = flag_word;
  is_left_out = not;
  Says = λ text it. text ≡ flag_word it;
  IsExact = Unit {0};
}

abbrev pub is_nothing : {A : Type 0} → List A → Bool
is_nothing xs = length xs == 0

-- bytes in quotes, or as hex digits; left out if there are none
abbrev pub bytes_notation : Notation (List ℕ)
bytes_notation =
    record { text = quoted; is_left_out = is_nothing; Says = IsAtom; IsExact = Unit {0} }

-- the same of a text, which is UTF-8
abbrev pub string : Notation (List ℕ)
string = record { text = quoted; is_left_out = is_nothing; Says = IsText; IsExact = Unit {0} }

abbrev pub text_of_some : {A : Type 0} → (A → List ℕ) → Option A → List ℕ
text_of_some text None = []
text_of_some text (Some value) = text value

abbrev pub is_none : {A : Type 0} → Option A → Bool
is_none None = true
is_none (Some value) = false

abbrev pub SaysSome : {A : Type 0} → (List ℕ → A → Type 0) → List ℕ → Option A → Type 0
SaysSome Says text None = ⊥
SaysSome Says text (Some value) = Says text value

-- the value; left out if there is none
abbrev pub optional : {A : Type 0} → Notation A → Notation (Option A)
optional value = record {
  text = text_of_some value.text;
  is_left_out = is_none;
  Says = SaysSome value.Says;
  IsExact = value.IsExact;
}

-- texts with a comma and a blank between each two
abbrev pub items_text : {A : Type 0} → (A → List ℕ) → List A → List ℕ
items_text text [] = []
items_text text (item ∷ items) = text item ++ flat_map (λ it. codes ", " ++ text it) items

-- without the blanks around it, the text says the value
abbrev pub SaysInside : {A : Type 0} → (List ℕ → A → Type 0) → List ℕ → A → Type 0
SaysInside Says text it = (inside : List ℕ) × IsTrimAscii text inside × Says inside it

-- Each piece between commas, without the blanks around it, says the item at its place; where there
-- is nothing, there is no item.
abbrev pub SayItems : {A : Type 0} → (List ℕ → A → Type 0) → List ℕ → List A → Type 0
SayItems Says text items =
    ((text ≡ []) × (items ≡ []))
    ⊎ ((pieces : List (Bor (List ℕ))) × ArePieces 44 text pieces
    × AllZip (λ piece item. SaysInside Says piece.now item) pieces items)

-- the same in square brackets
abbrev pub SaysList : {A : Type 0} → (List ℕ → A → Type 0) → List ℕ → List A → Type 0
SaysList Says text items =
    (inside : List ℕ) × IsWithin 91 93 text inside × SaysInside (SayItems Says) inside items

-- the items in square brackets; left out if there are none
abbrev pub list_notation : {A : Type 0} → Notation A → Notation (List A)
list_notation item = record {
  text = λ items. codes "[" ++ items_text item.text items ++ codes "]";
  is_left_out = is_nothing;
  Says = SaysList item.Says;
  IsExact = item.IsExact;
}

-- two words in round brackets say the two values
pub record SaysPair {A B : Type 0} (First : List ℕ → A → Type 0) (Second : List ℕ → B → Type 0)
    (text : List ℕ) (two : A × B) : Type 0 where
  pub words : List (Bor (List ℕ))
  pub are_words : AreWordsWithin 40 41 text words
  pub are_two : length words ≡ 2
  pub is_first : First (text_at 0 words) two.0
  pub is_second : Second (text_at 1 words) two.1

-- two values in round brackets
abbrev pub pair : {A B : Type 0} → Notation A → Notation B → Notation (A × B)
pair first second = record {
  text = λ p. codes "(" ++ first.text p.0 ++ codes " " ++ second.text p.1 ++ codes ")";
  is_left_out = λ _. false;
  Says = SaysPair first.Says second.Says;
  IsExact = first.IsExact × second.IsExact;
}

-- the key and the value in round brackets
abbrev pub header_notation : Notation Header
header_notation = record {
  text = λ h. (pair string string).text (h.key, h.value);
  is_left_out = λ _. false;
  Says = λ text h. SaysPair IsText IsText text (h.key, h.value);
  IsExact = Unit {0};
}

-- ---- fields

-- a field's name, and its text unless it is left out
abbrev pub Field : Type 0
Field = List ℕ × Option (List ℕ)

-- what is printed, and whether nothing stands yet where the next field comes
abbrev pub Printed : Type 0
Printed = List ℕ × Bool

-- adds a field: its name, `=` and its text, after a blank unless it is the first
unfoldable pub put : Printed → Field → Printed
put so_far (name, None) = so_far
put so_far (name, Some text) = (
  so_far.0 ++ (if so_far.1 then [] else codes " ") ++ name
      ++ codes "=" ++ text,
  false,
)

-- adds fields, one after another
abbrev pub put_all : Printed → List Field → Printed
put_all so_far fields = fold put so_far fields

abbrev pub unless_left_out : {A : Type 0} → Notation A → A → Option (List ℕ)
unless_left_out value it = if value.is_left_out it then None else Some (value.text it)

-- What the texts after a field's name say. One text says the value, none the default; two say
-- nothing.
abbrev pub SayField : {A : Type 0} → Notation A → List (List ℕ) → A → Type 0
SayField value [] it = value.is_left_out it ≡ true
SayField value (text ∷ []) it = value.Says text it
SayField value (text ∷ other ∷ more) it = ⊥

-- A type's values as fields: those that are printed, their names, each with its `=`, the values of
-- the fields, one after another, and what the texts of each name say of them. If they are exact,
-- only words are refused that are the fields of no value.
pub record Fields (A : Type 0) : Type 1 where
  pub printed : A → List Field
  pub names : List (List ℕ)
  pub Parts : Type 0
  pub parts : A → Parts
  pub Say : (List ℕ → List (List ℕ)) → Parts → Type 0
  pub IsExact : Type 0

-- no field
abbrev pub nothing : {A : Type 0} → Fields A
nothing = record {
  printed = λ _. [];
  names = [];
  Parts = Unit {0};
  parts = λ _. tt;
  Say = λ _ _. Unit {0};
  IsExact = Unit {0};
}

-- a field of this name, whose value is this part of the whole, and others after it
abbrev pub field : {A B : Type 0} → List ℕ → (B → A) → Notation A → Fields B → Fields B
field {A = A} name part value others = record {
  printed = λ it. (name, unless_left_out value (part it)) ∷ others.printed it;
  names = (name ++ codes "=") ∷ others.names;
  Parts = A × others.Parts;
  parts = λ it. (part it, others.parts it);
  Say = λ found parts. SayField value (found (name ++ codes "=")) parts.0
      × others.Say found parts.1;
  IsExact = value.IsExact × others.IsExact;
}

-- words in any order are the fields of this, and no others
abbrev pub AreFields : {A : Type 0} → Fields A → List (Bor (List ℕ)) → A → Type 0
AreFields fields words it = (are_named fields.names words ≡ true)
    × fields.Say (λ name. texts_named name words) (fields.parts it)

-- the values of fields of these names, one after another: the first, and the others
abbrev pub SayPair : {A B : Type 0} → Notation A
    → (List (List ℕ) → List (Bor (List ℕ)) → B → Type 0) → List (List ℕ) → List (Bor (List ℕ)) → A
    × B → Type 0
SayPair first Others [] words two = ⊥
SayPair first Others (name ∷ names) words two = SayField first (texts_named name words) two.0
    × Others names words two.1

-- ---- brackets after a word

-- the text is a word, and after it this in round brackets
abbrev pub IsBehind : List ℕ → List ℕ → List ℕ → Type 0
IsBehind word text inside = text ≡ word ++ 40 ∷ (inside ++ 41 ∷ [])

-- a value in round brackets, after a word
abbrev pub holding : {A : Type 0} → List ℕ → Notation A → A → List ℕ
holding word value it = word ++ codes "(" ++ value.text it ++ codes ")"

-- what stands there says the value
abbrev pub HoldsAfterWord : {A : Type 0} → List ℕ → Notation A → List ℕ → A → Type 0
HoldsAfterWord word value text it =
    (inside : List ℕ) × IsBehind word text inside × SaysInside value.Says inside it

-- what is printed, with a closing bracket
abbrev pub closed : Printed → List ℕ
closed so_far = so_far.0 ++ codes ")"

-- fields in round brackets, after a word
abbrev pub bracketed : {A : Type 0} → List ℕ → Fields A → A → List ℕ
bracketed word fields it = closed (put_all (word ++ codes "(", true) (fields.printed it))

-- the words of the text are the fields of this
abbrev pub AreInside : {A : Type 0} → Fields A → List ℕ → A → Type 0
AreInside fields inside it =
    (words : List (Bor (List ℕ))) × AreWords inside words × AreFields fields words it

-- the words that stand there are the fields of this
abbrev pub HoldsFields : {A : Type 0} → List ℕ → Fields A → List ℕ → A → Type 0
HoldsFields word fields text it =
    (inside : List ℕ) × IsBehind word text inside × AreInside fields inside it
