-- The words of fields are found by their names.
use Rattle.std.proofs.Common.{◌≡◌, ◌++◌, ℕ, Bool, true, false, if◌then◌else◌, ◌&&◌, ◌||◌, List, [], ◌∷◌, Option, Some, None, length, take, nat_eq, map, ap, sym, refl, subst, ◌∙◌}
use Rattle.std.specs.Prelude.{codes}
use Rattle.std.specs.List.{AllByRecursion, list_all, list_any}
use Rattle.std.proofs.Math.Seq.{drop-append_seam, take-append_seam}
use Rattle.std.proofs.lemmas.Bool.{and_parts}
use Rattle.std.proofs.lemmas.Slice.Eq.{bytes_eq-Decides}
use Rattle.lines.specs.Fields.{are_named, is_named, text_behind, texts_named}
use Rattle.frame_values.specs.Notation.{AreFields, Field, Fields, Notation, SayField, field, nothing, unless_left_out}
use Rattle.frame_runs.proofs.Closed.{IsWord, word_append}
use Rattle.frame_runs.proofs.Joined.{bors}
use Rattle.frame_runs.proofs.Values.{ReadsBack}

-- ---- names that differ

-- they differ where both have a byte
abbrev pub apart : List ℕ → List ℕ → Bool
apart [] ys = false
apart (x ∷ xs) [] = false
apart (x ∷ xs) (y ∷ ys) = if nat_eq x y then apart xs ys else true

-- each two of the names do
abbrev pub are_apart : List (List ℕ) → Bool
are_apart [] = true
are_apart (n ∷ names) = list_all (apart n) names && list_all (λ m. apart m n) names && are_apart names

pub not_named : (name other after : List ℕ) → apart name other ≡ true → is_named name (other ++ after) ≡ false
not_named [] other after differ = absurd (cc differ)
not_named (x ∷ xs) [] after differ = absurd (cc differ)
not_named (x ∷ xs) (y ∷ ys) after differ = go (λ more. not_named xs ys after more) (nat_eq x y) refl differ
  where
    go : (apart xs ys ≡ true → is_named xs (ys ++ after) ≡ false) → (b : Bool) → nat_eq x y ≡ b → (if b then apart xs ys else true) ≡ true → is_named (x ∷ xs) ((y ∷ ys) ++ after) ≡ false
    go rest true at more = rw at (rest more)
    go rest false at more = rw at refl

own_named : (name after : List ℕ) → is_named name (name ++ after) ≡ true
own_named name after = (bytes_eq-Decides name (take (length name) (name ++ after))).1 (sym (take-append_seam name after))

own_text : (name after : List ℕ) → text_behind name (name ++ after) ≡ Some after
unfolding text_behind
own_text name after = rw (own_named name after) (ap Some (drop-append_seam name after))

no_text : (name other after : List ℕ) → apart name other ≡ true → text_behind name (other ++ after) ≡ None
unfolding text_behind
no_text name other after differ = rw (not_named name other after differ) refl

-- ---- the words of fields

-- a field's name, with `=`
abbrev pub named : Field → List ℕ
named f = f.0 ++ codes "="

abbrev pub names_of : List Field → List (List ℕ)
names_of fs = map named fs

-- the words of those that are printed
abbrev pub words_of : List Field → List (List ℕ)
words_of [] = []
words_of ((name, None) ∷ fs) = words_of fs
words_of ((name, Some text) ∷ fs) = (name ++ codes "=" ++ text) ∷ words_of fs

abbrev pub listed : Option (List ℕ) → List (List ℕ)
listed None = []
listed (Some text) = text ∷ []

-- the texts that are found for each field are its own
abbrev pub AreFound : (List ℕ → List (List ℕ)) → List Field → Type 0
AreFound found [] = Unit {0}
AreFound found (f ∷ fs) = (found (named f) ≡ listed f.1) × AreFound found fs

abbrev pub found_in : List Field → List ℕ → List (List ℕ)
found_in fs name = texts_named name (bors (words_of fs))

none_found : (name : List ℕ) (fs : List Field) → list_all (apart name) (names_of fs) ≡ true → found_in fs name ≡ []
none_found name [] all = refl
none_found name ((n, None) ∷ fs) all = none_found name fs (and_parts (apart name (n ++ codes "=")) (list_all (apart name) (names_of fs)) all).1
none_found name ((n, Some text) ∷ fs) all =
    let parts = and_parts (apart name (n ++ codes "=")) (list_all (apart name) (names_of fs)) all in
    rw (no_text name (n ++ codes "=") text parts.0) (none_found name fs parts.1)

own_found : (f : Field) (fs : List Field) → list_all (apart (named f)) (names_of fs) ≡ true → found_in (f ∷ fs) (named f) ≡ listed f.1
own_found (n, None) fs all = none_found (n ++ codes "=") fs all
own_found (n, Some text) fs all = rw (own_text (n ++ codes "=") text) (ap (λ l. text ∷ l) (none_found (n ++ codes "=") fs all))

other_found : (name : List ℕ) (f : Field) (fs : List Field) → apart name (named f) ≡ true → found_in (f ∷ fs) name ≡ found_in fs name
other_found name (n, None) fs differ = refl
other_found name (n, Some text) fs differ = rw (no_text name (n ++ codes "=") text differ) refl

still_found : (f : Field) (fs some : List Field) → list_all (λ m. apart m (named f)) (names_of some) ≡ true → AreFound (found_in fs) some → AreFound (found_in (f ∷ fs)) some
still_found f fs [] all found = tt
still_found f fs (g ∷ some) all found =
    let parts = and_parts (apart (named g) (named f)) (list_all (λ m. apart m (named f)) (names_of some)) all in
    (other_found (named g) f fs parts.0 ∙ found.0, still_found f fs some parts.1 found.1)

pub all_found : (fs : List Field) → are_apart (names_of fs) ≡ true → AreFound (found_in fs) fs
all_found [] all = tt
all_found (f ∷ fs) all =
    let both = and_parts (list_all (apart (named f)) (names_of fs) && list_all (λ m. apart m (named f)) (names_of fs)) (are_apart (names_of fs)) all in
    let parts = and_parts (list_all (apart (named f)) (names_of fs)) (list_all (λ m. apart m (named f)) (names_of fs)) both.0 in
    (own_found f fs parts.0, still_found f fs fs parts.1 (all_found fs both.1))

-- ---- each word has a name

abbrev IsAmong : List (List ℕ) → Field → Type 0
IsAmong names f = (text : List ℕ) → list_any (λ name. is_named name (named f ++ text)) names ≡ true

all_named : (names : List (List ℕ)) (fs : List Field) → AllByRecursion (IsAmong names) fs → are_named names (bors (words_of fs)) ≡ true
all_named names [] all = refl
all_named names ((n, None) ∷ fs) all = all_named names fs all.1
all_named names ((n, Some text) ∷ fs) all = rw (all.0 text) (all_named names fs all.1)

or_true : (a b : Bool) → b ≡ true → (a || b) ≡ true
or_true true b e = refl
or_true false b e = e

more_names : (name : List ℕ) (names : List (List ℕ)) (fs : List Field) → AllByRecursion (IsAmong names) fs → AllByRecursion (IsAmong (name ∷ names)) fs
more_names name names [] all = tt
more_names name names (f ∷ fs) all = (λ text. or_true (is_named name (named f ++ text)) (list_any (λ n. is_named n (named f ++ text)) names) (all.0 text), more_names name names fs all.1)

all_among : (fs : List Field) → AllByRecursion (IsAmong (names_of fs)) fs
all_among [] = tt
all_among (f ∷ fs) = (λ text. rw (own_named (named f) text) refl, more_names (named f) (names_of fs) fs (all_among fs))

pub names_named : (fs : List Field) → are_named (names_of fs) (bors (words_of fs)) ≡ true
names_named fs = all_named (names_of fs) fs (all_among fs)

-- ---- fields of a value

-- The names are those that are printed, what is printed is one word each, and texts that are found
-- for each field say the value's parts.
pub record FieldsReadBack {A : Type 0} (fields : Fields A) (it : A) : Type 0 where
  pub names : fields.names ≡ names_of (fields.printed it)
  pub words : AllByRecursion IsWord (words_of (fields.printed it))
  pub says : (found : List ℕ → List (List ℕ)) → AreFound found (fields.printed it) → fields.Say found (fields.parts it)

pub nothing_reads : {A : Type 0} (it : A) → FieldsReadBack (nothing {A = A}) it
nothing_reads it = record { names = refl; words = tt; says = λ found are. tt }

module _ {A : Type 0} (value : Notation A) (it : A) (name : List ℕ) (is : IsWord (name ++ codes "=")) (reads : value.is_left_out it ≡ false → ReadsBack value it) where
  said : (found : List (List ℕ)) (b : Bool) → value.is_left_out it ≡ b → found ≡ listed (if b then None else Some (value.text it)) → SayField value found it
  said found true at e = subst (λ f. SayField value f it) (sym e) at
  said found false at e = subst (λ f. SayField value f it) (sym e) (reads at).says

  pub field_said : (found : List (List ℕ)) → found ≡ listed (unless_left_out value it) → SayField value found it
  field_said found e = said found (value.is_left_out it) refl e

  worded : (fs : List Field) (b : Bool) → value.is_left_out it ≡ b → AllByRecursion IsWord (words_of fs) → AllByRecursion IsWord (words_of ((name, if b then None else Some (value.text it)) ∷ fs))
  worded fs true at all = all
  worded fs false at all = (word_append (name ++ codes "=") (value.text it) is (reads at).word, all)

  pub field_worded : (fs : List Field) → AllByRecursion IsWord (words_of fs) → AllByRecursion IsWord (words_of ((name, unless_left_out value it) ∷ fs))
  field_worded fs all = worded fs (value.is_left_out it) refl all

pub field_reads : {A B : Type 0} (name : List ℕ) (part : B → A) (value : Notation A) (others : Fields B) (it : B) → IsWord (name ++ codes "=") → (value.is_left_out (part it) ≡ false → ReadsBack value (part it))
    → FieldsReadBack others it → FieldsReadBack (field name part value others) it
field_reads name part value others it is reads more = record {
  names = ap (λ names. (name ++ codes "=") ∷ names) more.names;
  words = field_worded value (part it) name is reads (others.printed it) more.words;
  says = λ found are. (field_said value (part it) name is reads (found (name ++ codes "=")) are.0, more.says found are.1);
}

pub fields_are : {A : Type 0} (fields : Fields A) (it : A) → FieldsReadBack fields it → are_apart fields.names ≡ true → AreFields fields (bors (words_of (fields.printed it))) it
fields_are fields it reads differ =
    let fs = fields.printed it in
    let apart_names : are_apart (names_of fs) ≡ true = ap are_apart (sym reads.names) ∙ differ in (
      ap (λ names. are_named names (bors (words_of fs))) reads.names ∙ names_named fs,
      reads.says (found_in fs) (all_found fs apart_names),
    )
