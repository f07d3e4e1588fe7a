-- Values as they stand in a message and on a line: those that are read from a message are read back
-- from the line on which they are printed, and as no others.
use Rattle.std.proofs.Common.{◌^◌, ◌≡◌, ◌<◌, ◌++◌, ℕ, zero, suc, Bool, true, false, List, [], ◌∷◌, Option, Some, None, length, ap, sym, refl, ◌∙◌, arith, length-append}
use Rattle.std.specs.Prelude.{codes}
use Rattle.std.specs.List.{AllByRecursion, flat_map, list_all}
use Rattle.std.proofs.lemmas.Bool.{true≢false}
use Rattle.lines.specs.Fields.{texts_named}
use Rattle.wire.specs.Format.{bytes, list, option, u64s}
use Rattle.wire.specs.Format.{Format}
use Rattle.wire.specs.Forms.{bytes_format, flag_format, list_format, option_format, pair_format, text_format, u32_format, u64_format}
use Rattle.frame_values.specs.Notation.{AreFields, Fields, Notation, bytes_notation, field, flag_notation, list_notation, nothing, number, optional, pair, string}
use Rattle.frame_runs.proofs.Closed.{IsWord, is_word_byte, plain_word}
use Rattle.frame_runs.proofs.Joined.{bors}
use Rattle.frame_runs.proofs.Named.{FieldsReadBack, are_apart, field_reads, fields_are, nothing_reads, words_of}
use Rattle.frame_runs.proofs.Once.{AreFieldsOnce, IsLeftOutOnce, SaysOnce, SaysSomething, bytes_left_out, bytes_once, bytes_something, field_once, flag_left_out, flag_once, flag_something, list_left_out, list_once, list_something, none_left_out, number_left_out, number_once, number_something, pair_once, pair_something, some_once, string_left_out, string_once, string_something}
use Rattle.frame_runs.proofs.Values.{AreBytes, ReadsBack, bytes_read, flag_reads, list_reads, number_reads, pair_reads, some_reads, string_reads}

-- ---- bytes

-- each number of the list is a byte
abbrev pub AllBytes : List ℕ → Type 0
AllBytes xs = AllByRecursion (λ b. b < 256) xs

pub bytes_apart : (xs ys : List ℕ) → AllBytes (xs ++ ys) → AllBytes xs × AllBytes ys
bytes_apart [] ys all = (tt, all)
bytes_apart (x ∷ xs) ys all = let rest = bytes_apart xs ys all.1 in ((all.0, rest.0), rest.1)

pub below : (xs : List ℕ) → AllBytes xs → AreBytes xs
below [] all k = omega arith
below (x ∷ xs) all zero = all.0
below (x ∷ xs) all (suc k) = below xs all.1 k

pub each_below : (xs : List ℕ) → AreBytes xs → AllBytes xs
each_below [] small = tt
each_below (x ∷ xs) small = (small 0, each_below xs (λ k. small (suc k)))

-- ---- values

-- A type's values in a message and on a line. Those that are read from a message are read back, a
-- text says one of them at most, one is left out at most, and none stands as nothing.
pub record Item (A : Type 0) : Type 1 where
  pub format : Format A
  pub value : Notation A
  pub reads : (a : A) → format.valid a → AllBytes (format.spelling a) → ReadsBack value a
  pub once : SaysOnce value.Says
  pub left_out : IsLeftOutOnce value
  pub something : SaysSomething value

-- the same of a field, whose values are read back if they are not left out
pub record Part (A : Type 0) : Type 1 where
  pub format : Format A
  pub value : Notation A
  pub reads : (a : A) → format.valid a → AllBytes (format.spelling a) → value.is_left_out a ≡ false → ReadsBack value a
  pub once : SaysOnce value.Says
  pub left_out : IsLeftOutOnce value

pub u32_reads : (n : ℕ) → n < 2 ^ 32 → ReadsBack (number 32) n
u32_reads n fits = number_reads 32 n fits (omega (arith, fits))

abbrev pub u32_item : Item ℕ
u32_item = record {
  format = u32_format;
  value = number 32;
  reads = λ a v b. u32_reads a v;
  once = number_once 32;
  left_out = number_left_out 32;
  something = number_something 32;
}

abbrev pub u64_item : Item ℕ
u64_item = record {
  format = u64_format;
  value = number 64;
  reads = λ a v b. number_reads 64 a v v;
  once = number_once 64;
  left_out = number_left_out 64;
  something = number_something 64;
}

abbrev pub flag_item : Item Bool
flag_item = record {
  format = flag_format;
  value = flag_notation;
  reads = λ a v b. flag_reads a;
  once = flag_once;
  left_out = flag_left_out;
  something = flag_something;
}

-- what stands after the length
pub spelled_bytes : (xs : List ℕ) → AllBytes (bytes xs) → AllBytes xs
unfolding bytes
spelled_bytes xs all = (bytes_apart (u64s (length xs)) xs all).1

abbrev pub bytes_item : Item (List ℕ)
bytes_item = record {
  format = bytes_format;
  value = bytes_notation;
  reads = λ a v b. bytes_read a (below a (spelled_bytes a b));
  once = bytes_once;
  left_out = bytes_left_out;
  something = bytes_something;
}

abbrev pub text_item : Item (List ℕ)
text_item = record {
  format = text_format;
  value = string;
  reads = λ a v b. string_reads a (below a (spelled_bytes a b)) v.1;
  once = string_once;
  left_out = string_left_out;
  something = string_something;
}

-- ---- lists and pairs

module _ {A : Type 0} (item : Item A) where
  items_read : (xs : List A) → AllByRecursion item.format.valid xs → AllBytes (flat_map item.format.spelling xs) → AllByRecursion (ReadsBack item.value) xs
  items_read [] v b = tt
  items_read (x ∷ xs) v b =
      let both = bytes_apart (item.format.spelling x) (flat_map item.format.spelling xs) b in (item.reads x v.0 both.0, items_read xs v.1 both.1)

  pub list_read : (xs : List A) → (list_format item.format).valid xs → AllBytes (list item.format.spelling xs) → ReadsBack (list_notation item.value) xs
  unfolding list
  list_read xs v b = list_reads item.value xs (items_read xs v.1 (bytes_apart (u64s (length xs)) (flat_map item.format.spelling xs) b).1)

  abbrev pub list_item : Item (List A)
  list_item = record {
    format = list_format item.format;
    value = list_notation item.value;
    reads = list_read;
    once = list_once item.value item.once item.something;
    left_out = list_left_out item.value item.once item.something;
    something = list_something item.value item.once item.something;
  }

  -- each value is printed
  abbrev pub whole : Part A
  whole = record { format = item.format; value = item.value; reads = λ a v b printed. item.reads a v b; once = item.once; left_out = item.left_out }

  pub some_read : (o : Option A) → (option_format item.format).valid o → AllBytes (option item.format.spelling o) → (optional item.value).is_left_out o ≡ false → ReadsBack (optional item.value) o
  unfolding option
  some_read None v b printed = absurd (cc printed)
  some_read (Some a) v b printed = some_reads item.value a (item.reads a v b.1)

  -- a value, or none
  abbrev pub some : Part (Option A)
  some = record {
    format = option_format item.format;
    value = optional item.value;
    reads = some_read;
    once = some_once item.value item.once;
    left_out = none_left_out item.value;
  }

-- each value is printed
pub never_left_out : {A : Type 0} (value : Notation A) → ((a : A) → value.is_left_out a ≡ false) → IsLeftOutOnce value
never_left_out value never a b p q = absurd (true≢false (sym p ∙ never a))

abbrev pub pair_item : {A B : Type 0} → Item A → Item B → Item (A × B)
pair_item first second = record {
  format = pair_format first.format second.format;
  value = pair first.value second.value;
  reads = λ p v b.
      let both = bytes_apart (first.format.spelling p.0) (second.format.spelling p.1) b in
      pair_reads first.value second.value p.0 p.1 (first.reads p.0 v.0 both.0) (second.reads p.1 v.1 both.1);
  once = pair_once first.value second.value first.once second.once;
  left_out = never_left_out (pair first.value second.value) (λ a. refl);
  something = pair_something first.value second.value first.once second.once;
}

-- ---- fields

-- the fields of a value whose parts are read from a message are read back
abbrev pub AllRead : {B Rest : Type 0} → Fields B → Format Rest → (B → Rest) → Type 0
AllRead {B = B} fields format taken = (it : B) → format.valid (taken it) → AllBytes (format.spelling (taken it)) → FieldsReadBack fields it

-- A type's fields in a message and on a line. Those that are read from a message are read back, and
-- the texts that are found for them say one value of each at most.
pub record Row (B : Type 0) : Type 1 where
  pub fields : Fields B
  pub Rest : Type 0
  pub format : Format Rest
  pub taken : B → Rest
  pub fits : AllRead fields format taken
  pub once : (found : List ℕ → List (List ℕ)) (p q : fields.Parts) → fields.Say found p → fields.Say found q → p ≡ q

pub name_word : (name : List ℕ) → list_all is_word_byte (name ++ codes "=") ≡ true → IsWord (name ++ codes "=")
name_word name test = plain_word (name ++ codes "=") (omega (arith, length-append name (codes "="))) test

-- the last field
abbrev pub last : {A B : Type 0} (name : List ℕ) → list_all is_word_byte (name ++ codes "=") ≡ true → (B → A) → Part A → Row B
last {A = A} name test part p = record {
  fields = field name part p.value nothing;
  Rest = A;
  format = p.format;
  taken = part;
  fits = λ it v b. field_reads name part p.value nothing it (name_word name test) (p.reads (part it) v b) (nothing_reads it);
  once = λ found x y s t. let first = field_once p.value p.once p.left_out (found (name ++ codes "=")) x.0 y.0 s.0 t.0 in λ i. (first i, tt);
}

-- a field, and others after it
abbrev pub more : {A B : Type 0} (name : List ℕ) → list_all is_word_byte (name ++ codes "=") ≡ true → (B → A) → Part A → Row B → Row B
more {A = A} name test part p row = record {
  fields = field name part p.value row.fields;
  Rest = A × row.Rest;
  format = pair_format p.format row.format;
  taken = λ it. (part it, row.taken it);
  fits = λ it v b.
      let both = bytes_apart (p.format.spelling (part it)) (row.format.spelling (row.taken it)) b in
      field_reads name part p.value row.fields it (name_word name test) (p.reads (part it) v.0 both.0) (row.fits it v.1 both.1);
  once = λ found x y s t.
      let first = field_once p.value p.once p.left_out (found (name ++ codes "=")) x.0 y.0 s.0 t.0 in
      let others = row.once found x.1 y.1 s.1 t.1 in
      λ i. (first i, others i);
}

-- the fields as they are printed are words, and are the fields of the value
abbrev pub RowReads : {B : Type 0} → Fields B → B → Type 0
RowReads fields it = AllByRecursion IsWord (words_of (fields.printed it)) × AreFields fields (bors (words_of (fields.printed it))) it

pub row_reads : {B : Type 0} (row : Row B) (it : B) → row.format.valid (row.taken it) → AllBytes (row.format.spelling (row.taken it)) → are_apart row.fields.names ≡ true → RowReads row.fields it
row_reads row it v b differ = let reads = row.fits it v b in (reads.words, fields_are row.fields it reads differ)

pub row_once : {B : Type 0} (row : Row B) (from : row.fields.Parts → B) → ((it : B) → from (row.fields.parts it) ≡ it) → AreFieldsOnce row.fields
row_once row from back words a b p q = sym (back a) ∙ ap from (row.once (λ name. texts_named name words) (row.fields.parts a) (row.fields.parts b) p.1 q.1) ∙ back b
