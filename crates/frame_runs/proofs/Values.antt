-- The text of a value says the value, and is one word.
use Rattle.std.proofs.Common.{◌≡◌, ◌<◌, ◌^◌, ◌++◌, ℕ, Bool, true, false, List, [], ◌∷◌, Some, get_or, map, inl, inr, ap, sym, refl, subst, ◌∙◌, arith, append_assoc}
use Rattle.std.specs.Prelude.{codes}
use Rattle.std.specs.Borrow.{Bor}
use Rattle.std.specs.List.{AllByRecursion, AllZip, flat_map}
use Rattle.std.specs.Str.{IsUtf8}
use Rattle.std.proofs.lemmas.Fmt.{decimal_is_IsNumeral}
use Rattle.std.proofs.lemmas.List.{append-nil}
use Rattle.lines.specs.Atoms.{printed_byte}
use Rattle.lines.specs.Pieces.{AreWords, IsPiece, outside}
use Rattle.lines.proofs.Spelling.{chars_read}
use Rattle.frame_values.specs.Notation.{HoldsAfterWord, Notation, SayItems, SaysInside, bytes_notation, flag_notation, holding, items_text, list_notation, number, optional, pair, string}
use Rattle.frame_runs.proofs.Closed.{EndsTight, IsClosed, IsWord, begins_before, closed_append, closed_byte, closed_none, ends_after, in_round, in_square, kept_after, piece_of, plain_word, word_append, word_item}
use Rattle.frame_runs.proofs.Joined.{are_pieces, are_words, bors, decimal_word, each_after, nothing_trimmed, tight_after_blank, tight_trimmed}
use Rattle.frame_runs.proofs.Quoted.{quoted_word}

-- the text of a value says it, and is one word
pub record ReadsBack {A : Type 0} (value : Notation A) (it : A) : Type 0 where
  pub says : value.Says (value.text it) it
  pub word : IsWord (value.text it)

-- each number of the list is a byte
abbrev pub AreBytes : List ℕ → Type 0
AreBytes bytes = (k : ℕ) → get_or bytes k 0 < 256

pub number_reads : (bits n : ℕ) → n < 2 ^ bits → n < 2 ^ 64 → ReadsBack (number bits) n
number_reads bits n fits small =
    let numeral = decimal_is_IsNumeral n small in
    record { says = (numeral.0, sym numeral.1, fits); word = decimal_word n small }

pub flag_reads : (it : Bool) → ReadsBack flag_notation it
flag_reads true = record { says = refl; word = plain_word (codes "true") (omega arith) refl }
flag_reads false = record { says = refl; word = plain_word (codes "false") (omega arith) refl }

pub bytes_read : (bytes : List ℕ) → AreBytes bytes → ReadsBack bytes_notation bytes
bytes_read bytes small = record { says = inl (flat_map printed_byte bytes, refl, chars_read bytes small); word = quoted_word bytes small }

pub string_reads : (bytes : List ℕ) → AreBytes bytes → IsUtf8 bytes → ReadsBack string bytes
string_reads bytes small text = record { says = (inl (flat_map printed_byte bytes, refl, chars_read bytes small), text); word = quoted_word bytes small }

-- ---- options

pub some_reads : {A : Type 0} (value : Notation A) (it : A) → ReadsBack value it → ReadsBack (optional value) (Some it)
some_reads value it reads = record { says = reads.says; word = reads.word }

-- ---- lists

module _ {A : Type 0} (item : Notation A) where
  -- a comma, a blank and the item, for each
  abbrev each_more : List A → List ℕ
  each_more items = flat_map (λ it. codes ", " ++ item.text it) items

  abbrev after_blanks : List A → List (List ℕ)
  after_blanks items = map (λ it. 32 ∷ item.text it) items

  more_are : (items : List A) → each_more items ≡ each_after 44 (after_blanks items)
  more_are [] = refl
  more_are (it ∷ items) = ap (λ l. (44 ∷ 32 ∷ item.text it) ++ l) (more_are items)

  more_closed : (items : List A) → AllByRecursion (ReadsBack item) items → IsClosed (each_more items)
  more_closed [] all = closed_none
  more_closed (it ∷ items) all =
      closed_append (44 ∷ 32 ∷ item.text it) (each_more items)
      (closed_append (44 ∷ 32 ∷ []) (item.text it) (closed_append (44 ∷ []) (32 ∷ []) (closed_byte 44 (refl, refl, refl)) (closed_byte 32 (refl, refl, refl))) all.0.word.closed)
      (more_closed items all.1)

  more_end : (text : List ℕ) (items : List A) → AllByRecursion (ReadsBack item) items → EndsTight text → EndsTight (text ++ each_more items)
  more_end text [] all ends = subst EndsTight (sym (append-nil text)) ends
  more_end text (it ∷ items) all ends =
      subst EndsTight (append_assoc text (44 ∷ 32 ∷ item.text it) (each_more items))
      (more_end (text ++ 44 ∷ 32 ∷ item.text it) items all.1 (ends_after text (44 ∷ 32 ∷ item.text it) (ends_after (44 ∷ 32 ∷ []) (item.text it) all.0.word.ends)))

  blank_item : (text : List ℕ) → IsWord text → IsPiece 44 (32 ∷ text)
  blank_item text word =
      let blank = closed_byte 32 (refl, refl, refl) in
      piece_of 44 (32 ∷ text) (closed_append (32 ∷ []) text blank word.closed) (kept_after 44 (32 ∷ []) text blank (λ e. absurd (omega arith), tt) word.commas)

  more_pieces : (items : List A) → AllByRecursion (ReadsBack item) items → AllByRecursion (IsPiece 44) (after_blanks items)
  more_pieces [] all = tt
  more_pieces (it ∷ items) all = (blank_item (item.text it) all.0.word, more_pieces items all.1)

  more_said : (items : List A) → AllByRecursion (ReadsBack item) items → AllZip (λ (piece : Bor (List ℕ)) it. SaysInside item.Says piece.now it) (bors (after_blanks items)) items
  more_said [] all = tt
  more_said (it ∷ items) all = (
    (item.text it, tight_after_blank (item.text it) all.0.word.begins all.0.word.ends, all.0.says),
    more_said items all.1,
  )

  inside_said : (items : List A) → AllByRecursion (ReadsBack item) items → SaysInside (SayItems item.Says) (items_text item.text items) items
  inside_said [] all = ([], nothing_trimmed, inl (refl, refl))
  inside_said (it ∷ items) all =
      let first = item.text it in
      let text = first ++ each_more items in
      let pieces : Rattle.lines.specs.Pieces.ArePieces 44 text (bors (first ∷ after_blanks items)) =
      subst (λ more. Rattle.lines.specs.Pieces.ArePieces 44 (first ++ more) (bors (first ∷ after_blanks items))) (sym (more_are items))
      (are_pieces 44 first (after_blanks items) (word_item first all.0.word, more_pieces items all.1)) in (
        text,
        tight_trimmed text (begins_before first (each_more items) all.0.word.begins) (more_end first items all.1 all.0.word.ends),
        inr (bors (first ∷ after_blanks items), pieces, ((first, tight_trimmed first all.0.word.begins all.0.word.ends, all.0.says), more_said items all.1)),
      )

  inside_closed : (items : List A) → AllByRecursion (ReadsBack item) items → IsClosed (items_text item.text items)
  inside_closed [] all = closed_none
  inside_closed (it ∷ items) all = closed_append (item.text it) (each_more items) all.0.word.closed (more_closed items all.1)

  pub list_reads : (items : List A) → AllByRecursion (ReadsBack item) items → ReadsBack (list_notation item) items
  list_reads items all = record {
    says = (items_text item.text items, refl, inside_said items all);
    word = in_square (items_text item.text items) (inside_closed items all);
  }

-- ---- pairs

module _ {A B : Type 0} (first : Notation A) (second : Notation B) (a : A) (b : B) (reads : ReadsBack first a) (also : ReadsBack second b) where
  both_words : AreWords ((first.text a ++ 32 ∷ []) ++ second.text b) (bors (first.text a ∷ second.text b ∷ []))
  both_words =
      subst (λ text. AreWords text (bors (first.text a ∷ second.text b ∷ [])))
      (ap (λ l. first.text a ++ 32 ∷ l) (append-nil (second.text b)) ∙ sym (append_assoc (first.text a) (32 ∷ []) (second.text b)))
      (are_words (first.text a) (second.text b ∷ []) (reads.word, (also.word, tt)))

  pub pair_reads : ReadsBack (pair first second) (a, b)
  pair_reads = record {
    says = record {
      words = bors (first.text a ∷ second.text b ∷ []);
      are_words = record { inside = (first.text a ++ 32 ∷ []) ++ second.text b; within = refl; are_words = both_words };
      are_two = refl;
      is_first = reads.says;
      is_second = also.says;
    };
    word = in_round ((first.text a ++ 32 ∷ []) ++ second.text b)
        (closed_append (first.text a ++ 32 ∷ []) (second.text b) (closed_append (first.text a) (32 ∷ []) reads.word.closed (closed_byte 32 (refl, refl, refl))) also.word.closed);
  }

-- ---- a value in brackets after a word

pub after_word_is : (word inside : List ℕ) → word ++ codes "(" ++ inside ++ codes ")" ≡ word ++ 40 ∷ (inside ++ 41 ∷ [])
after_word_is word inside = append_assoc (word ++ 40 ∷ []) inside (41 ∷ []) ∙ append_assoc word (40 ∷ []) (inside ++ 41 ∷ [])

pub after_word : (word inside : List ℕ) → IsWord word → IsClosed inside → IsWord (word ++ codes "(" ++ inside ++ codes ")")
after_word word inside is closed = subst IsWord (sym (after_word_is word inside)) (word_append word (40 ∷ (inside ++ 41 ∷ [])) is (in_round inside closed))

module _ {A : Type 0} (word : List ℕ) (value : Notation A) (it : A) (is : IsWord word) (reads : ReadsBack value it) where
  pub holding_said : HoldsAfterWord word value (holding word value it) it
  holding_said = (value.text it, after_word_is word (value.text it), (value.text it, tight_trimmed (value.text it) reads.word.begins reads.word.ends, reads.says))

  pub holding_word : IsWord (holding word value it)
  holding_word = after_word word (value.text it) is reads.word.closed
