-- Each word of a future as it is printed is read as one of its words, and they are the fields of its node.
use Rattle.std.proofs.Common.{◌≡◌, ◌<◌, ◌/◌, ◌%◌, ◌^◌, ◌++◌, ◌==◌, ℕ, suc, Bool, true, false, if◌then◌else◌, List, [], ◌∷◌, Some, None, get_or, length, sym, refl, subst, arith, length-append}
use Rattle.std.specs.Prelude.{codes}
use Rattle.std.specs.Char.{digit_char}
use Rattle.std.specs.Fmt.{decimal}
use Rattle.std.specs.List.{AllByRecursion, flat_map, list_all}
use Rattle.std.specs.Str.Parse.{AllDigits}
use Rattle.std.proofs.lemmas.Bool.{and_parts}
use Rattle.std.proofs.lemmas.Bool.Decides.{nat_tests}
use Rattle.std.proofs.lemmas.Fmt.{decimal_is_IsNumeral}
use Rattle.std.proofs.lemmas.Str.Parse.{digit_from_value}
use Rattle.lines.specs.Atoms.{in_hex, is_plain, printed_byte, quoted}
use Rattle.journal_protocol.specs.FutureKind.{FutureKind}
use Rattle.journal_protocol.specs.FutureKind.TheVariants as kinds
use Rattle.journal_protocol.specs.FutureNode.{FutureNode}
use Rattle.wire.specs.Format.{bytes, list, u64s}
use Rattle.journal_attempt.specs.Futures.{node_format}
use Rattle.frame_values.specs.Choices.{kind_text}
use Rattle.frame_values.specs.FutureWords.{ends_word, within_after}
use Rattle.frame_values.specs.Futures.{IsUnbroken, IsWord as IsPart, node_fields}
use Rattle.frame_values.specs.Notation.{AreFields, Field, items_text, list_notation, number, string, unless_left_out}
use Rattle.frame_runs.proofs.Choices.{kind_item}
use Rattle.frame_runs.proofs.Closed.{IsWord, is_word_byte, type_taken}
use Rattle.frame_runs.proofs.Fitting.{AllBytes, Row, below, bytes_apart, last, list_item, more, row_reads, spelled_bytes, text_item, u32_item, whole}
use Rattle.frame_runs.proofs.Joined.{bors}
use Rattle.frame_runs.proofs.Named.{apart, not_named, words_of}
use Rattle.frame_runs.proofs.Quoted.{IsCharacter, hex_is_character, plain_is_character}

-- ---- places in the text of a future: `frame_lines` has the type, and names it for itself alone

abbrev Within : Type 0
Within = type_taken within_after

abbrev place_of : {w : Within} → ((word : List ℕ) → IsPart word → IsUnbroken w word) → Within
place_of {w = w} says = w

abbrev Nothing : Within
Nothing = place_of (λ word is. is.unbroken)

abbrev InList : Within
InList = within_after Nothing 91

abbrev Quotes : Within
Quotes = within_after InList 34

-- No byte of the text ends a word, if it begins in the first place; it ends in the second.
abbrev Passes : Within → Within → List ℕ → Type 0
Passes w v [] = w ≡ v
Passes w v (b ∷ text) = (ends_word w b ≡ false) × Passes (within_after w b) v text

passes_append : (w v u : Within) (xs ys : List ℕ) → Passes w v xs → Passes v u ys → Passes w u (xs ++ ys)
passes_append w v u [] ys a b = subst (λ x. Passes x u ys) (sym a) b
passes_append w v u (x ∷ xs) ys a b = (a.0, passes_append (within_after w x) v u xs ys a.1 b)

unbroken : (w : Within) (text : List ℕ) → Passes w Nothing text → IsUnbroken w text
unbroken w [] passes = passes
unbroken w (b ∷ text) passes = (passes.0, unbroken (within_after w b) text passes.1)

-- ---- outside of lists

outside_ends : (b : ℕ) → (b == 32) ≡ false → (b == 41) ≡ false → ends_word Nothing b ≡ false
outside_ends b blank closing = rw (blank, closing) refl

outside_stays : (b : ℕ) → (b == 91) ≡ false → within_after Nothing b ≡ Nothing
outside_stays b opening = rw opening refl

plain_passes : (text : List ℕ) → list_all is_word_byte text ≡ true → Passes Nothing Nothing text
plain_passes [] all = refl
plain_passes (b ∷ text) all =
    let parts = and_parts (is_word_byte b) (list_all is_word_byte text) all in
    let is : is_word_byte b ≡ true = parts.0 in
    let stays : within_after Nothing b ≡ Nothing = outside_stays b (grind (arith, nat_tests)) in
    (outside_ends b (grind (arith, nat_tests)) (grind (arith, nat_tests)), subst (λ w. Passes w Nothing text) (sym stays) (plain_passes text parts.1))

kind_passes : (kind : FutureKind) → Passes Nothing Nothing (kind_text kind)
kind_passes kinds.FirstCompleted = plain_passes (codes "FirstCompleted") refl
kind_passes kinds.AllCompleted = plain_passes (codes "AllCompleted") refl
kind_passes kinds.FirstSucceededOrAllFailed = plain_passes (codes "FirstSucceededOrAllFailed") refl
kind_passes kinds.AllSucceededOrFirstFailed = plain_passes (codes "AllSucceededOrFirstFailed") refl
kind_passes kinds.Unknown = plain_passes (codes "Unknown") refl

-- ---- in a list

listed_stays : (b : ℕ) → (b == 93) ≡ false → (b == 34) ≡ false → within_after InList b ≡ InList
listed_stays b closing quote = rw (closing, quote) refl

digits_pass : (text : List ℕ) → AllDigits 10 text → Passes InList InList text
digits_pass [] all = refl
digits_pass (c ∷ text) all =
    let digit = digit_from_value c all.0 in
    let stays : within_after InList c ≡ InList = listed_stays c (grind (arith, nat_tests)) (grind (arith, nat_tests)) in
    (refl, subst (λ w. Passes w InList text) (sym stays) (digits_pass text all.1))

number_passes : (n : ℕ) → n < 2 ^ 32 → Passes InList InList (decimal n)
number_passes n fits = digits_pass (decimal n) (decimal_is_IsNumeral n (omega (arith, fits))).0.1

-- ---- in quotes

quoted_stays : (b : ℕ) → IsCharacter b → within_after Quotes b ≡ Quotes
quoted_stays b (quote, slash) = rw (quote, slash) refl

character_passes : (b : ℕ) → IsCharacter b → Passes Quotes Quotes (b ∷ [])
character_passes b is = (refl, quoted_stays b is)

byte_passes : (b : ℕ) → b < 256 → Passes Quotes Quotes (printed_byte b)
unfolding printed_byte
byte_passes b small = go (is_plain b) refl
  where
    go : (t : Bool) → is_plain b ≡ t → Passes Quotes Quotes (if t then b ∷ [] else 92 ∷ 120 ∷ in_hex b)
    go true plain = character_passes b (plain_is_character b plain)
    go false plain =
        let high : Passes Quotes Quotes (digit_char (b / 16) ∷ []) = character_passes (digit_char (b / 16)) (hex_is_character (b / 16) (omega arith)) in
        let low : Passes Quotes Quotes (digit_char (b % 16) ∷ []) = character_passes (digit_char (b % 16)) (hex_is_character (b % 16) (omega arith)) in
        (refl, (refl, passes_append Quotes Quotes Quotes (digit_char (b / 16) ∷ []) (digit_char (b % 16) ∷ []) high low))

bytes_pass : (bytes : List ℕ) → ((k : ℕ) → get_or bytes k 0 < 256) → Passes Quotes Quotes (flat_map printed_byte bytes)
bytes_pass [] small = refl
bytes_pass (b ∷ bytes) small = passes_append Quotes Quotes Quotes (printed_byte b) (flat_map printed_byte bytes) (byte_passes b (small 0)) (bytes_pass bytes (λ k. small (suc k)))

quoted_passes : (bytes : List ℕ) → ((k : ℕ) → get_or bytes k 0 < 256) → Passes InList InList (quoted bytes)
quoted_passes bytes small = (refl, passes_append Quotes Quotes InList (flat_map printed_byte bytes) (34 ∷ []) (bytes_pass bytes small) (refl, refl))

-- ---- lists

module _ {A : Type 0} (text : A → List ℕ) where
  more_pass : (items : List A) → AllByRecursion (λ it. Passes InList InList (text it)) items → Passes InList InList (flat_map (λ it. codes ", " ++ text it) items)
  more_pass [] all = refl
  more_pass (it ∷ items) all = (refl, (refl, passes_append InList InList InList (text it) (flat_map (λ it. codes ", " ++ text it) items) all.0 (more_pass items all.1)))

  items_pass : (items : List A) → AllByRecursion (λ it. Passes InList InList (text it)) items → Passes InList InList (items_text text items)
  items_pass [] all = refl
  items_pass (it ∷ items) all = passes_append InList InList InList (text it) (flat_map (λ it. codes ", " ++ text it) items) all.0 (more_pass items all.1)

  list_passes : (items : List A) → AllByRecursion (λ it. Passes InList InList (text it)) items → Passes Nothing Nothing (codes "[" ++ items_text text items ++ codes "]")
  list_passes items all = (refl, passes_append InList InList Nothing (items_text text items) (codes "]") (items_pass items all) (refl, refl))

numbers_pass : (ns : List ℕ) → AllByRecursion (λ n. n < 2 ^ 32) ns → AllByRecursion (λ n. Passes InList InList (decimal n)) ns
numbers_pass [] all = tt
numbers_pass (n ∷ ns) all = (number_passes n all.0, numbers_pass ns all.1)

names_pass : (names : List (List ℕ)) → AllBytes (flat_map bytes names) → AllByRecursion (λ name. Passes InList InList (quoted name)) names
names_pass [] all = tt
names_pass (name ∷ names) all =
    let both = bytes_apart (bytes name) (flat_map bytes names) all in
    (quoted_passes name (below name (spelled_bytes name both.0)), names_pass names both.1)

spelled_names : (names : List (List ℕ)) → AllBytes (list bytes names) → AllBytes (flat_map bytes names)
unfolding list
spelled_names names all = (bytes_apart (u64s (length names)) (flat_map bytes names) all).1

-- ---- the words of a node

part_of : (name text : List ℕ) → list_all is_word_byte (name ++ codes "=") ≡ true → apart (codes "nested=[") (name ++ codes "=") ≡ true → Passes Nothing Nothing text → IsPart (name ++ codes "=" ++ text)
part_of name text plain differ passes = record {
  some = omega (arith, length-append (name ++ codes "=") text, length-append name (codes "="));
  unbroken = unbroken Nothing (name ++ codes "=" ++ text) (passes_append Nothing Nothing Nothing (name ++ codes "=") text (plain_passes (name ++ codes "=") plain) passes);
  no_list = not_named (codes "nested=[") (name ++ codes "=") text differ;
}

more_parts : (left_out : Bool) (name text : List ℕ) (fs : List Field) → IsPart (name ++ codes "=" ++ text) → AllByRecursion IsPart (words_of fs) → AllByRecursion IsPart (words_of ((name, if left_out then None else Some text) ∷ fs))
more_parts true name text fs is all = all
more_parts false name text fs is all = (is, all)

abbrev pub node_row : Row FutureNode
node_row =
    more (codes "kind") refl (λ n. n.kind) (whole kind_item) (
    more (codes "completions") refl (λ n. n.waiting_completions) (whole (list_item u32_item)) (
    more (codes "signals") refl (λ n. n.waiting_signals) (whole (list_item u32_item)) (
    last (codes "named") refl (λ n. n.waiting_named_signals) (whole (list_item text_item)))))

-- the words of the node's fields
abbrev pub words_in : FutureNode → List (List ℕ)
words_in n = words_of (node_fields.printed n)

-- Each is a word of the future and of a line, and they are the fields of the node.
pub record Prints (n : FutureNode) : Type 0 where
  pub parts : AllByRecursion IsPart (words_in n)
  pub words : AllByRecursion IsWord (words_in n)
  pub are : AreFields node_fields (bors (words_in n)) n

-- a list as a field, if it isn't left out
more_listed : {A : Type 0} (name : List ℕ) (text : A → List ℕ) (items : List A) (fs : List Field) → list_all is_word_byte (name ++ codes "=") ≡ true → apart (codes "nested=[") (name ++ codes "=") ≡ true → AllByRecursion (λ it. Passes InList InList (text it)) items
    → AllByRecursion IsPart (words_of fs) → AllByRecursion IsPart (words_of ((name, if length items == 0 then None else Some (codes "[" ++ items_text text items ++ codes "]")) ∷ fs))
more_listed name text items fs plain differ all others =
    let list : List ℕ = codes "[" ++ items_text text items ++ codes "]" in
    more_parts (length items == 0) name list fs (part_of name list plain differ (list_passes text items all)) others

node_parts : (n : FutureNode) → (node_row).format.valid ((node_row).taken n) → AllBytes (list bytes n.waiting_named_signals) → AllByRecursion IsPart (words_in n)
node_parts n v small =
    let named : List Field = (codes "named", unless_left_out (list_notation string) n.waiting_named_signals) ∷ [] in
    let signals : List Field = (codes "signals", unless_left_out (list_notation (number 32)) n.waiting_signals) ∷ named in
    let completions : List Field = (codes "completions", unless_left_out (list_notation (number 32)) n.waiting_completions) ∷ signals in
    more_parts false (codes "kind") (kind_text n.kind) completions (part_of (codes "kind") (kind_text n.kind) refl refl (kind_passes n.kind))
    (more_listed (codes "completions") decimal n.waiting_completions signals refl refl (numbers_pass n.waiting_completions v.1.0.1)
    (more_listed (codes "signals") decimal n.waiting_signals named refl refl (numbers_pass n.waiting_signals v.1.1.0.1)
    (more_listed (codes "named") quoted n.waiting_named_signals [] refl refl (names_pass n.waiting_named_signals (spelled_names n.waiting_named_signals small)) tt)))

node_prints : (n : FutureNode) → (node_format).valid n → AllBytes ((node_format).spelling n) → Prints n
node_prints n v b =
    let spelling : List ℕ = (node_row).format.spelling ((node_row).taken n) in
    let own : AllBytes spelling = (bytes_apart spelling (u64s n.nested) b).0 in
    let after_kind = (bytes_apart ((kind_item).format.spelling n.kind) _ own).1 in
    let after_completions = (bytes_apart ((list_item u32_item).format.spelling n.waiting_completions) _ after_kind).1 in
    let names = (bytes_apart ((list_item u32_item).format.spelling n.waiting_signals) _ after_completions).1 in
    let reads = row_reads node_row n v.0 own refl in
    record { parts = node_parts n v.0 names; words = reads.0; are = reads.1 }

pub each_prints : (nodes : List FutureNode) → AllByRecursion (node_format).valid nodes → AllBytes (flat_map (node_format).spelling nodes) → AllByRecursion Prints nodes
each_prints [] v b = tt
each_prints (n ∷ nodes) v b =
    let both = bytes_apart ((node_format).spelling n) (flat_map (node_format).spelling nodes) b in
    (node_prints n v.0 both.0, each_prints nodes v.1 both.1)
