-- Bytes in quotes are one word.
use Rattle.std.proofs.Common.{◌≡◌, ◌≢◌, ◌<◌, ◌+◌, ◌/◌, ◌%◌, ◌++◌, ◌==◌, ℕ, suc, Bool, true, false, if◌then◌else◌, List, [], ◌∷◌, fold, get_or, ap, sym, refl, subst, ◌∙◌, arith}
use Rattle.std.specs.Char.{digit_char}
use Rattle.std.specs.List.{flat_map}
use Rattle.std.proofs.lemmas.Bool.Decides.{nat_tests}
use Rattle.std.proofs.lemmas.List.Sums.{fold-append}
use Rattle.lines.specs.Atoms.{in_hex, is_plain, printed_byte, quoted}
use Rattle.lines.specs.Pieces.{nesting_after, outside}
use Rattle.frame_runs.proofs.Closed.{IsInner, IsWord, escape_inner, in_both, in_brackets, in_escape, in_quotes, inner_append, inner_kept, no_quotes, quote_begins, quote_ends, quotes_inner, within}

-- ---- a byte between quotes

-- no quote, and no backslash
abbrev pub IsCharacter : ℕ → Type 0
IsCharacter b = ((b == 34) ≡ false) × ((b == 92) ≡ false)

character_stays : (n b : ℕ) → IsCharacter b → nesting_after (in_both in_quotes n) b ≡ in_both in_quotes n
unfolding nesting_after
character_stays n b (quote, slash) = rw (quote, slash) refl

slash_escapes : (n : ℕ) → nesting_after (in_both in_quotes n) 92 ≡ in_both in_escape n
unfolding nesting_after
slash_escapes n = refl

escape_ends : (n b : ℕ) → nesting_after (in_both in_escape n) b ≡ in_both in_quotes n
unfolding nesting_after
escape_ends n b = refl

-- the text ends between the quotes in which it begins, and is nowhere outside
abbrev Stays : ℕ → List ℕ → Type 0
Stays n text = (fold nesting_after (in_both in_quotes n) text ≡ in_both in_quotes n) × IsInner (in_both in_quotes n) text

stays_none : (n : ℕ) → Stays n []
stays_none n = (refl, tt)

stays_append : (n : ℕ) (xs ys : List ℕ) → Stays n xs → Stays n ys → Stays n (xs ++ ys)
stays_append n xs ys a b = (
  fold-append nesting_after (in_both in_quotes n) xs ys ∙ ap (λ p. fold nesting_after p ys) a.0 ∙ b.0,
  inner_append (in_both in_quotes n) xs ys a.1 (subst (λ p. IsInner p ys) (sym a.0) b.1),
)

stays_character : (n b : ℕ) → IsCharacter b → Stays n (b ∷ [])
stays_character n b is = (character_stays n b is, (quotes_inner n, tt))

stays_escape : (n b : ℕ) → Stays n (92 ∷ b ∷ [])
stays_escape n b = (
  ap (λ p. nesting_after p b) (slash_escapes n) ∙ escape_ends n b,
  (quotes_inner n, (subst (λ p. p ≢ outside) (sym (slash_escapes n)) (escape_inner n), tt)),
)

pub hex_is_character : (d : ℕ) → d < 16 → IsCharacter (digit_char d)
hex_is_character d less = (grind (arith, nat_tests), grind (arith, nat_tests))

pub plain_is_character : (b : ℕ) → is_plain b ≡ true → IsCharacter b
plain_is_character b plain = (grind (arith, nat_tests), grind (arith, nat_tests))

byte_stays : (n b : ℕ) → b < 256 → Stays n (printed_byte b)
unfolding printed_byte
byte_stays n b small = go (is_plain b) refl
  where
    go : (t : Bool) → is_plain b ≡ t → Stays n (if t then b ∷ [] else 92 ∷ 120 ∷ in_hex b)
    go true plain = stays_character n b (plain_is_character b plain)
    go false plain =
        stays_append n (92 ∷ 120 ∷ []) (in_hex b) (stays_escape n 120)
        (stays_append n (digit_char (b / 16) ∷ []) (digit_char (b % 16) ∷ []) (stays_character n _ (hex_is_character (b / 16) (omega arith))) (stays_character n _ (hex_is_character (b % 16) (omega arith))))

bytes_stay : (n : ℕ) (bytes : List ℕ) → ((k : ℕ) → get_or bytes k 0 < 256) → Stays n (flat_map printed_byte bytes)
bytes_stay n [] small = stays_none n
bytes_stay n (b ∷ bytes) small = stays_append n (printed_byte b) (flat_map printed_byte bytes) (byte_stays n b (small 0)) (bytes_stay n bytes (λ k. small (suc k)))

-- ---- with the quotes

module _ (bytes : List ℕ) (small : (k : ℕ) → get_or bytes k 0 < 256) where
  after_quote : (n : ℕ) → IsInner (nesting_after (within n) 34) (flat_map printed_byte bytes ++ 34 ∷ [])
  after_quote n =
      let stays = bytes_stay n bytes small in
      subst (λ p. IsInner p (flat_map printed_byte bytes ++ 34 ∷ [])) (sym (quote_begins n))
      (inner_append (in_both in_quotes n) (flat_map printed_byte bytes) (34 ∷ []) stays.1 (subst (λ p. IsInner p (34 ∷ [])) (sym stays.0) (quotes_inner n, tt)))

  quoted_back : (n : ℕ) → fold nesting_after (within n) (quoted bytes) ≡ within n
  quoted_back n =
      ap (λ p. fold nesting_after p (flat_map printed_byte bytes ++ 34 ∷ [])) (quote_begins n) ∙ fold-append nesting_after (in_both in_quotes n) (flat_map printed_byte bytes) (34 ∷ [])
      ∙ ap (λ p. nesting_after p 34) (bytes_stay n bytes small).0 ∙ quote_ends n

  pub quoted_word : IsWord (quoted bytes)
  quoted_word = record {
    closed = record {
      back = quoted_back;
      inner = λ n. (in_brackets no_quotes n, after_quote (n + 1));
    };
    blanks = (λ e. absurd (cc e), inner_kept 32 (nesting_after outside 34) (flat_map printed_byte bytes ++ 34 ∷ []) (after_quote 0));
    commas = (λ e. absurd (cc e), inner_kept 44 (nesting_after outside 34) (flat_map printed_byte bytes ++ 34 ∷ []) (after_quote 0));
    begins = record { byte = 34; rest = flat_map printed_byte bytes ++ 34 ∷ []; is = refl; tight = refl };
    ends = record { front = 34 ∷ flat_map printed_byte bytes; byte = 34; is = refl; tight = refl };
  }
