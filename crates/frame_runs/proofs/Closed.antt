-- Texts that close their brackets and quotes, and what stands within these.
use Rattle.std.proofs.Common.{◌≡◌, ◌≢◌, ◌<◌, ◌+◌, ◌-◌, ◌++◌, ◌==◌, ℕ, zero, suc, Bool, true, false, List, [], ◌∷◌, Option, Some, None, length, fold, take, get_or, not, nat_lt, ◌&&◌, append_assoc, ap, sym, refl, subst, ◌∙◌, arith}
use Rattle.std.specs.Char.{is_ascii_whitespace}
use Rattle.std.specs.List.{AllByRecursion, list_all}
use Rattle.std.proofs.lemmas.Bool.{and_parts}
use Rattle.std.proofs.lemmas.Bool.Decides.{nat_tests}
use Rattle.std.proofs.lemmas.List.Sums.{fold-append}
use Rattle.lines.specs.Pieces.{IsPiece, closes, nested, nesting_after, opens, outside, quotes_behind}

-- ---- places: `lines` has the type, and names it for itself alone

abbrev pub type_of_some : {A : Type 0} → Option A → Type 0
type_of_some {A = A} some = A

abbrev pub type_taken : {A B : Type 0} → (A → B) → Type 0
type_taken {A = A} taking = A

-- in which brackets and quotes a place is
abbrev pub Nesting : Type 0
Nesting = type_of_some outside

abbrev pub Place : Type 0
Place = Option Nesting

abbrev pub Quotes : Type 0
Quotes = type_taken quotes_behind

abbrev IsThere : Place → Type 0
IsThere None = ⊥
IsThere (Some n) = Unit {0}

abbrev quotes_of : (p : Place) → IsThere p → Quotes
quotes_of None none = absurd none
quotes_of (Some n) there = n.quotes

abbrev pub no_quotes : Quotes
no_quotes = quotes_of outside tt

abbrev pub in_quotes : Quotes
in_quotes = quotes_behind no_quotes 34

abbrev pub in_escape : Quotes
in_escape = quotes_behind in_quotes 92

-- in this number of brackets, in these quotes
abbrev pub in_both : Quotes → ℕ → Place
in_both quotes n = nested (Some n) quotes

-- in this number of brackets, outside quotes
abbrev pub within : ℕ → Place
within n = in_both no_quotes n

-- no byte of the text stands outside of brackets and quotes
abbrev pub IsInner : Place → List ℕ → Type 0
IsInner s [] = Unit {0}
IsInner s (b ∷ text) = (s ≢ outside) × IsInner (nesting_after s b) text

-- each separator stands in brackets or quotes
abbrev pub IsKept : ℕ → Place → List ℕ → Type 0
IsKept separator s [] = Unit {0}
IsKept separator s (b ∷ text) = (b ≡ separator → s ≢ outside) × IsKept separator (nesting_after s b) text

-- Its end stands in the brackets in which it begins, and in further brackets none of its bytes
-- stands outside.
pub record IsClosed (text : List ℕ) : Type 0 where
  pub back : (n : ℕ) → fold nesting_after (within n) text ≡ within n
  pub inner : (n : ℕ) → IsInner (within (n + 1)) text

-- ---- one text after another

pub inner_append : (s : Place) (xs ys : List ℕ) → IsInner s xs → IsInner (fold nesting_after s xs) ys → IsInner s (xs ++ ys)
inner_append s [] ys a b = b
inner_append s (x ∷ xs) ys a b = (a.0, inner_append (nesting_after s x) xs ys a.1 b)

pub kept_append : (separator : ℕ) (s : Place) (xs ys : List ℕ) → IsKept separator s xs → IsKept separator (fold nesting_after s xs) ys → IsKept separator s (xs ++ ys)
kept_append separator s [] ys a b = b
kept_append separator s (x ∷ xs) ys a b = (a.0, kept_append separator (nesting_after s x) xs ys a.1 b)

pub inner_kept : (separator : ℕ) (s : Place) (text : List ℕ) → IsInner s text → IsKept separator s text
inner_kept separator s [] a = tt
inner_kept separator s (b ∷ text) a = (λ e. a.0, inner_kept separator (nesting_after s b) text a.1)

pub closed_none : IsClosed []
closed_none = record { back = λ n. refl; inner = λ n. tt }

pub closed_append : (xs ys : List ℕ) → IsClosed xs → IsClosed ys → IsClosed (xs ++ ys)
closed_append xs ys a b = record {
  back = λ n. fold-append nesting_after (within n) xs ys ∙ ap (λ s. fold nesting_after s ys) (a.back n) ∙ b.back n;
  inner = λ n. inner_append (within (n + 1)) xs ys (a.inner n) (subst (λ s. IsInner s ys) (sym (a.back (n + 1))) (b.inner n));
}

-- the same of what isn't cut
pub kept_after : (separator : ℕ) (xs ys : List ℕ) → IsClosed xs → IsKept separator outside xs → IsKept separator outside ys → IsKept separator outside (xs ++ ys)
kept_after separator xs ys closed a b = kept_append separator outside xs ys a (subst (λ s. IsKept separator s ys) (sym (closed.back 0)) b)

-- ---- places

brackets_of : Place → ℕ
brackets_of None = 0
brackets_of (Some n) = n.brackets

brackets_are : (quotes : Quotes) (n : ℕ) → brackets_of (in_both quotes n) ≡ n
unfolding brackets_of
brackets_are quotes n = refl

none_outside : brackets_of outside ≡ 0
unfolding brackets_of
none_outside = refl

one_after : brackets_of (nesting_after outside 40) ≡ 1
unfolding brackets_of nesting_after
one_after = refl

none_more : (n : ℕ) → brackets_of (nesting_after (in_both in_quotes n) 40) ≡ n
unfolding brackets_of nesting_after
none_more n = refl

none_more_escaped : (n : ℕ) → brackets_of (nesting_after (in_both in_escape n) 40) ≡ n
unfolding brackets_of nesting_after
none_more_escaped n = refl

-- a place in brackets is none outside
pub in_brackets : (quotes : Quotes) (n : ℕ) → in_both quotes (n + 1) ≢ outside
in_brackets quotes n e = let same : n + 1 ≡ 0 = sym (brackets_are quotes (n + 1)) ∙ ap brackets_of e ∙ none_outside in absurd (omega arith)

-- nor is one in quotes
pub quotes_inner : (n : ℕ) → in_both in_quotes n ≢ outside
quotes_inner n e =
    let none : n ≡ 0 = sym (brackets_are in_quotes n) ∙ ap brackets_of e ∙ none_outside in
    let one : n ≡ 1 = sym (none_more n) ∙ ap (λ p. brackets_of (nesting_after p 40)) e ∙ one_after in
    absurd (omega arith)

pub escape_inner : (n : ℕ) → in_both in_escape n ≢ outside
escape_inner n e =
    let none : n ≡ 0 = sym (brackets_are in_escape n) ∙ ap brackets_of e ∙ none_outside in
    let one : n ≡ 1 = sym (none_more_escaped n) ∙ ap (λ p. brackets_of (nesting_after p 40)) e ∙ one_after in
    absurd (omega arith)

-- ---- bytes

-- a byte that is no quote and no bracket
abbrev pub IsPlain : ℕ → Type 0
IsPlain b = ((b == 34) ≡ false) × (opens b ≡ false) × (closes b ≡ false)

pub plain_stays : (n b : ℕ) → IsPlain b → nesting_after (within n) b ≡ within n
unfolding nesting_after
plain_stays n b (quote, opening, closing) = rw (opening, closing, quote) refl

pub round_opens : (n : ℕ) → nesting_after (within n) 40 ≡ within (n + 1)
unfolding nesting_after
round_opens n = refl

pub square_opens : (n : ℕ) → nesting_after (within n) 91 ≡ within (n + 1)
unfolding nesting_after
square_opens n = refl

no_less : (n : ℕ) → ((n + 1) == 0) ≡ false
no_less n = grind arith

one_less : (n : ℕ) → n + 1 - 1 ≡ n
one_less n = omega arith

pub round_closes : (n : ℕ) → nesting_after (within (n + 1)) 41 ≡ within n
unfolding nesting_after
round_closes n = rw (no_less n, one_less n) refl

pub square_closes : (n : ℕ) → nesting_after (within (n + 1)) 93 ≡ within n
unfolding nesting_after
square_closes n = rw (no_less n, one_less n) refl

pub quote_begins : (n : ℕ) → nesting_after (within n) 34 ≡ in_both in_quotes n
unfolding nesting_after
quote_begins n = refl

pub quote_ends : (n : ℕ) → nesting_after (in_both in_quotes n) 34 ≡ within n
unfolding nesting_after
quote_ends n = refl

pub closed_byte : (b : ℕ) → IsPlain b → IsClosed (b ∷ [])
closed_byte b plain = record {
  back = λ n. plain_stays n b plain;
  inner = λ n. (in_brackets no_quotes n, tt);
}

-- each byte of the text is plain
abbrev pub ArePlainBytes : List ℕ → Type 0
ArePlainBytes [] = Unit {0}
ArePlainBytes (b ∷ text) = IsPlain b × ArePlainBytes text

pub closed_plain : (text : List ℕ) → ArePlainBytes text → IsClosed text
closed_plain [] plain = closed_none
closed_plain (b ∷ text) plain = closed_append (b ∷ []) text (closed_byte b plain.0) (closed_plain text plain.1)

-- ---- brackets

module _ (opening closing : ℕ) (opens_one : (n : ℕ) → nesting_after (within n) opening ≡ within (n + 1)) (closes_it : (n : ℕ) → nesting_after (within (n + 1)) closing ≡ within n)
    (text : List ℕ) (closed : IsClosed text) where
  after_text : (n : ℕ) → fold nesting_after (within n) (opening ∷ text) ≡ within (n + 1)
  after_text n = ap (λ p. fold nesting_after p text) (opens_one n) ∙ closed.back (n + 1)

  after_opening : (n : ℕ) → IsInner (nesting_after (within n) opening) (text ++ closing ∷ [])
  after_opening n =
      subst (λ p. IsInner p (text ++ closing ∷ [])) (sym (opens_one n))
      (inner_append (within (n + 1)) text (closing ∷ []) (closed.inner n)
      (subst (λ p. IsInner p (closing ∷ [])) (sym (closed.back (n + 1))) (in_brackets no_quotes n, tt)))

  pub bracketed_closed : IsClosed (opening ∷ (text ++ closing ∷ []))
  bracketed_closed = record {
    back = λ n. fold-append nesting_after (within n) (opening ∷ text) (closing ∷ []) ∙ ap (λ p. nesting_after p closing) (after_text n) ∙ closes_it n;
    inner = λ n. (in_brackets no_quotes n, after_opening (n + 1));
  }

  pub bracketed_kept : (separator : ℕ) → (opening ≡ separator → ⊥) → IsKept separator outside (opening ∷ (text ++ closing ∷ []))
  bracketed_kept separator other = (λ e. absurd (other e), inner_kept separator (nesting_after outside opening) (text ++ closing ∷ []) (after_opening 0))

-- ---- pieces

uncut_from : (separator : ℕ) (s : Place) (text : List ℕ) → IsKept separator s text → (k : ℕ) → k < length text → get_or text k 0 ≡ separator → fold nesting_after s (take k text) ≢ outside
uncut_from separator s [] kept k less is = absurd (omega arith)
uncut_from separator s (b ∷ text) kept zero less is = kept.0 is
uncut_from separator s (b ∷ text) kept (suc k) less is = uncut_from separator (nesting_after s b) text kept.1 k (omega arith) is

pub piece_of : (separator : ℕ) (text : List ℕ) → IsClosed text → IsKept separator outside text → IsPiece separator text
piece_of separator text closed kept = (closed.back 0, uncut_from separator outside text kept)

-- ---- words

-- the text begins with a byte that is no blank
pub record BeginsTight (text : List ℕ) : Type 0 where
  pub byte : ℕ
  pub rest : List ℕ
  pub is : text ≡ byte ∷ rest
  pub tight : is_ascii_whitespace byte ≡ false

-- and ends with one
pub record EndsTight (text : List ℕ) : Type 0 where
  pub front : List ℕ
  pub byte : ℕ
  pub is : text ≡ front ++ byte ∷ []
  pub tight : is_ascii_whitespace byte ≡ false

-- a text that is one word of a line and one item of a list
pub record IsWord (text : List ℕ) : Type 0 where
  pub closed : IsClosed text
  pub blanks : IsKept 32 outside text
  pub commas : IsKept 44 outside text
  pub begins : BeginsTight text
  pub ends : EndsTight text

pub begins_before : (xs ys : List ℕ) → BeginsTight xs → BeginsTight (xs ++ ys)
begins_before xs ys b = record { byte = b.byte; rest = b.rest ++ ys; is = ap (λ l. l ++ ys) b.is; tight = b.tight }

pub ends_after : (xs ys : List ℕ) → EndsTight ys → EndsTight (xs ++ ys)
ends_after xs ys e = record { front = xs ++ e.front; byte = e.byte; is = ap (λ l. xs ++ l) e.is ∙ sym (append_assoc xs e.front (e.byte ∷ [])); tight = e.tight }

pub begins_long : (text : List ℕ) → BeginsTight text → 0 < length text
begins_long text b = let long = ap length b.is in omega (arith, long)

pub word_append : (xs ys : List ℕ) → IsWord xs → IsWord ys → IsWord (xs ++ ys)
word_append xs ys a b = record {
  closed = closed_append xs ys a.closed b.closed;
  blanks = kept_after 32 xs ys a.closed a.blanks b.blanks;
  commas = kept_after 44 xs ys a.closed a.commas b.commas;
  begins = begins_before xs ys a.begins;
  ends = ends_after xs ys b.ends;
}

pub word_piece : (text : List ℕ) → IsWord text → IsPiece 32 text
word_piece text w = piece_of 32 text w.closed w.blanks

pub word_item : (text : List ℕ) → IsWord text → IsPiece 44 text
word_item text w = piece_of 44 text w.closed w.commas

-- a closed text in brackets is a word
pub in_round : (text : List ℕ) → IsClosed text → IsWord (40 ∷ (text ++ 41 ∷ []))
in_round text closed = record {
  closed = bracketed_closed 40 41 round_opens round_closes text closed;
  blanks = bracketed_kept 40 41 round_opens round_closes text closed 32 (λ e. absurd (omega arith));
  commas = bracketed_kept 40 41 round_opens round_closes text closed 44 (λ e. absurd (omega arith));
  begins = record { byte = 40; rest = text ++ 41 ∷ []; is = refl; tight = refl };
  ends = record { front = 40 ∷ text; byte = 41; is = refl; tight = refl };
}

pub in_square : (text : List ℕ) → IsClosed text → IsWord (91 ∷ (text ++ 93 ∷ []))
in_square text closed = record {
  closed = bracketed_closed 91 93 square_opens square_closes text closed;
  blanks = bracketed_kept 91 93 square_opens square_closes text closed 32 (λ e. absurd (omega arith));
  commas = bracketed_kept 91 93 square_opens square_closes text closed 44 (λ e. absurd (omega arith));
  begins = record { byte = 91; rest = text ++ 93 ∷ []; is = refl; tight = refl };
  ends = record { front = 91 ∷ text; byte = 93; is = refl; tight = refl };
}

-- ---- words of letters and digits

-- no blank, no comma, no quote and no bracket
abbrev pub is_word_byte : ℕ → Bool
is_word_byte b = nat_lt 44 b && not (b == 91) && not (b == 93) && not (b == 123) && not (b == 125)

-- what such a byte is
record IsByte (b : ℕ) : Type 0 where
  plain : IsPlain b
  no_blank : b ≡ 32 → ⊥
  no_comma : b ≡ 44 → ⊥
  tight : is_ascii_whitespace b ≡ false

byte_is : (b : ℕ) → is_word_byte b ≡ true → IsByte b
byte_is b is = record {
  plain = (grind (arith, nat_tests), grind (arith, nat_tests), grind (arith, nat_tests));
  no_blank = λ e. grind (arith, nat_tests);
  no_comma = λ e. grind (arith, nat_tests);
  tight = grind (arith, nat_tests);
}

pub byte_word : (b : ℕ) → is_word_byte b ≡ true → IsWord (b ∷ [])
byte_word b is =
    let facts = byte_is b is in
    record {
      closed = closed_byte b facts.plain;
      blanks = (λ e. absurd (facts.no_blank e), tt);
      commas = (λ e. absurd (facts.no_comma e), tt);
      begins = record { byte = b; rest = []; is = refl; tight = facts.tight };
      ends = record { front = []; byte = b; is = refl; tight = facts.tight };
    }

pub bytes_word : (b : ℕ) (text : List ℕ) → is_word_byte b ≡ true → AllByRecursion (λ c. is_word_byte c ≡ true) text → IsWord (b ∷ text)
bytes_word b [] is all = byte_word b is
bytes_word b (c ∷ text) is all = word_append (b ∷ []) (c ∷ text) (byte_word b is) (bytes_word c text all.0 all.1)

-- a test that computes
all_bytes : (text : List ℕ) → list_all is_word_byte text ≡ true → AllByRecursion (λ c. is_word_byte c ≡ true) text
all_bytes [] all = tt
all_bytes (b ∷ text) all = let parts = and_parts (is_word_byte b) (list_all is_word_byte text) all in (parts.0, all_bytes text parts.1)

pub plain_word : (text : List ℕ) → 0 < length text → list_all is_word_byte text ≡ true → IsWord text
plain_word [] some all = absurd (omega arith)
plain_word (b ∷ text) some all = let parts = all_bytes (b ∷ text) all in bytes_word b text parts.0 parts.1
