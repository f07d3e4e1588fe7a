-- Words with a blank between each two are the words of the text, and numbers are words.
use Rattle.std.proofs.Common.{◌≡◌, ◌<◌, ◌+◌, ◌-◌, ◌^◌, ◌++◌, ◌==◌, ℕ, zero, suc, Bool, true, false, not, List, [], ◌∷◌, length, take, drop, filter, get_or, map, ap, sym, refl, subst, ◌∙◌, arith, append_assoc}
use Rattle.std.specs.Borrow.{Bor}
use Rattle.std.specs.Char.{digit_value, is_ascii_whitespace}
use Rattle.std.specs.Fmt.{decimal}
use Rattle.std.specs.List.{All, AllByRecursion, flat_map}
use Rattle.std.specs.Str.{IsTrimAscii}
use Rattle.std.specs.Str.Parse.{AllDigits, IsNumeral}
use Rattle.std.proofs.Math.Seq.{get_or-append_seam, take-length}
use Rattle.std.proofs.lemmas.Bool.Decides.{nat_tests}
use Rattle.std.proofs.lemmas.Fmt.{decimal_is_IsNumeral}
use Rattle.std.proofs.lemmas.List.{append-nil}
use Rattle.std.proofs.lemmas.Str.Parse.{digit_from_value}
use Rattle.lines.specs.Pieces.{ArePieces, AreWords, IsPiece, is_word}
use Rattle.lines.proofs.Cutting.{ended}
use Rattle.frame_runs.proofs.Closed.{BeginsTight, EndsTight, IsClosed, IsPlain, IsWord, begins_long, bytes_word, closed_append, closed_byte, is_word_byte, word_piece}

-- ---- pieces with these texts

abbrev pub bor : List ℕ → Bor (List ℕ)
bor text = record { ref_ptr = (0, 0); now = text }

abbrev pub bors : List (List ℕ) → List (Bor (List ℕ))
bors texts = map bor texts

-- texts, with a separator in front of each
abbrev pub each_after : ℕ → List (List ℕ) → List ℕ
each_after separator texts = flat_map (λ t. separator ∷ t) texts

-- ---- cut at the separator

all_pieces : (separator : ℕ) (texts : List (List ℕ)) → AllByRecursion (IsPiece separator) texts → All (λ p. IsPiece separator p.now) (bors texts)
all_pieces separator [] all i d less = absurd (omega arith)
all_pieces separator (t ∷ texts) all zero d less = all.0
all_pieces separator (t ∷ texts) all (suc i) d less = all_pieces separator texts all.1 i d (omega arith)

ended_joined : (separator : ℕ) (t : List ℕ) (texts : List (List ℕ)) → (t ++ each_after separator texts) ++ separator ∷ [] ≡ ended separator (bors (t ∷ texts))
ended_joined separator t [] = ap (λ l. l ++ separator ∷ []) (append-nil t) ∙ sym (append-nil (t ++ separator ∷ []))
ended_joined separator t (v ∷ texts) =
    append_assoc t (separator ∷ (v ++ each_after separator texts)) (separator ∷ [])
    ∙ ap (λ l. t ++ separator ∷ l) (ended_joined separator v texts) ∙ sym (append_assoc t (separator ∷ []) (ended separator (bors (v ∷ texts))))

pub are_pieces : (separator : ℕ) (t : List ℕ) (texts : List (List ℕ)) → AllByRecursion (IsPiece separator) (t ∷ texts) → ArePieces separator (t ++ each_after separator texts) (bors (t ∷ texts))
are_pieces separator t texts all = (all_pieces separator (t ∷ texts) all, ended_joined separator t texts)

-- ---- words

all_words : (texts : List (List ℕ)) → AllByRecursion IsWord texts → AllByRecursion (IsPiece 32) texts
all_words [] all = tt
all_words (t ∷ texts) all = (word_piece t all.0, all_words texts all.1)

word_stays : (t : List ℕ) → IsWord t → is_word (bor t) ≡ true
word_stays t word = let some = begins_long t word.begins in grind (arith, nat_tests)

words_stay : (texts : List (List ℕ)) → AllByRecursion IsWord texts → filter is_word (bors texts) ≡ bors texts
words_stay [] all = refl
words_stay (t ∷ texts) all = rw (word_stays t all.0) (ap (λ ps. bor t ∷ ps) (words_stay texts all.1))

pub are_words : (t : List ℕ) (texts : List (List ℕ)) → AllByRecursion IsWord (t ∷ texts) → AreWords (t ++ each_after 32 texts) (bors (t ∷ texts))
are_words t texts all = (bors (t ∷ texts), are_pieces 32 t texts (all_words (t ∷ texts) all), sym (words_stay (t ∷ texts) all))

pub no_words : AreWords [] []
no_words = (bor [] ∷ [], (all_pieces 32 ([] ∷ []) ((refl, λ k less. absurd (omega arith)), tt), refl), refl)

-- ---- a text with blanks or commas between words is closed

pub each_closed : (separator : ℕ) (texts : List (List ℕ)) → IsPlain separator → AllByRecursion IsClosed texts → IsClosed (each_after separator texts)
each_closed separator [] plain all = Rattle.frame_runs.proofs.Closed.closed_none
each_closed separator (t ∷ texts) plain all = closed_append (separator ∷ t) (each_after separator texts) (closed_append (separator ∷ []) t (closed_byte separator plain) all.0) (each_closed separator texts plain all.1)

-- ---- without the blanks around it

tight_first : (text : List ℕ) → BeginsTight text → is_ascii_whitespace (get_or text 0 0) ≡ false
tight_first text b = ap is_ascii_whitespace (ap (λ t. get_or t 0 0) b.is) ∙ b.tight

tight_last : (text : List ℕ) → EndsTight text → is_ascii_whitespace (get_or text (length text - 1) 0) ≡ false
tight_last text e =
    let long = ap length e.is in
    let at : length text - 1 ≡ length e.front = omega (arith, long, Rattle.std.proofs.Common.length-append e.front (e.byte ∷ [])) in
    ap is_ascii_whitespace (ap (λ k. get_or text k 0) at ∙ ap (λ t. get_or t (length e.front) 0) e.is ∙ get_or-append_seam e.front e.byte [] 0) ∙ e.tight

pub tight_trimmed : (text : List ℕ) → BeginsTight text → EndsTight text → IsTrimAscii text text
tight_trimmed text b e = (
  0,
  sym (take-length text),
  λ i less. absurd (omega arith),
  λ less. tight_first text b,
  λ i from less. absurd (omega arith),
  λ less. tight_last text e,
)

pub tight_after_blank : (text : List ℕ) → BeginsTight text → EndsTight text → IsTrimAscii (32 ∷ text) text
tight_after_blank text b e = (
  1,
  sym (take-length text),
  blank,
  λ less. tight_first text b,
  λ i from less. absurd (omega arith),
  λ less. tight_last text e,
)
  where
    blank : (i : ℕ) → i < 1 → is_ascii_whitespace (get_or (32 ∷ text) i 0) ≡ true
    blank zero less = refl
    blank (suc i) less = absurd (omega arith)

pub nothing_trimmed : IsTrimAscii [] []
nothing_trimmed = (0, refl, λ i less. absurd (omega arith), λ less. absurd (omega arith), λ i from less. absurd (omega arith), λ less. absurd (omega arith))

-- ---- numbers

digit_is_byte : (c : ℕ) → digit_value c < 10 → is_word_byte c ≡ true
digit_is_byte c digit = let within = digit_from_value c digit in grind (arith, nat_tests)

digits_are_bytes : (text : List ℕ) → AllDigits 10 text → AllByRecursion (λ c. is_word_byte c ≡ true) text
digits_are_bytes [] all = tt
digits_are_bytes (c ∷ text) all = (digit_is_byte c all.0, digits_are_bytes text all.1)

numeral_word : (text : List ℕ) → IsNumeral 10 text → IsWord text
numeral_word [] numeral = let some = numeral.0 in absurd (omega arith)
numeral_word (c ∷ text) numeral = bytes_word c text (digit_is_byte c numeral.1.0) (digits_are_bytes text numeral.1.1)

pub decimal_word : (n : ℕ) → n < 2 ^ 64 → IsWord (decimal n)
decimal_word n small = numeral_word (decimal n) (decimal_is_IsNumeral n small).0
