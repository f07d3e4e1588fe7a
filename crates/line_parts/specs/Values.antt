-- Values, pairs, and the options after a call's arguments.
use Rattle.std.specs.Prelude.{◌≡◌, ◌-◌, ℕ, Bool, true, not, if◌then◌else◌, List, [], ◌∷◌, length, drop, take, Option, codes, filter, nat_eq}
use Rattle.std.specs.Borrow.{Bor}
use Rattle.std.specs.Cmp.Lexicographic.{pointwise}
use Rattle.std.specs.List.{AllZip}
use Rattle.std.specs.declared.time.Duration.{Duration}
use Rattle.lines.specs.Atoms.{IsText}
use Rattle.lines.specs.Durations.{IsTime}
use Rattle.lines.specs.Pieces.{AreWordsWithin}
use Rattle.vm_types.specs.declared.options.PayloadOptions.{PayloadOptions}
use Rattle.vm_types.specs.declared.values.NonEmptyValue.{NonEmptyValue}
use Rattle.vm_types.specs.declared.values.NonEmptyValue.TheVariants as value
use Rattle.vm_types.specs.declared.values.TerminalFailure.{TerminalFailure}
use Rattle.line_parts.specs.declared.arguments.Extras.{Extras}
use Rattle.lines.specs.Fields.{IsOptional, are_named, texts_named}
use Rattle.lines.specs.Words.{IsNumberOf, IsOneAtom, words_after_first, text_at}

-- two texts in braces
pub record IsPair (text : List ℕ) (pair : List ℕ × List ℕ) : Type 0 where
  pub words : List (Bor (List ℕ))
  pub are_words : AreWordsWithin 123 125 text words
  pub two : length words ≡ 2
  pub is_first : IsText (text_at 0 words) pair.0
  pub is_second : IsText (text_at 1 words) pair.1

-- words that are these pairs
abbrev pub ArePairs : List (Bor (List ℕ)) → List (List ℕ × List ℕ) → Type 0
ArePairs words pairs = AllZip (λ word pair. IsPair word.now pair) words pairs

-- the words begin with this code and this text
abbrev pub HasCodeAndText : ℕ → List ℕ → List (Bor (List ℕ)) → Type 0
HasCodeAndText code message words =
    IsNumberOf 16 (text_at 0 words) code × IsText (text_at 1 words) message

-- the words are a code, a text and pairs
pub record IsFailure (words : List (Bor (List ℕ))) (failure : TerminalFailure) : Type 0 where
  pub first : HasCodeAndText failure.code failure.message words
  pub pairs : ArePairs (drop 2 words) failure.metadata

-- this word and those after it are a value: `success` and bytes, or `failure` and its details
abbrev pub IsValueBehind : List ℕ → List (Bor (List ℕ)) → NonEmptyValue → Type 0
IsValueBehind word others (value.Success bytes) = (word ≡ codes "success") × IsOneAtom others bytes
IsValueBehind word others (value.Failure failure) = (word ≡ codes "failure")
    × IsFailure others failure

-- the words are a value
abbrev pub IsValue : List (Bor (List ℕ)) → NonEmptyValue → Type 0
IsValue words value = IsValueBehind (text_at 0 words) (words_after_first words) value

-- whether the last word passes
abbrev pub last_is : (List ℕ → Bool) → List (Bor (List ℕ)) → Bool
last_is passes words = passes (text_at (length words - 1) words)

-- the words without the last, if that passes
abbrev pub but_last : (List ℕ → Bool) → List (Bor (List ℕ)) → List (Bor (List ℕ))
but_last passes words = if last_is passes words then take (length words - 1) words else words

-- whether a word is `unstable`
abbrev pub is_unstable : List ℕ → Bool
is_unstable word = pointwise nat_eq word (codes "unstable")

-- a value, and `unstable` or nothing
pub record HasValue (words : List (Bor (List ℕ)))
    (value : NonEmptyValue × PayloadOptions) : Type 0 where
  pub is_value : IsValue (but_last is_unstable words) value.0
  pub unstable : value.1.unstable_serialization ≡ last_is is_unstable words

-- whether a word is this one
abbrev pub is_flag : List ℕ → Bor (List ℕ) → Bool
is_flag flag word = pointwise nat_eq word.now flag

-- the words but this one
abbrev pub words_without : List ℕ → List (Bor (List ℕ)) → List (Bor (List ℕ))
words_without flag words = filter (λ word. not (is_flag flag word)) words

-- whether this word stands there, which it may once
abbrev pub HasFlag : List ℕ → List (Bor (List ℕ)) → Bool → Type 0
HasFlag flag words stands = length (filter (is_flag flag) words) ≡ (if stands then 1 else 0)

-- `[name=T]` alone
pub record HasName (words : List (Bor (List ℕ))) (name : Option (List ℕ)) : Type 0 where
  pub named : IsOptional IsText (texts_named (codes "name=") words) name
  pub only : are_named (codes "name=" ∷ []) words ≡ true

-- `[name=T] [unstable]`
pub record HasExtras (words : List (Bor (List ℕ))) (extras : Extras) : Type 0 where
  pub named : HasName (words_without (codes "unstable") words) extras.name
  pub unstable : HasFlag (codes "unstable") words extras.payload.unstable_serialization

-- `[now=D]` alone
pub record HasNow (words : List (Bor (List ℕ))) (now : Option Duration) : Type 0 where
  pub named : IsOptional IsTime (texts_named (codes "now=") words) now
  pub only : are_named (codes "now=" ∷ []) words ≡ true
