-- The words of a tree's text: kinds, and where a word ends.
use Rattle.std.proofs.Common.{◌≡◌, ◌<◌, ℕ, zero, suc, true, false, List, [], ◌∷◌, None, find, length, take, drop, get_or, nat_eq, refl, ap, arith}
use Rattle.std.specs.Cmp.Lexicographic.{pointwise}
use Rattle.plain.specs.declared.fault.Fault.{Fault}
use Rattle.journal_protocol.specs.FutureKind.{FutureKind}
use Rattle.journal_protocol.specs.FutureKind.TheVariants.{FirstCompleted as OfFirst, AllCompleted as OfAll, FirstSucceededOrAllFailed as OfAny, AllSucceededOrFirstFailed as OfEvery, Unknown as OfUnknown}
use Rattle.lines.specs.Readings.{Blames}
use Rattle.line_parts.specs.OpenNodes.{behind_word, is_break, word_of}
use Rattle.line_parts.specs.Trees.{IsKind, kind_name}
use Rattle.line_parts.proofs.Finding.{none_named}

abbrev pub kinds : List FutureKind
kinds = OfFirst ∷ OfAll ∷ OfAny ∷ OfEvery ∷ OfUnknown ∷ []

-- a word that names no kind
pub no_kind_named : (word : List ℕ) (fault : Fault) → find (λ kind. pointwise nat_eq word (kind_name kind)) kinds ≡ None → Blames (IsKind word) fault
no_kind_named word fault none = record { nothing = λ bad kind is. go kind is }
  where
    at : (i : ℕ) → i < 5 → word ≡ kind_name (get_or kinds i OfFirst) → ⊥
    at i h e = none_named kind_name kinds word none i OfFirst (omega arith) e

    go : (kind : FutureKind) → IsKind word kind → ⊥
    go OfFirst is = at 0 (omega arith) is
    go OfAll is = at 1 (omega arith) is
    go OfAny is = at 2 (omega arith) is
    go OfEvery is = at 3 (omega arith) is
    go OfUnknown is = at 4 (omega arith) is

-- a text without brackets and commas up to a place
abbrev pub Unbroken : List ℕ → ℕ → Type 0
Unbroken text i = (k : ℕ) → k < i → is_break (get_or text k 0) ≡ false

pub word_ends : (text : List ℕ) (i : ℕ) → i < length text → Unbroken text i → is_break (get_or text i 0) ≡ true → (take i text ≡ word_of text) × (drop i text ≡ behind_word text)
word_ends [] i h u b = absurd (omega arith)
word_ends (c ∷ cs) zero h u b = (rw b refl, rw b refl)
word_ends (c ∷ cs) (suc i) h u b =
    let more = word_ends cs i (omega arith) (λ k l. u (suc k) (omega arith)) b in
    let first : is_break c ≡ false = u zero (omega arith) in
    (rw first (ap (λ z. c ∷ z) more.0), rw first more.1)

-- or up to its end
pub word_whole : (text : List ℕ) (i : ℕ) → i ≡ length text → Unbroken text i → (take i text ≡ word_of text) × (drop i text ≡ behind_word text)
word_whole [] zero h u = (refl, refl)
word_whole [] (suc i) h u = (refl, refl)
word_whole (c ∷ cs) zero h u = absurd (omega arith)
word_whole (c ∷ cs) (suc i) h u =
    let more = word_whole cs i (omega arith) (λ k l. u (suc k) (omega arith)) in
    let first : is_break c ≡ false = u zero (omega arith) in
    (rw first (ap (λ z. c ∷ z) more.0), rw first more.1)
