-- A text that is cut into words byte by byte.
use Rattle.std.proofs.Common.{◌≡◌, ◌≢◌, ◌<◌, ◌≤◌, ◌+◌, ◌++◌, ℕ, zero, suc, Bool, true, false, nat_lt, nat_eq, List, [], ◌∷◌, length, drop, filter, get_or, sym, ap, subst, refl, ◌∙◌, arith, Some}
use Rattle.std.specs.Borrow.{Bor}
use Rattle.std.specs.Char.{is_ascii_alphanumeric}
use Rattle.std.specs.List.{slice_range}
use Rattle.std.proofs.lemmas.Bool.Decides.{nat_tests}
use Rattle.std.proofs.lemmas.List.Elements.{filter-append}
use Rattle.lines.specs.declared.pieces.Nesting.{Nesting}
use Rattle.lines.specs.declared.pieces.Quotes.TheVariants.{Escaped}
use Rattle.lines.specs.Pieces.{ArePlain, nesting_after, outside, is_word, with_word, AreWords}
use Rattle.lines.proofs.Cutting.{IsCut, cut_none, cut_within, cut_here, cut_all}

-- the text is cut up to i, and these are the words so far
pub record IsCutToWords (start i : ℕ) (text : List ℕ) (words : List (Bor (List ℕ))) (nesting : Nesting) : Type 0 where
  pub pieces : List (Bor (List ℕ))
  pub cut : IsCut 32 start i text pieces nesting
  pub words_are : words ≡ filter is_word pieces

-- a piece more
word_more : (words longer pieces : List (Bor (List ℕ))) (p : Bor (List ℕ)) → words ≡ filter is_word pieces → longer ≡ with_word words p → longer ≡ filter is_word (pieces ++ p ∷ [])
unfolding with_word
word_more words longer pieces p are e = e ∙ ap (λ ws. ws ++ filter is_word (p ∷ [])) are ∙ sym (filter-append is_word pieces (p ∷ []))

-- at the beginning of the text nothing is cut
pub words_none : (text : List ℕ) (words : List (Bor (List ℕ))) (nesting : Nesting) → words ≡ [] → Some nesting ≡ outside → IsCutToWords 0 0 text words nesting
words_none text words nesting none e = record { pieces = []; cut = cut_none 32 text [] nesting refl e; words_are = none }

-- a byte more of a piece
pub words_within : (start i : ℕ) (text : List ℕ) (words : List (Bor (List ℕ))) (n m : Nesting) → IsCutToWords start i text words n → i < length text
    → (get_or text i 0 ≡ 32 → Some n ≢ outside) → nesting_after (Some n) (get_or text i 0) ≡ Some m → IsCutToWords start (i + 1) text words m
words_within start i text words n m c h here e = record { pieces = c.pieces; cut = cut_within 32 start i text c.pieces n m c.cut h here e; words_are = c.words_are }

-- the text is cut at a blank
pub words_here : (start i : ℕ) (text : List ℕ) (words longer : List (Bor (List ℕ))) (n : Nesting) (p : Bor (List ℕ)) → IsCutToWords start i text words n → i < length text
    → get_or text i 0 ≡ 32 → Some n ≡ outside → p.now ≡ slice_range text start i → longer ≡ with_word words p → IsCutToWords (i + 1) (i + 1) text longer n
words_here start i text words longer n p c h sep e now long = record {
  pieces = c.pieces ++ p ∷ [];
  cut = cut_here 32 start i text c.pieces (c.pieces ++ p ∷ []) n p c.cut h sep e now refl;
  words_are = word_more words longer c.pieces p c.words_are long;
}

-- the whole text is cut
pub words_all : (start : ℕ) (text : List ℕ) (words longer : List (Bor (List ℕ))) (n : Nesting) (p : Bor (List ℕ)) → IsCutToWords start (length text) text words n
    → Some n ≡ outside → p.now ≡ drop start text → longer ≡ with_word words p → AreWords text longer
words_all start text words longer n p c e now long =
    (c.pieces ++ p ∷ [], cut_all 32 start text c.pieces (c.pieces ++ p ∷ []) n p c.cut e now refl, word_more words longer c.pieces p c.words_are long)

-- a letter or a digit changes nothing except after a backslash
plain_within : (n : Nesting) (b : ℕ) → is_ascii_alphanumeric b ≡ true → n.quotes ≢ Escaped → nesting_after (Some n) b ≡ Some n
unfolding nesting_after
plain_within n b plain free = grind (arith, nat_tests)

-- `count` letters and digits more
pub words_plain : (start i to : ℕ) (text : List ℕ) (words : List (Bor (List ℕ))) (n : Nesting) (count : ℕ) → i + count ≡ to → IsCutToWords start i text words n → (i < to → n.quotes ≢ Escaped)
    → to ≤ length text → ArePlain i to text → IsCutToWords start to text words n
words_plain start i to text words n zero e c free h plain = subst (λ j. IsCutToWords start j text words n) (omega arith) c
words_plain start i to text words n (suc count) e c free h plain =
    let letter = plain i (omega arith) (omega arith) in
    let no_blank : get_or text i 0 ≡ 32 → Some n ≢ outside = λ s. absurd (cc (ap is_ascii_alphanumeric (sym s) ∙ letter)) in
    words_plain start (i + 1) to text words n count (omega arith)
    (words_within start i text words n n c (omega arith) no_blank (plain_within n _ letter (free (omega arith))))
    (λ less. free (omega arith)) h (λ k more. plain k (omega arith))

-- the text is ASCII up to i
abbrev pub IsAsciiTo : ℕ → List ℕ → Type 0
IsAsciiTo i text = (k : ℕ) → k < i → get_or text k 0 < 128

-- a byte more, and letters and digits after it
pub ascii_more : (i to : ℕ) (text : List ℕ) → IsAsciiTo i text → get_or text i 0 < 128 → ArePlain (i + 1) to text → IsAsciiTo to text
ascii_more i to text before here plain k less = go (nat_lt k i) refl (nat_eq k i) refl
  where
    go : (a : Bool) → nat_lt k i ≡ a → (b : Bool) → nat_eq k i ≡ b → get_or text k 0 < 128
    go true e b f = before k (grind (arith, nat_tests))
    go false e true f =
        let same : k ≡ i = grind (arith, nat_tests) in
        rw same here
    go false e false f =
        let past : i + 1 ≤ k = grind (arith, nat_tests) in
        let letter = plain k past less in
        grind (arith, nat_tests)
