-- The last word, and the words in front of it.
use Rattle.std.proofs.Common.{◌≡◌, ◌-◌, ◌++◌, ℕ, Bool, true, false, if◌then◌else◌, List, [], ◌∷◌, length, take, ap, sym, refl, ◌∙◌, arith, length-append}
use Rattle.std.proofs.Math.Seq.{take-append_seam}
use Rattle.std.specs.Borrow.{Bor}
use Rattle.line_parts.specs.Values.{but_last, last_is}
use Rattle.lines.specs.Words.{text_at}

at_end : (front : List (Bor (List ℕ))) (last : Bor (List ℕ)) → text_at (length front) (front ++ last ∷ []) ≡ last.now
at_end [] last = refl
at_end (w ∷ front) last = at_end front last

one_more : (words front : List (Bor (List ℕ))) (last : Bor (List ℕ)) → words ≡ front ++ last ∷ [] → length words - 1 ≡ length front
one_more words front last e = let long = ap length e in omega (arith, long, length-append front (last ∷ []))

last_text : (words front : List (Bor (List ℕ))) (last : Bor (List ℕ)) → words ≡ front ++ last ∷ [] → text_at (length words - 1) words ≡ last.now
last_text words front last e = ap (λ n. text_at n words) (one_more words front last e) ∙ ap (text_at (length front)) e ∙ at_end front last

no_text : (words : List (Bor (List ℕ))) → length words ≡ 0 → text_at (length words - 1) words ≡ []
no_text [] e = refl
no_text (w ∷ words) e = absurd (omega arith)

-- the last word passes or doesn't
pub last_tested : (passes : List ℕ → Bool) (words front : List (Bor (List ℕ))) (last : Bor (List ℕ)) (b : Bool) → words ≡ front ++ last ∷ [] → passes last.now ≡ b → b ≡ last_is passes words
last_tested passes words front last b e is = sym (ap passes (last_text words front last e) ∙ is)

pub none_tested : (passes : List ℕ → Bool) (words : List (Bor (List ℕ))) (b : Bool) → length words ≡ 0 → passes [] ≡ b → b ≡ last_is passes words
none_tested passes words b e is = sym (ap passes (no_text words e) ∙ is)

-- the words in front of it
pub front_taken : (passes : List ℕ → Bool) (words front : List (Bor (List ℕ))) (last : Bor (List ℕ)) → words ≡ front ++ last ∷ [] → true ≡ last_is passes words → front ≡ but_last passes words
front_taken passes words front last e is =
    let taken : front ≡ take (length words - 1) words = sym (ap (λ n. take n words) (one_more words front last e) ∙ ap (take (length front)) e ∙ take-append_seam front (last ∷ [])) in
    taken ∙ ap (λ b. if b then take (length words - 1) words else words) is

-- or all words
pub all_left : (passes : List ℕ → Bool) (words : List (Bor (List ℕ))) → false ≡ last_is passes words → words ≡ but_last passes words
all_left passes words is = ap (λ b. if b then take (length words - 1) words else words) is
