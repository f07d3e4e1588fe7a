-- Words in brackets that aren't what a text is to say.
use Rattle.std.proofs.Common.{◌≡◌, ◌≢◌, ◌<◌, ◌∙◌, ℕ, zero, suc, List, [], ◌∷◌, Option, Some, None, length, get_or, refl, subst, sym, arith}
use Rattle.std.specs.Borrow.{Bor}
use Rattle.plain.specs.declared.fault.Fault.{Fault}
use Rattle.plain.specs.declared.fault.Fault.TheVariants.{Malformed}
use Rattle.lines.specs.Atoms.{IsText}
use Rattle.lines.specs.Pieces.{AreWordsWithin}
use Rattle.lines.specs.Readings.{Blames}
use Rattle.lines.proofs.Once.{Same, words_within_once}
use Rattle.journal_protocol.specs.Header.{Header}
use Rattle.lines.specs.Fields.{text_behind, texts_named}
use Rattle.line_parts.specs.Targets.{AreHeaders}
use Rattle.line_parts.specs.Values.{ArePairs, IsPair}
use Rattle.lines.specs.Words.{AreTwoTexts, text_at}
use Rattle.lines.proofs.Places.{word_at}

-- words that are the same as texts
pub same_length : (ws vs : List (Bor (List ℕ))) → Same ws vs → length ws ≡ length vs
same_length [] [] all = refl
same_length [] (v ∷ vs) all = absurd all
same_length (w ∷ ws) [] all = absurd all
same_length (w ∷ ws) (v ∷ vs) all = let more : length ws ≡ length vs = same_length ws vs all.1 in omega (arith, more)

pub same_at : (i : ℕ) (ws vs : List (Bor (List ℕ))) → Same ws vs → text_at i ws ≡ text_at i vs
same_at i [] [] all = refl
same_at i [] (v ∷ vs) all = absurd all
same_at i (w ∷ ws) [] all = absurd all
same_at zero (w ∷ ws) (v ∷ vs) all = all.0
same_at (suc i) (w ∷ ws) (v ∷ vs) all = same_at i ws vs all.1

-- all ways to split a text in brackets into words give the same number of words
pub within_length : (opening closing : ℕ) (text : List ℕ) (ws vs : List (Bor (List ℕ))) → AreWordsWithin opening closing text ws → AreWordsWithin opening closing text vs → length ws ≡ length vs
within_length opening closing text ws vs a b = same_length ws vs (words_within_once opening closing text ws vs a b)

-- and the same words
pub within_at : (i opening closing : ℕ) (text : List ℕ) (ws vs : List (Bor (List ℕ))) (d : Bor (List ℕ)) → i < length ws → AreWordsWithin opening closing text ws → AreWordsWithin opening closing text vs → text_at i vs ≡ (get_or ws i d).now
within_at i opening closing text ws vs d h a b = sym (same_at i ws vs (words_within_once opening closing text ws vs a b)) ∙ sym (word_at ws i d h)

-- ---- pairs

pub unbraced_blamed : (text : List ℕ) (fault : Fault) → Blames (AreWordsWithin 123 125 text) fault → Blames (IsPair text) fault
unbraced_blamed text fault blames = record { nothing = λ bad pair is. blames.nothing bad is.words is.are_words }

pub count_blamed : (text : List ℕ) (ws : List (Bor (List ℕ))) (fault : Fault) → AreWordsWithin 123 125 text ws → length ws ≢ 2 → Blames (IsPair text) fault
count_blamed text ws fault are other = record { nothing = λ bad pair is. other (within_length 123 125 text ws is.words are is.are_words ∙ is.two) }

pub texts_blamed : (text : List ℕ) (ws : List (Bor (List ℕ))) (fault : Fault) → AreWordsWithin 123 125 text ws → Blames (AreTwoTexts ws) fault → Blames (IsPair text) fault
texts_blamed text ws fault are blames = record {
  nothing = λ bad pair is.
      let all = words_within_once 123 125 text ws is.words are is.are_words in
      blames.nothing bad pair (subst (λ t. IsText t pair.0) (sym (same_at 0 ws is.words all)) is.is_first, subst (λ t. IsText t pair.1) (sym (same_at 1 ws is.words all)) is.is_second);
}

-- ---- lists of pairs

-- a word that is no pair
pub pairs_blamed : (words : List (Bor (List ℕ))) (i : ℕ) (d : Bor (List ℕ)) (fault : Fault) → i < length words → Blames (IsPair (get_or words i d).now) fault → Blames (ArePairs words) fault
pairs_blamed words i d fault h blames = record { nothing = λ bad pairs are. go bad words i pairs h (blames.nothing bad) are }
  where
    go : fault ≡ Malformed → (words : List (Bor (List ℕ))) (i : ℕ) (pairs : List (List ℕ × List ℕ)) → i < length words → ((pair : List ℕ × List ℕ) → IsPair (get_or words i d).now pair → ⊥) → ArePairs words pairs → ⊥
    go bad [] i pairs h none are = absurd (omega arith)
    go bad (w ∷ words) i [] h none are = are
    go bad (w ∷ words) zero (p ∷ pairs) h none are = none p are.0
    go bad (w ∷ words) (suc i) (p ∷ pairs) h none are = go bad words i pairs (omega arith) none are.1

-- a header that is no pair, after other words
behind_first : (name : List ℕ) (w : Bor (List ℕ)) (words : List (Bor (List ℕ))) (found : Option (List ℕ)) → text_behind name w.now ≡ found → ((headers : List Header) → AreHeaders (texts_named name words) headers → ⊥)
    → (headers : List Header) → AreHeaders (texts_named name (w ∷ words)) headers → ⊥
behind_first name w words None at none headers are = none headers (rw at at are)
behind_first name w words (Some t) at none [] are = rw at at are
behind_first name w words (Some t) at none (x ∷ headers) are = let both = rw at at are in none headers both.1

no_headers : (name : List ℕ) (words : List (Bor (List ℕ))) (i : ℕ) (d : Bor (List ℕ)) (text : List ℕ) → i < length words → text_behind name (get_or words i d).now ≡ Some text → ((pair : List ℕ × List ℕ) → IsPair text pair → ⊥)
    → (headers : List Header) → AreHeaders (texts_named name words) headers → ⊥
no_headers name [] i d text h e none headers are = absurd (omega arith)
no_headers name (w ∷ words) zero d text h e none [] are = rw e at are
no_headers name (w ∷ words) zero d text h e none (x ∷ headers) are = let both = rw e at are in none (x.key, x.value) both.0
no_headers name (w ∷ words) (suc i) d text h e none headers are =
    behind_first name w words (text_behind name w.now) refl (λ others them. no_headers name words i d text (omega arith) e none others them) headers are

pub headers_blamed : (name : List ℕ) (words : List (Bor (List ℕ))) (i : ℕ) (d : Bor (List ℕ)) (text : List ℕ) (fault : Fault) → i < length words → text_behind name (get_or words i d).now ≡ Some text → Blames (IsPair text) fault → Blames (AreHeaders (texts_named name words)) fault
headers_blamed name words i d text fault h e blames = record { nothing = λ bad headers are. no_headers name words i d text h e (blames.nothing bad) headers are }
