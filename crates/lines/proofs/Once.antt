-- A text is cut in one way.
use Rattle.std.proofs.Common.{◌≡◌, ◌≢◌, ◌++◌, ℕ, suc, Bool, true, false, List, [], ◌∷◌, length, drop, filter, ap, sym, refl, subst, ◌∙◌, arith, length-append, append_assoc, not, ◌==◌}
use Rattle.std.specs.Borrow.{Bor}
use Rattle.std.specs.List.{All, AllZip}
use Rattle.std.proofs.lemmas.List.{append_cancel_right}
use Rattle.plain.specs.declared.fault.Fault.{Fault}
use Rattle.plain.specs.declared.fault.Fault.TheVariants.{Malformed}
use Rattle.lines.specs.Readings.{Blames}
use Rattle.lines.specs.Pieces.{AreWords, AreWordsWithin, IsPiece, IsWithin, is_word, outside, place}
use Rattle.lines.proofs.Closing.{words_close}
use Rattle.lines.proofs.Cutting.{ended}
use Rattle.lines.proofs.Determined.{same_first}

-- pieces of the same text
abbrev pub Same : List (Bor (List ℕ)) → List (Bor (List ℕ)) → Type 0
Same ps qs = AllZip (λ p q. p.now ≡ q.now) ps qs

-- texts that end in a separator are cut in one way
pub ended_once : (separator : ℕ) (ps qs : List (Bor (List ℕ))) → All (λ p. IsPiece separator p.now) ps → All (λ q. IsPiece separator q.now) qs → ended separator ps ≡ ended separator qs → Same ps qs
ended_once separator [] [] a b e = tt
ended_once separator [] (q ∷ qs) a b e =
    let long = ap length e in
    absurd (omega (arith, long, length-append (q.now ++ separator ∷ []) (ended separator qs), length-append q.now (separator ∷ [])))
ended_once separator (p ∷ ps) [] a b e =
    let long = ap length e in
    absurd (omega (arith, long, length-append (p.now ++ separator ∷ []) (ended separator ps), length-append p.now (separator ∷ [])))
ended_once separator (p ∷ ps) (q ∷ qs) a b e =
    let first = same_first separator p.now q.now (ended separator ps) (ended separator qs) (a 0 p (omega arith)) (b 0 q (omega arith))
    (sym (append_assoc p.now (separator ∷ []) (ended separator ps)) ∙ e ∙ append_assoc q.now (separator ∷ []) (ended separator qs)) in
    (first.0, ended_once separator ps qs (λ k d h. a (suc k) d (omega arith)) (λ k d h. b (suc k) d (omega arith)) first.1)

same_words : (ps qs : List (Bor (List ℕ))) → Same ps qs → Same (filter is_word ps) (filter is_word qs)
same_words [] [] all = tt
same_words [] (q ∷ qs) all = absurd all
same_words (p ∷ ps) [] all = absurd all
same_words (p ∷ ps) (q ∷ qs) all = go (same_words ps qs all.1) (is_word p) refl (ap (λ (t : List ℕ). not (length t == 0)) (sym all.0))
  where
    go : Same (filter is_word ps) (filter is_word qs) → (b : Bool) → is_word p ≡ b → is_word q ≡ is_word p → Same (filter is_word (p ∷ ps)) (filter is_word (q ∷ qs))
    go more true at other = rw (other, at) (all.0, more)
    go more false at other = rw (other, at) more

-- a text has one list of words
pub words_once : (text : List ℕ) (ws vs : List (Bor (List ℕ))) → AreWords text ws → AreWords text vs → Same ws vs
words_once text ws vs (ps, a, are) (qs, b, be) =
    rw (are, be) (same_words ps qs (ended_once 32 ps qs a.0 b.0 (sym a.1 ∙ b.1)))

same_inside : (opening closing : ℕ) (text xs ys : List ℕ) → IsWithin opening closing text xs → IsWithin opening closing text ys → xs ≡ ys
same_inside opening closing text xs ys a b = append_cancel_right xs ys (closing ∷ []) (ap (drop 1) (sym a ∙ b))

-- and one between two brackets
pub words_within_once : (opening closing : ℕ) (text : List ℕ) (ws vs : List (Bor (List ℕ))) → AreWordsWithin opening closing text ws → AreWordsWithin opening closing text vs → Same ws vs
words_within_once opening closing text ws vs a b =
    words_once b.inside ws vs (subst (λ t. AreWords t ws) (same_inside opening closing text a.inside b.inside a.within b.within) a.are_words) b.are_words

-- what stands between the brackets isn't closed
pub unclosed_blamed : (opening closing : ℕ) (text inside : List ℕ) (fault : Fault) → IsWithin opening closing text inside → (fault ≡ Malformed → place inside ≢ outside)
    → Blames (AreWordsWithin opening closing text) fault
unclosed_blamed opening closing text inside fault within unclosed = record {
  nothing = λ bad words are.
      unclosed bad (ap place (same_inside opening closing text inside are.inside within are.within) ∙ words_close are.inside words are.are_words);
}

-- nothing stands between the brackets
pub unbracketed_blamed : (opening closing : ℕ) (text : List ℕ) (fault : Fault) → Blames (IsWithin opening closing text) fault → Blames (AreWordsWithin opening closing text) fault
unbracketed_blamed opening closing text fault blames = record { nothing = λ bad words are. blames.nothing bad are.inside are.within }
