-- The hint for a line, from the hint for its words.
use Rattle.std.proofs.Common.{◌≡◌, inr, ℕ, Bool, true, false, ◌&&◌, if◌then◌else◌, List, [], ◌∷◌, map, Option, Some, None, Result, Ok, Err, IfOk, MatchOption, subst, sym}
use Rattle.std.specs.Borrow.{Bor}
use Rattle.std.specs.Str.{IsTrimAscii, IsUtf8}
use Rattle.lines.specs.Pieces.{AreWords}
use Rattle.lines.specs.declared.hint.Hint.{Hint}
use Rattle.lines.specs.Hints.{IsHint, IsHintByForms, IsHintOfEither, IsRoundHint, IsWordsHint, frame_words, may_be_frame, takes_frame}

-- the words of a frame are some
not_empty : (words : List (Bor (List ℕ))) → frame_words words ≡ Some [] → ⊥
not_empty [] e = cc
not_empty (word ∷ []) e = go (takes_frame word.now) e
  where
    empty : List (Bor (List ℕ))
    empty = []

    go : (b : Bool) → (if b && false then Some [] else None) ≡ Some empty → ⊥
    go true e = cc
    go false e = cc
not_empty (word ∷ first ∷ others) e = go (takes_frame word.now && may_be_frame (first ∷ others)) e
  where
    empty : List (Bor (List ℕ))
    empty = []

    go : (b : Bool) → (if b then Some (first ∷ others) else None) ≡ Some empty → ⊥
    go true e = cc
    go false e = cc

module _ (line inner : List ℕ) (words forms : List (Bor (List ℕ))) (trimmed : IsTrimAscii line inner) (utf8 : IsUtf8 inner) (are : AreWords inner words) where
  -- what the words' hint is, the line's is
  hint_found : (Holds : List (Bor (List ℕ)) → Hint → Type 0) (hint : Option Hint) → MatchOption hint (words ≡ []) (Holds words) → IsHint Holds line hint
  hint_found Holds None none = (inner, trimmed, (utf8, subst (AreWords inner) none are))
  hint_found Holds (Some hint) is = (inner, trimmed, inr (utf8, (words, are, is)))

  -- by forms of frames
  by_forms : (hint : Option Hint) → MatchOption hint (words ≡ []) (IsWordsHint forms words) → (texts : List (List ℕ)) → map (λ form. form.now) forms ≡ texts → MatchOption hint (words ≡ []) (IsHintByForms texts words)
  by_forms None none texts same = none
  by_forms (Some hint) is texts same = (forms, same, is)

  pub frames_found : {E : Type 0} (r : Result (Option Hint) E) → IfOk r (λ hint. MatchOption hint (words ≡ []) (IsWordsHint forms words)) → (texts : List (List ℕ)) → map (λ form. form.now) forms ≡ texts → IfOk r (IsHint (IsHintByForms texts) line)
  frames_found (Ok hint) is texts same = hint_found (IsHintByForms texts) hint (by_forms hint is texts same)
  frames_found (Err e) is texts same = tt

  -- by forms of a script of rounds
  rounds_by : (hint : Option Hint) → frame_words words ≡ None → MatchOption hint (words ≡ []) (IsWordsHint forms words) → (rounds frames : List (List ℕ)) → map (λ form. form.now) forms ≡ rounds → MatchOption hint (words ≡ []) (IsRoundHint rounds frames words)
  rounds_by None without none rounds frames same = none
  rounds_by (Some hint) without is rounds frames same = subst (λ f. IsHintOfEither rounds frames words f hint) (sym without) (forms, same, is)

  pub rounds_found : {E : Type 0} (r : Result (Option Hint) E) → frame_words words ≡ None → IfOk r (λ hint. MatchOption hint (words ≡ []) (IsWordsHint forms words)) → (rounds frames : List (List ℕ)) → map (λ form. form.now) forms ≡ rounds
      → IfOk r (IsHint (IsRoundHint rounds frames) line)
  rounds_found (Ok hint) without is rounds frames same = hint_found (IsRoundHint rounds frames) hint (rounds_by hint without is rounds frames same)
  rounds_found (Err e) without is rounds frames same = tt

  -- by forms of frames, for the words of an arrival's or an entry's frame
  arrivals_by : (frame : List (Bor (List ℕ))) (hint : Option Hint) → frame_words words ≡ Some frame → MatchOption hint (frame ≡ []) (IsWordsHint forms frame) → (rounds frames : List (List ℕ)) → map (λ form. form.now) forms ≡ frames
      → MatchOption hint (words ≡ []) (IsRoundHint rounds frames words)
  arrivals_by frame None has none rounds frames same = absurd (not_empty words (subst (λ f. frame_words words ≡ Some f) none has))
  arrivals_by frame (Some hint) has is rounds frames same = subst (λ f. IsHintOfEither rounds frames words f hint) (sym has) (forms, same, is)

  pub arrivals_found : {E : Type 0} (frame : List (Bor (List ℕ))) (r : Result (Option Hint) E) → frame_words words ≡ Some frame → IfOk r (λ hint. MatchOption hint (frame ≡ []) (IsWordsHint forms frame)) → (rounds frames : List (List ℕ)) → map (λ form. form.now) forms ≡ frames
      → IfOk r (IsHint (IsRoundHint rounds frames) line)
  arrivals_found frame (Ok hint) has is rounds frames same = hint_found (IsRoundHint rounds frames) hint (arrivals_by frame hint has is rounds frames same)
  arrivals_found frame (Err e) has is rounds frames same = tt
