-- A text that is cut into pieces byte by byte.
use Rattle.std.proofs.Common.{◌≡◌, ◌≢◌, ◌<◌, ◌≤◌, ◌+◌, ◌-◌, ◌++◌, ℕ, List, [], ◌∷◌, length, take, drop, get_or, ap, sym, refl, ◌∙◌, below_more, append_assoc, length-append, length-drop, arith, rules, Some}
use Rattle.std.specs.Borrow.{Bor}
use Rattle.std.specs.List.{All, flat_map, slice_range}
use Rattle.std.proofs.Math.Seq.{get_or-append_seam, take-append_seam, drop-append_seam, take-length}
use Rattle.std.proofs.lemmas.List.{take-append-le, get_or_append_left, take_more, drop-take, append-nil, length-take-le, flat_map_more}
use Rattle.std.proofs.lemmas.List.Elements.{All-append}
use Rattle.std.proofs.lemmas.List.Sums.{fold-append}
use Rattle.lines.specs.declared.pieces.Nesting.{Nesting}
use Rattle.lines.specs.Pieces.{nesting_after, place, outside, IsUncut, IsPiece, ArePieces}

-- the pieces, with a separator after each
abbrev pub ended : ℕ → List (Bor (List ℕ)) → List ℕ
ended separator pieces = flat_map (λ p. p.now ++ separator ∷ []) pieces

-- the text is cut up to i into pieces and the beginning of one more
pub record IsCut (separator start i : ℕ) (text : List ℕ) (pieces : List (Bor (List ℕ))) (nesting : Nesting) : Type 0 where
  pub piece : List ℕ
  pub within : start ≤ i
  pub start_is : length (ended separator pieces) ≡ start
  pub text_is : take i text ≡ ended separator pieces ++ piece
  pub whole : All (λ p. IsPiece separator p.now) pieces
  pub at : place piece ≡ Some nesting
  pub uncut : IsUncut separator piece

-- a byte more that is no separator, or stands in quotes or brackets
pub uncut_more : (separator b : ℕ) (xs : List ℕ) → IsUncut separator xs → (b ≡ separator → place xs ≢ outside) → IsUncut separator (xs ++ b ∷ [])
uncut_more separator b xs uncut here k h =
    let at_end : get_or (xs ++ b ∷ []) (length xs) 0 ≡ b = get_or-append_seam xs b [] 0 in
    let last : get_or (xs ++ b ∷ []) (length xs) 0 ≡ separator → place (take (length xs) (xs ++ b ∷ [])) ≢ outside =
    λ e p. here (sym at_end ∙ e) (ap place (sym (take-append_seam xs (b ∷ []))) ∙ p) in
    below_more (λ (j : ℕ). get_or (xs ++ b ∷ []) j 0 ≡ separator → place (take j (xs ++ b ∷ [])) ≢ outside) (length xs)
    (λ j less e p. uncut j less (sym (get_or_append_left xs (b ∷ []) 0 j less) ∙ e) (ap place (sym (take-append-le j xs (b ∷ []) (omega arith))) ∙ p))
    last k (omega (arith, length-append xs (b ∷ [])))

-- at the beginning of the text nothing is cut
pub cut_none : (separator : ℕ) (text : List ℕ) (pieces : List (Bor (List ℕ))) (nesting : Nesting) → pieces ≡ [] → Some nesting ≡ outside → IsCut separator 0 0 text pieces nesting
cut_none separator text pieces nesting none e = rw none record {
  piece = [];
  within = omega arith;
  start_is = refl;
  text_is = refl;
  whole = search rules;
  at = sym e;
  uncut = λ k h. absurd (omega arith);
}

-- a byte more of a piece
pub cut_within : (separator start i : ℕ) (text : List ℕ) (pieces : List (Bor (List ℕ))) (n m : Nesting) → IsCut separator start i text pieces n → i < length text
    → (get_or text i 0 ≡ separator → Some n ≢ outside) → nesting_after (Some n) (get_or text i 0) ≡ Some m → IsCut separator start (i + 1) text pieces m
cut_within separator start i text pieces n m cut h here e =
    let b : ℕ = get_or text i 0 in
    record {
      piece = cut.piece ++ b ∷ [];
      within = let w = cut.within in omega arith;
      start_is = cut.start_is;
      text_is = take_more text i 0 h ∙ ap (λ t. t ++ b ∷ []) cut.text_is ∙ append_assoc (ended separator pieces) cut.piece (b ∷ []);
      whole = cut.whole;
      at = fold-append nesting_after outside cut.piece (b ∷ []) ∙ ap (λ p. nesting_after p b) cut.at ∙ e;
      uncut = uncut_more separator b cut.piece cut.uncut (λ s p. here s (sym cut.at ∙ p));
    }

-- what stands in the text from the last cut on
pub cut_piece : (separator start i : ℕ) (text : List ℕ) (pieces : List (Bor (List ℕ))) (n : Nesting) (cut : IsCut separator start i text pieces n) → slice_range text start i ≡ cut.piece
cut_piece separator start i text pieces n cut =
    let w = cut.within in
    let at : start + (i - start) ≡ i = omega arith in
    sym (drop-take start (i - start) text) ∙ ap (λ j. drop start (take j text)) at ∙ ap (drop start) cut.text_is
    ∙ ap (λ j. drop j (ended separator pieces ++ cut.piece)) (sym cut.start_is) ∙ drop-append_seam (ended separator pieces) cut.piece

-- a piece more, which is whole
pub whole_more : (separator start i : ℕ) (text : List ℕ) (pieces : List (Bor (List ℕ))) (n : Nesting) (p : Bor (List ℕ)) → IsCut separator start i text pieces n → Some n ≡ outside → p.now ≡ slice_range text start i
    → All (λ p. IsPiece separator p.now) (pieces ++ p ∷ [])
whole_more separator start i text pieces n p cut e is =
    let same : p.now ≡ cut.piece = is ∙ cut_piece separator start i text pieces n cut in
    let piece : IsPiece separator p.now = rw same (cut.at ∙ e, cut.uncut) in
    All-append (λ q. IsPiece separator q.now) pieces (p ∷ []) cut.whole (search rules)

-- and its separator after it
pub ended_more : (separator : ℕ) (pieces : List (Bor (List ℕ))) (p : Bor (List ℕ)) → ended separator pieces ++ (p.now ++ separator ∷ []) ≡ ended separator (pieces ++ p ∷ [])
ended_more separator pieces p = flat_map_more (λ (q : Bor (List ℕ)). q.now ++ separator ∷ []) [] pieces p

-- the text is cut at a separator
pub cut_here : (separator start i : ℕ) (text : List ℕ) (pieces longer : List (Bor (List ℕ))) (n : Nesting) (p : Bor (List ℕ)) → IsCut separator start i text pieces n → i < length text
    → get_or text i 0 ≡ separator → Some n ≡ outside → p.now ≡ slice_range text start i → longer ≡ pieces ++ p ∷ [] → IsCut separator (i + 1) (i + 1) text longer n
cut_here separator start i text pieces longer n p cut h sep e now long =
    let same : p.now ≡ cut.piece = now ∙ cut_piece separator start i text pieces n cut in
    let more : take (i + 1) text ≡ ended separator (pieces ++ p ∷ []) =
    take_more text i 0 h ∙ ap (λ t. t ++ get_or text i 0 ∷ []) cut.text_is ∙ append_assoc (ended separator pieces) cut.piece (get_or text i 0 ∷ [])
    ∙ ap (λ c. ended separator pieces ++ (cut.piece ++ c ∷ [])) sep ∙ ap (λ q. ended separator pieces ++ (q ++ separator ∷ [])) (sym same) ∙ ended_more separator pieces p in
    rw long record {
      piece = [];
      within = omega arith;
      start_is = ap length (sym more) ∙ length-take-le (i + 1) text (omega arith);
      text_is = more ∙ sym (append-nil (ended separator (pieces ++ p ∷ [])));
      whole = whole_more separator start i text pieces n p cut e now;
      at = sym e;
      uncut = λ k h. absurd (omega arith);
    }

-- the whole text is cut
pub cut_all : (separator start : ℕ) (text : List ℕ) (pieces longer : List (Bor (List ℕ))) (n : Nesting) (p : Bor (List ℕ)) → IsCut separator start (length text) text pieces n
    → Some n ≡ outside → p.now ≡ drop start text → longer ≡ pieces ++ p ∷ [] → ArePieces separator text longer
cut_all separator start text pieces longer n p cut e now long =
    let rest : p.now ≡ slice_range text start (length text) =
    now ∙ sym (take-length (drop start text)) ∙ ap (λ j. take j (drop start text)) (length-drop start text) in
    let same : p.now ≡ cut.piece = rest ∙ cut_piece separator start (length text) text pieces n cut in
    rw long (
      whole_more separator start (length text) text pieces n p cut e rest,
      ap (λ t. t ++ separator ∷ []) (sym (take-length text) ∙ cut.text_is) ∙ append_assoc (ended separator pieces) cut.piece (separator ∷ [])
          ∙ ap (λ q. ended separator pieces ++ (q ++ separator ∷ [])) (sym same) ∙ ended_more separator pieces p,
    )
