-- When a text can't be cut: its quotes and brackets aren't closed.
use Rattle.std.proofs.Common.{◌≡◌, ◌≢◌, ◌<◌, ◌≤◌, ◌+◌, ◌-◌, ◌^◌, ◌++◌, ℕ, List, [], ◌∷◌, Option, Some, None, length, take, drop, fold, get_or, suc, Ok, Err, IfErr, Result, ap, sym, refl, ◌∙◌, arith}
use Rattle.std.specs.Borrow.{Bor}
use Rattle.std.specs.List.{All}
use Rattle.std.proofs.Math.Seq.{take-length}
use Rattle.std.proofs.lemmas.List.{take_more, length-take-le, take-append-drop}
use Rattle.std.proofs.lemmas.List.Sums.{fold-append}
use Rattle.lines.specs.declared.pieces.Nesting.{Nesting}
use Rattle.lines.specs.declared.pieces.Quotes.{Quotes}
use Rattle.lines.specs.declared.pieces.Quotes.TheVariants.{Outside, Inside, Escaped}
use Rattle.lines.specs.Pieces.{nesting_after, place, outside, IsPiece, AreWords}
use Rattle.lines.proofs.Cutting.{IsCut, ended}

-- after a bracket that was closed without being opened there is no place
pub fold_none : (text : List ℕ) → fold nesting_after None text ≡ None
unfolding nesting_after
fold_none [] = refl
fold_none (b ∷ text) = fold_none text

-- pieces with a neutral byte after each are closed
pub ended_closed : (separator : ℕ) (pieces : List (Bor (List ℕ))) → All (λ p. IsPiece separator p.now) pieces → nesting_after outside separator ≡ outside → place (ended separator pieces) ≡ outside
ended_closed separator [] whole neutral = refl
ended_closed separator (p ∷ ps) whole neutral =
    let first : place p.now ≡ outside = (whole 0 p (omega arith)).0 in
    fold-append nesting_after outside (p.now ++ separator ∷ []) (ended separator ps)
    ∙ ap (λ s. fold nesting_after s (ended separator ps)) (fold-append nesting_after outside p.now (separator ∷ []) ∙ ap (λ s. nesting_after s separator) first ∙ neutral)
    ∙ ended_closed separator ps (λ k d h. whole (suc k) d (omega arith)) neutral

-- the place after what is cut is that of the text
pub cut_place : (separator start i : ℕ) (text : List ℕ) (pieces : List (Bor (List ℕ))) (n : Nesting) → IsCut separator start i text pieces n → nesting_after outside separator ≡ outside → place (take i text) ≡ Some n
cut_place separator start i text pieces n cut neutral =
    ap place cut.text_is ∙ fold-append nesting_after outside (ended separator pieces) cut.piece
    ∙ ap (λ s. fold nesting_after s cut.piece) (ended_closed separator pieces cut.whole neutral) ∙ cut.at

-- a byte opens one bracket at most
opens_one : (brackets b : ℕ) (quotes : Quotes) (m : Nesting) → nesting_after (Some (record { brackets = brackets; quotes = quotes })) b ≡ Some m → m.brackets ≤ brackets + 1
unfolding nesting_after
opens_one brackets b Outside m e = grind arith
opens_one brackets b Inside m e = grind arith
opens_one brackets b Escaped m e = grind arith

-- a text opens as many brackets as it has bytes at most
pub brackets_within : (text : List ℕ) (n m : Nesting) → fold nesting_after (Some n) text ≡ Some m → m.brackets ≤ n.brackets + length text
brackets_within [] n m e = grind arith
brackets_within (b ∷ text) n m e = go (λ k. brackets_within text k m) (nesting_after (Some n) b) refl e
  where
    go : ((k : Nesting) → fold nesting_after (Some k) text ≡ Some m → m.brackets ≤ k.brackets + length text) → (o : Option Nesting) → nesting_after (Some n) b ≡ o → fold nesting_after o text ≡ Some m → m.brackets ≤ n.brackets + length (b ∷ text)
    go rest None at e = cc (sym (fold_none text) ∙ e)
    go rest (Some k) at e =
        let one = opens_one n.brackets b n.quotes k at in
        let more = rest k e in
        omega arith

-- if a bracket is closed that wasn't opened, the text isn't closed
pub unclosed_within : (separator start i : ℕ) (text : List ℕ) (pieces : List (Bor (List ℕ))) (n : Nesting) → IsCut separator start i text pieces n → nesting_after outside separator ≡ outside
    → i < length text → length text < 2 ^ 64 → (n.brackets < 2 ^ 64 - 1 → nesting_after (Some n) (get_or text i 0) ≡ None) → place text ≢ outside
unclosed_within separator start i text pieces n cut neutral less small closes closed =
    let at : place (take i text) ≡ Some n = cut_place separator start i text pieces n cut neutral in
    let few = brackets_within (take i text) _ n at in
    let none : nesting_after (Some n) (get_or text i 0) ≡ None = closes (omega (arith, length-take-le i text (omega arith))) in
    let more : place (take (i + 1) text) ≡ None =
    ap place (take_more text i 0 less) ∙ fold-append nesting_after outside (take i text) (get_or text i 0 ∷ []) ∙ ap (λ s. nesting_after s (get_or text i 0)) at ∙ none in
    let whole : place text ≡ None =
    ap place (sym (take-append-drop (i + 1) text)) ∙ fold-append nesting_after outside (take (i + 1) text) (drop (i + 1) text)
    ∙ ap (λ s. fold nesting_after s (drop (i + 1) text)) more ∙ fold_none (drop (i + 1) text) in
    cc (sym whole ∙ closed)

-- if its end stands in brackets or quotes, the text isn't closed
pub unclosed_end : (separator start i : ℕ) (text : List ℕ) (pieces : List (Bor (List ℕ))) (n : Nesting) → IsCut separator start i text pieces n → nesting_after outside separator ≡ outside
    → i ≡ length text → Some n ≢ outside → place text ≢ outside
unclosed_end separator start i text pieces n cut neutral end within closed =
    within (sym (cut_place separator start i text pieces n cut neutral) ∙ ap place (ap (λ j. take j text) end ∙ take-length text) ∙ closed)

pub blank_closed : nesting_after outside 32 ≡ outside
unfolding nesting_after
blank_closed = refl

-- a blank opens and closes nothing
blank_within : (brackets : ℕ) (quotes : Quotes) → nesting_after (Some (record { brackets = brackets; quotes = quotes })) 32 ≡ outside → Some (record { brackets = brackets; quotes = quotes }) ≡ outside
unfolding nesting_after
blank_within brackets Outside e = e
blank_within brackets Inside e = grind arith
blank_within brackets Escaped e = grind arith

blank_is_neutral : (s : Option Nesting) → nesting_after s 32 ≡ outside → s ≡ outside
unfolding nesting_after
blank_is_neutral None e = e
blank_is_neutral (Some n) e = blank_within n.brackets n.quotes e

-- a text that has words is closed
pub words_close : (text : List ℕ) (words : List (Bor (List ℕ))) → AreWords text words → place text ≡ outside
words_close text words (pieces, are, _) =
    blank_is_neutral (place text) (sym (fold-append nesting_after outside text (32 ∷ [])) ∙ ap place are.1 ∙ ended_closed 32 pieces are.0 blank_closed)

-- what is so of each fault
pub on_err : {A E : Type 0} (r : Result A E) (P : E → Type 0) → ((e : E) → P e) → IfErr r P
on_err (Ok a) P h = tt
on_err (Err e) P h = h e
