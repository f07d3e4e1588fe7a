-- The pieces of a text are determined by it, and so are its words.
use Rattle.std.proofs.Common.{◌≡◌, ◌<◌, ◌++◌, ℕ, Bool, true, false, not, nat_eq, List, [], ◌∷◌, length, take, drop, get_or, ap, sym, refl, ◌∙◌, append_assoc, length-append, arith}
use Rattle.std.specs.Prelude.{filter}
use Rattle.std.specs.Borrow.{Bor}
use Rattle.std.specs.List.{All}
use Rattle.std.proofs.Math.Seq.{get_or-append_seam, take-append_seam, drop-append_seam}
use Rattle.std.proofs.lemmas.List.{take-append-le, get_or_append_left}
use Rattle.std.proofs.lemmas.List.Elements.{All-head, All-tail}
use Rattle.lines.specs.Pieces.{ArePieces, AreWords, IsPiece, is_word, place, piece_texts}
use Rattle.lines.proofs.Cutting.{ended}

-- no piece is longer than another one with which the same text begins
no_longer : (separator : ℕ) (p q r s : List ℕ) → IsPiece separator p → IsPiece separator q → p ++ separator ∷ r ≡ q ++ separator ∷ s → length p < length q → ⊥
no_longer separator p q r s hp hq e less =
    let is_separator : get_or q (length p) 0 ≡ separator =
    sym (get_or_append_left q (separator ∷ s) 0 (length p) less) ∙ ap (λ t. get_or t (length p) 0) (sym e) ∙ get_or-append_seam p separator r 0 in
    let before : take (length p) q ≡ p =
    sym (take-append-le (length p) q (separator ∷ s) (omega arith)) ∙ ap (take (length p)) (sym e) ∙ take-append_seam p (separator ∷ r) in
    hq.1 (length p) less is_separator (ap place before ∙ hp.0)

as_long : (m n : ℕ) → (m < n → ⊥) → (n < m → ⊥) → m ≡ n
as_long m n f g = omega (arith, f, g)

-- so it is the same piece, and the same text follows
pub same_first : (separator : ℕ) (p q r s : List ℕ) → IsPiece separator p → IsPiece separator q → p ++ separator ∷ r ≡ q ++ separator ∷ s → (p ≡ q) × (r ≡ s)
same_first separator p q r s hp hq e =
    let long : length p ≡ length q = as_long (length p) (length q) (no_longer separator p q r s hp hq e) (no_longer separator q p s r hq hp (sym e)) in
    let first : p ≡ q = sym (take-append_seam p (separator ∷ r)) ∙ ap (take (length p)) e ∙ ap (λ n. take n (q ++ separator ∷ s)) long ∙ take-append_seam q (separator ∷ s) in
    let rest : separator ∷ r ≡ separator ∷ s = sym (drop-append_seam p (separator ∷ r)) ∙ ap (drop (length p)) e ∙ ap (λ n. drop n (q ++ separator ∷ s)) long ∙ drop-append_seam q (separator ∷ s) in
    (first, ap (drop 1) rest)

same_pieces : (separator : ℕ) (ps qs : List (Bor (List ℕ))) → All (λ p. IsPiece separator p.now) ps → All (λ p. IsPiece separator p.now) qs → ended separator ps ≡ ended separator qs → piece_texts ps ≡ piece_texts qs
same_pieces separator [] [] hp hq e = refl
same_pieces separator [] (q ∷ qs) hp hq e =
    let long = ap length e in absurd (omega (arith, long, length-append (q.now ++ separator ∷ []) (ended separator qs), length-append q.now (separator ∷ [])))
same_pieces separator (p ∷ ps) [] hp hq e =
    let long = ap length e in absurd (omega (arith, long, length-append (p.now ++ separator ∷ []) (ended separator ps), length-append p.now (separator ∷ [])))
same_pieces separator (p ∷ ps) (q ∷ qs) hp hq e =
    let P : Bor (List ℕ) → Type 0 = λ p. IsPiece separator p.now in
    let whole : p.now ++ separator ∷ ended separator ps ≡ q.now ++ separator ∷ ended separator qs =
    sym (append_assoc p.now (separator ∷ []) (ended separator ps)) ∙ e ∙ append_assoc q.now (separator ∷ []) (ended separator qs) in
    let same = same_first separator p.now q.now (ended separator ps) (ended separator qs) (All-head P p ps hp) (All-head P q qs hq) whole in
    ap (λ t. t ∷ piece_texts ps) same.0 ∙ ap (λ ts. q.now ∷ ts) (same_pieces separator ps qs (All-tail P p ps hp) (All-tail P q qs hq) same.1)

pub pieces_determined : (separator : ℕ) (text : List ℕ) (ps qs : List (Bor (List ℕ))) → ArePieces separator text ps → ArePieces separator text qs → piece_texts ps ≡ piece_texts qs
pieces_determined separator text ps qs a b = same_pieces separator ps qs a.0 b.0 (sym a.1 ∙ b.1)

-- which pieces are words is said by their texts
kept : (p q : Bor (List ℕ)) (ps qs : List (Bor (List ℕ))) (b : Bool) → is_word p ≡ b → is_word q ≡ b → p.now ≡ q.now → piece_texts (filter is_word ps) ≡ piece_texts (filter is_word qs)
    → piece_texts (filter is_word (p ∷ ps)) ≡ piece_texts (filter is_word (q ∷ qs))
kept p q ps qs true e f same rest = rw (e, f) (ap (λ t. t ∷ piece_texts (filter is_word ps)) same ∙ ap (λ ts. q.now ∷ ts) rest)
kept p q ps qs false e f same rest = rw (e, f) rest

same_words : (ps qs : List (Bor (List ℕ))) → piece_texts ps ≡ piece_texts qs → piece_texts (filter is_word ps) ≡ piece_texts (filter is_word qs)
same_words [] [] e = refl
same_words [] (q ∷ qs) e = let long = ap length e in absurd (omega (arith, long))
same_words (p ∷ ps) [] e = let long = ap length e in absurd (omega (arith, long))
same_words (p ∷ ps) (q ∷ qs) e =
    let first : p.now ≡ q.now = ap (λ ts. get_or ts 0 []) e in
    kept p q ps qs (is_word p) refl (ap (λ t. not (nat_eq (length t) 0)) (sym first)) first (same_words ps qs (ap (drop 1) e))

pub words_determined : (text : List ℕ) (ws vs : List (Bor (List ℕ))) → AreWords text ws → AreWords text vs → piece_texts ws ≡ piece_texts vs
words_determined text ws vs (ps, a, is) (qs, b, os) = ap piece_texts is ∙ same_words ps qs (pieces_determined 32 text ps qs a b) ∙ ap piece_texts (sym os)
