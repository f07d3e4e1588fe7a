-- A text says one value at most.
use Rattle.std.proofs.Common.{◌≡◌, ◌++◌, ℕ, zero, suc, true, false, List, [], ◌∷◌, Some, None, length, drop, inl, inr, ap, sym, refl, subst, ◌∙◌, arith, length-append}
use Rattle.std.specs.Borrow.{Bor}
use Rattle.std.specs.Char.{is_ascii_whitespace}
use Rattle.std.specs.List.{AllZip, prefix_len}
use Rattle.std.specs.Str.{IsTrimAscii}
use Rattle.std.proofs.Math.Seq.{drop-append_seam}
use Rattle.std.proofs.lemmas.Bool.{eqb-true}
use Rattle.std.proofs.lemmas.List.{append_cancel_right}
use Rattle.std.proofs.lemmas.Str.Ascii.{trim_ascii_is}
use Rattle.lines.specs.Pieces.{ArePieces, AreWords}
use Rattle.lines.proofs.Blaming.{atom_once}
use Rattle.lines.proofs.Cutting.{ended}
use Rattle.lines.proofs.Once.{Same, words_once, words_within_once}
use Rattle.lines.specs.Words.{text_at}
use Rattle.frame_values.specs.Notation.{AreFields, Fields, HoldsAfterWord, HoldsFields, IsBehind, Notation, SayField, SayItems, SaysInside, SaysPair, bytes_notation, flag_notation, is_nothing, list_notation, number, optional, string}
use Rattle.frame_values.proofs.Listing.{pieces_once}
use Rattle.frame_values.proofs.Refusing.{same_fields}
use Rattle.frame_runs.proofs.Joined.{nothing_trimmed}

-- the text says one value at most
abbrev pub SaysOnce : {A : Type 0} → (List ℕ → A → Type 0) → Type 0
SaysOnce {A = A} Says = (text : List ℕ) (a b : A) → Says text a → Says text b → a ≡ b

-- one value at most is left out
abbrev pub IsLeftOutOnce : {A : Type 0} → Notation A → Type 0
IsLeftOutOnce {A = A} value = (a b : A) → value.is_left_out a ≡ true → value.is_left_out b ≡ true → a ≡ b

-- no value stands as nothing
abbrev pub SaysSomething : {A : Type 0} → Notation A → Type 0
SaysSomething {A = A} value = (a : A) → value.Says [] a → ⊥

-- ---- numbers, flags, bytes and texts

pub number_once : (bits : ℕ) → SaysOnce (number bits).Says
number_once bits text a b p q = p.1 ∙ sym q.1

pub number_left_out : (bits : ℕ) → IsLeftOutOnce (number bits)
number_left_out bits a b p q = eqb-true a 0 p ∙ sym (eqb-true b 0 q)

pub number_something : (bits : ℕ) → SaysSomething (number bits)
number_something bits a says = let some = says.0.0 in absurd (omega arith)

pub flag_once : SaysOnce (flag_notation).Says
flag_once text true true p q = refl
flag_once text false false p q = refl
flag_once text true false p q = let long = ap length (sym p ∙ q) in absurd (omega (arith, long))
flag_once text false true p q = let long = ap length (sym p ∙ q) in absurd (omega (arith, long))

pub flag_left_out : IsLeftOutOnce flag_notation
flag_left_out true true p q = refl
flag_left_out false false p q = refl
flag_left_out true false p q = absurd (cc p)
flag_left_out false true p q = absurd (cc q)

pub flag_something : SaysSomething flag_notation
flag_something true says = let long = ap length says in absurd (omega (arith, long))
flag_something false says = let long = ap length says in absurd (omega (arith, long))

empty_once : {A : Type 0} (a b : List A) → is_nothing a ≡ true → is_nothing b ≡ true → a ≡ b
empty_once [] [] p q = refl
empty_once [] (y ∷ ys) p q = let none = eqb-true (length (y ∷ ys)) 0 q in absurd (omega (arith, none))
empty_once (x ∷ xs) b p q = let none = eqb-true (length (x ∷ xs)) 0 p in absurd (omega (arith, none))

pub bytes_once : SaysOnce (bytes_notation).Says
bytes_once text a b p q = atom_once text a b p q

pub bytes_left_out : IsLeftOutOnce bytes_notation
bytes_left_out = empty_once

pub bytes_something : SaysSomething bytes_notation
bytes_something a (inl (inside, is, spelled)) = let long = ap length is in absurd (omega (arith, long))
bytes_something a (inr (digits, is, spelled)) = let long = ap length is in absurd (omega (arith, long))

pub string_once : SaysOnce (string).Says
string_once text a b p q = atom_once text a b p.0 q.0

pub string_left_out : IsLeftOutOnce string
string_left_out = empty_once

pub string_something : SaysSomething string
string_something a says = bytes_something a says.0

-- ---- options

pub some_once : {A : Type 0} (value : Notation A) → SaysOnce value.Says → SaysOnce (optional value).Says
some_once value once text None b p q = absurd p
some_once value once text (Some a) None p q = absurd q
some_once value once text (Some a) (Some b) p q = ap Some (once text a b p q)

pub none_left_out : {A : Type 0} (value : Notation A) → IsLeftOutOnce (optional value)
none_left_out value None None p q = refl
none_left_out value None (Some b) p q = absurd (cc q)
none_left_out value (Some a) b p q = absurd (cc p)

-- ---- what stands inside

trimmed_once : (text a b : List ℕ) → IsTrimAscii text a → IsTrimAscii text b → a ≡ b
trimmed_once text a b p q =
    let start = drop (prefix_len is_ascii_whitespace text) text in trim_ascii_is text a start refl p ∙ sym (trim_ascii_is text b start refl q)

pub inside_once : {A : Type 0} (Says : List ℕ → A → Type 0) → SaysOnce Says → SaysOnce (SaysInside Says)
inside_once Says once text a b (x, p, s) (y, q, t) = once y a b (subst (λ l. Says l a) (trimmed_once text x y p q) s) t

-- ---- lists

module _ {A : Type 0} (item : Notation A) (once : SaysOnce item.Says) (something : SaysSomething item) where
  zip_once : (ps qs : List (Bor (List ℕ))) (xs ys : List A) → Same ps qs → AllZip (λ p it. SaysInside item.Says p.now it) ps xs → AllZip (λ p it. SaysInside item.Says p.now it) qs ys → xs ≡ ys
  zip_once [] [] [] [] same a b = refl
  zip_once [] [] (x ∷ xs) ys same a b = absurd a
  zip_once [] [] [] (y ∷ ys) same a b = absurd b
  zip_once [] (q ∷ qs) xs ys same a b = absurd same
  zip_once (p ∷ ps) [] xs ys same a b = absurd same
  zip_once (p ∷ ps) (q ∷ qs) [] ys same a b = absurd a
  zip_once (p ∷ ps) (q ∷ qs) (x ∷ xs) [] same a b = absurd b
  zip_once (p ∷ ps) (q ∷ qs) (x ∷ xs) (y ∷ ys) same a b =
      let first : x ≡ y = inside_once item.Says once q.now x y (subst (λ t. SaysInside item.Says t x) same.0 a.0) b.0 in
      ap (λ z. z ∷ xs) first ∙ ap (λ zs. y ∷ zs) (zip_once ps qs xs ys same.1 a.1 b.1)

  -- an empty text has one piece, which says nothing
  empty_pieces : (pieces : List (Bor (List ℕ))) (items : List A) → ArePieces 44 [] pieces → AllZip (λ p it. SaysInside item.Says p.now it) pieces items → ⊥
  empty_pieces [] items are all = let long = ap length are.1 in absurd (omega (arith, long))
  empty_pieces (p ∷ ps) [] are all = all
  empty_pieces (p ∷ ps) (x ∷ xs) are all = go p.now none all.0
    where
      none : length p.now ≡ 0
      none =
          let long = ap length are.1 in
          omega (arith, long, length-append (p.now ++ 44 ∷ []) (ended 44 ps), length-append p.now (44 ∷ []))

      go : (t : List ℕ) → length t ≡ 0 → SaysInside item.Says t x → ⊥
      go (b ∷ t) none says = absurd (omega (arith, none))
      go [] none (inside, is, says) = something x (subst (λ l. item.Says l x) (trimmed_once [] inside [] is nothing_trimmed) says)

  items_once : SaysOnce (SayItems item.Says)
  items_once text a b (inl (p, x)) (inl (q, y)) = x ∙ sym y
  items_once text a b (inl (p, x)) (inr (pieces, are, all)) = absurd (empty_pieces pieces b (subst (λ t. ArePieces 44 t pieces) p are) all)
  items_once text a b (inr (pieces, are, all)) (inl (q, y)) = absurd (empty_pieces pieces a (subst (λ t. ArePieces 44 t pieces) q are) all)
  items_once text a b (inr (ps, are, all)) (inr (qs, be, each)) = zip_once ps qs a b (pieces_once 44 text ps qs are be) all each

  pub list_once : SaysOnce (list_notation item).Says
  list_once text a b (x, p, s) (y, q, t) =
      let same : x ≡ y = append_cancel_right x y (93 ∷ []) (ap (drop 1) (sym p ∙ q)) in
      inside_once (SayItems item.Says) items_once y a b (subst (λ l. SaysInside (SayItems item.Says) l a) same s) t

  pub list_left_out : IsLeftOutOnce (list_notation item)
  list_left_out = empty_once

  pub list_something : SaysSomething (list_notation item)
  list_something a (x, p, s) = let long = ap length p in absurd (omega (arith, long))

-- ---- pairs

same_text : (i : ℕ) (ws vs : List (Bor (List ℕ))) → Same ws vs → text_at i ws ≡ text_at i vs
same_text i [] [] same = refl
same_text i [] (v ∷ vs) same = absurd same
same_text i (w ∷ ws) [] same = absurd same
same_text zero (w ∷ ws) (v ∷ vs) same = same.0
same_text (suc i) (w ∷ ws) (v ∷ vs) same = same_text i ws vs same.1

module _ {A B : Type 0} (first : Notation A) (second : Notation B) (once : SaysOnce first.Says) (also : SaysOnce second.Says) where
  pub pair_once : SaysOnce (SaysPair first.Says second.Says)
  pair_once text x y p q =
      let same = words_within_once 40 41 text p.words q.words p.are_words q.are_words in
      let a : x.0 ≡ y.0 = once (text_at 0 q.words) x.0 y.0 (subst (λ t. first.Says t x.0) (same_text 0 p.words q.words same) p.is_first) q.is_first in
      let b : x.1 ≡ y.1 = also (text_at 1 q.words) x.1 y.1 (subst (λ t. second.Says t x.1) (same_text 1 p.words q.words same) p.is_second) q.is_second in
      λ i. (a i, b i)

  pub pair_something : (two : A × B) → SaysPair first.Says second.Says [] two → ⊥
  pair_something two p = let long = ap length p.are_words.within in absurd (omega (arith, long))

-- ---- brackets after a word

brackets_once : (word text xs ys : List ℕ) → IsBehind word text xs → IsBehind word text ys → xs ≡ ys
brackets_once word text xs ys p q =
    let same : 40 ∷ (xs ++ 41 ∷ []) ≡ 40 ∷ (ys ++ 41 ∷ []) =
    sym (drop-append_seam word (40 ∷ (xs ++ 41 ∷ []))) ∙ ap (drop (length word)) (sym p ∙ q) ∙ drop-append_seam word (40 ∷ (ys ++ 41 ∷ [])) in
    append_cancel_right xs ys (41 ∷ []) (ap (drop 1) same)

pub held_once : {A : Type 0} (word : List ℕ) (value : Notation A) → SaysOnce value.Says → SaysOnce (HoldsAfterWord word value)
held_once word value once text a b (x, p, s) (y, q, t) =
    inside_once value.Says once y a b (subst (λ l. SaysInside value.Says l a) (brackets_once word text x y p q) s) t

-- ---- fields

pub field_once : {A : Type 0} (value : Notation A) → SaysOnce value.Says → IsLeftOutOnce value → (found : List (List ℕ)) (a b : A) → SayField value found a → SayField value found b → a ≡ b
field_once value once left_out [] a b p q = left_out a b p q
field_once value once left_out (text ∷ []) a b p q = once text a b p q
field_once value once left_out (text ∷ other ∷ more) a b p q = absurd p

-- words are the fields of one value at most
abbrev pub AreFieldsOnce : {A : Type 0} → Fields A → Type 0
AreFieldsOnce {A = A} fields = (words : List (Bor (List ℕ))) (a b : A) → AreFields fields words a → AreFields fields words b → a ≡ b

pub holds_once : {A : Type 0} (word : List ℕ) (fields : Fields A) → AreFieldsOnce fields → SaysOnce (HoldsFields word fields)
holds_once word fields once text a b (x, p, (ws, are, says)) (y, q, (vs, be, tells)) =
    let same : x ≡ y = brackets_once word text x y p q in
    let words = words_once y ws vs (subst (λ l. AreWords l ws) same are) be in
    once vs a b (same_fields fields ws vs a words says) tells
