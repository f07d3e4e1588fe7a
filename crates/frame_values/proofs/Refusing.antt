-- Texts and words that are refused say nothing.
use Rattle.std.proofs.Common.{◌≡◌, ◌≢◌, ◌<◌, ◌++◌, ℕ, zero, suc, Bool, true, false, List, [], ◌∷◌, Option, Some, None, length, drop, get_or, inl, inr, ap, sym, refl, subst, ◌∙◌, arith}
use Rattle.std.specs.Borrow.{Bor}
use Rattle.std.specs.Char.{is_ascii_whitespace}
use Rattle.std.specs.List.{AllZip, prefix_len}
use Rattle.std.specs.Str.{IsTrimAscii}
use Rattle.std.proofs.Math.Path.{fun_ext}
use Rattle.std.proofs.lemmas.List.{append_cancel_right}
use Rattle.std.proofs.lemmas.Str.Ascii.{trim_ascii_is}
use Rattle.plain.specs.declared.fault.Fault.{Fault}
use Rattle.plain.specs.declared.fault.Fault.TheVariants.{Malformed}
use Rattle.lines.specs.Readings.{Blames}
use Rattle.lines.specs.Pieces.{ArePieces, AreWordsWithin, IsWithin, outside, place}
use Rattle.lines.proofs.Once.{Same, words_within_once}
use Rattle.lines.specs.Fields.{are_named, texts_named}
use Rattle.lines.specs.Words.{text_at}
use Rattle.lines.proofs.Places.{word_at}
use Rattle.lines.proofs.Sames.{named_same, texts_same}
use Rattle.frame_values.specs.Notation.{AreFields, Fields, Notation, SayField, SayItems, SayPair, SaysInside, SaysList, SaysPair, SaysSome}
use Rattle.frame_values.proofs.Listing.{pieces_close, pieces_once}

-- ---- values

pub some_blamed : {A : Type 0} (Says : List ℕ → A → Type 0) (text : List ℕ) (fault : Fault) → Blames (Says text) fault → Blames (SaysSome Says text) fault
some_blamed {A = A} Says text fault blames = record { nothing = go }
  where
    go : fault ≡ Malformed → (o : Option A) → SaysSome Says text o → ⊥
    go bad None says = says
    go bad (Some it) says = blames.nothing bad it says

-- a text has one inside without blanks
trimmed_once : (text a b : List ℕ) → IsTrimAscii text a → IsTrimAscii text b → a ≡ b
trimmed_once text a b p q =
    let start = drop (prefix_len is_ascii_whitespace text) text in trim_ascii_is text a start refl p ∙ sym (trim_ascii_is text b start refl q)

pub inside_blamed : {A : Type 0} (Says : List ℕ → A → Type 0) (text inside : List ℕ) (fault : Fault) → IsTrimAscii text inside → Blames (Says inside) fault → Blames (SaysInside Says text) fault
inside_blamed Says text inside fault is blames = record { nothing = λ bad it said. blames.nothing bad it (subst (λ t. Says t it) (trimmed_once text said.0 inside said.1 is) said.2) }

-- the word at a place
pub word_blamed : {A : Type 0} (value : Notation A) (words : List (Bor (List ℕ))) (i : ℕ) (d : Bor (List ℕ)) (fault : Fault) → i < length words → Blames (value.Says (get_or words i d).now) fault → Blames (value.Says (text_at i words)) fault
word_blamed value words i d fault h blames = record { nothing = λ bad it says. blames.nothing bad it (subst (λ t. value.Says t it) (sym (word_at words i d h)) says) }

-- ---- lists

-- what is said of the piece at a place
piece_said : {A : Type 0} (Says : List ℕ → A → Type 0) (ps qs : List (Bor (List ℕ))) (items : List A) (i : ℕ) (d : Bor (List ℕ)) → Same ps qs → AllZip (λ p it. SaysInside Says p.now it) qs items → i < length ps → (it : A) × SaysInside Says (get_or ps i d).now it
piece_said Says [] qs items i d same all h = absurd (omega arith)
piece_said Says (p ∷ ps) [] items i d same all h = absurd same
piece_said Says (p ∷ ps) (q ∷ qs) [] i d same all h = absurd all
piece_said Says (p ∷ ps) (q ∷ qs) (it ∷ items) zero d same all h = (it, subst (λ t. SaysInside Says t it) (sym same.0) all.0)
piece_said Says (p ∷ ps) (q ∷ qs) (it ∷ items) (suc i) d same all h = piece_said Says ps qs items i d same.1 all.1 (omega arith)

-- no piece yet
pub none_said : {A : Type 0} (Says : List ℕ → A → Type 0) (items : List A) → items ≡ [] → AllZip (λ (p : Bor (List ℕ)) it. SaysInside Says p.now it) [] items
none_said Says items is = rw is tt

-- a piece is refused
pub piece_blamed : {A : Type 0} (Says : List ℕ → A → Type 0) (text : List ℕ) (pieces : List (Bor (List ℕ))) (i : ℕ) (d : Bor (List ℕ)) (fault : Fault) → (length text ≡ 0 → ⊥) → ArePieces 44 text pieces → i < length pieces → Blames (SaysInside Says (get_or pieces i d).now) fault
    → Blames (SayItems Says text) fault
piece_blamed {A = A} Says text pieces i d fault some are h blames = record { nothing = go }
  where
    go : fault ≡ Malformed → (items : List A) → SayItems Says text items → ⊥
    go bad items (inl (empty, none)) = some (ap length empty)
    go bad items (inr (others, be, all)) =
        let said = piece_said Says pieces others items i d (pieces_once 44 text pieces others are be) all h in blames.nothing bad said.0 said.1

-- a list that isn't closed
pub unclosed_items_blamed : {A : Type 0} (Says : List ℕ → A → Type 0) (text : List ℕ) (fault : Fault) → (fault ≡ Malformed → place text ≢ outside) → Blames (SayItems Says text) fault
unclosed_items_blamed {A = A} Says text fault unclosed = record { nothing = go }
  where
    go : fault ≡ Malformed → (items : List A) → SayItems Says text items → ⊥
    go bad items (inl (empty, none)) = unclosed bad (ap place empty)
    go bad items (inr (others, be, all)) = unclosed bad (pieces_close text others be)

same_inside : (opening closing : ℕ) (text xs ys : List ℕ) → IsWithin opening closing text xs → IsWithin opening closing text ys → xs ≡ ys
same_inside opening closing text xs ys a b = append_cancel_right xs ys (closing ∷ []) (ap (drop 1) (sym a ∙ b))

pub list_blamed : {A : Type 0} (Says : List ℕ → A → Type 0) (text inside trimmed : List ℕ) (fault : Fault) → IsWithin 91 93 text inside → IsTrimAscii inside trimmed → Blames (SayItems Says trimmed) fault → Blames (SaysList Says text) fault
list_blamed Says text inside trimmed fault within is blames =
    let inner = inside_blamed (SayItems Says) inside trimmed fault is blames in
    record { nothing = λ bad items said. inner.nothing bad items (subst (λ t. SaysInside (SayItems Says) t items) (same_inside 91 93 text said.0 inside said.1 within) said.2) }

pub no_list_blamed : {A : Type 0} (Says : List ℕ → A → Type 0) (text : List ℕ) (fault : Fault) → Blames (IsWithin 91 93 text) fault → Blames (SaysList Says text) fault
no_list_blamed Says text fault blames = record { nothing = λ bad items said. blames.nothing bad said.0 said.1 }

-- ---- pairs

same_length : (ws vs : List (Bor (List ℕ))) → Same ws vs → length ws ≡ length vs
same_length [] [] same = refl
same_length [] (v ∷ vs) same = absurd same
same_length (w ∷ ws) [] same = absurd same
same_length (w ∷ ws) (v ∷ vs) same = ap suc (same_length ws vs same.1)

same_text : (i : ℕ) (ws vs : List (Bor (List ℕ))) → Same ws vs → text_at i ws ≡ text_at i vs
same_text i [] [] same = refl
same_text i [] (v ∷ vs) same = absurd same
same_text i (w ∷ ws) [] same = absurd same
same_text zero (w ∷ ws) (v ∷ vs) same = same.0
same_text (suc i) (w ∷ ws) (v ∷ vs) same = same_text i ws vs same.1

module _ {A B : Type 0} (First : List ℕ → A → Type 0) (Second : List ℕ → B → Type 0) (text : List ℕ) (fault : Fault) where
  pub no_pair_blamed : Blames (AreWordsWithin 40 41 text) fault → Blames (SaysPair First Second text) fault
  no_pair_blamed blames = record { nothing = λ bad two says. blames.nothing bad says.words says.are_words }

  pub not_two_blamed : (words : List (Bor (List ℕ))) → AreWordsWithin 40 41 text words → (length words ≡ 2 → ⊥) → Blames (SaysPair First Second text) fault
  not_two_blamed words are other = record { nothing = λ bad two says. other (same_length words says.words (words_within_once 40 41 text words says.words are says.are_words) ∙ says.are_two) }

  pub first_blamed : (words : List (Bor (List ℕ))) → AreWordsWithin 40 41 text words → Blames (First (text_at 0 words)) fault → Blames (SaysPair First Second text) fault
  first_blamed words are blames = record {
    nothing = λ bad two says. blames.nothing bad two.0 (subst (λ t. First t two.0) (sym (same_text 0 words says.words (words_within_once 40 41 text words says.words are says.are_words))) says.is_first);
  }

  pub second_blamed : (words : List (Bor (List ℕ))) → AreWordsWithin 40 41 text words → Blames (Second (text_at 1 words)) fault → Blames (SaysPair First Second text) fault
  second_blamed words are blames = record {
    nothing = λ bad two says. blames.nothing bad two.1 (subst (λ t. Second t two.1) (sym (same_text 1 words says.words (words_within_once 40 41 text words says.words are says.are_words))) says.is_second);
  }

-- ---- fields

-- two texts
pub twice_blamed : {A : Type 0} (value : Notation A) (found : List (List ℕ)) (fault : Fault) → 1 < length found → Blames (SayField value found) fault
twice_blamed value [] fault more = absurd (omega arith)
twice_blamed value (a ∷ []) fault more = absurd (omega arith)
twice_blamed value (a ∷ b ∷ found) fault more = record { nothing = λ bad it says. says }

-- one text, which is refused
pub field_blamed : {A : Type 0} (value : Notation A) (found : List (List ℕ)) (text : List ℕ) (fault : Fault) → found ≡ text ∷ [] → Blames (value.Says text) fault → Blames (SayField value found) fault
field_blamed value found text fault is blames = record { nothing = λ bad it says. blames.nothing bad it (subst (λ f. SayField value f it) is says) }

-- none, and no value is a default
pub none_blamed : {A : Type 0} (value : Notation A) (found : List (List ℕ)) (fault : Fault) → found ≡ [] → ((it : A) → value.is_left_out it ≡ false) → Blames (SayField value found) fault
none_blamed value found fault is never = record { nothing = λ bad it says. let left_out : value.is_left_out it ≡ true = subst (λ f. SayField value f it) is says in cc (sym left_out ∙ never it) }

-- ---- a value's fields

-- no values of the fields stand there, so there is no value whose fields the words are
pub form_blamed : {A : Type 0} (fields : Fields A) (words : List (Bor (List ℕ))) (fault : Fault)
    → Blames (λ (parts : fields.Parts). (are_named fields.names words ≡ true) × fields.Say (λ name. texts_named name words) parts) fault → Blames (AreFields fields words) fault
form_blamed fields words fault blames = record { nothing = λ bad it are. blames.nothing bad (fields.parts it) are }

-- the words' texts decide
pub same_fields : {A : Type 0} (fields : Fields A) (ws vs : List (Bor (List ℕ))) (it : A) → Same ws vs → AreFields fields ws it → AreFields fields vs it
same_fields fields ws vs it same are =
    (sym (named_same fields.names ws vs same) ∙ are.0, subst (λ found. fields.Say found (fields.parts it)) (fun_ext (λ name. texts_same name ws vs same)) are.1)
