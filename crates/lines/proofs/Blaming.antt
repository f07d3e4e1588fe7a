-- When a text is blamed: nothing is what it says.
use Rattle.std.proofs.Common.{◌≡◌, ◌≢◌, ◌<◌, ◌-◌, ◌++◌, inl, inr, ℕ, zero, suc, List, [], ◌∷◌, Option, Some, None, length, drop, get_or, ap, sym, refl, subst, ◌∙◌, arith, length-append, append_assoc}
use Rattle.std.proofs.Math.Seq.{get_or-append_seam}
use Rattle.std.proofs.lemmas.List.{append_cancel_right}
use Rattle.std.proofs.lemmas.Str.{IsUtf8-from_ascii}
use Rattle.std.proofs.lemmas.Str.Parse.{digit_from_value}
use Rattle.std.specs.Str.{IsUtf8}
use Rattle.std.specs.Str.Parse.{AllDigits, IsNumeral}
use Rattle.plain.specs.declared.fault.Fault.{Fault}
use Rattle.plain.specs.declared.fault.Fault.TheVariants.{Memory}
use Rattle.lines.specs.Atoms.{IsAtom, IsText, Spells, first_char, first_hex}
use Rattle.lines.specs.Pieces.{IsWithin}
use Rattle.lines.specs.Readings.{Blames, One, Two, Three}

-- out of memory blames no text
pub memory_blames : {A : Type 0} (Says : A → Type 0) → Blames Says Memory
memory_blames Says = record { nothing = λ bad. absurd (cc bad) }

-- what says something of a value's part is blamed with the part
pub blamed_by : {A B : Type 0} (Part : A → Type 0) (Whole : B → Type 0) (fault : Fault) → Blames Part fault → ((b : B) → Whole b → (a : A) × Part a) → Blames Whole fault
blamed_by Part Whole fault blames part = record { nothing = λ bad b whole. blames.nothing bad (part b whole).0 (part b whole).1 }

pub one_blamed : {A C : Type 0} (First : A → Type 0) (make : A → C) (fault : Fault) → Blames First fault → Blames (One First make) fault
one_blamed First make fault blames = record { nothing = λ bad c one. blames.nothing bad one.first one.is_first }

pub first_blamed : {A B C : Type 0} (First : A → Type 0) (Second : B → Type 0) (make : A → B → C) (fault : Fault) → Blames First fault → Blames (Two First Second make) fault
first_blamed First Second make fault blames = record { nothing = λ bad c two. blames.nothing bad two.first two.is_first }

pub second_blamed : {A B C : Type 0} (First : A → Type 0) (Second : B → Type 0) (make : A → B → C) (fault : Fault) → Blames Second fault → Blames (Two First Second make) fault
second_blamed First Second make fault blames = record { nothing = λ bad c two. blames.nothing bad two.second two.is_second }

pub first_of_three_blamed : {A B C D : Type 0} (First : A → Type 0) (Second : B → Type 0) (Third : C → Type 0) (make : A → B → C → D) (fault : Fault) → Blames First fault → Blames (Three First Second Third make) fault
first_of_three_blamed First Second Third make fault blames = record { nothing = λ bad d three. blames.nothing bad three.first three.is_first }

pub second_of_three_blamed : {A B C D : Type 0} (First : A → Type 0) (Second : B → Type 0) (Third : C → Type 0) (make : A → B → C → D) (fault : Fault) → Blames Second fault → Blames (Three First Second Third make) fault
second_of_three_blamed First Second Third make fault blames = record { nothing = λ bad d three. blames.nothing bad three.second three.is_second }

pub third_of_three_blamed : {A B C D : Type 0} (First : A → Type 0) (Second : B → Type 0) (Third : C → Type 0) (make : A → B → C → D) (fault : Fault) → Blames Third fault → Blames (Three First Second Third make) fault
third_of_three_blamed First Second Third make fault blames = record { nothing = λ bad d three. blames.nothing bad three.third three.is_third }

-- ---- brackets

-- a text of less than two bytes
pub short_within : (opening closing : ℕ) (text inside : List ℕ) → length text < 2 → IsWithin opening closing text inside → ⊥
short_within opening closing text inside short e =
    let long : length text ≡ length (opening ∷ (inside ++ closing ∷ [])) = ap length e in
    absurd (omega (arith, length-append inside (closing ∷ [])))

-- one that begins with another byte
pub begins_otherwise : (opening closing : ℕ) (text inside : List ℕ) → get_or text 0 0 ≢ opening → IsWithin opening closing text inside → ⊥
begins_otherwise opening closing text inside other e = other (ap (λ t. get_or t 0 0) e)

-- one that ends with another byte
pub ends_otherwise : (opening closing : ℕ) (text inside : List ℕ) → get_or text (length text - 1) 0 ≢ closing → IsWithin opening closing text inside → ⊥
ends_otherwise opening closing text inside other e =
    let last : length text - 1 ≡ suc (length inside) =
    let long : length text ≡ length (opening ∷ (inside ++ closing ∷ [])) = ap length e in omega (arith, length-append inside (closing ∷ [])) in
    other (ap (λ k. get_or text k 0) last ∙ ap (λ t. get_or t (suc (length inside)) 0) e ∙ get_or-append_seam inside closing [] 0)

-- ---- atoms

-- two texts that begin with other bytes
begins_with : (a b : ℕ) (xs ys : List ℕ) → a ∷ xs ≡ b ∷ ys → (a ≡ b → ⊥) → ⊥
begins_with a b xs ys e differ = differ (ap (λ t. get_or t 0 0) e)

-- hex digits that encode nothing
pub hex_blamed : (text digits : List ℕ) (fault : Fault) → text ≡ 48 ∷ 120 ∷ digits → Blames (Spells first_hex digits) fault → Blames (IsAtom text) fault
hex_blamed text digits fault e blames = record { nothing = λ bad bytes atom. go bad bytes atom }
  where
    go : fault ≡ Rattle.plain.specs.declared.fault.Fault.TheVariants.Malformed → (bytes : List ℕ) → IsAtom text bytes → ⊥
    go bad bytes (inl (inside, q, s)) = begins_with 34 48 (inside ++ 34 ∷ []) (120 ∷ digits) (sym q ∙ e) (λ same. absurd (omega arith))
    go bad bytes (inr (others, q, s)) = blames.nothing bad bytes (subst (λ ds. Spells first_hex ds bytes) (ap (drop 2) (sym q ∙ e)) s)

-- a text that isn't in quotes, nor begins as hex digits do
pub unquoted_blamed : (text : List ℕ) (fault : Fault) → ((digits : List ℕ) → text ≡ 48 ∷ 120 ∷ digits → ⊥) → Blames (IsWithin 34 34 text) fault → Blames (IsAtom text) fault
unquoted_blamed text fault other blames = record { nothing = λ bad bytes atom. go bad bytes atom }
  where
    go : fault ≡ Rattle.plain.specs.declared.fault.Fault.TheVariants.Malformed → (bytes : List ℕ) → IsAtom text bytes → ⊥
    go bad bytes (inl (inside, q, s)) = blames.nothing bad inside q
    go bad bytes (inr (others, q, s)) = other others q

-- quotes whose text encodes nothing
pub quoted_blamed : (text inside : List ℕ) (fault : Fault) → ((digits : List ℕ) → text ≡ 48 ∷ 120 ∷ digits → ⊥) → IsWithin 34 34 text inside → Blames (Spells first_char inside) fault → Blames (IsAtom text) fault
quoted_blamed text inside fault other e blames = record { nothing = λ bad bytes atom. go bad bytes atom }
  where
    go : fault ≡ Rattle.plain.specs.declared.fault.Fault.TheVariants.Malformed → (bytes : List ℕ) → IsAtom text bytes → ⊥
    go bad bytes (inl (within, q, s)) =
        blames.nothing bad bytes (subst (λ t. Spells first_char t bytes) (append_cancel_right within inside (34 ∷ []) (ap (drop 1) (sym q ∙ e))) s)
    go bad bytes (inr (others, q, s)) = other others q

-- ---- bytes taken off one by one

-- a text that isn't empty, and doesn't begin with the encoding of a byte, encodes no bytes
pub spelling_ends : (first : List ℕ → Option (ℕ × List ℕ)) (text : List ℕ) (bytes : List ℕ) → 0 < length text → first text ≡ None → Spells first text bytes → ⊥
spelling_ends first text [] some none e = let long = ap length e in absurd (omega arith)
spelling_ends first text (b ∷ bytes) some none (rest, e, s) = cc (sym none ∙ e)

-- all that the whole text encodes begins with these bytes, and the rest encodes what follows
abbrev pub GoesOn : (List ℕ → Option (ℕ × List ℕ)) → List ℕ → List ℕ → List ℕ → Type 0
GoesOn first text rest bytes = (all : List ℕ) → Spells first text all → (tail : List ℕ) × (all ≡ bytes ++ tail) × Spells first rest tail

pub goes_on_first : (first : List ℕ → Option (ℕ × List ℕ)) (text : List ℕ) → GoesOn first text text []
goes_on_first first text all s = (all, refl, s)

abbrev the : Option (ℕ × List ℕ) → ℕ × List ℕ
the None = (0, [])
the (Some found) = found

-- an empty text has no first byte
pub no_first_char : first_char [] ≡ None
unfolding first_char
no_first_char = refl

-- one byte more is taken off
pub goes_on_more : (first : List ℕ → Option (ℕ × List ℕ)) (text rest behind bytes more : List ℕ) (byte : ℕ) → first [] ≡ None → first rest ≡ Some (byte, behind) → more ≡ bytes ++ byte ∷ []
    → GoesOn first text rest bytes → GoesOn first text behind more
goes_on_more first text rest behind bytes more byte empty e m on all s = go (on all s).0 (on all s).1 (on all s).2
  where
    go : (tail : List ℕ) → all ≡ bytes ++ tail → Spells first rest tail → (next : List ℕ) × (all ≡ more ++ next) × Spells first behind next
    go [] is none = absurd (cc (sym empty ∙ ap first (sym none) ∙ e))
    go (b ∷ next) is (r, f, spelled) =
        let same : (b, r) ≡ (byte, behind) = ap the (sym f ∙ e) in (
          next,
          is ∙ ap (λ (x : ℕ × List ℕ). bytes ++ (x.0 ∷ next)) same ∙ sym (append_assoc bytes (byte ∷ []) next) ∙ ap (λ l. l ++ next) (sym m),
          subst (λ (x : ℕ × List ℕ). Spells first x.1 next) same spelled,
        )

-- a text encodes at most one list of bytes
pub spells_once : (first : List ℕ → Option (ℕ × List ℕ)) (text xs ys : List ℕ) → first [] ≡ None → Spells first text xs → Spells first text ys → xs ≡ ys
spells_once first text [] [] empty s t = refl
spells_once first text [] (b ∷ ys) empty s (rest, e, t) = absurd (cc (sym empty ∙ ap first (sym s) ∙ e))
spells_once first text (b ∷ xs) [] empty (rest, e, s) t = absurd (cc (sym empty ∙ ap first (sym t) ∙ e))
spells_once first text (a ∷ xs) (b ∷ ys) empty (rest, e, s) (others, f, t) =
    let same : (a, rest) ≡ (b, others) = ap the (sym e ∙ f) in
    let tails : xs ≡ ys = spells_once first others xs ys empty (subst (λ (x : ℕ × List ℕ). Spells first x.1 xs) same s) t in
    ap (λ (x : ℕ × List ℕ). x.0 ∷ xs) same ∙ ap (λ l. b ∷ l) tails

-- an atom has one list of bytes
pub atom_once : (text xs ys : List ℕ) → IsAtom text xs → IsAtom text ys → xs ≡ ys
atom_once text xs ys (inl (inside, q, s)) (inl (others, p, t)) =
    spells_once first_char others xs ys no_first_char (subst (λ l. Spells first_char l xs) (append_cancel_right inside others (34 ∷ []) (ap (drop 1) (sym q ∙ p))) s) t
atom_once text xs ys (inl (inside, q, s)) (inr (others, p, t)) = absurd (begins_with 34 48 (inside ++ 34 ∷ []) (120 ∷ others) (sym q ∙ p) (λ same. absurd (omega arith)))
atom_once text xs ys (inr (inside, q, s)) (inl (others, p, t)) = absurd (begins_with 48 34 (120 ∷ inside) (others ++ 34 ∷ []) (sym q ∙ p) (λ same. absurd (omega arith)))
atom_once text xs ys (inr (inside, q, s)) (inr (others, p, t)) =
    spells_once first_hex others xs ys refl (subst (λ l. Spells first_hex l xs) (ap (drop 2) (sym q ∙ p)) s) t

-- an atom whose bytes aren't UTF-8 is no text
pub not_text : (text bytes : List ℕ) (fault : Fault) → IsAtom text bytes → (IsUtf8 bytes → ⊥) → Blames (IsText text) fault
not_text text bytes fault atom bad = record { nothing = λ _ others is. bad (subst IsUtf8 (atom_once text others bytes is.0 atom) is.1) }

-- nor is a text that is no atom
pub no_atom : (text : List ℕ) (fault : Fault) → Blames (IsAtom text) fault → Blames (IsText text) fault
no_atom text fault blames = record { nothing = λ bad bytes is. blames.nothing bad bytes is.0 }

-- ---- numbers

-- digits are ASCII
digits_are_ascii : (text : List ℕ) → AllDigits 10 text → (i : ℕ) → get_or text i 0 < 128
digits_are_ascii [] digits i = omega arith
digits_are_ascii (c ∷ cs) digits zero = let within = digit_from_value c digits.0 in omega arith
digits_are_ascii (c ∷ cs) digits (suc i) = digits_are_ascii cs digits.1 i

-- decimal digits are text
pub numeral_is_utf8 : (text : List ℕ) → IsNumeral 10 text → IsUtf8 text
numeral_is_utf8 text (some, digits) = IsUtf8-from_ascii text (digits_are_ascii text digits)
