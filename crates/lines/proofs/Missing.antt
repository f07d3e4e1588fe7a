-- Words that aren't there say nothing.
use Rattle.std.proofs.Common.{◌≡◌, ◌<◌, ◌≤◌, inl, inr, ℕ, zero, suc, List, [], ◌∷◌, Option, Some, None, Result, Ok, Err, IfErr, codes, length, drop, get_or, ap, refl, subst, sym, ◌∙◌, arith, length-append}
use Rattle.std.specs.Duration.{as_nanos}
use Rattle.std.specs.declared.time.Duration.{Duration}
use Rattle.std.specs.Borrow.{Bor}
use Rattle.plain.specs.declared.fault.Fault.{Fault}
use Rattle.plain.specs.declared.fault.Fault.TheVariants.{Malformed}
use Rattle.lines.specs.Atoms.{IsAtom, IsText}
use Rattle.lines.specs.Readings.{Blames}
use Rattle.lines.specs.Fields.{IsOptional, IsRequired, IsSet}
use Rattle.lines.specs.Durations.{IsDuration, IsTime}
use Rattle.lines.specs.Words.{AreThreeTexts, AreTwoTexts, IsNumberOf, IsOneAtom, IsOneText, text_at}
use Rattle.lines.proofs.Places.{word_at}

pub none_at : (i : ℕ) (words : List (Bor (List ℕ))) → length words ≤ i → text_at i words ≡ []
none_at i [] h = refl
none_at zero (w ∷ words) h = absurd (omega arith)
none_at (suc i) (w ∷ words) h = none_at i words (omega arith)

nothing_is_no_atom : (bytes : List ℕ) → IsAtom [] bytes → ⊥
nothing_is_no_atom bytes (inl (inside, e, s)) = let long = ap length e in absurd (omega arith)
nothing_is_no_atom bytes (inr (digits, e, s)) = let long = ap length e in absurd (omega arith)

pub no_atom_at : (i : ℕ) (words : List (Bor (List ℕ))) (fault : Fault) → length words ≤ i → Blames (IsAtom (text_at i words)) fault
no_atom_at i words fault h = record { nothing = λ bad bytes atom. nothing_is_no_atom bytes (subst (λ t. IsAtom t bytes) (none_at i words h) atom) }

pub no_text_at : (i : ℕ) (words : List (Bor (List ℕ))) (fault : Fault) → length words ≤ i → Blames (IsText (text_at i words)) fault
no_text_at i words fault h = record { nothing = λ bad bytes text. nothing_is_no_atom bytes (subst (λ t. IsAtom t bytes) (none_at i words h) text.0) }

pub no_number_at : (bits i : ℕ) (words : List (Bor (List ℕ))) (fault : Fault) → length words ≤ i → Blames (IsNumberOf bits (text_at i words)) fault
no_number_at bits i words fault h = record {
  nothing = λ bad number is. let long = ap length (none_at i words h) in let some = is.0.0 in absurd (omega arith);
}

-- ---- one word, and fields

-- the only word is no atom
pub one_atom_blamed : (words : List (Bor (List ℕ))) (d : Bor (List ℕ)) (fault : Fault) → length words ≡ 1 → Blames (IsAtom (get_or words 0 d).now) fault → Blames (IsOneAtom words) fault
one_atom_blamed words d fault one blames = record {
  nothing = λ bad bytes is. blames.nothing bad bytes (subst (λ t. IsAtom t bytes) (sym (word_at words 0 d (omega arith))) is.1);
}

-- nor a text
pub one_text_blamed : (words : List (Bor (List ℕ))) (fault : Fault) → Blames (IsText (text_at 0 words)) fault → Blames (IsOneText words) fault
one_text_blamed words fault blames = record { nothing = λ bad bytes is. blames.nothing bad bytes is.1 }

-- what is so of each fault that came
pub if_err_map : {A E : Type 0} (r : Result A E) (P Q : E → Type 0) → ((e : E) → P e → Q e) → IfErr r P → IfErr r Q
if_err_map (Ok a) P Q h p = tt
if_err_map (Err e) P Q h p = h e p

-- the text of a field says nothing
pub optional_blamed : {A : Type 0} (Says : List ℕ → A → Type 0) (found : List (List ℕ)) (text : List ℕ) (fault : Fault) → found ≡ text ∷ [] → Blames (Says text) fault → Blames (IsOptional Says found) fault
optional_blamed {A = A} Says found text fault e blames = record { nothing = λ bad value is. go bad value (subst (λ f. IsOptional Says f value) e is) }
  where
    go : fault ≡ Malformed → (value : Option A) → IsOptional Says (text ∷ []) value → ⊥
    go bad None is = is
    go bad (Some a) is = blames.nothing bad a is

pub set_blamed : {A : Type 0} (Says : List ℕ → A → Type 0) (default : A) (found : List (List ℕ)) (text : List ℕ) (fault : Fault) → found ≡ text ∷ [] → Blames (Says text) fault → Blames (IsSet Says default found) fault
set_blamed Says default found text fault e blames = record { nothing = λ bad value is. blames.nothing bad value (subst (λ f. IsSet Says default f value) e is) }

-- a field that stands twice
pub twice_set : {A : Type 0} (Says : List ℕ → A → Type 0) (default : A) (found : List (List ℕ)) (fault : Fault) → 1 < length found → Blames (IsSet Says default found) fault
twice_set Says default [] fault h = absurd (omega arith)
twice_set Says default (text ∷ []) fault h = absurd (omega arith)
twice_set Says default (text ∷ other ∷ more) fault h = record { nothing = λ bad value is. is }

-- a field that has to stand
pub required_blamed : {A : Type 0} (Says : List ℕ → A → Type 0) (found : List (List ℕ)) (text : List ℕ) (fault : Fault) → found ≡ text ∷ [] → Blames (Says text) fault → Blames (IsRequired Says found) fault
required_blamed Says found text fault e blames = record { nothing = λ bad value is. blames.nothing bad value (subst (λ f. IsRequired Says f value) e is) }

pub required_missing : {A : Type 0} (Says : List ℕ → A → Type 0) (found : List (List ℕ)) (fault : Fault) → found ≡ [] → Blames (IsRequired Says found) fault
required_missing Says found fault e = record { nothing = λ bad value is. subst (λ f. IsRequired Says f value) e is }

pub required_twice : {A : Type 0} (Says : List ℕ → A → Type 0) (found : List (List ℕ)) (fault : Fault) → 1 < length found → Blames (IsRequired Says found) fault
required_twice Says [] fault h = absurd (omega arith)
required_twice Says (text ∷ []) fault h = absurd (omega arith)
required_twice Says (text ∷ other ∷ more) fault h = record { nothing = λ bad value is. is }

pub no_time_at : (i : ℕ) (words : List (Bor (List ℕ))) (fault : Fault) → length words ≤ i → Blames (IsTime (text_at i words)) fault
no_time_at i words fault h = record { nothing = λ bad time is. nothing_is_no_time (text_at i words) (none_at i words h) time is.0 }
  where
    nothing_is_no_time : (text : List ℕ) → text ≡ [] → (time : Duration) → IsDuration text (as_nanos time) → ⊥
    nothing_is_no_time text e time (inl (numeral, value)) = let long = ap length e in let some = numeral.0 in absurd (omega arith)
    nothing_is_no_time text e time (inr (digits, numeral, is, value)) =
        let long = ap length (sym is ∙ e) in absurd (omega (arith, long, length-append digits (codes "ns")))

-- ---- words in their places

-- a word that is no text, by its place
pub text_blamed_at : (i : ℕ) (words : List (Bor (List ℕ))) (d : Bor (List ℕ)) (fault : Fault) → i < length words → Blames (IsText (get_or words i d).now) fault → Blames (IsText (text_at i words)) fault
text_blamed_at i words d fault h blames = subst (λ t. Blames (IsText t) fault) (word_at words i d h) blames

pub atom_blamed_at : (i : ℕ) (words : List (Bor (List ℕ))) (d : Bor (List ℕ)) (fault : Fault) → i < length words → Blames (IsAtom (get_or words i d).now) fault → Blames (IsAtom (text_at i words)) fault
atom_blamed_at i words d fault h blames = subst (λ t. Blames (IsAtom t) fault) (word_at words i d h) blames

pub time_blamed_at : (i : ℕ) (words : List (Bor (List ℕ))) (d : Bor (List ℕ)) (fault : Fault) → i < length words → Blames (IsTime (get_or words i d).now) fault → Blames (IsTime (text_at i words)) fault
time_blamed_at i words d fault h blames = subst (λ t. Blames (IsTime t) fault) (word_at words i d h) blames

pub number_blamed_at : (bits i : ℕ) (words : List (Bor (List ℕ))) (d : Bor (List ℕ)) (fault : Fault) → i < length words → Blames (IsNumberOf bits (get_or words i d).now) fault → Blames (IsNumberOf bits (text_at i words)) fault
number_blamed_at bits i words d fault h blames = subst (λ t. Blames (IsNumberOf bits t) fault) (word_at words i d h) blames

-- the first, the second or the third isn't a text
pub first_of_two : (words : List (Bor (List ℕ))) (fault : Fault) → Blames (IsText (text_at 0 words)) fault → Blames (AreTwoTexts words) fault
first_of_two words fault blames = record { nothing = λ bad two are. blames.nothing bad two.0 are.0 }

pub second_of_two : (words : List (Bor (List ℕ))) (fault : Fault) → Blames (IsText (text_at 1 words)) fault → Blames (AreTwoTexts words) fault
second_of_two words fault blames = record { nothing = λ bad two are. blames.nothing bad two.1 are.1 }

pub first_of_three : (words : List (Bor (List ℕ))) (fault : Fault) → Blames (IsText (text_at 0 words)) fault → Blames (AreThreeTexts words) fault
first_of_three words fault blames = record { nothing = λ bad three are. blames.nothing bad three.0 are.0 }

pub others_of_three : (words others : List (Bor (List ℕ))) (fault : Fault) → others ≡ drop 1 words → Blames (AreTwoTexts others) fault → Blames (AreThreeTexts words) fault
others_of_three words others fault e blames = record {
  nothing = λ bad three are. blames.nothing bad (three.1, three.2) (subst (λ ws. AreTwoTexts ws (three.1, three.2)) (sym e) (two_behind words three are));
}
  where
    two_behind : (words : List (Bor (List ℕ))) (three : List ℕ × List ℕ × List ℕ) → AreThreeTexts words three → AreTwoTexts (drop 1 words) (three.1, three.2)
    two_behind [] three are = (are.1, are.2)
    two_behind (w ∷ words) three are = (are.1, are.2)
