-- Words that say nothing of a round.
use Rattle.std.proofs.Common.{◌≡◌, ◌<◌, ◌≤◌, ◌/◌, ◌^◌, ◌∙◌, ◌++◌, inl, inr, ℕ, zero, suc, true, false, List, [], ◌∷◌, Option, Some, None, length, get_or, ap, refl, subst, sym, arith, codes}
use Rattle.std.proofs.lemmas.List.{append_cancel_right}
use Rattle.std.specs.Borrow.{Bor}
use Rattle.std.specs.Duration.{as_nanos}
use Rattle.std.specs.Str.Parse.{AllDigits, IsNumeral, digits_value}
use Rattle.std.specs.declared.time.Duration.{Duration}
use Rattle.plain.specs.declared.fault.Fault.{Fault}
use Rattle.lines.specs.Atoms.{IsText}
use Rattle.lines.specs.Readings.{Blames}
use Rattle.lines.specs.Durations.{IsDuration, IsTime}
use Rattle.lines.specs.Fields.{IsSet, are_named, text_behind, texts_named}
use Rattle.line_parts.specs.Values.{HasFlag, words_without}
use Rattle.lines.specs.Words.{IsNumberOf}
use Rattle.world_scripts.specs.Rounds.{AreKeys, IsWholeMilliseconds, SaysRound, round_names}

-- ---- keys

-- a text that is no key, after other words
behind_first : (name : List ℕ) (w : Bor (List ℕ)) (words : List (Bor (List ℕ))) (found : Option (List ℕ)) → text_behind name w.now ≡ found → ((keys : List (List ℕ)) → AreKeys (texts_named name words) keys → ⊥)
    → (keys : List (List ℕ)) → AreKeys (texts_named name (w ∷ words)) keys → ⊥
behind_first name w words None at none keys are = none keys (rw at at are)
behind_first name w words (Some t) at none [] are = rw at at are
behind_first name w words (Some t) at none (x ∷ keys) are = let both = rw at at are in none keys both.1

no_keys : (name : List ℕ) (words : List (Bor (List ℕ))) (i : ℕ) (d : Bor (List ℕ)) (text : List ℕ) → i < length words → text_behind name (get_or words i d).now ≡ Some text → ((key : List ℕ) → IsText text key → ⊥)
    → (keys : List (List ℕ)) → AreKeys (texts_named name words) keys → ⊥
no_keys name [] i d text h e none keys are = absurd (omega arith)
no_keys name (w ∷ words) zero d text h e none [] are = rw e at are
no_keys name (w ∷ words) zero d text h e none (x ∷ keys) are = let both = rw e at are in none x both.0
no_keys name (w ∷ words) (suc i) d text h e none keys are =
    behind_first name w words (text_behind name w.now) refl (λ others them. no_keys name words i d text (omega arith) e none others them) keys are

pub keys_blamed : (name : List ℕ) (words : List (Bor (List ℕ))) (i : ℕ) (d : Bor (List ℕ)) (text : List ℕ) (fault : Fault) → i < length words → text_behind name (get_or words i d).now ≡ Some text → Blames (IsText text) fault → Blames (AreKeys (texts_named name words)) fault
keys_blamed name words i d text fault h e blames = record { nothing = λ bad keys are. no_keys name words i d text h e (blames.nothing bad) keys are }

-- ---- durations

-- letters are no digits
no_letters : (digits : List ℕ) → AllDigits 10 (digits ++ codes "ns") → ⊥
no_letters [] all = let n = all.0 in absurd (omega (arith, n))
no_letters (c ∷ cs) all = no_letters cs all.1

ends_as_digits : (text digits : List ℕ) → text ≡ digits ++ codes "ns" → IsNumeral 10 text → ⊥
ends_as_digits text digits e numeral = no_letters digits (subst (AllDigits 10) e numeral.1)

-- a text is one duration
duration_once : (text : List ℕ) (a b : ℕ) → IsDuration text a → IsDuration text b → a ≡ b
duration_once text a b (inl (p, x)) (inl (q, y)) = x ∙ sym y
duration_once text a b (inl (p, x)) (inr (digits, q, e, y)) = absurd (ends_as_digits text digits e p)
duration_once text a b (inr (digits, p, e, x)) (inl (q, y)) = absurd (ends_as_digits text digits e q)
duration_once text a b (inr (digits, p, e, x)) (inr (others, q, o, y)) =
    x ∙ ap (digits_value 10) (append_cancel_right digits others (codes "ns") (sym e ∙ o)) ∙ sym y

pub time_blamed : (text : List ℕ) (fault : Fault) → Blames (IsTime text) fault → Blames (IsWholeMilliseconds text) fault
time_blamed text fault blames = record { nothing = λ bad millis is. blames.nothing bad is.0 is.1 }

-- milliseconds that don't fit
pub too_long : (text : List ℕ) (time : Duration) (fault : Fault) → IsTime text time → 2 ^ 64 ≤ as_nanos time / 1000000 → Blames (IsWholeMilliseconds text) fault
too_long text time fault is long = record {
  nothing = λ bad millis w.
      let same : as_nanos w.0 ≡ as_nanos time = duration_once text (as_nanos w.0) (as_nanos time) w.1.0 is.0 in
      let whole : millis ≡ as_nanos time / 1000000 = w.2 ∙ ap (λ n. n / 1000000) same in
      let less = w.3 in
      absurd (omega arith);
}

-- ---- rounds

pub flag_blamed : (words : List (Bor (List ℕ))) (fault : Fault) → Blames (HasFlag (codes "partial") words) fault → Blames (SaysRound words) fault
flag_blamed words fault blames = record { nothing = λ bad round is. blames.nothing bad round.partial is.partial }

pub others_blamed : (words others : List (Bor (List ℕ))) (fault : Fault) → others ≡ words_without (codes "partial") words → are_named round_names others ≡ false → Blames (SaysRound words) fault
others_blamed words others fault e other = record { nothing = λ bad round is. absurd (cc (sym other ∙ subst (λ ws. are_named round_names ws ≡ true) (sym e) is.only)) }

pub retry_blamed : (words others : List (Bor (List ℕ))) (fault : Fault) → others ≡ words_without (codes "partial") words → Blames (IsSet (IsNumberOf 32) 0 (texts_named (codes "retry=") others)) fault → Blames (SaysRound words) fault
retry_blamed words others fault e blames = record {
  nothing = λ bad round is. blames.nothing bad round.retry_count (subst (λ ws. IsSet (IsNumberOf 32) 0 (texts_named (codes "retry=") ws) round.retry_count) (sym e) is.retry_count);
}

pub duration_blamed : (words others : List (Bor (List ℕ))) (fault : Fault) → others ≡ words_without (codes "partial") words → Blames (IsSet IsWholeMilliseconds 0 (texts_named (codes "duration=") others)) fault → Blames (SaysRound words) fault
duration_blamed words others fault e blames = record {
  nothing = λ bad round is. blames.nothing bad round.duration (subst (λ ws. IsSet IsWholeMilliseconds 0 (texts_named (codes "duration=") ws) round.duration) (sym e) is.duration);
}

pub round_keys_blamed : (words others : List (Bor (List ℕ))) (fault : Fault) → others ≡ words_without (codes "partial") words → Blames (AreKeys (texts_named (codes "key=") others)) fault → Blames (SaysRound words) fault
round_keys_blamed words others fault e blames = record {
  nothing = λ bad round is. blames.nothing bad round.keys (subst (λ ws. AreKeys (texts_named (codes "key=") ws) round.keys) (sym e) is.keys);
}
