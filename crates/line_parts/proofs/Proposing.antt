-- Words that propose nothing.
use Rattle.std.proofs.Common.{◌≡◌, ◌≢◌, ◌<◌, ◌-◌, ◌⊎◌, inl, inr, ℕ, zero, suc, Bool, true, false, if◌then◌else◌, List, [], ◌∷◌, codes, length, take, drop, get_or, ap, refl, sym, subst, ◌∙◌, arith}
use Rattle.std.specs.Borrow.{Bor}
use Rattle.plain.specs.declared.fault.Fault.{Fault}
use Rattle.plain.specs.declared.fault.Fault.TheVariants.{Malformed}
use Rattle.vm_retries.specs.declared.policy.RetryPolicy.TheVariants as policy
use Rattle.vm_types.specs.declared.runs.RunExitResult.{RunExitResult}
use Rattle.vm_types.specs.declared.runs.RunExitResult.TheVariants as exit
use Rattle.vm_types.specs.declared.values.NonEmptyValue.TheVariants as value
use Rattle.lines.specs.Readings.{Blames}
use Rattle.lines.specs.Fields.{IsSet, are_named, texts_named}
use Rattle.line_parts.specs.Policies.{IsPolicy}
use Rattle.line_parts.specs.Reports.{IsError}
use Rattle.line_parts.specs.Results.{IsProposal, IsResult, IsRetryable, is_policy, retryable_names}
use Rattle.lines.specs.Durations.{IsTime}
use Rattle.line_parts.specs.Values.{IsValue, but_last, last_is}
use Rattle.lines.specs.Words.{IsNumberOf, words_after_first, text_at}

pub duration_blamed : (words : List (Bor (List ℕ))) (fault : Fault) → Blames (IsTime (text_at 0 words)) fault → Blames (IsRetryable words) fault
duration_blamed words fault blames = record { nothing = λ bad failed is. blames.nothing bad failed.0 is.duration }

pub error_blamed : (words : List (Bor (List ℕ))) (fault : Fault) → Blames (IsError (drop 1 words)) fault → Blames (IsRetryable words) fault
error_blamed words fault blames = record { nothing = λ bad failed is. blames.nothing bad failed.1 is.error }

pub options_blamed : (words options : List (Bor (List ℕ))) (fault : Fault) → options ≡ drop 3 words → are_named retryable_names options ≡ false → Blames (IsRetryable words) fault
options_blamed words options fault e other = record { nothing = λ bad failed is. absurd (cc (sym other ∙ subst (λ ws. are_named retryable_names ws ≡ true) (sym e) is.only)) }

-- ---- results

-- the first word of a front that isn't empty
first_taken : (n : ℕ) (words : List (Bor (List ℕ))) → 0 < n → text_at 0 (take n words) ≡ text_at 0 words
first_taken zero words h = absurd (omega arith)
first_taken (suc n) [] h = refl
first_taken (suc n) (w ∷ words) h = refl

-- the first word in front of a policy is the first word, or there is none
first_front : (words : List (Bor (List ℕ))) → (text_at 0 (but_last is_policy words) ≡ text_at 0 words) ⊎ (text_at 0 (but_last is_policy words) ≡ [])
first_front words = go words (last_is is_policy words)
  where
    go : (words : List (Bor (List ℕ))) (b : Bool) → (text_at 0 (if b then take (length words - 1) words else words) ≡ text_at 0 words) ⊎ (text_at 0 (if b then take (length words - 1) words else words) ≡ [])
    go words false = inl refl
    go [] true = inl refl
    go (w ∷ []) true = inr refl
    go (w ∷ v ∷ words) true = inl (first_taken (length (w ∷ v ∷ words) - 1) (w ∷ v ∷ words) (omega arith))

-- a first word that is another isn't that of a value
no_value : (words : List (Bor (List ℕ))) (name : List ℕ) → get_or name 0 0 ≢ 114 → get_or name 0 0 ≢ 0 → text_at 0 words ≡ codes "retryable" → text_at 0 (but_last is_policy words) ≡ name → ⊥
no_value words name other some r is = go (first_front words)
  where
    go : (text_at 0 (but_last is_policy words) ≡ text_at 0 words) ⊎ (text_at 0 (but_last is_policy words) ≡ []) → ⊥
    go (inl e) = other (ap (λ t. get_or t 0 0) (sym is ∙ e ∙ r))
    go (inr e) = some (ap (λ t. get_or t 0 0) (sym is ∙ e))

pub retryable_blamed : (words others : List (Bor (List ℕ))) (fault : Fault) → text_at 0 words ≡ codes "retryable" → others ≡ words_after_first words → Blames (IsRetryable others) fault → Blames (IsResult words) fault
retryable_blamed words others fault r e blames = record { nothing = λ bad it is. go bad it is }
  where
    go : fault ≡ Malformed → (it : RunExitResult) → IsResult words it → ⊥
    go bad (exit.Success bytes) is = no_value words (codes "success") (omega arith) (omega arith) r is.0
    go bad (exit.TerminalFailure failure) is = no_value words (codes "failure") (omega arith) (omega arith) r is.0
    go bad (exit.RetryableFailure duration error) is = blames.nothing bad (duration, error) (subst (λ ws. IsRetryable ws (duration, error)) (sym e) is.1)

pub value_blamed : (words front : List (Bor (List ℕ))) (fault : Fault) → text_at 0 words ≢ codes "retryable" → front ≡ but_last is_policy words → Blames (IsValue front) fault → Blames (IsResult words) fault
value_blamed words front fault other e blames = record { nothing = λ bad it is. go bad it is }
  where
    go : fault ≡ Malformed → (it : RunExitResult) → IsResult words it → ⊥
    go bad (exit.Success bytes) is = blames.nothing bad (value.Success bytes) (subst (λ ws. IsValue ws (value.Success bytes)) (sym e) is)
    go bad (exit.TerminalFailure failure) is = blames.nothing bad (value.Failure failure) (subst (λ ws. IsValue ws (value.Failure failure)) (sym e) is)
    go bad (exit.RetryableFailure duration error) is = other is.0

-- no words
pub nothing_blamed : (words : List (Bor (List ℕ))) (fault : Fault) → length words < 1 → Blames (IsResult words) fault
nothing_blamed [] fault h = record { nothing = λ bad it is. go it is }
  where
    none : (name : List ℕ) → get_or name 0 0 ≢ 0 → [] ≡ name → ⊥
    none name some e = some (ap (λ t. get_or t 0 0) (sym e))

    go : (it : RunExitResult) → IsResult [] it → ⊥
    go (exit.Success bytes) is = none (codes "success") (omega arith) is.0
    go (exit.TerminalFailure failure) is = none (codes "failure") (omega arith) is.0
    go (exit.RetryableFailure duration error) is = none (codes "retryable") (omega arith) is.0
nothing_blamed (w ∷ words) fault h = absurd (omega arith)

-- ---- proposals

pub handle_blamed : (words : List (Bor (List ℕ))) (fault : Fault) → Blames (IsNumberOf 32 (text_at 0 words)) fault → Blames (IsProposal words) fault
handle_blamed words fault blames = record { nothing = λ bad it is. blames.nothing bad it.handle.0 is.handle }

pub result_blamed : (words others : List (Bor (List ℕ))) (fault : Fault) → others ≡ words_after_first words → Blames (IsResult others) fault → Blames (IsProposal words) fault
result_blamed words others fault e blames = record { nothing = λ bad it is. blames.nothing bad it.result (subst (λ ws. IsResult ws it.result) (sym e) is.result) }

pub policy_blamed : (words others : List (Bor (List ℕ))) (fault : Fault) → others ≡ words_after_first words → Blames (IsSet IsPolicy policy.Infinite (texts_named (codes "policy=") others)) fault → Blames (IsProposal words) fault
policy_blamed words others fault e blames = record {
  nothing = λ bad it is. blames.nothing bad it.policy (subst (λ ws. IsSet IsPolicy policy.Infinite (texts_named (codes "policy=") ws) it.policy) (sym e) is.policy);
}
