-- Words that are no value.
use Rattle.std.proofs.Common.{◌≡◌, ℕ, List, codes, drop, get_or, ap, sym, ◌∙◌, arith}
use Rattle.std.specs.Borrow.{Bor}
use Rattle.plain.specs.declared.fault.Fault.{Fault}
use Rattle.plain.specs.declared.fault.Fault.TheVariants.{Malformed}
use Rattle.lines.specs.Atoms.{IsText}
use Rattle.lines.specs.Readings.{Blames}
use Rattle.vm_types.specs.declared.values.NonEmptyValue.{NonEmptyValue}
use Rattle.vm_types.specs.declared.values.NonEmptyValue.TheVariants as value
use Rattle.line_parts.specs.Values.{ArePairs, IsFailure, IsValueBehind}
use Rattle.lines.specs.Words.{IsNumberOf, IsOneAtom, text_at}

pub code_blamed : (words : List (Bor (List ℕ))) (fault : Fault) → Blames (IsNumberOf 16 (text_at 0 words)) fault → Blames (IsFailure words) fault
code_blamed words fault blames = record { nothing = λ bad failure is. blames.nothing bad failure.code is.first.0 }

pub message_blamed : (words : List (Bor (List ℕ))) (fault : Fault) → Blames (IsText (text_at 1 words)) fault → Blames (IsFailure words) fault
message_blamed words fault blames = record { nothing = λ bad failure is. blames.nothing bad failure.message is.first.1 }

pub metadata_blamed : (words : List (Bor (List ℕ))) (fault : Fault) → Blames (ArePairs (drop 2 words)) fault → Blames (IsFailure words) fault
metadata_blamed words fault blames = record { nothing = λ bad failure is. blames.nothing bad failure.metadata is.pairs }

pub success_blamed : (word : List ℕ) (others : List (Bor (List ℕ))) (fault : Fault) → word ≡ codes "success" → Blames (IsOneAtom others) fault → Blames (IsValueBehind word others) fault
success_blamed word others fault e blames = record { nothing = λ bad v is. go bad v is }
  where
    go : fault ≡ Malformed → (v : NonEmptyValue) → IsValueBehind word others v → ⊥
    go bad (value.Success bytes) is = blames.nothing bad bytes is.1
    go bad (value.Failure failure) is = let differ = ap (λ t. get_or t 0 0) (sym e ∙ is.0) in absurd (omega arith)

pub failure_blamed : (word : List ℕ) (others : List (Bor (List ℕ))) (fault : Fault) → word ≡ codes "failure" → Blames (IsFailure others) fault → Blames (IsValueBehind word others) fault
failure_blamed word others fault e blames = record { nothing = λ bad v is. go bad v is }
  where
    go : fault ≡ Malformed → (v : NonEmptyValue) → IsValueBehind word others v → ⊥
    go bad (value.Success bytes) is = let differ = ap (λ t. get_or t 0 0) (sym e ∙ is.0) in absurd (omega arith)
    go bad (value.Failure failure) is = blames.nothing bad failure is.1
