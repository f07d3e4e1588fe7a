-- The format of what is to be done after an error.
use Rattle.std.specs.Prelude.{refl}
use Rattle.wire.specs.Format.{Format, Reading, IsReadBack, IsSpelled, read_as, read_nothing, read_byte, read_if_number, read_no_case, read_case}
use Rattle.wire.specs.Forms.{case_is, cases_are, no_case_is, nothing_format}
use Rattle.journal_errors.specs.Encoding.{behavior}
use Rattle.journal_errors.specs.declared.error.ErrorBehavior.{ErrorBehavior}
use Rattle.journal_errors.specs.declared.error.ErrorBehavior.TheVariants.{Retry, Pause, Fail}

-- ---- what is to be done after an error

-- 0 retry, 1 pause, 2 fail; none if it is another byte or no byte is left
unfoldable pub read_behavior : Reading ErrorBehavior
read_behavior = read_case (
    read_if_number 0 (read_as (λ _. Retry) read_nothing) (
    read_if_number 1 (read_as (λ _. Pause) read_nothing) (
    read_if_number 2 (read_as (λ _. Fail) read_nothing) (
    read_no_case))))

pub behavior_reads : IsReadBack behavior (λ _. Unit {0}) read_behavior
unfolding read_behavior read_byte
behavior_reads Retry rest v = refl
behavior_reads Pause rest v = refl
behavior_reads Fail rest v = refl

pub behavior_is : IsSpelled behavior (λ _. Unit {0}) read_behavior
unfolding read_behavior
behavior_is = cases_are behavior (λ _. Unit {0}) _ (
    case_is behavior (λ _. Unit {0}) 0 (λ _. Retry) nothing_format _ (λ _ v. v) (λ _. refl) (
    case_is behavior (λ _. Unit {0}) 1 (λ _. Pause) nothing_format _ (λ _ v. v) (λ _. refl) (
    case_is behavior (λ _. Unit {0}) 2 (λ _. Fail) nothing_format _ (λ _ v. v) (λ _. refl) (
    no_case_is behavior (λ _. Unit {0})))))

-- the format of what is to be done after an error: one byte, 0 to 2
abbrev pub behavior_format : Format ErrorBehavior
behavior_format = record {
  spelling = behavior;
  valid = (λ _. Unit {0});
  read = read_behavior;
  reads = behavior_reads;
  read_is = behavior_is;
}
