-- Results that were proposed and wait for their acknowledgement, in the order of the proposals.
use Rattle.std.specs.Prelude.{ℕ, ◌≡◌, ◌==◌, Bool, List, Some}
use Rattle.std.specs.List.{AllByRecursion}
use Rattle.std.specs.Map.{lookup}
use Rattle.std.specs.BTreeMap.{is_at}
use Rattle.std.specs.Ordering.{nat_cmp}
use Rattle.journal_values.specs.declared.parts.ValueOrFailure.{ValueOrFailure}
use Rattle.journal_attempt.specs.declared.runs.ProposeRunCompletion.{ProposeRunCompletion}

-- of the run that this id completes
abbrev pub is_for : ℕ → ProposeRunCompletion → Bool
is_for id kept = kept.id == id

abbrev pub result_of : ProposeRunCompletion → ValueOrFailure
result_of kept = kept.result

-- each proposal's number, by its completion id, is the one at which it stands
abbrev pub AtNumbers : List (ℕ × ℕ) → List (ℕ × ProposeRunCompletion) → Type 0
AtNumbers numbers es = AllByRecursion
    (λ e. lookup (is_at (nat_cmp e.1.id)) numbers ≡ Some e.0) es
