-- The result of executing a run: which one a value is, and what is asked of it.
use Rattle.std.specs.Prelude.{Bool, true, false, not, List, [], ◌∷◌}
use Rattle.vm_types.specs.declared.runs.RunExitResult.{RunExitResult}
use Rattle.vm_types.specs.declared.runs.RunExitResult.TheVariants as exit
use Rattle.vm_types.specs.declared.values.NonEmptyValue.{NonEmptyValue}
use Rattle.vm_types.specs.declared.values.NonEmptyValue.TheVariants as value

-- the result that a value is
abbrev pub exit_of_value : NonEmptyValue → RunExitResult
exit_of_value (value.Success bytes) = exit.Success bytes
exit_of_value (value.Failure failure) = exit.TerminalFailure failure

abbrev pub has_no_items : {A : Type 0} → List A → Bool
has_no_items [] = true
has_no_items (x ∷ xs) = false

-- a failure with metadata
abbrev pub exit_has_metadata : RunExitResult → Bool
exit_has_metadata (exit.Success bytes) = false
exit_has_metadata (exit.TerminalFailure f) = not (has_no_items f.metadata)
exit_has_metadata (exit.RetryableFailure duration e) = false
