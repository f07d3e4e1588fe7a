-- The handler `counter`: it reads the state "count", awaits and takes it, and writes the number
-- that follows, to the state and as its output. When it is cancelled it writes a failure and ends.
use Rattle.std.specs.Prelude.{◌==◌, ◌+◌, ◌&&◌, ℕ, nat_le, nat_lt, if◌then◌else◌, List, length, slice_get, codes, Option, Some, None}
use Rattle.std.specs.Fmt.{decimal}
use Rattle.std.specs.Str.{all_ascii_digits}
use Rattle.std.specs.Str.Parse.{digits_value}
use Rattle.vm_types.specs.declared.steps.Answer.{Answer}
use Rattle.vm_types.specs.declared.steps.Answer.TheVariants as answer
use Rattle.vm_types.specs.declared.steps.Step.{Step}
use Rattle.vm_types.specs.declared.steps.Step.TheVariants as step
use Rattle.await_trees.specs.declared.tree.UnresolvedFuture.TheVariants.{Single}
use Rattle.vm_types.specs.declared.values.NonEmptyValue.TheVariants as non_empty
use Rattle.vm_types.specs.declared.values.Value.{Value}
use Rattle.vm_types.specs.declared.values.Value.TheVariants as value
use Rattle.handlers.specs.Answers.{answered_handle, says_cancelled, cancelled_output, stable_payload}

-- the number of 1 to 18 decimal digits; 0 of all other bytes
abbrev pub count_in : List ℕ → ℕ
count_in bytes =
    if nat_lt 0 (length bytes) && nat_le (length bytes) 18 && all_ascii_digits bytes
    then digits_value 10 bytes else 0

-- the count of a value: that of a success, else 0
abbrev pub count_of_value : Value → ℕ
count_of_value (value.Success bytes) = count_in bytes
count_of_value value.Void = 0
count_of_value (value.Failure failure) = 0
count_of_value (value.StateKeys keys) = 0
count_of_value (value.InvocationId id) = 0

-- the count that was taken; 0 if nothing was
abbrev pub count_of : Option Answer → ℕ
count_of (Some (answer.Taken (Some taken))) = count_of_value taken
count_of (Some (answer.Taken None)) = 0
count_of (Some (answer.Input input)) = 0
count_of (Some (answer.Handle handle)) = 0
count_of (Some (answer.Call handles)) = 0
count_of (Some (answer.CallWithDeadline handles)) = 0
count_of (Some (answer.Send handle)) = 0
count_of (Some (answer.Awakeable awakeable)) = 0
count_of (Some answer.Unit) = 0
count_of (Some answer.Awake) = 0
count_of (Some answer.Cancelled) = 0
count_of (Some (answer.Completed is)) = 0
count_of None = 0

-- the count and one, in decimal
abbrev pub next_count : List Answer → List ℕ
next_count answers = decimal (count_of (slice_get answers 3) + 1)

-- the next step, once these answers were given
abbrev pub counter_step : List Answer → Step
counter_step answers =
    if length answers == 1 then step.StateGet (codes "count") None stable_payload
    else if length answers == 2 then step.Await (Single (answered_handle (slice_get answers 1)))
    else if length answers == 3 then
    (if says_cancelled (slice_get answers 2) then cancelled_output
    else step.Take (answered_handle (slice_get answers 1)))
    else if length answers == 4 then
    (if says_cancelled (slice_get answers 2) then step.End
    else step.StateSet (codes "count") (next_count answers) None stable_payload)
    else if length answers == 5
    then step.WriteOutput (non_empty.Success (next_count answers)) stable_payload
    else step.End
