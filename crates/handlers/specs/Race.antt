-- The handler `race`: sleep, call "greet" of "Greeter" with the input, await the first of both, and
-- ask whether the call's result is there. If so take it and write it as the output; else take the
-- sleep and write "timeout". Then end. When it is cancelled it writes a failure and ends.
use Rattle.std.specs.Prelude.{◌==◌, if◌then◌else◌, List, [], length, slice_get, codes, None}
use Rattle.vm_types.specs.declared.steps.Answer.{Answer}
use Rattle.vm_types.specs.declared.steps.Step.{Step}
use Rattle.vm_types.specs.declared.steps.Step.TheVariants as step
use Rattle.await_trees.specs.declared.handle.NotificationHandle.{NotificationHandle}
use Rattle.await_trees.specs.declared.tree.UnresolvedFuture.TheVariants.{FirstCompleted}
use Rattle.vm_types.specs.declared.values.NonEmptyValue.{NonEmptyValue}
use Rattle.vm_types.specs.declared.values.NonEmptyValue.TheVariants.{Success}
use Rattle.handlers.specs.Answers.{call_handle_of, cancelled_output, answered_handle, bytes_of_input, says_cancelled, says_completed, output_of, stable_payload}
use Rattle.handlers.specs.Calls.{two_awaited, plain_call}

-- the handle of the call, where its result is there, and else of the sleep
abbrev pub winner : List Answer → NotificationHandle
winner answers =
    if says_completed (slice_get answers 4) then call_handle_of (slice_get answers 2)
    else answered_handle (slice_get answers 1)

-- what the call gave, where its result was there, and else "timeout"
abbrev pub race_output : List Answer → NonEmptyValue
race_output answers =
    if says_completed (slice_get answers 4) then output_of (slice_get answers 5)
    else Success (codes "timeout")

-- the next step, once these answers were given
abbrev pub race_step : List Answer → Step
race_step answers =
    if length answers == 1 then step.Sleep [] (record { secs = 1; nanos = 0 }) None
    else if length answers == 2
    then plain_call (codes "Greeter") (codes "greet") (bytes_of_input (slice_get answers 0))
    else if length answers == 3 then
    step.Await (FirstCompleted
    (two_awaited (answered_handle (slice_get answers 1)) (call_handle_of (slice_get answers 2))))
    else if length answers == 4 then
    (if says_cancelled (slice_get answers 3) then cancelled_output
    else step.Completed (call_handle_of (slice_get answers 2)))
    else if length answers == 5 then
    (if says_cancelled (slice_get answers 3) then step.End else step.Take (winner answers))
    else if length answers == 6 then step.WriteOutput (race_output answers) stable_payload
    else step.End
