-- The handler `deadline`: call "greet" of "Greeter" with the input and a deadline one second after
-- the Unix epoch, await the first of the result and the deadline, and ask whether the result is
-- there. If so take it and write it as the output; else take the deadline and write "timeout". Then
-- end. When it is cancelled it writes a failure and ends.
use Rattle.std.specs.Prelude.{◌==◌, if◌then◌else◌, List, length, slice_get, codes}
use Rattle.vm_types.specs.declared.steps.Answer.{Answer}
use Rattle.vm_types.specs.declared.steps.Step.{Step}
use Rattle.vm_types.specs.declared.steps.Step.TheVariants as step
use Rattle.await_trees.specs.declared.handle.NotificationHandle.{NotificationHandle}
use Rattle.await_trees.specs.declared.tree.UnresolvedFuture.TheVariants.{FirstCompleted}
use Rattle.vm_types.specs.declared.values.NonEmptyValue.{NonEmptyValue}
use Rattle.vm_types.specs.declared.values.NonEmptyValue.TheVariants.{Success}
use Rattle.handlers.specs.Answers.{call_handle_of, cancelled_output, deadline_handle_of, bytes_of_input, says_cancelled, says_completed, output_of, stable_payload}
use Rattle.handlers.specs.Calls.{two_awaited, call_until}

-- the handle of the call, where its result is there, and else of the deadline
abbrev pub earlier_handle : List Answer → NotificationHandle
earlier_handle answers =
    if says_completed (slice_get answers 3) then call_handle_of (slice_get answers 1)
    else deadline_handle_of (slice_get answers 1)

-- what the call gave, where its result was there, and else "timeout"
abbrev pub deadline_output : List Answer → NonEmptyValue
deadline_output answers =
    if says_completed (slice_get answers 3) then output_of (slice_get answers 4)
    else Success (codes "timeout")

-- the next step, once these answers were given
abbrev pub deadline_step : List Answer → Step
deadline_step answers =
    if length answers == 1 then call_until (codes "Greeter") (codes "greet")
    (bytes_of_input (slice_get answers 0)) (record { secs = 1; nanos = 0 })
    else if length answers == 2 then
    step.Await (FirstCompleted
    (two_awaited (call_handle_of (slice_get answers 1)) (deadline_handle_of (slice_get answers 1))))
    else if length answers == 3 then
    (if says_cancelled (slice_get answers 2) then cancelled_output
    else step.Completed (call_handle_of (slice_get answers 1)))
    else if length answers == 4 then
    (if says_cancelled (slice_get answers 2) then step.End else step.Take (earlier_handle answers))
    else if length answers == 5 then step.WriteOutput (deadline_output answers) stable_payload
    else step.End
