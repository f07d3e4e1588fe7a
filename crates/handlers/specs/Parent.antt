-- The handler `parent`: call "a" and "b" of "Child" with empty inputs, await both results, take the
-- first and the second, write the output "done", end. When it is cancelled it writes a failure and
-- ends.
use Rattle.std.specs.Prelude.{◌==◌, if◌then◌else◌, List, [], length, slice_get, codes}
use Rattle.vm_types.specs.declared.steps.Answer.{Answer}
use Rattle.vm_types.specs.declared.steps.Step.{Step}
use Rattle.vm_types.specs.declared.steps.Step.TheVariants as step
use Rattle.await_trees.specs.declared.tree.UnresolvedFuture.TheVariants.{AllCompleted}
use Rattle.vm_types.specs.declared.values.NonEmptyValue.TheVariants.{Success}
use Rattle.handlers.specs.Answers.{call_handle_of, cancelled_output, says_cancelled, stable_payload}
use Rattle.handlers.specs.Calls.{two_awaited, plain_call}

-- the next step, once these answers were given
abbrev pub parent_step : List Answer → Step
parent_step answers =
    if length answers == 1 then plain_call (codes "Child") (codes "a") []
    else if length answers == 2 then plain_call (codes "Child") (codes "b") []
    else if length answers == 3 then
    step.Await (AllCompleted
    (two_awaited (call_handle_of (slice_get answers 1)) (call_handle_of (slice_get answers 2))))
    else if length answers == 4 then
    (if says_cancelled (slice_get answers 3) then cancelled_output
    else step.Take (call_handle_of (slice_get answers 1)))
    else if length answers == 5 then
    (if says_cancelled (slice_get answers 3) then step.End
    else step.Take (call_handle_of (slice_get answers 2)))
    else if length answers == 6 then step.WriteOutput (Success (codes "done")) stable_payload
    else step.End
