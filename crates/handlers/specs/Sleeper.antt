-- The handler `sleeper`: sleep, await it, take it, write an empty output, end. When it is cancelled
-- it writes a failure and ends.
use Rattle.std.specs.Prelude.{◌==◌, if◌then◌else◌, List, [], length, slice_get, None}
use Rattle.vm_types.specs.declared.steps.Answer.{Answer}
use Rattle.vm_types.specs.declared.steps.Step.{Step}
use Rattle.vm_types.specs.declared.steps.Step.TheVariants as step
use Rattle.await_trees.specs.declared.tree.UnresolvedFuture.TheVariants.{Single}
use Rattle.vm_types.specs.declared.values.NonEmptyValue.TheVariants.{Success}
use Rattle.handlers.specs.Answers.{answered_handle, says_cancelled, cancelled_output, stable_payload}

-- the next step, once these answers were given
abbrev pub sleeper_step : List Answer → Step
sleeper_step answers =
    if length answers == 1 then step.Sleep [] (record { secs = 1; nanos = 0 }) None
    else if length answers == 2 then step.Await (Single (answered_handle (slice_get answers 1)))
    else if length answers == 3 then
    (if says_cancelled (slice_get answers 2) then cancelled_output
    else step.Take (answered_handle (slice_get answers 1)))
    else if length answers == 4 then
    (if says_cancelled (slice_get answers 2) then step.End
    else step.WriteOutput (Success []) stable_payload)
    else step.End
