-- The handler `charge`: run "charge", await it, take it, write what was taken as the output, end.
-- When it is cancelled it writes a failure and ends.
use Rattle.std.specs.Prelude.{◌==◌, if◌then◌else◌, List, codes, length, slice_get}
use Rattle.vm_types.specs.declared.steps.Answer.{Answer}
use Rattle.vm_types.specs.declared.steps.Step.{Step}
use Rattle.vm_types.specs.declared.steps.Step.TheVariants as step
use Rattle.await_trees.specs.declared.tree.UnresolvedFuture.TheVariants.{Single}
use Rattle.handlers.specs.Answers.{answered_handle, says_cancelled, cancelled_output, output_of, stable_payload}

-- the next step, once these answers were given
abbrev pub charge_step : List Answer → Step
charge_step answers =
    if length answers == 1 then step.Run (codes "charge")
    else if length answers == 2 then step.Await (Single (answered_handle (slice_get answers 1)))
    else if length answers == 3 then
    (if says_cancelled (slice_get answers 2) then cancelled_output
    else step.Take (answered_handle (slice_get answers 1)))
    else if length answers == 4 then
    (if says_cancelled (slice_get answers 2) then step.End
    else step.WriteOutput (output_of (slice_get answers 3)) stable_payload)
    else step.End
