-- A handler that completes an awakeable of another, waits for one of its own, and goes on by what
-- it takes.
use Rattle.std.specs.Prelude.{◌==◌, ℕ, false, if◌then◌else◌, List, [], length, slice_get, codes, Option, Some, None}
use Rattle.vm_types.specs.declared.steps.Answer.{Answer}
use Rattle.vm_types.specs.declared.steps.Answer.TheVariants as answer
use Rattle.vm_types.specs.declared.steps.Step.{Step}
use Rattle.vm_types.specs.declared.steps.Step.TheVariants as step
use Rattle.await_trees.specs.declared.handle.NotificationHandle.{NotificationHandle}
use Rattle.await_trees.specs.declared.tree.UnresolvedFuture.TheVariants.{Single}
use Rattle.vm_types.specs.declared.values.NonEmptyValue.TheVariants.{Success}
use Rattle.vm_types.specs.declared.values.Value.{Value}
use Rattle.vm_types.specs.declared.values.Value.TheVariants as value
use Rattle.test_worlds.specs.Steps.{first_handle, sleep_step, output_step}

-- the second handle that an attempt hands out
abbrev pub second_handle : NotificationHandle
second_handle = record { 0 = 18 }

-- the bytes of a success
abbrev pub success_bytes : Value → Option (List ℕ)
success_bytes (value.Success bytes) = Some bytes
success_bytes value.Void = None
success_bytes (value.Failure failure) = None
success_bytes (value.StateKeys keys) = None
success_bytes (value.InvocationId id) = None

-- the bytes of a success that was taken
abbrev pub bytes_taken : Option Answer → Option (List ℕ)
bytes_taken (Some (answer.Taken (Some value))) = success_bytes value
bytes_taken (Some (answer.Taken None)) = None
bytes_taken (Some (answer.Input input)) = None
bytes_taken (Some (answer.Handle handle)) = None
bytes_taken (Some (answer.Call handles)) = None
bytes_taken (Some (answer.CallWithDeadline handles)) = None
bytes_taken (Some (answer.Send handle)) = None
bytes_taken (Some (answer.Awakeable awakeable)) = None
bytes_taken (Some answer.Unit) = None
bytes_taken (Some answer.Awake) = None
bytes_taken (Some answer.Cancelled) = None
bytes_taken (Some (answer.Completed is)) = None
bytes_taken None = None

-- the step after the take: an output of what was taken; if that was nothing, a sleep
abbrev pub chosen_step : Option (List ℕ) → Step
chosen_step (Some bytes) = output_step bytes
chosen_step None = sleep_step

-- the step after that: the end, or an await of the sleep
abbrev pub later_step : Option (List ℕ) → Step
later_step (Some bytes) = step.End
later_step None = step.Await (Single second_handle)

-- the handler's next step, by the number of its answers so far, and by what it took
abbrev pub choose_step : List Answer → Step
choose_step answers =
    if length answers == 1 then step.CompleteAwakeable (codes "prom_1") (Success (codes "v"))
    (record { unstable_serialization = false })
    else if length answers == 2 then step.Awakeable
    else if length answers == 3 then step.Await (Single first_handle)
    else if length answers == 4 then step.Take first_handle
    else if length answers == 5 then chosen_step (bytes_taken (slice_get answers 4))
    else if length answers == 6 then later_step (bytes_taken (slice_get answers 4))
    else if length answers == 7 then output_step []
    else step.End
