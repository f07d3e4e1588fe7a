-- Steps that several handlers make.
use Rattle.std.specs.Prelude.{ℕ, false, List, [], None}
use Rattle.vm_types.specs.declared.steps.Step.{Step}
use Rattle.vm_types.specs.declared.steps.Step.TheVariants as step
use Rattle.await_trees.specs.declared.handle.NotificationHandle.{NotificationHandle}
use Rattle.vm_types.specs.declared.values.NonEmptyValue.TheVariants.{Success}

-- the first handle that an attempt hands out
abbrev pub first_handle : NotificationHandle
first_handle = record { 0 = 17 }

-- a sleep to 1000 ms
abbrev pub sleep_step : Step
sleep_step = step.Sleep [] (record { secs = 1; nanos = 0 }) None

-- these bytes as the output
abbrev pub output_step : List ℕ → Step
output_step bytes = step.WriteOutput (Success bytes) (record { unstable_serialization = false })
