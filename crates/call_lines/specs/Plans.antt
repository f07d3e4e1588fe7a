-- A plan: a fixed list of steps, which a handler makes one after another. Its answers change
-- nothing.
use Rattle.std.specs.Prelude.{◌-◌, List, length, slice_get, Option, Some, None}
use Rattle.vm_types.specs.declared.steps.Answer.{Answer}
use Rattle.vm_types.specs.declared.steps.Step.{Step}
use Rattle.vm_types.specs.declared.steps.Step.TheVariants as step

-- a step of the plan, or the end if there is none
abbrev pub step_or_end : Option Step → Step
step_or_end (Some planned) = planned
step_or_end None = step.End

-- the step after these answers, of which the first is the input
abbrev pub plan_step : List Step → List Answer → Step
plan_step steps answers = step_or_end (slice_get steps (length answers - 1))
