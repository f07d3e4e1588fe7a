-- A handler that sleeps once, and asks whether its sleep is over before it takes the result.
use Rattle.std.specs.Prelude.{◌==◌, if◌then◌else◌, List, [], length}
use Rattle.vm_types.specs.declared.steps.Answer.{Answer}
use Rattle.vm_types.specs.declared.steps.Step.{Step}
use Rattle.vm_types.specs.declared.steps.Step.TheVariants as step
use Rattle.await_trees.specs.declared.tree.UnresolvedFuture.TheVariants.{Single}
use Rattle.test_worlds.specs.Steps.{first_handle, sleep_step, output_step}

-- the handler's next step, by the number of its answers so far
abbrev pub nap_step : List Answer → Step
nap_step answers =
    if length answers == 1 then sleep_step
    else if length answers == 2 then step.Await (Single first_handle)
    else if length answers == 3 then step.Completed first_handle
    else if length answers == 4 then step.Take first_handle
    else if length answers == 5 then output_step []
    else step.End
