-- A handler that changes its state before it sleeps.
use Rattle.std.specs.Prelude.{◌==◌, false, if◌then◌else◌, List, [], length, codes, None}
use Rattle.vm_types.specs.declared.steps.Answer.{Answer}
use Rattle.vm_types.specs.declared.steps.Step.{Step}
use Rattle.vm_types.specs.declared.steps.Step.TheVariants as step
use Rattle.await_trees.specs.declared.tree.UnresolvedFuture.TheVariants.{Single}
use Rattle.test_worlds.specs.Steps.{first_handle, sleep_step, output_step}

-- the handler's next step, by the number of its answers so far
abbrev pub keep_step : List Answer → Step
keep_step answers =
    if length answers == 1 then step.StateClear (codes "a") None
    else if length answers == 2
    then step.StateSet (codes "b") (codes "x") None (record { unstable_serialization = false })
    else if length answers == 3 then sleep_step
    else if length answers == 4 then step.Await (Single first_handle)
    else if length answers == 5 then step.Take first_handle
    else if length answers == 6 then output_step []
    else step.End
