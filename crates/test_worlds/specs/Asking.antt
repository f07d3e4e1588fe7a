-- A handler that makes an awakeable and waits for it.
use Rattle.std.specs.Prelude.{◌==◌, if◌then◌else◌, List, length}
use Rattle.vm_types.specs.declared.steps.Answer.{Answer}
use Rattle.vm_types.specs.declared.steps.Step.{Step}
use Rattle.vm_types.specs.declared.steps.Step.TheVariants as step
use Rattle.await_trees.specs.declared.tree.UnresolvedFuture.TheVariants.{Single}
use Rattle.test_worlds.specs.Steps.{first_handle}

-- the handler's next step, by the number of its answers so far
abbrev pub ask_step : List Answer → Step
ask_step answers =
    if length answers == 1 then step.Awakeable
    else if length answers == 2 then step.Await (Single first_handle)
    else if length answers == 3 then step.Take first_handle
    else step.End
