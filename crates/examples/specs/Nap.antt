-- The handler `nap`: sleep until a time, and go on as `sleeper` does.
use Rattle.std.specs.Prelude.{◌==◌, if◌then◌else◌, List, [], None, length}
use Rattle.std.specs.declared.time.Duration.{Duration}
use Rattle.vm_types.specs.declared.steps.Answer.{Answer}
use Rattle.vm_types.specs.declared.steps.Step.{Step}
use Rattle.vm_types.specs.declared.steps.Step.TheVariants as step
use Rattle.handlers.specs.Sleeper.{sleeper_step}

-- the next step, once these answers were given
abbrev pub nap_until : Duration → List Answer → Step
nap_until until answers =
    if length answers == 1 then step.Sleep [] until None else sleeper_step answers
