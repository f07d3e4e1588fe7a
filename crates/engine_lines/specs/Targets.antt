-- The handlers of a script, as an engine's.
use Rattle.std.specs.Prelude.{◌≡◌}
use Rattle.call_lines.specs.declared.plan.Plan.{Plan}
use Rattle.engine_inboxes.specs.declared.target.Target.{Target}
use Rattle.engine_lines.specs.declared.script.Planned.{Planned}

-- a handler of the script is called by its names, and its code is the plan of its steps
pub record IsTarget (planned : Planned) (target : Target Plan) : Type 0 where
  pub service : target.service ≡ planned.named.service
  pub handler : target.handler ≡ planned.named.handler
  pub exclusive : target.exclusive ≡ planned.named.exclusive
  pub steps : target.code.steps.items ≡ planned.steps
