use Rattle.std.proofs.Common.{◌≡◌, ◌-◌}
use Rattle.handler_flows.specs.Code.{outcome}
use Rattle.examples.specs.Retry.{tries}
use Rattle.examples.proofs.retry.RetryFlow.run.Given as goal

-- over the answers that are left, the tries that are left do what all do over those from the start
abbrev pub invariant-loop-second : goal.invariant-loop-second
invariant-loop-second l =
    outcome (tries l.input.input (4 - l.second) l.second) l.ctx ≡ outcome (tries l.input.input 3 1) l.fn.ctx
