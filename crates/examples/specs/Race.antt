-- The race: it calls and sleeps, and gives what the call gave if its answer is there first.
use Rattle.std.specs.Prelude.{Bool, if◌then◌else◌, codes, List, ℕ}
use Rattle.await_trees.specs.declared.handle.NotificationHandle.{NotificationHandle}
use Rattle.handler_flows.specs.Calls.{select, value}
use Rattle.handler_flows.specs.Code.{Code, Give, ◌>>=◌}
use Rattle.handler_flows.specs.Steps.{start_call, start_sleep}

-- the call's answer if it came first, and else that the time is over
unfoldable pub answer_or_timeout : Bool → NotificationHandle → Code (List ℕ)
answer_or_timeout is answer = if is then value answer else Give (codes "timeout")

-- what comes first counts
unfoldable pub in_time : NotificationHandle → NotificationHandle → Code (List ℕ)
in_time answer deadline = select answer deadline >>= λ is. answer_or_timeout is answer

abbrev pub race : List ℕ → Code (List ℕ)
race name =
    start_call (codes "Greeter") (codes "greet") name >>= λ answer.
    start_sleep (record { secs = 1; nanos = 0 }) >>= λ deadline.
    in_time answer deadline
