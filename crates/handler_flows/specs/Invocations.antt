-- Calls about other invocations, as code.
use Rattle.std.specs.Prelude.{List, ℕ, None, Option, Some}
use Rattle.std.specs.declared.time.Duration.{Duration}
use Rattle.journal_protocol.specs.InvocationTarget.TheVariants as target
use Rattle.vm_types.specs.declared.steps.Step.TheVariants as step
use Rattle.await_trees.specs.declared.handle.NotificationHandle.{NotificationHandle}
use Rattle.await_trees.specs.declared.tree.UnresolvedFuture.TheVariants.{Single}
use Rattle.handler_flows.specs.Answers.{given_or_over, handle_in, state_bytes, unit_in}
use Rattle.handler_flows.specs.Calls.{value}
use Rattle.handler_flows.specs.Code.{Ask, Code, ◌>>=◌}
use Rattle.handler_flows.specs.Steps.{stable, take, target_of, wait}

-- calls a service's handler at a time since the Unix epoch, and waits for nothing
unfoldable pub send_at : List ℕ → List ℕ → List ℕ → Duration → Code (Unit {0})
send_at service handler input time =
    Ask (step.Send (target_of service handler) input (Some time) None stable)
    (λ answer. given_or_over (unit_in answer))

-- begins to await the result of an invocation
unfoldable pub start_attach : List ℕ → Code NotificationHandle
start_attach id =
    Ask (step.AttachInvocation (target.InvocationId id))
    (λ answer. given_or_over (handle_in answer))

-- waits for the result of an invocation
unfoldable pub attach : List ℕ → Code (List ℕ)
attach id = start_attach id >>= value

-- begins to ask for the output of an invocation
unfoldable pub start_output : List ℕ → Code NotificationHandle
start_output id =
    Ask (step.GetInvocationOutput (target.InvocationId id))
    (λ answer. given_or_over (handle_in answer))

-- the output of an invocation, if it has ended
unfoldable pub output : List ℕ → Code (Option (List ℕ))
output id = start_output id >>= λ handle. wait (Single handle) >>= λ _. take handle >>= state_bytes

-- cancels an invocation
unfoldable pub cancel : List ℕ → Code (Unit {0})
cancel id = Ask (step.CancelInvocation id) (λ answer. given_or_over (unit_in answer))
