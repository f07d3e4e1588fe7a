-- Calls on what others complete, as code: awakeables, signals and promises.
use Rattle.std.specs.Prelude.{List, ℕ, Option}
use Rattle.vm_types.specs.declared.steps.Step.TheVariants as step
use Rattle.vm_types.specs.declared.types.AwakeableHandle.{AwakeableHandle}
use Rattle.vm_types.specs.declared.values.NonEmptyValue.{NonEmptyValue}
use Rattle.await_trees.specs.declared.handle.NotificationHandle.{NotificationHandle}
use Rattle.await_trees.specs.declared.tree.UnresolvedFuture.TheVariants.{Single}
use Rattle.handler_flows.specs.Answers.{awakeable_in, given_or_over, handle_in, state_bytes, unit_in}
use Rattle.handler_flows.specs.Calls.{value}
use Rattle.handler_flows.specs.Code.{Ask, Code, Give, ◌>>=◌}
use Rattle.handler_flows.specs.Steps.{stable, take, wait}

-- ---- awakeables: whoever knows the id completes it

-- makes an awakeable
unfoldable pub awakeable : Code AwakeableHandle
awakeable = Ask step.Awakeable (λ answer. given_or_over (awakeable_in answer))

-- completes the awakeable of this id
unfoldable pub complete_awakeable : List ℕ → NonEmptyValue → Code (Unit {0})
complete_awakeable id value =
    Ask (step.CompleteAwakeable id value stable) (λ answer. given_or_over (unit_in answer))

-- ---- signals: whoever knows the invocation sends them, by name

-- begins to await a signal
unfoldable pub start_signal : List ℕ → Code NotificationHandle
start_signal name = Ask (step.Signal name) (λ answer. given_or_over (handle_in answer))

-- waits for a signal
unfoldable pub signal : List ℕ → Code (List ℕ)
signal name = start_signal name >>= value

-- sends a signal to an invocation
unfoldable pub complete_signal : List ℕ → List ℕ → NonEmptyValue → Code (Unit {0})
complete_signal invocation name value =
    Ask (step.CompleteSignal invocation name value) (λ answer. given_or_over (unit_in answer))

-- ---- promises: those of a workflow share them, by key

-- begins to await a promise
unfoldable pub start_promise : List ℕ → Code NotificationHandle
start_promise key = Ask (step.GetPromise key) (λ answer. given_or_over (handle_in answer))

-- waits for a promise
unfoldable pub promise : List ℕ → Code (List ℕ)
promise key = start_promise key >>= value

-- begins to look at a promise
unfoldable pub start_peek : List ℕ → Code NotificationHandle
start_peek key = Ask (step.PeekPromise key) (λ answer. given_or_over (handle_in answer))

-- what a promise holds, if it is completed
unfoldable pub peek_promise : List ℕ → Code (Option (List ℕ))
peek_promise key =
    start_peek key >>= λ handle. wait (Single handle) >>= λ _. take handle >>= state_bytes

-- begins to complete a promise
unfoldable pub start_complete : List ℕ → NonEmptyValue → Code NotificationHandle
start_complete key value =
    Ask (step.CompletePromise key value stable) (λ answer. given_or_over (handle_in answer))

-- completes a promise; one that is completed already is a fault
unfoldable pub complete_promise : List ℕ → NonEmptyValue → Code (Unit {0})
complete_promise key given_value = start_complete key given_value >>= value >>= λ _. Give tt
