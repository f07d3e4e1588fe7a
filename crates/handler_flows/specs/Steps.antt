-- Single steps of a handler, as code.
use Rattle.std.specs.Prelude.{Bool, List, [], ℕ, false, None, Option}
use Rattle.std.specs.declared.time.Duration.{Duration}
use Rattle.vm_types.specs.declared.options.PayloadOptions.{PayloadOptions}
use Rattle.vm_types.specs.declared.steps.Step.{Step}
use Rattle.vm_types.specs.declared.steps.Step.TheVariants as step
use Rattle.vm_types.specs.declared.values.Target.{Target}
use Rattle.vm_types.specs.declared.values.Value.{Value}
use Rattle.await_trees.specs.declared.handle.NotificationHandle.{NotificationHandle}
use Rattle.await_trees.specs.declared.tree.UnresolvedFuture.{UnresolvedFuture}
use Rattle.handler_flows.specs.Answers.{after_await, completed_in, given_or_over, handle_in, taken_in, unit_in}
use Rattle.handler_flows.specs.Code.{Ask, Code}

-- payloads that each attempt writes the same
abbrev pub stable : PayloadOptions
stable = record { unstable_serialization = false }

-- a service's handler, without a key
abbrev pub target_of : List ℕ → List ℕ → Target
target_of service handler =
    record {
      service = service;
      handler = handler;
      key = None;
      idempotency_key = None;
      scope = None;
      limit_key = None;
      headers = [];
    }

-- awaits a future
unfoldable pub wait : UnresolvedFuture → Code (Unit {0})
wait future = Ask (step.Await future) after_await

-- takes the result of a handle
unfoldable pub take : NotificationHandle → Code (Option Value)
take handle = Ask (step.Take handle) (λ answer. given_or_over (taken_in answer))

-- asks whether the result of a handle is there
unfoldable pub completed : NotificationHandle → Code Bool
completed handle = Ask (step.Completed handle) (λ answer. given_or_over (completed_in answer))

-- begins a sleep until a time since the Unix epoch
unfoldable pub start_sleep : Duration → Code NotificationHandle
start_sleep until = Ask (step.Sleep [] until None) (λ answer. given_or_over (handle_in answer))

-- begins a call of a service's handler
unfoldable pub start_call : List ℕ → List ℕ → List ℕ → Code NotificationHandle
start_call service handler input =
    Ask (step.Call (target_of service handler) input None stable)
    (λ answer. given_or_over (handle_in answer))

-- has a run of this name executed outside
unfoldable pub start_run : List ℕ → Code NotificationHandle
start_run name = Ask (step.Run name) (λ answer. given_or_over (handle_in answer))

-- begins to read the state of a key
unfoldable pub start_get : List ℕ → Code NotificationHandle
start_get key = Ask (step.StateGet key None stable) (λ answer. given_or_over (handle_in answer))

-- calls a service's handler, and waits for nothing
unfoldable pub send : List ℕ → List ℕ → List ℕ → Code (Unit {0})
send service handler input =
    Ask (step.Send (target_of service handler) input None None stable)
    (λ answer. given_or_over (unit_in answer))

-- sets the state of a key
unfoldable pub set : List ℕ → List ℕ → Code (Unit {0})
set key value = Ask (step.StateSet key value None stable) (λ answer. given_or_over (unit_in answer))

-- clears the state of a key
unfoldable pub clear : List ℕ → Code (Unit {0})
clear key = Ask (step.StateClear key None) (λ answer. given_or_over (unit_in answer))
