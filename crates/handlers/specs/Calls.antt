-- Calls of other handlers, and what a handler awaits two results by.
use Rattle.std.specs.Prelude.{ℕ, List, [], ◌∷◌, None}
use Rattle.std.specs.declared.time.Duration.{Duration}
use Rattle.vm_types.specs.declared.steps.Step.{Step}
use Rattle.vm_types.specs.declared.steps.Step.TheVariants as step
use Rattle.await_trees.specs.declared.handle.NotificationHandle.{NotificationHandle}
use Rattle.await_trees.specs.declared.tree.UnresolvedFuture.{UnresolvedFuture}
use Rattle.await_trees.specs.declared.tree.UnresolvedFuture.TheVariants.{Single}
use Rattle.vm_types.specs.declared.values.Target.{Target}
use Rattle.handlers.specs.Answers.{stable_payload}

-- a service's handler, without a key
abbrev pub plain_target : List ℕ → List ℕ → Target
plain_target service handler =
    record {
      service = service;
      handler = handler;
      key = None;
      idempotency_key = None;
      scope = None;
      limit_key = None;
      headers = [];
    }

-- the call of a service's handler with an input
abbrev pub plain_call : List ℕ → List ℕ → List ℕ → Step
plain_call service handler input =
    step.Call (plain_target service handler) input None stable_payload

-- the same with a deadline, since the Unix epoch
abbrev pub call_until : List ℕ → List ℕ → List ℕ → Duration → Step
call_until service handler input time =
    step.CallWithDeadline (plain_target service handler) input time None stable_payload

-- two handles, to be awaited together
abbrev pub two_awaited : NotificationHandle → NotificationHandle → List UnresolvedFuture
two_awaited first second = Single first ∷ Single second ∷ []
