-- Calls of a handler that make several steps, as code.
use Rattle.std.specs.Prelude.{Bool, List, [], ◌∷◌, ℕ, Option}
use Rattle.std.specs.declared.time.Duration.{Duration}
use Rattle.await_trees.specs.declared.handle.NotificationHandle.{NotificationHandle}
use Rattle.await_trees.specs.declared.tree.UnresolvedFuture.{UnresolvedFuture}
use Rattle.await_trees.specs.declared.tree.UnresolvedFuture.TheVariants.{AllCompleted, FirstCompleted, Single}
use Rattle.handler_flows.specs.Answers.{result_bytes, state_bytes}
use Rattle.handler_flows.specs.Code.{Code, Give, ◌>>=◌}
use Rattle.handler_flows.specs.Steps.{completed, start_call, start_get, start_run, start_sleep, take, wait}

-- two handles, to be awaited together
abbrev pub both : NotificationHandle → NotificationHandle → List UnresolvedFuture
both first second = Single first ∷ Single second ∷ []

-- waits for the result of a handle
unfoldable pub value : NotificationHandle → Code (List ℕ)
value handle = wait (Single handle) >>= λ _. take handle >>= result_bytes

-- sleeps until a time since the Unix epoch
unfoldable pub sleep : Duration → Code (Unit {0})
sleep until = start_sleep until >>= value >>= λ _. Give tt

-- calls a service's handler, and waits for its result
unfoldable pub call : List ℕ → List ℕ → List ℕ → Code (List ℕ)
call service handler input = start_call service handler input >>= value

-- has a run executed outside, and waits for its result
unfoldable pub run : List ℕ → Code (List ℕ)
run name = start_run name >>= value

-- the state of a key, if it is set
unfoldable pub get : List ℕ → Code (Option (List ℕ))
get key = start_get key >>= λ handle. wait (Single handle) >>= λ _. take handle >>= state_bytes

-- waits until one of two results is there, and asks whether the first is
unfoldable pub select : NotificationHandle → NotificationHandle → Code Bool
select first second = wait (FirstCompleted (both first second)) >>= λ _. completed first

-- waits until two results are there
unfoldable pub all : NotificationHandle → NotificationHandle → Code (Unit {0})
all first second = wait (AllCompleted (both first second))
