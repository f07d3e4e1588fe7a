-- The completion ids that a handler's call is given, as who reads the journal counts them.
use Rattle.std.specs.Prelude.{◌≡◌, ℕ, zero, suc, ◌+◌, List, [], ◌∷◌, ◌++◌}
use Rattle.journal_protocol.specs.Message.{Message}
use Rattle.journal_protocol.specs.Message.TheVariants as message
use Rattle.vm_types.specs.declared.steps.Step.{Step}
use Rattle.vm_types.specs.declared.steps.Step.TheVariants as step
use Rattle.vm_asks.specs.declared.asks.Ask.{Ask}
use Rattle.vm_asks.specs.declared.asks.Ask.TheVariants as ask
use Rattle.vm_asks.specs.Carried.{carried}
use Rattle.vm_asks.specs.Requests.{ids_of, with_ids}
use Rattle.vm_asks.specs.StateReads.{lazy_form}

-- this many numbers in order, the first of which is given
abbrev pub numbers_from : ℕ → ℕ → List ℕ
numbers_from first zero = []
numbers_from first (suc n) = first ∷ numbers_from (first + 1) n

-- How many completion ids a step is given: a call one for the invocation's id and one for the
-- result, a send the first of these, a call with a deadline one more for the deadline, and each
-- other call whose result comes later one.
abbrev pub ids_given : Step → ℕ
ids_given (step.Call target input name options) = 2
ids_given (step.Send target input time name options) = 1
ids_given (step.CallWithDeadline target input time name options) = 3
ids_given (step.Sleep name wake_up_time now) = 1
ids_given (step.StateGet key name options) = 1
ids_given (step.StateGetKeys name) = 1
ids_given (step.GetPromise key) = 1
ids_given (step.PeekPromise key) = 1
ids_given (step.CompletePromise key value options) = 1
ids_given (step.Run name) = 1
ids_given (step.AttachInvocation target) = 1
ids_given (step.GetInvocationOutput target) = 1
ids_given s = 0

-- The commands that are asked for carry this many ids: those that they are given, in order. A read
-- of the state carries one where its result comes later.
abbrev pub CarriesGiven : ℕ → Ask → Type 0
CarriesGiven n (ask.Command c) = (id : ℕ) → carried (with_ids id c.message) ≡ numbers_from id n
CarriesGiven n (ask.Commands kind first second) =
    (id : ℕ) → carried (with_ids id first.message)
    ++ carried (with_ids (id + ids_of first.message) second.message) ≡ numbers_from id n
CarriesGiven n (ask.Read r) = (id : ℕ) → carried (lazy_form r id) ≡ numbers_from id n
CarriesGiven n other = n ≡ 0

-- a call that carries the first number for the invocation's id, and the second for its result
abbrev pub IsCallWith : ℕ → ℕ → Message → Type 0
IsCallWith invocation result (message.Call c) =
    (c.request.invocation_id_notification_idx ≡ invocation) × (c.result_completion_id ≡ result)
IsCallWith invocation result m = ⊥

-- a send that carries this number for the invocation's id
abbrev pub IsSendWith : ℕ → Message → Type 0
IsSendWith invocation (message.OneWayCall c) = c.request.invocation_id_notification_idx ≡ invocation
IsSendWith invocation m = ⊥
