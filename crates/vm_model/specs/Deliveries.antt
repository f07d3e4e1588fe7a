-- What came for an id and how often its results were taken, by the arrivals that awaits have used,
-- and those that wait.
use Rattle.std.specs.Prelude.{◌≡◌, ◌⊎◌, ◌≤◌, ◌+◌, ◌==◌, ◌||◌, ℕ, zero, suc, length, Bool, true, false, cond, is_some, List, [], ◌∷◌, ◌++◌, drop, Option, Some, None}
use Rattle.await_arrivals.specs.Results.{results_of}
use Rattle.journal_protocol.specs.NotificationId.{NotificationId}
use Rattle.journal_protocol.specs.NotificationId.TheVariants.{CompletionId}
use Rattle.journal_protocol.specs.NotificationResult.{NotificationResult}
use Rattle.journal_protocol.specs.SignalDelivery.{SignalDelivery}
use Rattle.vm_types.specs.declared.steps.Answer.TheVariants as answer
use Rattle.await_trees.specs.declared.handle.NotificationHandle.{NotificationHandle}
use Rattle.vm_types.specs.declared.values.Value.{Value}
use Rattle.vm_parts.specs.Arrived.{Arrived}
use Rattle.vm_parts.specs.Deliveries.{first, id_at, is_listed, newest, present_result, same_id}
use Rattle.vm_types.specs.Values.{value_of}
use Rattle.vm_model.specs.Calls.{Setup, Usage, ready_by_usage, ready_in}
use Rattle.vm_model.specs.Calls.Usage.{Used, Read, Taken}
use Rattle.vm_model.specs.Moves.{Point}

-- what came for an id, delivered or with its eager read, in order
abbrev pub deliveries : NotificationId → List Usage → List NotificationResult
deliveries id [] = []
deliveries id (Used n ∷ us) = cond (same_id n.id id) (deliveries id us
    ++ n.result ∷ []) (deliveries id us)
deliveries id (Read i result ∷ us) = cond (same_id (CompletionId i) id) (deliveries id us
    ++ result ∷ []) (deliveries id us)
deliveries id (Taken i ∷ us) = deliveries id us

-- what came for an id since its result was last taken, in order
abbrev pub since_taken : NotificationId → List Usage → List NotificationResult
since_taken id [] = []
since_taken id (Used n ∷ us) = cond (same_id n.id id) (since_taken id us
    ++ n.result ∷ []) (since_taken id us)
since_taken id (Read i result ∷ us) = cond (same_id (CompletionId i) id) (since_taken id us
    ++ result ∷ []) (since_taken id us)
since_taken id (Taken i ∷ us) = cond (same_id i id) [] (since_taken id us)

-- how often a result of an id was taken
abbrev pub takes : NotificationId → List Usage → ℕ
takes id [] = zero
takes id (Used n ∷ us) = takes id us
takes id (Read i result ∷ us) = takes id us
takes id (Taken i ∷ us) = cond (same_id i id) (suc (takes id us)) (takes id us)

-- each take took a result that was present
abbrev pub EachTookAResult : SignalDelivery → List Usage → Type 0
EachTookAResult delivery [] = Unit {0}
EachTookAResult delivery (Used n ∷ us) = EachTookAResult delivery us
EachTookAResult delivery (Read i result ∷ us) = EachTookAResult delivery us
EachTookAResult delivery (Taken i
    ∷ us) = (is_some (present_result delivery i (ready_by_usage delivery us))
    ≡ true) × EachTookAResult delivery us

-- The result that a take of an id takes: if its deliveries queue up, the one whose index, from 0,
-- is the number of takes so far; else the newest that came since its result was last taken.
abbrev pub next_taken : SignalDelivery → NotificationId → List Usage → Option NotificationResult
next_taken delivery id us = cond (is_listed delivery id)
    (first (drop (takes id us) (deliveries id us))) (newest (since_taken id us))

-- A take was answered: with nothing where the handle stands for no id, or nothing is there to be
-- taken; else with the value of what is taken next.
abbrev pub TakeIsAnswered : Setup → NotificationHandle → Point → Point → Type 0
TakeIsAnswered s handle p q =
    ((q.answers ≡ p.answers ++ answer.Taken None ∷ [])
    × ((id : NotificationId) → id_at handle.0 p.derived.handles ≡ Some id
    → next_taken s.options.signal_delivery id p.derived.usage ≡ None))
    ⊎ ((id : NotificationId) × (result : NotificationResult) × (value : Value)
    × (id_at handle.0 p.derived.handles ≡ Some id)
    × (next_taken s.options.signal_delivery id p.derived.usage ≡ Some result)
    × (value_of result ≡ Some value)
    × (q.answers ≡ p.answers ++ answer.Taken (Some value) ∷ [])
    × (q.derived.usage ≡ Taken id ∷ p.derived.usage))

-- the notifications of a point, as an await finds them
abbrev pub arrived_at : Setup → Point → Arrived
arrived_at s p =
    record { queued = p.queue; ready = ready_in s p.derived; handles = p.derived.handles }

-- an eager read gave the completion id its result
abbrev pub was_read : ℕ → List Usage → Bool
was_read i [] = false
was_read i (Used n ∷ us) = was_read i us
was_read i (Read id result ∷ us) = (id == i) || was_read i us
was_read i (Taken id ∷ us) = was_read i us

-- No completion id has two results: of what an eager read gave, of the arrivals that awaits have
-- used, and of those that wait.
abbrev pub HasNoTwo : Point → Type 0
HasNoTwo p = (i : ℕ) → length (deliveries (CompletionId i) p.derived.usage) + length
    (results_of (CompletionId i) p.queue) ≤ 1
