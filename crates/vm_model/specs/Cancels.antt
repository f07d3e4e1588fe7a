-- How an await of a cancelled handler ends: which results it reads, and to which invocations it
-- sends the cancel signal.
use Rattle.std.specs.Prelude.{◌≡◌, ℕ, Bool, true, ◌&&◌, is_some, List, [], ◌∷◌, ◌++◌, drop, take, Option, Some, None, option_and_then}
use Rattle.std.specs.Option.{option_or}
use Rattle.journal_protocol.specs.Message.{Message}
use Rattle.journal_protocol.specs.Notification.{Notification}
use Rattle.journal_protocol.specs.NotificationResult.{NotificationResult}
use Rattle.journal_protocol.specs.SignalDelivery.TheVariants.{Queued}
use Rattle.vm_state.specs.declared.tracked_call.TrackedCall.{TrackedCall}
use Rattle.vm_types.specs.declared.steps.Answer.{Answer}
use Rattle.vm_types.specs.declared.steps.Answer.TheVariants as answer
use Rattle.vm_parts.specs.Deliveries.{id_at, present_result_for}
use Rattle.vm_parts.specs.Tracked.{id_of_result, unresolved_handles}
use Rattle.vm_asks.specs.Asks.{cancel_invocation_command}
use Rattle.vm_model.specs.Calls.{Derived, Meaning, Setup, with_cancel_taken, ready_in}
use Rattle.vm_model.specs.Deliveries.{HasNoTwo}
use Rattle.vm_model.specs.Histories.{IsLeast, arrivals_used}
use Rattle.vm_model.specs.Moves.{Point, after}

-- the present result of a handle
abbrev pub present_in : Setup → ℕ → Derived → Option NotificationResult
present_in s handle d =
    present_result_for s.options.signal_delivery (id_at handle d.handles) (ready_in s d)

-- each of these handles has a present result
abbrev pub all_present : Setup → List ℕ → Derived → Bool
all_present s [] d = true
all_present s (handle ∷ handles) d = is_some (present_in s handle d) && all_present s handles d

-- the invocation's id that the present result of a handle is
abbrev pub id_in : Setup → ℕ → Derived → Option (List ℕ)
id_in s handle d = option_and_then id_of_result (present_in s handle d)

-- ---- the invocations of tracked calls

-- one more handle, where its call's id isn't known
abbrev pub with_unresolved : Option (List ℕ) → ℕ → List ℕ → List ℕ
with_unresolved None handle handles = handles ++ handle ∷ []
with_unresolved (Some id) handle handles = handles

-- A call's invocation: the one that is known; else the present result of its handle at the least
-- number of these arrivals by which each of these handles has one, its own among them.
abbrev pub IsInvocation : Setup → Derived → List Notification → List ℕ → ℕ → Option (List ℕ)
    → List ℕ → Type 0
IsInvocation s d queue handles handle None id = (n : ℕ) × IsLeast (all_present s handles) d queue n
    × (id_in s handle (arrivals_used (take n queue) d) ≡ Some id)
IsInvocation s d queue handles handle (Some known) id = id ≡ known

-- The invocations of tracked calls, one for one, where results are read in the order of the calls,
-- those of these handles first.
abbrev pub AreInvocations : Setup → Derived → List Notification → List ℕ → List TrackedCall
    → List (List ℕ) → Type 0
AreInvocations s d queue before [] ids = ids ≡ []
AreInvocations s d queue before (t ∷ ts) [] = ⊥
AreInvocations s d queue before (t ∷ ts) (id ∷ ids) =
    (let handles = with_unresolved t.invocation_id t.handle before in
    IsInvocation s d queue handles t.handle t.invocation_id id
    × AreInvocations s d queue handles ts ids)

-- the invocations of tracked calls, one for one, where all results are read here
abbrev pub AreInvocationsIn : Setup → Derived → List TrackedCall → List (List ℕ) → Type 0
AreInvocationsIn s d [] ids = ids ≡ []
AreInvocationsIn s d (t ∷ ts) [] = ⊥
AreInvocationsIn s d (t ∷ ts) (id ∷ ids) = (option_or t.invocation_id (id_in s t.handle d)
    ≡ Some id) × AreInvocationsIn s d ts ids

-- a cancel command to each of these invocations, in order
abbrev pub cancel_commands : List (List ℕ) → List Message
cancel_commands [] = []
cancel_commands (id ∷ ids) = (cancel_invocation_command id).message ∷ cancel_commands ids

-- ---- the await

-- From this point on an await of a cancelled handler was answered. It used the least number of the
-- next arrivals by which each tracked call whose id isn't known has a present result. Its commands
-- cancel the tracked calls' invocations, in order. If no completion has two results, they are those
-- that are present by that number. After its answer, which is Cancelled, one result of the cancel
-- handle is taken, and no call is tracked.
pub record CancelledAwait (s : Setup) (m : Meaning) (p : Point) (a : Answer) : Type 0 where
  pub answered : a ≡ answer.Cancelled
  pub arrivals : ℕ
  pub least : IsLeast (all_present s (unresolved_handles p.derived.tracked)) p.derived p.queue
      arrivals
  pub invocations : List (List ℕ)
  pub are : AreInvocations s p.derived p.queue [] p.derived.tracked invocations
  pub are_present : s.options.signal_delivery ≡ Queued → HasNoTwo p
      → AreInvocationsIn s (arrivals_used (take arrivals p.queue) p.derived) p.derived.tracked
      invocations
  pub moves : ℕ
  pub to : Point
  pub leads : after s m moves p ≡ Some to
  pub answers : to.answers ≡ p.answers ++ a ∷ []
  pub said : to.said ≡ p.said ++ cancel_commands invocations
  pub queue : to.queue ≡ drop arrivals p.queue
  pub usage : to.derived.usage
      ≡ (with_cancel_taken (id_at 1 p.derived.handles)
      (arrivals_used (take arrivals p.queue) p.derived)).usage
  pub tracked : to.derived.tracked ≡ []
