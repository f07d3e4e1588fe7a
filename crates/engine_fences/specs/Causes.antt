-- Nothing waits without a cause: a sleep for its time, a call's result for its callee's end.
use Rattle.std.specs.Prelude.{◌≡◌, ◌⊎◌, ℕ, ◌<◌, true, Option, Some, None, is_some, slice_get}
use Rattle.std.specs.Option.{option_and_then}
use Rattle.journal_protocol.specs.Notification.{Notification}
use Rattle.engine_inboxes.specs.declared.types.Waiting.{Waiting}
use Rattle.engine_inboxes.specs.declared.types.Waiting.TheVariants as waiting
use Rattle.engine_inboxes.specs.Deliverable.{waits_for_id}
use Rattle.engine_inboxes.specs.Notes.{note_by}
use Rattle.engines.specs.declared.engine.Engine.{Engine}
use Rattle.engines.specs.declared.engine.Invocation.{Invocation}
use Rattle.engine_inboxes.specs.declared.order.Callee.{Callee}
use Rattle.engines.specs.Between.{IsOneOf, waited_in}
use Rattle.engines.specs.Lookups.{brought_for, callee_of}
use Rattle.engines.specs.Members.{MemberView}

-- the notification that it becomes by what is there for it now
abbrev pub note_now : {H : Type 0} → Engine H → ℕ → Waiting → Option Notification
note_now e by w = option_and_then (note_by w) (brought_for e by w)

-- The call has a callee, and that hasn't ended.
pub record WaitsForCallee {H : Type 0} (e : Engine H) (by call : ℕ) : Type 0 where
  pub row : Callee
  pub called : callee_of e.invocations.items by call ≡ Some row
  pub place : ℕ
  pub at : row.place ≡ Some place
  pub it : Invocation H
  pub there : slice_get e.invocations.items place ≡ Some it
  pub goes_on : it.ended ≡ None

-- why it can't come yet
abbrev pub HasToWait : {H : Type 0} → Engine H → ℕ → Waiting → Type 0
HasToWait e by (waiting.Id call) = ⊥
HasToWait e by (waiting.Outcome id call) = WaitsForCallee e by call
HasToWait e by (waiting.Clock timer) = e.clock < timer.due
HasToWait e by (waiting.Signal s brings) = ⊥

-- it can come, or this is why it can't yet
abbrev pub CanComeOrHasToWait : {H : Type 0} → Engine H → ℕ → Waiting → Type 0
CanComeOrHasToWait e by w = (is_some (note_now e by w) ≡ true) ⊎ HasToWait e by w

-- so it is with all that stored commands wait for
abbrev pub WaitsHaveCauses : {H : Type 0} → Engine H → Type 0
WaitsHaveCauses {H} e = (by : ℕ) (it : Invocation H) (m : MemberView H)
    → slice_get e.invocations.items by ≡ Some it → it.member ≡ Some m → (w : Waiting)
    → IsOneOf w (waited_in m.course.journal) → CanComeOrHasToWait e by w

-- ---- inboxes

-- what waits for an id is what a stored command waits for
abbrev pub InboxesAreAskedFor : {H : Type 0} → Engine H → Type 0
InboxesAreAskedFor {H} e = (by : ℕ) (it : Invocation H) (m : MemberView H)
    → slice_get e.invocations.items by ≡ Some it → it.member ≡ Some m → (w : Waiting) (id : ℕ)
    → IsOneOf w m.waiting → waits_for_id id w ≡ true → IsOneOf w (waited_in m.course.journal)

-- all that waits in an inbox can come, or has a cause
abbrev pub InboxesHaveCauses : {H : Type 0} → Engine H → Type 0
InboxesHaveCauses {H} e = (by : ℕ) (it : Invocation H) (m : MemberView H)
    → slice_get e.invocations.items by ≡ Some it → it.member ≡ Some m → (w : Waiting)
    → IsOneOf w m.waiting → CanComeOrHasToWait e by w
