-- What can come comes, and what deliveries of all that waits for an invocation leave.
use Rattle.std.specs.Prelude.{◌≡◌, ℕ, true, List, [], ◌∷◌, ◌++◌, Some, None, is_some, slice_get}
use Rattle.std.specs.List.{remove}
use Rattle.journal_protocol.specs.Notification.{Notification}
use Rattle.journal_entries.specs.Entries.{note_in}
use Rattle.vm_model.specs.Calls.{Meaning}
use Rattle.engine_inboxes.specs.declared.types.Waiting.{Waiting}
use Rattle.engines.specs.declared.engine.Engine.{Engine}
use Rattle.engines.specs.declared.engine.Invocation.{Invocation}
use Rattle.engines.specs.declared.types.Happening.TheVariants as happening
use Rattle.engines.specs.Between.{IsOneOf}
use Rattle.engines.specs.Deliveries.{inbox_at}
use Rattle.engines.specs.Engines.{HappeningDoes}
use Rattle.engines.specs.Members.{MemberView}
use Rattle.engine_fences.specs.Causes.{HasToWait, note_now}

-- The invocation at a place hasn't ended, and an attempt of it lives.
pub record HasLiveAttempt {H : Type 0} (e : Engine H) (place : ℕ) : Type 0 where
  pub it : Invocation H
  pub there : slice_get e.invocations.items place ≡ Some it
  pub goes_on : it.ended ≡ None
  pub rounds : MemberView H
  pub is : it.member ≡ Some rounds
  pub lives : is_some rounds.course.live ≡ true

-- ---- one delivery

-- The notification is stored as the next entry, and what became it waits no longer; the attempt
-- lives on.
pub record HasComeAt {H : Type 0} (place at : ℕ) (n : Notification) (old : MemberView H)
    (new : Engine H)
    : Type 0 where
  pub live : HasLiveAttempt new place
  pub entry : List ℕ
  pub reads : note_in entry ≡ Some n
  pub stored : live.rounds.course.journal ≡ old.course.journal ++ entry ∷ []
  pub rest : live.rounds.waiting ≡ remove old.waiting at

-- what can come by what is there now comes by its delivery
abbrev pub WhatCanComes : {H : Type 0} → (H → Meaning) → Engine H → Type 0
WhatCanComes {H} meaning e = (place at : ℕ) (new : Engine H) (live : HasLiveAttempt e place)
    (w : Waiting) (n : Notification) → slice_get live.rounds.waiting at ≡ Some w
    → note_now e place w ≡ Some n
    → HappeningDoes meaning (happening.Deliver place at) e new
    → HasComeAt place at n live.rounds new

-- ---- all that waits

-- nothing that waits for it can come by what is there now
abbrev pub NothingCanCome : {H : Type 0} → Engine H → ℕ → Type 0
NothingCanCome e place =
    (w : Waiting) → IsOneOf w (inbox_at e place) → note_now e place w ≡ None

-- all that waits for it has to: a sleep for its time, or a call's result for its callee's end
abbrev pub AllHaveToWait : {H : Type 0} → Engine H → ℕ → Type 0
AllHaveToWait e place = (w : Waiting) → IsOneOf w (inbox_at e place) → HasToWait e place w
