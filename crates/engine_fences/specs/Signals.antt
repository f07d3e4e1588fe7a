-- Signals between invocations: those that have come for one, those that wait for it, and those that
-- stored commands have sent to it.
use Rattle.std.specs.Prelude.{◌≡◌, ℕ, ◌+◌, ◌≤◌, if◌then◌else◌, Bool, List, [], ◌∷◌, ◌++◌, Option, Some, None, flat_map, slice_get}
use Rattle.std.specs.List.{sum_by}
use Rattle.journal_protocol.specs.Notification.{Notification}
use Rattle.journal_protocol.specs.NotificationId.{NotificationId}
use Rattle.journal_protocol.specs.NotificationId.TheVariants.{CompletionId, SignalId, SignalName}
use Rattle.journal_entries.specs.Entries.{note_in}
use Rattle.journal_store.specs.declared.effect.Effect.{Effect}
use Rattle.journal_store.specs.declared.effect.Effect.TheVariants as effect
use Rattle.engine_inboxes.specs.declared.types.Waiting.{Waiting}
use Rattle.engine_inboxes.specs.declared.types.Waiting.TheVariants as waiting
use Rattle.engine_inboxes.specs.Deliverable.{effect_at}
use Rattle.engine_inboxes.specs.Notes.{signal_note}
use Rattle.engines.specs.declared.engine.Engine.{Engine}
use Rattle.engines.specs.declared.engine.Invocation.{Invocation}
use Rattle.engine_inboxes.specs.Targets.{is_text}
use Rattle.engines.specs.Lookups.{place_of}
use Rattle.engines.specs.Members.{MemberView}

-- ---- those of an invocation

-- the notification, if it is a signal
abbrev pub signal_by : NotificationId → Notification → List Notification
signal_by (CompletionId id) n = []
signal_by (SignalId index) n = n ∷ []
signal_by (SignalName name) n = n ∷ []

abbrev pub signal_read : Option Notification → List Notification
signal_read None = []
signal_read (Some n) = signal_by n.id n

-- the signals that have come, in order
abbrev pub signals_came : List (List ℕ) → List Notification
signals_came journal = flat_map (λ entry. signal_read (note_in entry)) journal

-- what waits, if it is a signal
abbrev pub signal_waiting : Waiting → List Notification
signal_waiting (waiting.Id call) = []
signal_waiting (waiting.Outcome id call) = []
signal_waiting (waiting.Clock timer) = []
signal_waiting (waiting.Signal s brings) = signal_note s brings ∷ []

-- the signals that wait, in order
abbrev pub signals_waiting : List Waiting → List Notification
signals_waiting ws = flat_map signal_waiting ws

-- those that have come, and after them those that wait
abbrev pub signals_of : {H : Type 0} → MemberView H → List Notification
signals_of m = signals_came m.course.journal ++ signals_waiting m.waiting

-- ---- those that were sent

-- the signal that a stored command sends to the invocation of this id, if it sends it one
abbrev pub signal_sent : List ℕ → Option Effect → List Notification
signal_sent id None = []
signal_sent id (Some (effect.Begin b)) = []
signal_sent id (Some (effect.Wait timer)) = []
signal_sent id (Some (effect.Result r)) = []
signal_sent id (Some (effect.Send s)) =
    if is_text id s.to then signal_note s.signal s.brings ∷ [] else []

-- all that the stored commands of a journal have sent to it
abbrev pub signals_in : List ℕ → List (List ℕ) → List Notification
signals_in id journal = flat_map (λ entry. signal_sent id (effect_at entry)) journal

abbrev pub signals_from : {H : Type 0} → List ℕ → Option (MemberView H) → List Notification
signals_from id None = []
signals_from id (Some m) = signals_in id m.course.journal

-- all that the stored commands of all invocations have sent to it
abbrev pub signals_to : {H : Type 0} → List ℕ → List (Invocation H) → List Notification
signals_to id its = flat_map (λ it. signals_from id it.member) its

-- ---- an engine

-- which signals are counted
abbrev pub SignalTest : Type 0
SignalTest = Notification → Bool

-- how many of these pass a test
abbrev pub passing : SignalTest → List Notification → ℕ
passing test ns = sum_by (λ n. if test n then 1 else 0) ns

-- By each test, no more signals have come for an invocation or wait for it than stored commands
-- have sent to it.
abbrev pub NoneFromNowhere : {H : Type 0} → Engine H → Type 0
NoneFromNowhere {H} e = (by : ℕ) (it : Invocation H) (m : MemberView H)
    → slice_get e.invocations.items by ≡ Some it → it.member ≡ Some m → (test : SignalTest)
    → passing test (signals_of m) ≤ passing test (signals_to it.id e.invocations.items)

-- An invocation is still there. By each test, as many more signals have come for it or wait for it
-- than before as stored commands have sent to it since.
pub record ComesOnce {H : Type 0} (by : ℕ) (id : List ℕ) (m : MemberView H) (old new : Engine H)
    : Type 0 where
  pub later : Invocation H
  pub there : slice_get new.invocations.items by ≡ Some later
  pub rounds : MemberView H
  pub is : later.member ≡ Some rounds
  pub once : (test : SignalTest)
      → passing test (signals_of rounds) + passing test (signals_to id old.invocations.items)
      ≡ passing test (signals_of m) + passing test (signals_to id new.invocations.items)

-- so it is with each invocation that is the one of its id
abbrev pub SignalsComeOnce : {H : Type 0} → Engine H → Engine H → Type 0
SignalsComeOnce {H} old new = (by : ℕ) (it : Invocation H) (m : MemberView H)
    → slice_get old.invocations.items by ≡ Some it → it.member ≡ Some m
    → place_of old.invocations.items it.id ≡ Some by → ComesOnce by it.id m old new

-- each invocation is the one of its id
abbrev pub AllAreNamed : {H : Type 0} → Engine H → Type 0
AllAreNamed {H} e = (by : ℕ) (it : Invocation H) → slice_get e.invocations.items by ≡ Some it
    → place_of e.invocations.items it.id ≡ Some by
