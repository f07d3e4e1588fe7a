-- Each completion in a journal is of an id that a stored command before it carries, and of this
-- command's kind.
use Rattle.std.specs.Prelude.{◌≡◌, ◌⊎◌, ℕ, List, ◌∷◌, ◌++◌, Some, slice_get}
use Rattle.journal_protocol.specs.Message.{Message}
use Rattle.journal_protocol.specs.Message.TheVariants as message
use Rattle.journal_protocol.specs.Notification.{Notification}
use Rattle.journal_protocol.specs.NotificationId.TheVariants.{CompletionId}
use Rattle.journal_protocol.specs.NotificationResult.{NotificationResult}
use Rattle.journal_protocol.specs.NotificationResult.TheVariants as result
use Rattle.journal_protocol.specs.ValueOrFailure.{ValueOrFailure}
use Rattle.vm_asks.specs.Carried.{carried}
use Rattle.journal_entries.specs.Entries.{note_in, said_in}
use Rattle.journal_store.specs.Effects.{completing_result}
use Rattle.engines.specs.declared.engine.Engine.{Engine}
use Rattle.engines.specs.declared.engine.Invocation.{Invocation}
use Rattle.engines.specs.Beginnings.{IsPastAll}
use Rattle.engines.specs.Between.{IsOneOf}
use Rattle.engines.specs.Members.{MemberView}

-- ---- what completes the ids of a command

-- it brings an invocation's id
abbrev pub BringsId : NotificationResult → Type 0
BringsId r = (text : List ℕ) × (r ≡ result.InvocationId text)

-- it brings a value or a failure
abbrev pub BringsResult : NotificationResult → Type 0
BringsResult r = (ends : ValueOrFailure) × (r ≡ completing_result ends)

-- A call's first id is completed by an invocation's id, and its second by a value or a failure; the
-- id of a one-way call by an invocation's id; that of a sleep by nothing. The ids of all other
-- commands, a run among them, are completed by a value or a failure.
abbrev pub IsCompletionOf : Message → ℕ → NotificationResult → Type 0
IsCompletionOf (message.Call c) id r =
    ((id ≡ c.request.invocation_id_notification_idx) × BringsId r)
    ⊎ ((id ≡ c.result_completion_id) × BringsResult r)
IsCompletionOf (message.OneWayCall c) id r =
    (id ≡ c.request.invocation_id_notification_idx) × BringsId r
IsCompletionOf (message.Sleep c) id r = (id ≡ c.result_completion_id) × (r ≡ result.Void)
IsCompletionOf m id r = IsOneOf id (carried m) × BringsResult r

-- A stored command carries the id, and this completes it.
pub record IsAskedFor (journal : List (List ℕ)) (id : ℕ) (r : NotificationResult) : Type 0 where
  pub command : Message
  pub stored : IsOneOf command (said_in journal)
  pub completes : IsCompletionOf command id r

-- A call's, a one-way call's and a sleep's ids are completed as above, and that of a run by a value
-- or a failure. The ids of other commands are completed by nothing.
abbrev pub IsOwnCompletionOf : Message → ℕ → NotificationResult → Type 0
IsOwnCompletionOf (message.Call c) id r = IsCompletionOf (message.Call c) id r
IsOwnCompletionOf (message.OneWayCall c) id r = IsCompletionOf (message.OneWayCall c) id r
IsOwnCompletionOf (message.Sleep c) id r = IsCompletionOf (message.Sleep c) id r
IsOwnCompletionOf (message.Run c) id r = (id ≡ c.result_completion_id) × BringsResult r
IsOwnCompletionOf m id r = ⊥

-- A stored call, one-way call, sleep or run carries the id, and this completes it.
pub record IsOfOwnCommand (journal : List (List ℕ)) (id : ℕ) (r : NotificationResult) : Type 0 where
  pub command : Message
  pub stored : IsOneOf command (said_in journal)
  pub completes : IsOwnCompletionOf command id r

-- ---- an engine

-- so it is with each completion of a journal, by the entries before it
abbrev pub EachCompletion : (List (List ℕ) → ℕ → NotificationResult → Type 0) → List (List ℕ)
    → Type 0
EachCompletion So journal = (before : List (List ℕ)) (entry : List ℕ) (after : List (List ℕ))
    → journal ≡ before ++ entry ∷ after → (n : Notification) (id : ℕ) → note_in entry ≡ Some n
    → n.id ≡ CompletionId id → So before id n.result

-- each completion of a journal is of an id that a command before it carries, and of its kind
abbrev pub CompletionsFollow : List (List ℕ) → Type 0
CompletionsFollow journal = EachCompletion IsAskedFor journal

-- so it is with each invocation's journal
abbrev pub CompletionsAreAskedFor : {H : Type 0} → Engine H → Type 0
CompletionsAreAskedFor {H} e = (by : ℕ) (it : Invocation H) (m : MemberView H)
    → slice_get e.invocations.items by ≡ Some it → it.member ≡ Some m
    → CompletionsFollow m.course.journal

-- each completion of each journal is of a call, a one-way call, a sleep or a run that is stored
-- before it
abbrev pub CompletionsAreOwn : {H : Type 0} → Engine H → Type 0
CompletionsAreOwn {H} e = (by : ℕ) (it : Invocation H) (m : MemberView H)
    → slice_get e.invocations.items by ≡ Some it → it.member ≡ Some m
    → EachCompletion IsOfOwnCommand m.course.journal

-- each id that a command of a journal carries is greater than all before it
abbrev pub IdsRise : {H : Type 0} → Engine H → Type 0
IdsRise {H} e = (by : ℕ) (it : Invocation H) (m : MemberView H)
    → slice_get e.invocations.items by ≡ Some it → it.member ≡ Some m
    → IsPastAll m.course.journal m.next
