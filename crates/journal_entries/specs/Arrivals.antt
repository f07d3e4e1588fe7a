-- Why an arrival, or a proposal that is stored, is no fault of the rounds, or which one it is.
use Rattle.std.specs.Prelude.{ℕ, ◌==◌, Bool, true, false, if◌then◌else◌, List, [], ◌∷◌, length, Option, Some, None}
use Rattle.std.specs.List.{list_any}
use Rattle.journal_protocol.specs.Message.{Message}
use Rattle.journal_protocol.specs.Message.TheVariants as message
use Rattle.journal_protocol.specs.Notification.{Notification}
use Rattle.journal_protocol.specs.NotificationId.{NotificationId}
use Rattle.journal_protocol.specs.NotificationId.TheVariants.{CompletionId, SignalId, SignalName}
use Rattle.journal_protocol.specs.NotificationResult.{NotificationResult}
use Rattle.journal_protocol.specs.NotificationResult.TheVariants as result
use Rattle.journal_entries.specs.declared.completions.Completes.{Completes}
use Rattle.journal_entries.specs.declared.completions.Completes.TheVariants as completes
use Rattle.journal_entries.specs.declared.fault.JournalFault.{JournalFault}
use Rattle.journal_entries.specs.declared.fault.JournalFault.TheVariants as journal_fault
use Rattle.journal_entries.specs.Entries.{note_in, notes_in, said_in}

-- the most entries of a journal
abbrev pub most_entries : ℕ
most_entries = 4_294_967_295

-- ---- what completes an id

-- the id is this one, or it is as before
abbrev pub if_same : Bool → Completes → Option Completes → Option Completes
if_same true kind before = Some kind
if_same false kind before = before

-- what completes an id by this command, or else as before
abbrev pub completes_by : ℕ → Message → Option Completes → Option Completes
completes_by id (message.Sleep c) before = if_same (c.result_completion_id == id)
    completes.AnyResult before
completes_by id (message.GetLazyState c) before = if_same (c.result_completion_id == id)
    completes.AnyResult before
completes_by id (message.GetLazyStateKeys c) before = if_same (c.result_completion_id == id)
    completes.AnyResult before
completes_by id (message.GetPromise c) before = if_same (c.result_completion_id == id)
    completes.AnyResult before
completes_by id (message.PeekPromise c) before = if_same (c.result_completion_id == id)
    completes.AnyResult before
completes_by id (message.CompletePromise c) before = if_same (c.result_completion_id == id)
    completes.AnyResult before
completes_by id (message.AttachInvocation c) before = if_same (c.result_completion_id == id)
    completes.AnyResult before
completes_by id (message.GetInvocationOutput c) before = if_same (c.result_completion_id == id)
    completes.AnyResult before
completes_by id (message.Call c) before = if_same (c.result_completion_id == id) completes.AnyResult
    (if_same (c.request.invocation_id_notification_idx == id) completes.InvocationId before)
completes_by id (message.OneWayCall c) before = if_same
    (c.request.invocation_id_notification_idx == id) completes.InvocationId before
completes_by id (message.Run c) before = if_same (c.result_completion_id == id) completes.Proposal
    before
completes_by id m before = before

-- what completes an id, by the last of these commands that carries it
abbrev pub completes_among : ℕ → List Message → Option Completes → Option Completes
completes_among id [] before = before
completes_among id (m ∷ ms) before = completes_among id ms (completes_by id m before)

-- ---- arrivals

-- the notification completes this id
abbrev pub is_of : ℕ → NotificationId → Bool
is_of id (CompletionId other) = other == id
is_of id (SignalId other) = false
is_of id (SignalName name) = false

-- one of the notifications completes this id
abbrev pub completes_id : ℕ → List Notification → Bool
completes_id id ns = list_any (λ n. is_of id n.id) ns

-- an invocation id
abbrev pub is_invocation_id : NotificationResult → Bool
is_invocation_id (result.InvocationId id) = true
is_invocation_id result.Void = false
is_invocation_id (result.Value value) = false
is_invocation_id (result.Failure failure) = false
is_invocation_id (result.StateKeys keys) = false

-- the fault of a journal that is full
abbrev pub room_fault : List (List ℕ) → Option JournalFault
room_fault journal = if length journal == most_entries then Some journal_fault.JournalFull else None

-- the fault of a completion: by what completes its id, whether it was completed, and what it brings
abbrev pub completion_fault : Option Completes → Bool → NotificationResult → Option JournalFault
    → Option JournalFault
completion_fault None done brings room = Some journal_fault.NoSuchId
completion_fault (Some kind) true brings room = Some journal_fault.SecondCompletion
completion_fault (Some completes.InvocationId) false brings room = if is_invocation_id brings
    then room else Some journal_fault.WrongKind
completion_fault (Some completes.Proposal) false brings room = Some journal_fault.RunIsProposed
completion_fault (Some completes.AnyResult) false brings room = room

-- the fault of a notification
abbrev pub note_fault : NotificationId → NotificationResult → List (List ℕ) → Option JournalFault
note_fault (CompletionId id) brings journal = completion_fault
    (completes_among id (said_in journal) None) (completes_id id (notes_in journal)) brings
    (room_fault journal)
note_fault (SignalId id) brings journal = room_fault journal
note_fault (SignalName name) brings journal = room_fault journal

-- the fault of what may be a notification
abbrev pub read_fault : Option Notification → List (List ℕ) → Option JournalFault
read_fault None journal = Some journal_fault.NotANotification
read_fault (Some n) journal = note_fault n.id n.result journal

-- The first fault of an arrival on a journal, out of memory aside: it is no notification, no
-- stored command carries its id, the id was completed, an invocation's id is completed by
-- something else, the result is a run's, the journal is full.
abbrev pub arrival_fault : List ℕ → List (List ℕ) → Option JournalFault
arrival_fault bytes journal = read_fault (note_in bytes) journal

-- ---- proposals

-- the fault of a proposal: by what completes its id, and whether it was completed; a run's result
-- is no invocation's id
abbrev pub proposed_fault : Option Completes → Bool → Option JournalFault → Option JournalFault
proposed_fault None done room = Some journal_fault.NoSuchId
proposed_fault (Some kind) true room = Some journal_fault.SecondCompletion
proposed_fault (Some completes.InvocationId) false room = Some journal_fault.WrongKind
proposed_fault (Some completes.Proposal) false room = room
proposed_fault (Some completes.AnyResult) false room = room

-- The first fault of a proposal for the run of this id, which is stored as a completion, out of
-- memory aside: no stored command carries its id, the id was completed, an invocation's id is
-- expected, the journal is full.
abbrev pub stored_proposal_fault : ℕ → List (List ℕ) → Option JournalFault
stored_proposal_fault id journal = proposed_fault (completes_among id (said_in journal) None)
    (completes_id id (notes_in journal)) (room_fault journal)
