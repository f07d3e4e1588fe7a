-- A journal that is given, entry by entry: why an entry can't follow those before it.
use Rattle.std.specs.Prelude.{◌≡◌, ◌⊎◌, ℕ, ◌==◌, ◌||◌, Bool, true, false, List, [], ◌∷◌, ◌++◌, length, Option, Some, None, is_some}
use Rattle.std.specs.Option.{option_or}
use Rattle.journal_protocol.specs.RawMessage.{RawMessage}
use Rattle.journal_protocol.specs.Notification.{Notification}
use Rattle.journal_protocol.specs.NotificationId.{NotificationId}
use Rattle.journal_protocol.specs.NotificationId.TheVariants.{CompletionId, SignalId, SignalName}
use Rattle.journal_protocol.specs.NotificationResult.{NotificationResult}
use Rattle.journal_entries.specs.Journal.{input_read_from}
use Rattle.journal_entries.specs.declared.completions.Completes.{Completes}
use Rattle.journal_entries.specs.declared.completions.Completes.TheVariants as completes
use Rattle.journal_entries.specs.declared.fault.JournalFault.{JournalFault}
use Rattle.journal_entries.specs.declared.fault.JournalFault.TheVariants as journal_fault
use Rattle.journal_entries.specs.Arrivals.{completes_among, completion_fault, completes_id, room_fault}
use Rattle.journal_entries.specs.Entries.{frame_in, note_of, notes_in, said_by, said_in}

-- ---- one entry

-- in a journal that is given the result of a run completes its id as any other result does
abbrev pub as_given : Option Completes → Option Completes
as_given None = None
as_given (Some completes.AnyResult) = Some completes.AnyResult
as_given (Some completes.InvocationId) = Some completes.InvocationId
as_given (Some completes.Proposal) = Some completes.AnyResult

-- the fault of a notification
abbrev pub given_note_fault : NotificationId → NotificationResult → List (List ℕ)
    → Option JournalFault
given_note_fault (CompletionId id) brings journal = completion_fault
    (as_given (completes_among id (said_in journal) None)) (completes_id id (notes_in journal))
    brings (room_fault journal)
given_note_fault (SignalId id) brings journal = room_fault journal
given_note_fault (SignalName name) brings journal = room_fault journal

-- the fault of a notification, if it is one
abbrev pub noted_fault : Option Notification → List (List ℕ) → Option JournalFault
noted_fault None journal = None
noted_fault (Some n) journal = given_note_fault n.id n.result journal

-- whether a frame may stand as an entry: the first is an input, and each is a command or a
-- notification; they can be read
abbrev pub may_be_given : Bool → RawMessage → Bool
may_be_given true raw = is_some (input_read_from raw)
may_be_given false raw = is_some (said_by raw) || is_some (note_of raw)

-- the fault of what may not stand
abbrev pub place_fault : Bool → Option JournalFault
place_fault true = None
place_fault false = Some journal_fault.BadJournal

-- the fault of a frame
abbrev pub frame_fault : RawMessage → List (List ℕ) → Option JournalFault
frame_fault raw journal = option_or (noted_fault (note_of raw) journal)
    (option_or (room_fault journal) (place_fault (may_be_given (length journal == 0) raw)))

-- the fault of what may be a frame
abbrev pub framed_fault : Option RawMessage → List (List ℕ) → Option JournalFault
framed_fault None journal = option_or (room_fault journal) (Some journal_fault.BadJournal)
framed_fault (Some raw) journal = frame_fault raw journal

-- The first fault of an entry after these, out of memory aside: a completion of no id that a
-- command carries, of one that was completed, or of an invocation's id by something else; the
-- journal is full; or it isn't one whole frame that may stand there.
abbrev pub given_fault : List ℕ → List (List ℕ) → Option JournalFault
given_fault bytes journal = framed_fault (frame_in bytes) journal

-- ---- all entries

-- none of these entries has a fault after the entries before it
abbrev pub AreGiven : List (List ℕ) → List (List ℕ) → Type 0
AreGiven journal [] = Unit {0}
AreGiven journal (x ∷ xs) = (given_fault x journal ≡ None) × AreGiven (journal ++ x ∷ []) xs

-- the first of these entries that has a fault has this one
abbrev pub FirstGiven : List (List ℕ) → List (List ℕ) → JournalFault → Type 0
FirstGiven journal [] f = ⊥
FirstGiven journal (x ∷ xs) f = (given_fault x journal ≡ Some f)
    ⊎ ((given_fault x journal ≡ None) × FirstGiven (journal ++ x ∷ []) xs f)

-- the fault of a journal that is given, out of memory aside: it has no entry, or the first entry
-- that has a fault has this one
abbrev pub GivenFaults : List (List ℕ) → JournalFault → Type 0
GivenFaults entries f = ((entries ≡ []) × (f ≡ journal_fault.BadJournal)) ⊎ FirstGiven [] entries f
