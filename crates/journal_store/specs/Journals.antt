-- What the object knows of a journal, and what it is to it that an entry is appended.
use Rattle.std.specs.Prelude.{◌≡◌, ◌⊎◌, ℕ, ◌+◌, ◌==◌, ◌||◌, Bool, true, false, if◌then◌else◌, List, [], ◌∷◌, ◌++◌, length, Option, Some, None, is_some}
use Rattle.std.specs.Option.{option_or}
use Rattle.journal_protocol.specs.Message.{Message}
use Rattle.journal_protocol.specs.RawMessage.{RawMessage}
use Rattle.journal_protocol.specs.Notification.{Notification}
use Rattle.journal_protocol.specs.NotificationId.{NotificationId}
use Rattle.journal_protocol.specs.NotificationId.TheVariants.{CompletionId, SignalId, SignalName}
use Rattle.journal_protocol.specs.NotificationResult.{NotificationResult}
use Rattle.journal_entries.specs.Journal.{input_read_from}
use Rattle.journal_entries.specs.declared.completions.Completes.{Completes}
use Rattle.journal_entries.specs.declared.fault.JournalFault.{JournalFault}
use Rattle.journal_entries.specs.declared.fault.JournalFault.TheVariants as journal_fault
use Rattle.journal_entries.specs.Arrivals.{completes_by, completion_fault, is_of, most_entries, proposed_fault}
use Rattle.journal_entries.specs.Entries.{note_of as note_by, said_by}
use Rattle.journal_entries.specs.Given.{as_given, frame_fault, place_fault}
use Rattle.journal_store.specs.declared.known.Known.{Known}
use Rattle.journal_store.specs.declared.frames.Part.{Part}
use Rattle.journal_store.specs.declared.frames.Part.TheVariants as part
use Rattle.journal_store.specs.Ids.{SaysWith, Seen, known_kept, known_now}
use Rattle.journal_store.specs.Known.{IsKnown}

-- the ids, how many entries there are, and how many there were at the last commit
pub record JournalView : Type 0 where
  pub ids : Seen
  pub entries : ℕ
  pub kept : ℕ

-- the object knows of this journal what there is to know
pub record Holds (view : JournalView) (journal : List (List ℕ)) : Type 0 where
  pub ids : (id : ℕ) → IsKnown journal id (known_now view.ids id)
  pub count : view.entries ≡ length journal

-- the same of the journal at the last commit
pub record Kept (view : JournalView) (journal : List (List ℕ)) : Type 0 where
  pub ids : (id : ℕ) → IsKnown journal id (known_kept view.ids id)
  pub count : view.kept ≡ length journal

-- what was known at the last commit is known as it was
pub record IsSameKept (old : JournalView) (new : JournalView) : Type 0 where
  pub ids : new.ids.kept ≡ old.ids.kept
  pub count : new.kept ≡ old.kept

-- ---- an entry is appended

-- what completes an id, by what an entry says if it is a command, or else as before
abbrev pub completes_read : ℕ → Option Message → Option Completes → Option Completes
completes_read id None before = before
completes_read id (Some command) before = completes_by id command before

-- whether an id is completed, by an entry if it is a notification, or was before
abbrev pub done_read : ℕ → Option Notification → Bool → Bool
done_read id None done = done
done_read id (Some note) done = done || is_of id note.id

-- an entry is appended that says this, if it is a command, or that is this notification, if it is
-- one
pub record Appends (said : Option Message) (note : Option Notification) (old : JournalView)
    (new : JournalView) : Type 0 where
  pub ids : SaysWith (λ id before. completes_read id said before)
      (λ id done. done_read id note done) old.ids new.ids
  pub count : new.entries ≡ old.entries + 1

-- ---- what comes of an entry

-- after each journal that is known the entry has no fault, and with it the journal is known
abbrev pub Enters : (List (List ℕ) → Option JournalFault) → List ℕ → JournalView → JournalView
    → Type 0
Enters fault entry old new =
    (journal : List (List ℕ)) → Holds old journal → (fault journal ≡ None)
    × Holds new (journal ++ entry ∷ [])

-- it is out of memory, or the fault after each journal that is known
abbrev pub IsFault : (List (List ℕ) → Option JournalFault) → JournalView → JournalFault → Type 0
IsFault fault view f =
    (f ≡ journal_fault.Memory)
    ⊎ ((journal : List (List ℕ)) → Holds view journal → fault journal ≡ Some f)

-- after each journal that is known the frame has no fault, and it is appended
abbrev pub Loads : RawMessage → JournalView → JournalView → Type 0
Loads raw old new =
    (journal : List (List ℕ)) → Holds old journal
    → (frame_fault raw journal ≡ None) × Appends (said_by raw) (note_by raw) old new

-- ---- faults, by what is known

-- what a frame says as a command
abbrev pub command_of_part : Part → Option Message
command_of_part (part.Command command) = Some command
command_of_part (part.Arrived note) = None
command_of_part part.Other = None

-- the notification that a frame is
abbrev pub note_of_part : Part → Option Notification
note_of_part (part.Command command) = None
note_of_part (part.Arrived note) = Some note
note_of_part part.Other = None

-- the fault of a journal that is full
abbrev pub room_at : ℕ → Option JournalFault
room_at entries = if entries == most_entries then Some journal_fault.JournalFull else None

-- the fault of a completion, by what is known of its id
abbrev pub known_fault : Known → NotificationResult → Option JournalFault → Option JournalFault
known_fault known brings room =
    completion_fault known.kind known.done brings room

-- the same in a journal that is given
abbrev pub known_given : Known → NotificationResult → Option JournalFault → Option JournalFault
known_given known brings room =
    completion_fault (as_given known.kind) known.done brings room

-- the fault of a notification
abbrev pub arriving_fault : NotificationId → NotificationResult → JournalView → Option JournalFault
arriving_fault (CompletionId id) brings view = known_fault (known_now view.ids id) brings
    (room_at view.entries)
arriving_fault (SignalId id) brings view = room_at view.entries
arriving_fault (SignalName name) brings view = room_at view.entries

-- the fault of a notification in a journal that is given
abbrev pub loaded_note_fault : NotificationId → NotificationResult → JournalView
    → Option JournalFault
loaded_note_fault (CompletionId id) brings view = known_given (known_now view.ids id) brings
    (room_at view.entries)
loaded_note_fault (SignalId id) brings view = room_at view.entries
loaded_note_fault (SignalName name) brings view = room_at view.entries

-- the fault of a notification in a journal that is given, if it is one
abbrev pub optional_note_fault : Option Notification → JournalView → Option JournalFault
optional_note_fault None view = None
optional_note_fault (Some note) view = loaded_note_fault note.id note.result view

-- whether a frame may stand as an entry, the first of a journal or another
abbrev pub may_be_loaded : Bool → RawMessage → Part → Bool
may_be_loaded true raw read = is_some (input_read_from raw)
may_be_loaded false raw read = is_some (command_of_part read) || is_some (note_of_part read)

-- the fault of a frame in a journal that is given, and of what was read from it
abbrev pub loaded_fault : RawMessage → Part → JournalView → Option JournalFault
loaded_fault raw read view = option_or (optional_note_fault (note_of_part read) view)
    (option_or (room_at view.entries) (place_fault (may_be_loaded (view.entries == 0) raw read)))

-- the fault of a proposal
abbrev pub proposing_fault : ℕ → JournalView → Option JournalFault
proposing_fault id view = proposed_fault (known_now view.ids id).kind
    (known_now view.ids id).done (room_at view.entries)
