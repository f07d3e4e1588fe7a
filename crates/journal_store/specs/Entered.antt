-- What an entry is to who stores it: the type of its message, and the completion id that it
-- completes.
use Rattle.std.specs.Prelude.{ℕ, List, Option, Some, None}
use Rattle.journal_protocol.specs.RawMessage.{RawMessage}
use Rattle.journal_protocol.specs.Notification.{Notification}
use Rattle.journal_protocol.specs.NotificationId.{NotificationId}
use Rattle.journal_protocol.specs.NotificationId.TheVariants.{CompletionId, SignalId, SignalName}
use Rattle.journal_entries.specs.Entries.{frame_in, note_of}
use Rattle.journal_store.specs.declared.entered.Entered.{Entered}

-- the completion id that an id of a notification is
abbrev pub completed_id : NotificationId → Option ℕ
completed_id (CompletionId id) = Some id
completed_id (SignalId id) = None
completed_id (SignalName name) = None

-- the completion id that a notification completes
abbrev pub id_completed : Option Notification → Option ℕ
id_completed None = None
id_completed (Some note) = completed_id note.id

-- a frame, as an entry
abbrev pub entered_as : RawMessage → Entered
entered_as raw = record { ty = raw.ty; completes = id_completed (note_of raw) }

-- the same, if there is a frame
abbrev pub entered_by : Option RawMessage → Option Entered
entered_by None = None
entered_by (Some raw) = Some (entered_as raw)

-- what an entry is, if it is one whole frame
abbrev pub entered_in : List ℕ → Option Entered
entered_in entry = entered_by (frame_in entry)
