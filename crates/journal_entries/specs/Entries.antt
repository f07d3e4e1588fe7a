-- The entries of a journal, which are stored as frames: commands and notifications.
use Rattle.std.specs.Prelude.{◌≡◌, ℕ, ◌||◌, Bool, true, false, cond, List, [], ◌∷◌, Option, Some, None, is_some}
use Rattle.std.specs.List.{AllByRecursion}
use Rattle.journal_protocol.specs.Message.{Message}
use Rattle.journal_protocol.specs.RawMessage.{RawMessage}
use Rattle.journal_protocol.specs.Notification.{Notification}
use Rattle.journal_protocol.specs.Frames.{NextFrame, Whole, Partial, Malformed, next_of, frame}
use Rattle.journal_protocol.specs.Bodies.{message_in, notification_in}
use Rattle.journal_entries.specs.Journal.{Entry, read_before}
use Rattle.journal_entries.specs.JournalFrames.{as_entries, is_command_frame, is_notification, notified_by}

-- a frame's bytes
abbrev pub frame_of : RawMessage → List ℕ
frame_of raw = frame raw.ty raw.body

-- ---- one entry

-- one whole frame and nothing after it
abbrev pub only_frame : NextFrame → Option RawMessage
only_frame (Whole raw []) = Some raw
only_frame (Whole raw (b ∷ bytes)) = None
only_frame Partial = None
only_frame Malformed = None

-- the frame that some bytes are, if they are one and nothing more
abbrev pub frame_in : List ℕ → Option RawMessage
frame_in bytes = only_frame (next_of bytes)

-- the notification that a frame is, if it is one and can be read
abbrev pub note_of : RawMessage → Option Notification
note_of raw = cond (is_notification raw) (notification_in raw.body) None

-- what a frame says, if it is one of a command and can be read
abbrev pub said_by : RawMessage → Option Message
said_by raw = cond (is_command_frame raw) (message_in raw.ty raw.body) None

-- what is read from a frame, if there is one
abbrev pub read_from : {A : Type 0} → (RawMessage → Option A) → Option RawMessage → Option A
read_from read None = None
read_from read (Some raw) = read raw

-- the notification that an entry is, if it is one
abbrev pub note_in : List ℕ → Option Notification
note_in bytes = read_from note_of (frame_in bytes)

-- what an entry says, if it is a command
abbrev pub said_at : List ℕ → Option Message
said_at bytes = read_from said_by (frame_in bytes)

-- the frame is one of a command, or a notification that can be read
abbrev pub may_stand : Option RawMessage → Bool
may_stand None = false
may_stand (Some raw) = is_command_frame raw || is_some (note_of raw)

-- ---- a journal

-- each of these bytes is an entry
abbrev pub AreEntries : List (List ℕ) → Type 0
AreEntries journal = AllByRecursion (λ bytes. may_stand (frame_in bytes) ≡ true) journal

-- a frame comes first, if there is one
abbrev pub framed_by : Option RawMessage → List RawMessage → List RawMessage
framed_by None raws = raws
framed_by (Some raw) raws = raw ∷ raws

-- the frames of a journal
abbrev pub journal_frames : List (List ℕ) → List RawMessage
journal_frames [] = []
journal_frames (bytes ∷ journal) = framed_by (frame_in bytes) (journal_frames journal)

-- the entries of a journal
abbrev pub journal_entries : List (List ℕ) → List Entry
journal_entries journal = as_entries (journal_frames journal)

-- the notifications of a journal, in order
abbrev pub notes_in : List (List ℕ) → List Notification
notes_in [] = []
notes_in (bytes ∷ journal) = notified_by (note_in bytes) (notes_in journal)

-- what the commands of a journal say, in order
abbrev pub said_in : List (List ℕ) → List Message
said_in [] = []
said_in (bytes ∷ journal) = read_before (said_at bytes) (said_in journal)
