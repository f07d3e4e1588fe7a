-- What is read from the bytes that C gives, out of memory aside: a value, or why there is none.
use Rattle.std.specs.Prelude.{ℕ, ◌==◌, if◌then◌else◌, Bool, List, [], ◌∷◌, Option, Some, None, Result, Ok, Err}
use Rattle.std.specs.Str.{is_utf8}
use Rattle.journal_protocol.specs.Message.{Message}
use Rattle.journal_protocol.specs.Message.TheVariants as message
use Rattle.journal_protocol.specs.FutureNode.{FutureNode}
use Rattle.journal_protocol.specs.Notification.{Notification}
use Rattle.journal_protocol.specs.NotificationId.{NotificationId}
use Rattle.journal_protocol.specs.NotificationId.TheVariants.{CompletionId, SignalId, SignalName}
use Rattle.journal_protocol.specs.NotificationResult.{NotificationResult}
use Rattle.journal_protocol.specs.RawMessage.{RawMessage}
use Rattle.journal_protocol.specs.Bodies.{message_in}
use Rattle.journal_protocol.specs.Frames.{encoding}
use Rattle.journal_entries.specs.Frames.{Tail, Rest, Garbage, frames_of}
use Rattle.journal_entries.specs.JournalFrames.{notified_by}
use Rattle.journal_entries.specs.Entries.{frame_in, note_of}
use Rattle.await_arrivals.specs.Came.{Came}
use Rattle.c_values.specs.Waking.{is_awake_by, only_came}
use Rattle.c_values.specs.declared.status.Status.{Status}
use Rattle.c_values.specs.declared.status.Status.TheVariants as status
use Rattle.c_values.specs.Results.{notification_message, result_of_message}

-- a value, or why there is none
abbrev pub found_or : {A : Type 0} → Status → Option A → Result A Status
found_or why None = Err why
found_or why (Some a) = Ok a

-- what is made of a value, if there is one
abbrev pub if_found : {A B : Type 0} → (A → Result B Status) → Result A Status → Result B Status
if_found next (Err why) = Err why
if_found next (Ok a) = next a

-- the one whole frame that bytes are
abbrev pub frame_at : List ℕ → Result RawMessage Status
frame_at bytes = found_or status.NotAFrame (frame_in bytes)

-- ---- results

-- the id that a name is, which has to be UTF-8
abbrev pub name_id : List ℕ → Result NotificationId Status
name_id name = if is_utf8 name then Ok (SignalName name) else Err status.BadText

-- the id that a kind, a number and a name are: 0 a completion, 1 a signal by its number, 2 one by
-- its name
abbrev pub id_named : ℕ → ℕ → List ℕ → Result NotificationId Status
id_named kind number name =
    if kind == 0 then Ok (CompletionId number)
    else if kind == 1 then Ok (SignalId number)
    else if kind == 2 then name_id name
    else Err status.BadNumber

-- the result of a message that can be read
abbrev pub result_read : Option Message → Option NotificationResult
result_read None = None
result_read (Some m) = result_of_message m

-- the result of the message that a frame is
abbrev pub result_of_frame : List ℕ → Result NotificationResult Status
result_of_frame bytes = if_found
    (λ raw. found_or status.NoResult (result_read (message_in raw.ty raw.body))) (frame_at bytes)

-- the notification of an id, with the result that a frame has
abbrev pub notification_of : NotificationId → List ℕ → Result (List ℕ) Status
notification_of id bytes =
    if_found (λ result. Ok (encoding (notification_message id result))) (result_of_frame bytes)

-- the same of the id that a kind, a number and a name are
abbrev pub notification_at : ℕ → ℕ → List ℕ → List ℕ → Result (List ℕ) Status
notification_at kind number name bytes =
    if_found (λ id. notification_of id bytes) (id_named kind number name)

-- ---- futures

-- the future of a suspension
abbrev pub suspended_future : Option Message → Result (List FutureNode) Status
suspended_future (Some (message.Suspension m)) = Ok m.future
suspended_future m = Err status.NotASuspension

-- the notifications among frames, in order
abbrev pub notes_among : List RawMessage → List Notification
notes_among [] = []
notes_among (raw ∷ raws) = notified_by (note_of raw) (notes_among raws)

-- the notifications of frames, if nothing follows these
abbrev pub notes_before : List RawMessage × Tail → Result (List Notification) Status
notes_before (raws, Rest []) = Ok (notes_among raws)
notes_before (raws, Rest (b ∷ bytes)) = Err status.NotFrames
notes_before (raws, Garbage) = Err status.NotFrames

-- the notifications of a stream of whole frames; other frames count for nothing
abbrev pub notes_at : List ℕ → Result (List Notification) Status
notes_at stream = notes_before (frames_of stream)

-- the same, as what came
abbrev pub came_by : Result (List Notification) Status → Result Came Status
came_by (Err why) = Err why
came_by (Ok notes) = Ok (only_came notes)

-- whether a future is awake by the notifications of a stream
abbrev pub awake_by : List FutureNode → List ℕ → Result Bool Status
awake_by nodes stream = if_found (λ notes. Ok (is_awake_by nodes notes)) (notes_at stream)

-- whether the suspension that a message is is awake by them
abbrev pub message_awake : Option Message → List ℕ → Result Bool Status
message_awake m stream = if_found (λ nodes. awake_by nodes stream) (suspended_future m)

-- the same of the message that a frame is
abbrev pub awake_at : List ℕ → List ℕ → Result Bool Status
awake_at suspension stream =
    if_found (λ raw. message_awake (message_in raw.ty raw.body) stream) (frame_at suspension)
