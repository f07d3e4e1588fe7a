-- The frames of a journal: which of them are commands, notifications and acknowledgements, and
-- which entries they are.
use Rattle.std.specs.Prelude.{◌≡◌, Bool, true, false, ◌==◌, cond, List, [], ◌∷◌, Option, Some, None}
use Rattle.journal_protocol.specs.RawMessage.{RawMessage}
use Rattle.journal_protocol.specs.Notification.{Notification}
use Rattle.journal_protocol.specs.Bodies.{notification_in}
use Rattle.journal_protocol.specs.Commands.{is_command}
use Rattle.journal_protocol.specs.Types.{type_number}
use Rattle.journal_entries.specs.Journal.{Entry, Recorded, Notified}

-- the frame is one of a command
abbrev pub is_command_frame : RawMessage → Bool
is_command_frame raw = is_command raw.ty

-- the frame is one of a notification
abbrev pub is_notification : RawMessage → Bool
is_notification raw = type_number raw.ty == 30

-- the frame is one of a proposal
abbrev pub is_proposal : RawMessage → Bool
is_proposal raw = type_number raw.ty == 5

-- the frame is an acknowledgement of a proposal
abbrev pub is_acknowledgement : RawMessage → Bool
is_acknowledgement raw = type_number raw.ty == 6

-- the frame brings the result of an ephemeral read
abbrev pub is_ephemeral : RawMessage → Bool
is_ephemeral raw = type_number raw.ty == 9

-- the frame is no acknowledgement
abbrev pub AcknowledgesNothing : RawMessage → Type 0
AcknowledgesNothing raw = is_acknowledgement raw ≡ false

-- the commands among some frames
abbrev pub commands_among : List RawMessage → List RawMessage
commands_among [] = []
commands_among (raw ∷ raws) = cond (is_command_frame raw) (raw
    ∷ commands_among raws) (commands_among raws)

-- with the notification that was read, if there was one
abbrev pub notified_by : Option Notification → List Notification → List Notification
notified_by None ns = ns
notified_by (Some n) ns = n ∷ ns

-- the notifications among some frames; a body that encodes none brings none
abbrev pub notifications_among : List RawMessage → List Notification
notifications_among [] = []
notifications_among (raw
    ∷ raws) = cond (is_notification raw)
    (notified_by (notification_in raw.body) (notifications_among raws)) (notifications_among raws)

-- a command's frame as an entry, before others
abbrev pub recorded_by : Bool → RawMessage → List Entry → List Entry
recorded_by true raw es = Recorded raw ∷ es
recorded_by false raw es = es

-- a notification as an entry, if there is one
abbrev pub told_by : Option Notification → List Entry → List Entry
told_by None es = es
told_by (Some n) es = Notified n ∷ es

-- frames as the entries of a journal; a notification's body that encodes none is no entry
abbrev pub as_entries : List RawMessage → List Entry
as_entries [] = []
as_entries (raw ∷ raws) = recorded_by (is_command_frame raw) raw
    (cond (is_notification raw) (told_by (notification_in raw.body) (as_entries raws))
    (as_entries raws))
