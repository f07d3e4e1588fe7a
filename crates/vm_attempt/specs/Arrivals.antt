-- What frames bring to an attempt: a notification is an arrival, and an acknowledgement stands as
-- the completion of its run, with the result that was proposed.
use Rattle.std.specs.Prelude.{◌≡◌, true, if◌then◌else◌, IsSome, List, [], ◌∷◌, Option, Some, None}
use Rattle.std.specs.List.{find}
use Rattle.std.specs.Option.{option_map}
use Rattle.journal_protocol.specs.ProposeRunCompletionAck.{ProposeRunCompletionAck}
use Rattle.journal_protocol.specs.RawMessage.{RawMessage}
use Rattle.journal_protocol.specs.Bodies.{acknowledgement_in, notification_in}
use Rattle.journal_protocol.specs.Notification.{Notification}
use Rattle.vm_runs.specs.Firsts.{without_first}
use Rattle.vm_runs.specs.Kept.{is_for}
use Rattle.journal_protocol.specs.ProposeRunCompletion.{ProposeRunCompletion}
use Rattle.journal_entries.specs.Proposals.{acknowledged_completion}
use Rattle.journal_entries.specs.JournalFrames.{is_acknowledgement, is_notification, notified_by}

-- the completion that an acknowledgement stands for, where a result was proposed under its id
abbrev pub acknowledged_as : List ProposeRunCompletion → Option ProposeRunCompletionAck
    → Option Notification
acknowledged_as kept None = None
acknowledged_as kept (Some ack) = option_map (acknowledged_completion ack.id)
    (find (is_for ack.id) kept)

-- the arrival that a frame brings, if it brings one
abbrev pub arrival_of : List ProposeRunCompletion → RawMessage → Option Notification
arrival_of kept raw =
    if is_notification raw then notification_in raw.body
    else if is_acknowledgement raw then acknowledged_as kept (acknowledgement_in raw.body)
    else None

-- the proposals that aren't acknowledged yet
abbrev pub unacknowledged : List ProposeRunCompletion → Option ProposeRunCompletionAck
    → List ProposeRunCompletion
unacknowledged kept None = kept
unacknowledged kept (Some ack) = without_first (is_for ack.id) kept

-- what is kept after a frame: each proposal is acknowledged once
abbrev pub kept_behind : List ProposeRunCompletion → RawMessage → List ProposeRunCompletion
kept_behind kept raw =
    if is_acknowledgement raw then unacknowledged kept (acknowledgement_in raw.body) else kept

-- the arrivals that frames bring, in order
abbrev pub arriving : List ProposeRunCompletion → List RawMessage → List Notification
arriving kept [] = []
arriving kept (raw ∷ raws) = notified_by (arrival_of kept raw)
    (arriving (kept_behind kept raw) raws)

-- what is kept after them
abbrev pub kept_after : List ProposeRunCompletion → List RawMessage → List ProposeRunCompletion
kept_after kept [] = kept
kept_after kept (raw ∷ raws) = kept_after (kept_behind kept raw) raws

-- an acknowledgement is of a proposal that is kept
abbrev pub IsOfKept : List ProposeRunCompletion → Option ProposeRunCompletionAck → Type 0
IsOfKept kept None = Unit {0}
IsOfKept kept (Some ack) = IsSome (find (is_for ack.id) kept)

-- the frame is no acknowledgement, or one of a proposal that is kept
abbrev pub FindsProposal : List ProposeRunCompletion → RawMessage → Type 0
FindsProposal kept raw = is_acknowledgement raw ≡ true → IsOfKept kept (acknowledgement_in raw.body)

-- each acknowledgement among some frames finds its proposal
abbrev pub AllFound : List ProposeRunCompletion → List RawMessage → Type 0
AllFound kept [] = Unit {0}
AllFound kept (raw ∷ raws) = FindsProposal kept raw × AllFound (kept_behind kept raw) raws
