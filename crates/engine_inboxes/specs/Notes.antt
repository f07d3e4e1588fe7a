-- The notification that something which waits becomes by what is there for it.
use Rattle.std.specs.Prelude.{ℕ, nat_le, if◌then◌else◌, Option, Some, None}
use Rattle.journal_protocol.specs.Notification.{Notification}
use Rattle.journal_protocol.specs.NotificationId.{NotificationId}
use Rattle.journal_protocol.specs.NotificationId.TheVariants.{CompletionId, SignalId, SignalName}
use Rattle.journal_protocol.specs.NotificationResult.{NotificationResult}
use Rattle.journal_protocol.specs.NotificationResult.TheVariants as result
use Rattle.journal_protocol.specs.Signal.{Signal}
use Rattle.journal_protocol.specs.Signal.TheVariants as signal
use Rattle.journal_store.specs.Effects.{completing_result}
use Rattle.engine_inboxes.specs.declared.types.Waiting.{Waiting}
use Rattle.engine_inboxes.specs.declared.types.Waiting.TheVariants as waiting
use Rattle.engine_inboxes.specs.declared.types.Brought.{Brought}
use Rattle.engine_inboxes.specs.declared.types.Brought.TheVariants as brought

-- a completion
abbrev pub completion : ℕ → NotificationResult → Notification
completion id brings = record { id = CompletionId id; result = brings }

-- which signal it is
abbrev pub signal_id : Signal → NotificationId
signal_id (signal.Index index) = SignalId index
signal_id (signal.Name name) = SignalName name

-- a signal
abbrev pub signal_note : Signal → NotificationResult → Notification
signal_note s brings = record { id = signal_id s; result = brings }

-- A call's first id is completed by its callee's id, its second by the callee's result, a sleep's
-- by nothing else than that it is late enough; a signal comes as it was sent.
abbrev pub note_by : Waiting → Brought → Option Notification
note_by (waiting.Id id) (brought.Id text) = Some (completion id (result.InvocationId text))
note_by (waiting.Outcome completes call) (brought.Outcome ends) = Some
    (completion completes (completing_result ends))
note_by (waiting.Clock timer) (brought.Time now) = if nat_le timer.due now then Some
    (completion timer.completes result.Void) else None
note_by (waiting.Signal s brings) (brought.Time now) = Some (signal_note s brings)
note_by w b = None
