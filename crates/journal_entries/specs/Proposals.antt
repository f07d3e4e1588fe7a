-- Results that an attempt proposes, and the completions that they become.
use Rattle.journal_protocol.specs.NotificationResult.{NotificationResult}
use Rattle.journal_protocol.specs.NotificationResult.TheVariants as comes
use Rattle.journal_protocol.specs.ValueOrFailure.{ValueOrFailure}
use Rattle.journal_protocol.specs.ValueOrFailure.TheVariants as proposed
use Rattle.journal_protocol.specs.Notification.{Notification}
use Rattle.journal_protocol.specs.NotificationId.TheVariants.{CompletionId}
use Rattle.std.specs.Prelude.{ℕ}
use Rattle.journal_protocol.specs.ProposeRunCompletion.{ProposeRunCompletion}

-- a proposed result, as the run's completion brings it
abbrev pub completion_result : ValueOrFailure → NotificationResult
completion_result (proposed.Value value) = comes.Value value
completion_result (proposed.Failure failure) = comes.Failure failure

-- the completion of this id that a kept proposal stands for
abbrev pub acknowledged_completion : ℕ → ProposeRunCompletion → Notification
acknowledged_completion id kept =
    record { id = CompletionId id; result = completion_result kept.result }
