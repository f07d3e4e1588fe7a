-- The numbers of a message, as C is given them.
use Rattle.std.specs.Prelude.{ℕ, length, Option, Some, None}
use Rattle.journal_protocol.specs.ErrorBehavior.{ErrorBehavior}
use Rattle.journal_protocol.specs.ErrorBehavior.TheVariants as behavior
use Rattle.journal_protocol.specs.ErrorMessage.{ErrorMessage}
use Rattle.journal_protocol.specs.InvocationTarget.{InvocationTarget}
use Rattle.journal_protocol.specs.InvocationTarget.TheVariants as target
use Rattle.journal_protocol.specs.Message.{Message}
use Rattle.journal_protocol.specs.Message.TheVariants as message
use Rattle.journal_protocol.specs.NotificationId.{NotificationId}
use Rattle.journal_protocol.specs.NotificationId.TheVariants.{CompletionId, SignalId, SignalName}
use Rattle.journal_protocol.specs.NotificationResult.{NotificationResult}
use Rattle.journal_protocol.specs.NotificationResult.TheVariants as result
use Rattle.journal_protocol.specs.Signal.{Signal}
use Rattle.journal_protocol.specs.Signal.TheVariants as signal
use Rattle.journal_protocol.specs.SignalResult.{SignalResult}
use Rattle.journal_protocol.specs.SignalResult.TheVariants as sent
use Rattle.journal_protocol.specs.ValueOrFailure.{ValueOrFailure}
use Rattle.journal_protocol.specs.ValueOrFailure.TheVariants as given
use Rattle.c_values.specs.declared.status.Status.{Status}
use Rattle.c_values.specs.Statuses.{status_number}
use Rattle.c_values.specs.declared.numbers.FrameRow.{FrameRow}
use Rattle.c_values.specs.declared.numbers.ResultNumbers.{ResultNumbers}

-- no row, and why
abbrev pub unread_row : Status → FrameRow
unread_row status = record {
  status = status_number status;
  ty = 0;
  kind = 0;
  result = 0;
  id = 0;
  second = 0;
  number = 0;
  rows = 0;
}

-- a row of these numbers
abbrev pub row_told : ℕ → ℕ → ℕ → ℕ → ℕ → FrameRow
row_told kind id second number rows = record {
  status = 0;
  ty = 0;
  kind = kind;
  result = 0;
  id = id;
  second = second;
  number = number;
  rows = rows;
}

-- a row of an id and a result
abbrev pub one_result : ℕ → ℕ → ResultNumbers → FrameRow
one_result kind id found = record {
  status = 0;
  ty = 0;
  kind = kind;
  result = found.kind;
  id = id;
  second = found.code;
  number = 0;
  rows = found.rows;
}

-- what a result is: 0 none, 1 void, 2 bytes, 3 a failure, with its code and how many pairs it has,
-- 4 keys, and how many, 5 the id of an invocation
abbrev pub no_result : ℕ → ResultNumbers
no_result kind = record { kind = kind; code = 0; rows = 0 }

abbrev pub given_result : ValueOrFailure → ResultNumbers
given_result (given.Value bytes) = no_result 2
given_result (given.Failure failure) =
    record { kind = 3; code = failure.code; rows = length failure.metadata }

abbrev pub sent_result : SignalResult → ResultNumbers
sent_result sent.Void = no_result 1
sent_result (sent.Value bytes) = no_result 2
sent_result (sent.Failure failure) =
    record { kind = 3; code = failure.code; rows = length failure.metadata }

abbrev pub arrived_result : NotificationResult → ResultNumbers
arrived_result result.Void = no_result 1
arrived_result (result.Value bytes) = no_result 2
arrived_result (result.Failure failure) =
    record { kind = 3; code = failure.code; rows = length failure.metadata }
arrived_result (result.StateKeys keys) = record { kind = 4; code = 0; rows = length keys }
arrived_result (result.InvocationId id) = no_result 5

-- which id a notification has: 0 a completion id, 1 a signal's number, 2 a signal's name
abbrev pub id_told : NotificationId → ResultNumbers → FrameRow
id_told (CompletionId id) found = one_result 0 id found
id_told (SignalId id) found = one_result 1 id found
id_told (SignalName name) found = one_result 2 0 found

-- the same of a signal that is sent
abbrev pub signal_told : Signal → ResultNumbers → FrameRow
signal_told (signal.Index index) found = one_result 1 index found
signal_told (signal.Name name) found = one_result 2 0 found

-- which invocation is meant: 0 that of an id, 1 a workflow, 2 one with an idempotency key
abbrev pub target_code : InvocationTarget → ℕ
target_code (target.InvocationId id) = 0
target_code (target.WorkflowId workflow) = 1
target_code (target.IdempotencyId call) = 2

-- how an error is to be taken: 0 tried again, 1 paused, 2 failed
abbrev pub behavior_code : ErrorBehavior → ℕ
behavior_code behavior.Retry = 0
behavior_code behavior.Pause = 1
behavior_code behavior.Fail = 2

-- an error's delay, if it has one
abbrev pub delay_told : ℕ → ℕ → Option ℕ → FrameRow
delay_told behavior code (Some delay) = row_told behavior code 1 delay 0
delay_told behavior code None = row_told behavior code 0 0 0

abbrev pub error_row : ErrorMessage → FrameRow
error_row e = delay_told (behavior_code e.behavior) e.code e.delay

-- the numbers of a message, without those that nobody asks for
abbrev pub message_numbers : Message → FrameRow
message_numbers (message.Error m) = error_row m
message_numbers (message.ProposeRunCompletion m) = one_result 0 m.id (given_result m.result)
message_numbers (message.ProposeRunCompletionAck m) = row_told 0 m.id 0 0 0
message_numbers (message.Input m) = row_told 0 0 0 0 (length m.headers)
message_numbers (message.GetLazyState m) = row_told 0 m.result_completion_id 0 0 0
message_numbers (message.GetLazyStateKeys m) = row_told 0 m.result_completion_id 0 0 0
message_numbers (message.Sleep m) = row_told 0 m.result_completion_id 0 m.wake_up_time 0
message_numbers (message.Call m) =
    row_told 0 m.result_completion_id m.request.invocation_id_notification_idx 0
    (length m.request.headers)
message_numbers (message.OneWayCall m) =
    row_told 0 0 m.request.invocation_id_notification_idx m.invoke_time (length m.request.headers)
message_numbers (message.CompleteAwakeable m) = one_result 0 0 (given_result m.result)
message_numbers (message.SendSignal m) = signal_told m.signal (sent_result m.result)
message_numbers (message.GetPromise m) = row_told 0 m.result_completion_id 0 0 0
message_numbers (message.PeekPromise m) = row_told 0 m.result_completion_id 0 0 0
message_numbers (message.CompletePromise m) =
    one_result 0 m.result_completion_id (given_result m.completion)
message_numbers (message.Run m) = row_told 0 m.result_completion_id 0 0 0
message_numbers (message.AttachInvocation m) =
    row_told (target_code m.target) m.result_completion_id 0 0 0
message_numbers (message.GetInvocationOutput m) =
    row_told (target_code m.target) m.result_completion_id 0 0 0
message_numbers (message.Output m) = one_result 0 0 (given_result m.result)
message_numbers (message.Notification m) = id_told m.id (arrived_result m.result)
message_numbers m = row_told 0 0 0 0 0
