-- The result that a message has, as a notification has it.
use Rattle.std.specs.Prelude.{Option, Some, None}
use Rattle.journal_protocol.specs.Message.{Message}
use Rattle.journal_protocol.specs.Message.TheVariants as message
use Rattle.journal_protocol.specs.NotificationId.{NotificationId}
use Rattle.journal_protocol.specs.NotificationResult.{NotificationResult}
use Rattle.journal_protocol.specs.NotificationResult.TheVariants as result
use Rattle.journal_protocol.specs.SignalResult.{SignalResult}
use Rattle.journal_protocol.specs.SignalResult.TheVariants as signal_result
use Rattle.journal_entries.specs.Proposals.{completion_result}

-- the result of a signal
abbrev pub delivered_result : SignalResult → NotificationResult
delivered_result signal_result.Void = result.Void
delivered_result (signal_result.Value value) = result.Value value
delivered_result (signal_result.Failure failure) = result.Failure failure

-- The result that a message has. One without a result brings none.
abbrev pub result_of_message : Message → Option NotificationResult
result_of_message (message.ProposeRunCompletion m) = Some (completion_result m.result)
result_of_message (message.CompleteAwakeable m) = Some (completion_result m.result)
result_of_message (message.SendSignal m) = Some (delivered_result m.result)
result_of_message (message.CompletePromise m) = Some (completion_result m.completion)
result_of_message (message.Output m) = Some (completion_result m.result)
result_of_message (message.Notification m) = Some m.result
result_of_message m = None

-- the message of a notification
abbrev pub notification_message : NotificationId → NotificationResult → Message
notification_message id result = message.Notification (record { id = id; result = result })
