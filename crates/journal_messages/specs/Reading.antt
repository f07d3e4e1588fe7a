-- The message that a body encodes, as a function of the body.
use Rattle.std.specs.Prelude.{ℕ, List, Option}
use Rattle.std.specs.Option.{option_map}
use Rattle.wire.specs.Format.{Format}
use Rattle.wire.specs.Forms.{nothing_format}
use Rattle.wire.specs.Reads.{read_all}
use Rattle.journal_attempt.specs.Bodies.{start_format, suspension_format, propose_run_completion_format, propose_run_completion_ack_format, awaiting_on_format, input_format, sleep_format, run_format, output_format}
use Rattle.journal_errors.specs.Bodies.{error_format}
use Rattle.journal_state.specs.Bodies.{get_state_ephemeral_command_format, get_state_ephemeral_notification_format, get_eager_state_format, get_lazy_state_format, get_eager_state_keys_format, get_lazy_state_keys_format, set_state_format, clear_state_format, clear_all_state_format}
use Rattle.journal_calls.specs.Bodies.{call_format, one_way_call_format, complete_awakeable_format, send_signal_format, promise_format, complete_promise_format, invocation_format}
use Rattle.journal_values.specs.Bodies.{notification_format}
use Rattle.journal_attempt.specs.declared.start.Start.{Start}
use Rattle.journal_attempt.specs.declared.commands.InputCommand.{InputCommand}
use Rattle.journal_attempt.specs.declared.runs.ProposeRunCompletion.{ProposeRunCompletion}
use Rattle.journal_attempt.specs.declared.runs.ProposeRunCompletionAck.{ProposeRunCompletionAck}
use Rattle.journal_state.specs.declared.state.GetStateEphemeralNotification.{GetStateEphemeralNotification}
use Rattle.journal_values.specs.declared.notification.Notification.{Notification}
use Rattle.journal_errors.specs.declared.types.MessageType.{MessageType}
use Rattle.journal_errors.specs.declared.types.MessageType.TheVariants as type
use Rattle.journal_messages.specs.declared.message.Message.{Message}
use Rattle.journal_messages.specs.declared.message.Message.TheVariants as message

-- the value whose encoding in a format is the whole body; None if it is no value's
unfoldable pub body_as : {A : Type 0} → Format A → List ℕ → Option A
body_as = read_all

-- the start whose body this is
unfoldable pub start_in : List ℕ → Option Start
start_in = body_as start_format

-- the input whose body this is
unfoldable pub input_in : List ℕ → Option InputCommand
input_in = body_as input_format

-- the notification whose body this is
unfoldable pub notification_in : List ℕ → Option Notification
notification_in = body_as notification_format

-- the acknowledgement whose body this is
unfoldable pub acknowledgement_in : List ℕ → Option ProposeRunCompletionAck
acknowledgement_in = body_as propose_run_completion_ack_format

-- the proposal whose body this is
unfoldable pub proposal_in : List ℕ → Option ProposeRunCompletion
proposal_in = body_as propose_run_completion_format

-- the notification of an ephemeral read whose body this is
unfoldable pub ephemeral_notification_in : List ℕ → Option GetStateEphemeralNotification
ephemeral_notification_in = body_as get_state_ephemeral_notification_format

-- the message of this type that the body encodes
unfoldable pub message_in : MessageType → List ℕ → Option Message
message_in type.Start b = option_map message.Start (start_in b)
message_in type.Suspension b = option_map message.Suspension (body_as suspension_format b)
message_in type.Error b = option_map message.Error (body_as error_format b)
message_in type.End b = option_map (λ _. message.End) (body_as nothing_format b)
message_in type.ProposeRunCompletion b = option_map message.ProposeRunCompletion (proposal_in b)
message_in type.ProposeRunCompletionAck b =
    option_map message.ProposeRunCompletionAck (acknowledgement_in b)
message_in type.AwaitingOn b = option_map message.AwaitingOn (body_as awaiting_on_format b)
message_in type.GetStateEphemeralCommand b =
    option_map message.GetStateEphemeralCommand (body_as get_state_ephemeral_command_format b)
message_in type.GetStateEphemeralNotification b =
    option_map message.GetStateEphemeralNotification (ephemeral_notification_in b)
message_in type.InputCommand b = option_map message.Input (input_in b)
message_in type.GetEagerStateCommand b =
    option_map message.GetEagerState (body_as get_eager_state_format b)
message_in type.GetLazyStateCommand b =
    option_map message.GetLazyState (body_as get_lazy_state_format b)
message_in type.GetEagerStateKeysCommand b =
    option_map message.GetEagerStateKeys (body_as get_eager_state_keys_format b)
message_in type.GetLazyStateKeysCommand b =
    option_map message.GetLazyStateKeys (body_as get_lazy_state_keys_format b)
message_in type.SetStateCommand b = option_map message.SetState (body_as set_state_format b)
message_in type.ClearStateCommand b = option_map message.ClearState (body_as clear_state_format b)
message_in type.ClearAllStateCommand b =
    option_map message.ClearAllState (body_as clear_all_state_format b)
message_in type.SleepCommand b = option_map message.Sleep (body_as sleep_format b)
message_in type.CallCommand b = option_map message.Call (body_as call_format b)
message_in type.OneWayCallCommand b = option_map message.OneWayCall (body_as one_way_call_format b)
message_in type.CompleteAwakeableCommand b =
    option_map message.CompleteAwakeable (body_as complete_awakeable_format b)
message_in type.SendSignalCommand b = option_map message.SendSignal (body_as send_signal_format b)
message_in type.GetPromiseCommand b = option_map message.GetPromise (body_as promise_format b)
message_in type.PeekPromiseCommand b = option_map message.PeekPromise (body_as promise_format b)
message_in type.CompletePromiseCommand b =
    option_map message.CompletePromise (body_as complete_promise_format b)
message_in type.RunCommand b = option_map message.Run (body_as run_format b)
message_in type.AttachInvocationCommand b =
    option_map message.AttachInvocation (body_as invocation_format b)
message_in type.GetInvocationOutputCommand b =
    option_map message.GetInvocationOutput (body_as invocation_format b)
message_in type.OutputCommand b = option_map message.Output (body_as output_format b)
message_in type.Notification b = option_map message.Notification (notification_in b)
