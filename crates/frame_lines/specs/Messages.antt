-- A message as a line.
use Rattle.std.specs.Prelude.{◌≡◌, ℕ, List, [], false}
use Rattle.std.specs.Borrow.{Bor}
use Rattle.journal_protocol.specs.Frames.{type_of}
use Rattle.journal_protocol.specs.Message.{Message}
use Rattle.journal_protocol.specs.Message.TheVariants as message
use Rattle.frame_lines.specs.Forms.{awaiting_on_fields, call_fields, clear_all_state_fields, clear_state_fields, complete_awakeable_fields, complete_promise_fields, error_fields, get_eager_state_fields, get_eager_state_keys_fields, get_lazy_state_fields, get_lazy_state_keys_fields, get_state_ephemeral_command_fields, get_state_ephemeral_notification_fields, input_fields, invocation_fields, notification_fields, one_way_call_fields, output_fields, promise_fields, propose_run_completion_fields, propose_run_completion_ack_fields, run_fields, send_signal_fields, set_state_fields, sleep_fields, start_fields, suspension_fields}
use Rattle.frame_lines.specs.Names.{type_word}
use Rattle.frame_values.specs.Notation.{AreFields, Field, put_all}

-- the message's fields, in their order
unfoldable pub fields_of : Message → List Field
fields_of (message.Start m) = (start_fields).printed m
fields_of (message.Suspension m) = (suspension_fields).printed m
fields_of (message.Error m) = (error_fields).printed m
fields_of message.End = []
fields_of (message.ProposeRunCompletion m) = (propose_run_completion_fields).printed m
fields_of (message.ProposeRunCompletionAck m) = (propose_run_completion_ack_fields).printed m
fields_of (message.AwaitingOn m) = (awaiting_on_fields).printed m
fields_of (message.GetStateEphemeralCommand m) = (get_state_ephemeral_command_fields).printed m
fields_of (message.GetStateEphemeralNotification m) =
    (get_state_ephemeral_notification_fields).printed m
fields_of (message.Input m) = (input_fields).printed m
fields_of (message.GetEagerState m) = (get_eager_state_fields).printed m
fields_of (message.GetLazyState m) = (get_lazy_state_fields).printed m
fields_of (message.GetEagerStateKeys m) = (get_eager_state_keys_fields).printed m
fields_of (message.GetLazyStateKeys m) = (get_lazy_state_keys_fields).printed m
fields_of (message.SetState m) = (set_state_fields).printed m
fields_of (message.ClearState m) = (clear_state_fields).printed m
fields_of (message.ClearAllState m) = (clear_all_state_fields).printed m
fields_of (message.Sleep m) = (sleep_fields).printed m
fields_of (message.Call m) = (call_fields).printed m
fields_of (message.OneWayCall m) = (one_way_call_fields).printed m
fields_of (message.CompleteAwakeable m) = (complete_awakeable_fields).printed m
fields_of (message.SendSignal m) = (send_signal_fields).printed m
fields_of (message.GetPromise m) = (promise_fields).printed m
fields_of (message.PeekPromise m) = (promise_fields).printed m
fields_of (message.CompletePromise m) = (complete_promise_fields).printed m
fields_of (message.Run m) = (run_fields).printed m
fields_of (message.AttachInvocation m) = (invocation_fields).printed m
fields_of (message.GetInvocationOutput m) = (invocation_fields).printed m
fields_of (message.Output m) = (output_fields).printed m
fields_of (message.Notification m) = (notification_fields).printed m

-- words are the message's fields, in any order
unfoldable pub AreFieldsOf : List (Bor (List ℕ)) → Message → Type 0
AreFieldsOf words (message.Start m) = AreFields start_fields words m
AreFieldsOf words (message.Suspension m) = AreFields suspension_fields words m
AreFieldsOf words (message.Error m) = AreFields error_fields words m
AreFieldsOf words message.End = words ≡ []
AreFieldsOf words (message.ProposeRunCompletion m) = AreFields propose_run_completion_fields words m
AreFieldsOf words (message.ProposeRunCompletionAck m) = AreFields propose_run_completion_ack_fields
    words m
AreFieldsOf words (message.AwaitingOn m) = AreFields awaiting_on_fields words m
AreFieldsOf words (message.GetStateEphemeralCommand m) = AreFields
    get_state_ephemeral_command_fields words
    m
AreFieldsOf words (message.GetStateEphemeralNotification m) = AreFields
    get_state_ephemeral_notification_fields words m
AreFieldsOf words (message.Input m) = AreFields input_fields words m
AreFieldsOf words (message.GetEagerState m) = AreFields get_eager_state_fields words m
AreFieldsOf words (message.GetLazyState m) = AreFields get_lazy_state_fields words m
AreFieldsOf words (message.GetEagerStateKeys m) = AreFields get_eager_state_keys_fields words m
AreFieldsOf words (message.GetLazyStateKeys m) = AreFields get_lazy_state_keys_fields words m
AreFieldsOf words (message.SetState m) = AreFields set_state_fields words m
AreFieldsOf words (message.ClearState m) = AreFields clear_state_fields words m
AreFieldsOf words (message.ClearAllState m) = AreFields clear_all_state_fields words m
AreFieldsOf words (message.Sleep m) = AreFields sleep_fields words m
AreFieldsOf words (message.Call m) = AreFields call_fields words m
AreFieldsOf words (message.OneWayCall m) = AreFields one_way_call_fields words m
AreFieldsOf words (message.CompleteAwakeable m) = AreFields complete_awakeable_fields words m
AreFieldsOf words (message.SendSignal m) = AreFields send_signal_fields words m
AreFieldsOf words (message.GetPromise m) = AreFields promise_fields words m
AreFieldsOf words (message.PeekPromise m) = AreFields promise_fields words m
AreFieldsOf words (message.CompletePromise m) = AreFields complete_promise_fields words m
AreFieldsOf words (message.Run m) = AreFields run_fields words m
AreFieldsOf words (message.AttachInvocation m) = AreFields invocation_fields words m
AreFieldsOf words (message.GetInvocationOutput m) = AreFields invocation_fields words m
AreFieldsOf words (message.Output m) = AreFields output_fields words m
AreFieldsOf words (message.Notification m) = AreFields notification_fields words m

-- the name of its type, and its fields
abbrev pub message_text : Message → List ℕ
message_text m = (put_all (type_word (type_of m), false) (fields_of m)).0
