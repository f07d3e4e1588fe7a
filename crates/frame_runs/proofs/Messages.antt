-- The fields of a message as they are printed are read back.
use Rattle.std.proofs.Common.{◌++◌, ap, refl, subst, ◌∙◌, append_assoc}
use Rattle.std.specs.List.{AllByRecursion}
use Rattle.wire.specs.Format.{u32s, u64s}
use Rattle.journal_messages.specs.Message.{IsValid, body}
use Rattle.journal_attempt.specs.Bodies.{awaiting_on_same, input_same, output_same, propose_run_completion_ack_same, propose_run_completion_same, run_same, sleep_same, start_same, suspension_same}
use Rattle.journal_calls.specs.Bodies.{call_request_same, call_same, complete_awakeable_same, complete_promise_same, invocation_same, one_way_call_same, promise_same, send_signal_same}
use Rattle.journal_state.specs.Bodies.{clear_all_state_same, clear_state_same, get_eager_state_keys_same, get_eager_state_same, get_lazy_state_keys_same, get_lazy_state_same, get_state_ephemeral_command_same, get_state_ephemeral_notification_same, set_state_same}
use Rattle.journal_errors.specs.Bodies.{error_same}
use Rattle.journal_values.specs.Bodies.{notification_same}
use Rattle.journal_protocol.specs.Message.{Message}
use Rattle.journal_protocol.specs.Message.TheVariants as message
use Rattle.frame_lines.specs.Messages.{AreFieldsOf, fields_of}
use Rattle.frame_runs.proofs.Closed.{IsWord}
use Rattle.frame_runs.proofs.Fitting.{AllBytes, row_reads}
use Rattle.frame_runs.proofs.Joined.{bors}
use Rattle.frame_runs.proofs.Named.{words_of}
use Rattle.frame_runs.proofs.Rows.{awaiting_on_row, call_row, clear_all_state_row, clear_state_row, complete_awakeable_row, complete_promise_row, error_row, get_eager_state_row, get_eager_state_keys_row, get_lazy_state_row, get_lazy_state_keys_row, get_state_ephemeral_command_row, get_state_ephemeral_notification_row, input_row, invocation_row, notification_row, one_way_call_row, output_row, promise_row, propose_run_completion_row, propose_run_completion_ack_row, run_row, send_signal_row, set_state_row, sleep_row, start_row, suspension_row}

-- the message's fields as they are printed are words, and are its fields
abbrev pub MessageReads : Message → Type 0
MessageReads m = AllByRecursion IsWord (words_of (fields_of m)) × AreFieldsOf (bors (words_of (fields_of m))) m

pub message_reads : (m : Message) → IsValid m → AllBytes (body m) → MessageReads m
unfolding fields_of AreFieldsOf
message_reads (message.Start m) v b = row_reads start_row m v (subst AllBytes (start_same m) b) refl
message_reads (message.Suspension m) v b = row_reads suspension_row m v (subst AllBytes (suspension_same m) b) refl
message_reads (message.Error m) v b = row_reads error_row m v (subst AllBytes (error_same m) b) refl
message_reads message.End v b = (tt, refl)
message_reads (message.ProposeRunCompletion m) v b = row_reads propose_run_completion_row m v (subst AllBytes (propose_run_completion_same m) b) refl
message_reads (message.ProposeRunCompletionAck m) v b = row_reads propose_run_completion_ack_row m v (subst AllBytes (propose_run_completion_ack_same m) b) refl
message_reads (message.AwaitingOn m) v b = row_reads awaiting_on_row m v (subst AllBytes (awaiting_on_same m) b) refl
message_reads (message.GetStateEphemeralCommand m) v b = row_reads get_state_ephemeral_command_row m v (subst AllBytes (get_state_ephemeral_command_same m) b) refl
message_reads (message.GetStateEphemeralNotification m) v b = row_reads get_state_ephemeral_notification_row m v (subst AllBytes (get_state_ephemeral_notification_same m) b) refl
message_reads (message.Input m) v b = row_reads input_row m v (subst AllBytes (input_same m) b) refl
message_reads (message.GetEagerState m) v b = row_reads get_eager_state_row m v (subst AllBytes (get_eager_state_same m) b) refl
message_reads (message.GetLazyState m) v b = row_reads get_lazy_state_row m v (subst AllBytes (get_lazy_state_same m) b) refl
message_reads (message.GetEagerStateKeys m) v b = row_reads get_eager_state_keys_row m v (subst AllBytes (get_eager_state_keys_same m) b) refl
message_reads (message.GetLazyStateKeys m) v b = row_reads get_lazy_state_keys_row m v (subst AllBytes (get_lazy_state_keys_same m) b) refl
message_reads (message.SetState m) v b = row_reads set_state_row m v (subst AllBytes (set_state_same m) b) refl
message_reads (message.ClearState m) v b = row_reads clear_state_row m v (subst AllBytes (clear_state_same m) b) refl
message_reads (message.ClearAllState m) v b = row_reads clear_all_state_row m v (subst AllBytes (clear_all_state_same m) b) refl
message_reads (message.Sleep m) v b = row_reads sleep_row m v (subst AllBytes (sleep_same m) b) refl
message_reads (message.Call m) v b =
    let spelled = subst AllBytes (call_same m ∙ ap (λ request. request ++ u32s m.result_completion_id) (call_request_same m.request)) b in
    let one_after_another = simp append_assoc at spelled in
    row_reads call_row m (v.0.0, (v.0.1.0, (v.0.1.1.0, (v.0.1.1.1.0, (v.0.1.1.1.1.0, (v.0.1.1.1.1.1.0, (v.0.1.1.1.1.1.1.0, (v.0.1.1.1.1.1.1.1.0, (v.0.1.1.1.1.1.1.1.1.0, (v.0.1.1.1.1.1.1.1.1.1, v.1)))))))))) one_after_another refl
message_reads (message.OneWayCall m) v b =
    let spelled = subst AllBytes (one_way_call_same m ∙ ap (λ request. request ++ u64s m.invoke_time) (call_request_same m.request)) b in
    let one_after_another = simp append_assoc at spelled in
    row_reads one_way_call_row m (v.0.0, (v.0.1.0, (v.0.1.1.0, (v.0.1.1.1.0, (v.0.1.1.1.1.0, (v.0.1.1.1.1.1.0, (v.0.1.1.1.1.1.1.0, (v.0.1.1.1.1.1.1.1.0, (v.0.1.1.1.1.1.1.1.1.0, (v.0.1.1.1.1.1.1.1.1.1, v.1)))))))))) one_after_another refl
message_reads (message.CompleteAwakeable m) v b = row_reads complete_awakeable_row m v (subst AllBytes (complete_awakeable_same m) b) refl
message_reads (message.SendSignal m) v b = row_reads send_signal_row m v (subst AllBytes (send_signal_same m) b) refl
message_reads (message.GetPromise m) v b = row_reads promise_row m v (subst AllBytes (promise_same m) b) refl
message_reads (message.PeekPromise m) v b = row_reads promise_row m v (subst AllBytes (promise_same m) b) refl
message_reads (message.CompletePromise m) v b = row_reads complete_promise_row m v (subst AllBytes (complete_promise_same m) b) refl
message_reads (message.Run m) v b = row_reads run_row m v (subst AllBytes (run_same m) b) refl
message_reads (message.AttachInvocation m) v b = row_reads invocation_row m v (subst AllBytes (invocation_same m) b) refl
message_reads (message.GetInvocationOutput m) v b = row_reads invocation_row m v (subst AllBytes (invocation_same m) b) refl
message_reads (message.Output m) v b = row_reads output_row m v (subst AllBytes (output_same m) b) refl
message_reads (message.Notification m) v b = row_reads notification_row m v (subst AllBytes (notification_same m) b) refl
