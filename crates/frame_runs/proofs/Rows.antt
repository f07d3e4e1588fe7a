-- The fields of messages as they stand in a message and on a line.
use Rattle.std.proofs.Common.{refl}
use Rattle.std.specs.Prelude.{codes}
use Rattle.journal_protocol.specs.AwaitingOn.{AwaitingOn}
use Rattle.journal_protocol.specs.CallCommand.{CallCommand}
use Rattle.journal_protocol.specs.ClearAllStateCommand.{ClearAllStateCommand}
use Rattle.journal_protocol.specs.ClearStateCommand.{ClearStateCommand}
use Rattle.journal_protocol.specs.CompleteAwakeableCommand.{CompleteAwakeableCommand}
use Rattle.journal_protocol.specs.CompletePromiseCommand.{CompletePromiseCommand}
use Rattle.journal_protocol.specs.ErrorMessage.{ErrorMessage}
use Rattle.journal_protocol.specs.GetEagerStateCommand.{GetEagerStateCommand}
use Rattle.journal_protocol.specs.GetEagerStateKeysCommand.{GetEagerStateKeysCommand}
use Rattle.journal_protocol.specs.GetLazyStateCommand.{GetLazyStateCommand}
use Rattle.journal_protocol.specs.GetLazyStateKeysCommand.{GetLazyStateKeysCommand}
use Rattle.journal_protocol.specs.GetStateEphemeralCommand.{GetStateEphemeralCommand}
use Rattle.journal_protocol.specs.GetStateEphemeralNotification.{GetStateEphemeralNotification}
use Rattle.journal_protocol.specs.InputCommand.{InputCommand}
use Rattle.journal_protocol.specs.InvocationCommand.{InvocationCommand}
use Rattle.journal_protocol.specs.Notification.{Notification}
use Rattle.journal_protocol.specs.OneWayCallCommand.{OneWayCallCommand}
use Rattle.journal_protocol.specs.OutputCommand.{OutputCommand}
use Rattle.journal_protocol.specs.PromiseCommand.{PromiseCommand}
use Rattle.journal_protocol.specs.ProposeRunCompletion.{ProposeRunCompletion}
use Rattle.journal_protocol.specs.ProposeRunCompletionAck.{ProposeRunCompletionAck}
use Rattle.journal_protocol.specs.RunCommand.{RunCommand}
use Rattle.journal_protocol.specs.SendSignalCommand.{SendSignalCommand}
use Rattle.journal_protocol.specs.SetStateCommand.{SetStateCommand}
use Rattle.journal_protocol.specs.SleepCommand.{SleepCommand}
use Rattle.journal_protocol.specs.Start.{Start}
use Rattle.journal_protocol.specs.Suspension.{Suspension}
use Rattle.frame_lines.specs.Forms.{awaiting_on_fields, call_fields, clear_all_state_fields, clear_state_fields, complete_awakeable_fields, complete_promise_fields, error_fields, get_eager_state_fields, get_eager_state_keys_fields, get_lazy_state_fields, get_lazy_state_keys_fields, get_state_ephemeral_command_fields, get_state_ephemeral_notification_fields, input_fields, invocation_fields, notification_fields, one_way_call_fields, output_fields, promise_fields, propose_run_completion_ack_fields, propose_run_completion_fields, run_fields, send_signal_fields, set_state_fields, sleep_fields, start_fields, suspension_fields}
use Rattle.frame_runs.proofs.Choices.{behavior_item, header_item, notification_id_item, notification_result_item, signal_item, signal_result_item, target_item, value_or_failure_item, void_or_value_item}
use Rattle.frame_runs.proofs.Fitting.{Row, bytes_item, flag_item, last, list_item, more, pair_item, row_once, some, text_item, u32_item, u64_item, whole}
use Rattle.frame_runs.proofs.Futures.{future_item}
use Rattle.frame_runs.proofs.Once.{AreFieldsOnce}

abbrev pub start_row : Row Start
start_row =
    more (codes "id") refl (λ m. m.id) (whole bytes_item) (
    more (codes "debug_id") refl (λ m. m.debug_id) (whole text_item) (
    more (codes "key") refl (λ m. m.key) (whole text_item) (
    more (codes "known_entries") refl (λ m. m.known_entries) (whole u32_item) (
    more (codes "state") refl (λ m. m.state) (whole (list_item (pair_item bytes_item bytes_item))) (
    more (codes "partial") refl (λ m. m.partial) (whole flag_item) (
    more (codes "retry_count") refl (λ m. m.retry_count) (whole u32_item) (
    more (codes "duration") refl (λ m. m.duration) (whole u64_item) (
    more (codes "random_seed") refl (λ m. m.random_seed) (whole u64_item) (
    more (codes "scope") refl (λ m. m.scope) (some text_item) (
    more (codes "limit_key") refl (λ m. m.limit_key) (some text_item) (
    last (codes "idempotency_key") refl (λ m. m.idempotency_key) (some text_item))))))))))))

pub start_once : AreFieldsOnce start_fields
start_once = row_once start_row (λ p. record { id = p.0; debug_id = p.1.0; key = p.1.1.0; known_entries = p.1.1.1.0; state = p.1.1.1.1.0; partial = p.1.1.1.1.1.0; retry_count = p.1.1.1.1.1.1.0; duration = p.1.1.1.1.1.1.1.0; random_seed = p.1.1.1.1.1.1.1.1.0; scope = p.1.1.1.1.1.1.1.1.1.0; limit_key = p.1.1.1.1.1.1.1.1.1.1.0; idempotency_key = p.1.1.1.1.1.1.1.1.1.1.1.0 }) (λ it. refl)

abbrev pub suspension_row : Row Suspension
suspension_row = last (codes "future") refl (λ m. m.future) (whole future_item)

pub suspension_once : AreFieldsOnce suspension_fields
suspension_once = row_once suspension_row (λ p. record { future = p.0 }) (λ it. refl)

abbrev pub awaiting_on_row : Row AwaitingOn
awaiting_on_row =
    more (codes "future") refl (λ m. m.future) (whole future_item) (
    last (codes "executing_side_effects") refl (λ m. m.executing_side_effects) (whole flag_item))

pub awaiting_on_once : AreFieldsOnce awaiting_on_fields
awaiting_on_once = row_once awaiting_on_row (λ p. record { future = p.0; executing_side_effects = p.1.0 }) (λ it. refl)

abbrev pub error_row : Row ErrorMessage
error_row =
    more (codes "code") refl (λ m. m.code) (whole u32_item) (
    more (codes "message") refl (λ m. m.message) (whole text_item) (
    more (codes "stacktrace") refl (λ m. m.stacktrace) (whole text_item) (
    more (codes "behaviour") refl (λ m. m.behavior) (whole behavior_item) (
    more (codes "index") refl (λ m. m.index) (some u32_item) (
    more (codes "type") refl (λ m. m.ty) (some u32_item) (
    more (codes "name") refl (λ m. m.name) (some text_item) (
    last (codes "delay") refl (λ m. m.delay) (some u64_item))))))))

pub error_once : AreFieldsOnce error_fields
error_once = row_once error_row (λ p. record { code = p.0; message = p.1.0; stacktrace = p.1.1.0; behavior = p.1.1.1.0; index = p.1.1.1.1.0; ty = p.1.1.1.1.1.0; name = p.1.1.1.1.1.1.0; delay = p.1.1.1.1.1.1.1.0 }) (λ it. refl)

abbrev pub propose_run_completion_row : Row ProposeRunCompletion
propose_run_completion_row =
    more (codes "id") refl (λ m. m.id) (whole u32_item) (
    last (codes "result") refl (λ m. m.result) (whole value_or_failure_item))

pub propose_run_completion_once : AreFieldsOnce propose_run_completion_fields
propose_run_completion_once = row_once propose_run_completion_row (λ p. record { id = p.0; result = p.1.0 }) (λ it. refl)

abbrev pub propose_run_completion_ack_row : Row ProposeRunCompletionAck
propose_run_completion_ack_row =
    last (codes "id") refl (λ m. m.id) (whole u32_item)

pub propose_run_completion_ack_once : AreFieldsOnce propose_run_completion_ack_fields
propose_run_completion_ack_once = row_once propose_run_completion_ack_row (λ p. record { id = p.0 }) (λ it. refl)

abbrev pub get_state_ephemeral_command_row : Row GetStateEphemeralCommand
get_state_ephemeral_command_row =
    more (codes "id") refl (λ m. m.id) (whole u32_item) (
    last (codes "key") refl (λ m. m.key) (whole text_item))

pub get_state_ephemeral_command_once : AreFieldsOnce get_state_ephemeral_command_fields
get_state_ephemeral_command_once = row_once get_state_ephemeral_command_row (λ p. record { id = p.0; key = p.1.0 }) (λ it. refl)

abbrev pub get_state_ephemeral_notification_row : Row GetStateEphemeralNotification
get_state_ephemeral_notification_row =
    more (codes "id") refl (λ m. m.id) (whole u32_item) (
    last (codes "result") refl (λ m. m.result) (some void_or_value_item))

pub get_state_ephemeral_notification_once : AreFieldsOnce get_state_ephemeral_notification_fields
get_state_ephemeral_notification_once = row_once get_state_ephemeral_notification_row (λ p. record { id = p.0; result = p.1.0 }) (λ it. refl)

abbrev pub input_row : Row InputCommand
input_row =
    more (codes "headers") refl (λ m. m.headers) (whole (list_item header_item)) (
    last (codes "value") refl (λ m. m.value) (whole bytes_item))

pub input_once : AreFieldsOnce input_fields
input_once = row_once input_row (λ p. record { headers = p.0; value = p.1.0 }) (λ it. refl)

abbrev pub get_eager_state_row : Row GetEagerStateCommand
get_eager_state_row =
    more (codes "name") refl (λ m. m.name) (whole text_item) (
    more (codes "key") refl (λ m. m.key) (whole text_item) (
    last (codes "result") refl (λ m. m.result) (some void_or_value_item)))

pub get_eager_state_once : AreFieldsOnce get_eager_state_fields
get_eager_state_once = row_once get_eager_state_row (λ p. record { name = p.0; key = p.1.0; result = p.1.1.0 }) (λ it. refl)

abbrev pub get_lazy_state_row : Row GetLazyStateCommand
get_lazy_state_row =
    more (codes "name") refl (λ m. m.name) (whole text_item) (
    more (codes "key") refl (λ m. m.key) (whole text_item) (
    last (codes "result_completion_id") refl (λ m. m.result_completion_id) (whole u32_item)))

pub get_lazy_state_once : AreFieldsOnce get_lazy_state_fields
get_lazy_state_once = row_once get_lazy_state_row (λ p. record { name = p.0; key = p.1.0; result_completion_id = p.1.1.0 }) (λ it. refl)

abbrev pub get_eager_state_keys_row : Row GetEagerStateKeysCommand
get_eager_state_keys_row =
    more (codes "value") refl (λ m. m.value) (some (list_item bytes_item)) (
    last (codes "name") refl (λ m. m.name) (whole text_item))

pub get_eager_state_keys_once : AreFieldsOnce get_eager_state_keys_fields
get_eager_state_keys_once = row_once get_eager_state_keys_row (λ p. record { value = p.0; name = p.1.0 }) (λ it. refl)

abbrev pub get_lazy_state_keys_row : Row GetLazyStateKeysCommand
get_lazy_state_keys_row =
    more (codes "result_completion_id") refl (λ m. m.result_completion_id) (whole u32_item) (
    last (codes "name") refl (λ m. m.name) (whole text_item))

pub get_lazy_state_keys_once : AreFieldsOnce get_lazy_state_keys_fields
get_lazy_state_keys_once = row_once get_lazy_state_keys_row (λ p. record { result_completion_id = p.0; name = p.1.0 }) (λ it. refl)

abbrev pub set_state_row : Row SetStateCommand
set_state_row =
    more (codes "name") refl (λ m. m.name) (whole text_item) (
    more (codes "key") refl (λ m. m.key) (whole text_item) (
    last (codes "value") refl (λ m. m.value) (whole bytes_item)))

pub set_state_once : AreFieldsOnce set_state_fields
set_state_once = row_once set_state_row (λ p. record { name = p.0; key = p.1.0; value = p.1.1.0 }) (λ it. refl)

abbrev pub clear_state_row : Row ClearStateCommand
clear_state_row =
    more (codes "name") refl (λ m. m.name) (whole text_item) (
    last (codes "key") refl (λ m. m.key) (whole text_item))

pub clear_state_once : AreFieldsOnce clear_state_fields
clear_state_once = row_once clear_state_row (λ p. record { name = p.0; key = p.1.0 }) (λ it. refl)

abbrev pub clear_all_state_row : Row ClearAllStateCommand
clear_all_state_row =
    last (codes "name") refl (λ m. m.name) (whole text_item)

pub clear_all_state_once : AreFieldsOnce clear_all_state_fields
clear_all_state_once = row_once clear_all_state_row (λ p. record { name = p.0 }) (λ it. refl)

abbrev pub sleep_row : Row SleepCommand
sleep_row =
    more (codes "wake_up_time") refl (λ m. m.wake_up_time) (whole u64_item) (
    more (codes "result_completion_id") refl (λ m. m.result_completion_id) (whole u32_item) (
    last (codes "name") refl (λ m. m.name) (whole text_item)))

pub sleep_once : AreFieldsOnce sleep_fields
sleep_once = row_once sleep_row (λ p. record { wake_up_time = p.0; result_completion_id = p.1.0; name = p.1.1.0 }) (λ it. refl)

abbrev pub complete_awakeable_row : Row CompleteAwakeableCommand
complete_awakeable_row =
    more (codes "awakeable_id") refl (λ m. m.awakeable_id) (whole text_item) (
    last (codes "result") refl (λ m. m.result) (whole value_or_failure_item))

pub complete_awakeable_once : AreFieldsOnce complete_awakeable_fields
complete_awakeable_once = row_once complete_awakeable_row (λ p. record { awakeable_id = p.0; result = p.1.0 }) (λ it. refl)

abbrev pub send_signal_row : Row SendSignalCommand
send_signal_row =
    more (codes "target_invocation_id") refl (λ m. m.target_invocation_id) (whole text_item) (
    more (codes "signal") refl (λ m. m.signal) (whole signal_item) (
    last (codes "result") refl (λ m. m.result) (whole signal_result_item)))

pub send_signal_once : AreFieldsOnce send_signal_fields
send_signal_once = row_once send_signal_row (λ p. record { target_invocation_id = p.0; signal = p.1.0; result = p.1.1.0 }) (λ it. refl)

abbrev pub promise_row : Row PromiseCommand
promise_row =
    more (codes "key") refl (λ m. m.key) (whole text_item) (
    last (codes "result_completion_id") refl (λ m. m.result_completion_id) (whole u32_item))

pub promise_once : AreFieldsOnce promise_fields
promise_once = row_once promise_row (λ p. record { key = p.0; result_completion_id = p.1.0 }) (λ it. refl)

abbrev pub complete_promise_row : Row CompletePromiseCommand
complete_promise_row =
    more (codes "key") refl (λ m. m.key) (whole text_item) (
    more (codes "completion") refl (λ m. m.completion) (whole value_or_failure_item) (
    last (codes "result_completion_id") refl (λ m. m.result_completion_id) (whole u32_item)))

pub complete_promise_once : AreFieldsOnce complete_promise_fields
complete_promise_once = row_once complete_promise_row (λ p. record { key = p.0; completion = p.1.0; result_completion_id = p.1.1.0 }) (λ it. refl)

abbrev pub run_row : Row RunCommand
run_row =
    more (codes "name") refl (λ m. m.name) (whole text_item) (
    last (codes "result_completion_id") refl (λ m. m.result_completion_id) (whole u32_item))

pub run_once : AreFieldsOnce run_fields
run_once = row_once run_row (λ p. record { name = p.0; result_completion_id = p.1.0 }) (λ it. refl)

abbrev pub invocation_row : Row InvocationCommand
invocation_row =
    more (codes "target") refl (λ m. m.target) (whole target_item) (
    last (codes "result_completion_id") refl (λ m. m.result_completion_id) (whole u32_item))

pub invocation_once : AreFieldsOnce invocation_fields
invocation_once = row_once invocation_row (λ p. record { target = p.0; result_completion_id = p.1.0 }) (λ it. refl)

abbrev pub output_row : Row OutputCommand
output_row =
    last (codes "result") refl (λ m. m.result) (whole value_or_failure_item)

pub output_once : AreFieldsOnce output_fields
output_once = row_once output_row (λ p. record { result = p.0 }) (λ it. refl)

abbrev pub notification_row : Row Notification
notification_row =
    more (codes "id") refl (λ m. m.id) (whole notification_id_item) (
    last (codes "result") refl (λ m. m.result) (whole notification_result_item))

pub notification_once : AreFieldsOnce notification_fields
notification_once = row_once notification_row (λ p. record { id = p.0; result = p.1.0 }) (λ it. refl)

abbrev pub call_row : Row CallCommand
call_row =
    more (codes "service_name") refl (λ m. m.request.service_name) (whole text_item) (
    more (codes "handler_name") refl (λ m. m.request.handler_name) (whole text_item) (
    more (codes "key") refl (λ m. m.request.key) (whole text_item) (
    more (codes "idempotency_key") refl (λ m. m.request.idempotency_key) (some text_item) (
    more (codes "scope") refl (λ m. m.request.scope) (some text_item) (
    more (codes "limit_key") refl (λ m. m.request.limit_key) (some text_item) (
    more (codes "headers") refl (λ m. m.request.headers) (whole (list_item header_item)) (
    more (codes "parameter") refl (λ m. m.request.parameter) (whole bytes_item) (
    more (codes "invocation_id_notification_idx") refl (λ m. m.request.invocation_id_notification_idx) (whole u32_item) (
    more (codes "name") refl (λ m. m.request.name) (whole text_item) (
    last (codes "result_completion_id") refl (λ m. m.result_completion_id) (whole u32_item)))))))))))

pub call_once : AreFieldsOnce call_fields
call_once = row_once call_row (λ p. record { request = record { service_name = p.0; handler_name = p.1.0; key = p.1.1.0; idempotency_key = p.1.1.1.0; scope = p.1.1.1.1.0; limit_key = p.1.1.1.1.1.0; headers = p.1.1.1.1.1.1.0; parameter = p.1.1.1.1.1.1.1.0; invocation_id_notification_idx = p.1.1.1.1.1.1.1.1.0; name = p.1.1.1.1.1.1.1.1.1.0 }; result_completion_id = p.1.1.1.1.1.1.1.1.1.1.0 }) (λ it. refl)

abbrev pub one_way_call_row : Row OneWayCallCommand
one_way_call_row =
    more (codes "service_name") refl (λ m. m.request.service_name) (whole text_item) (
    more (codes "handler_name") refl (λ m. m.request.handler_name) (whole text_item) (
    more (codes "key") refl (λ m. m.request.key) (whole text_item) (
    more (codes "idempotency_key") refl (λ m. m.request.idempotency_key) (some text_item) (
    more (codes "scope") refl (λ m. m.request.scope) (some text_item) (
    more (codes "limit_key") refl (λ m. m.request.limit_key) (some text_item) (
    more (codes "headers") refl (λ m. m.request.headers) (whole (list_item header_item)) (
    more (codes "parameter") refl (λ m. m.request.parameter) (whole bytes_item) (
    more (codes "invocation_id_notification_idx") refl (λ m. m.request.invocation_id_notification_idx) (whole u32_item) (
    more (codes "name") refl (λ m. m.request.name) (whole text_item) (
    last (codes "invoke_time") refl (λ m. m.invoke_time) (whole u64_item)))))))))))

pub one_way_call_once : AreFieldsOnce one_way_call_fields
one_way_call_once = row_once one_way_call_row (λ p. record { request = record { service_name = p.0; handler_name = p.1.0; key = p.1.1.0; idempotency_key = p.1.1.1.0; scope = p.1.1.1.1.0; limit_key = p.1.1.1.1.1.0; headers = p.1.1.1.1.1.1.0; parameter = p.1.1.1.1.1.1.1.0; invocation_id_notification_idx = p.1.1.1.1.1.1.1.1.0; name = p.1.1.1.1.1.1.1.1.1.0 }; invoke_time = p.1.1.1.1.1.1.1.1.1.1.0 }) (λ it. refl)
