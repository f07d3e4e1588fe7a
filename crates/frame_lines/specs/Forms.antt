-- The fields of messages, in their order.
use Rattle.std.specs.Prelude.{codes}
use Rattle.journal_protocol.specs.InputCommand.{InputCommand}
use Rattle.journal_protocol.specs.OutputCommand.{OutputCommand}
use Rattle.journal_protocol.specs.SleepCommand.{SleepCommand}
use Rattle.journal_protocol.specs.AwaitingOn.{AwaitingOn}
use Rattle.journal_protocol.specs.Suspension.{Suspension}
use Rattle.journal_protocol.specs.ProposeRunCompletion.{ProposeRunCompletion}
use Rattle.journal_protocol.specs.ProposeRunCompletionAck.{ProposeRunCompletionAck}
use Rattle.journal_protocol.specs.RunCommand.{RunCommand}
use Rattle.journal_protocol.specs.Start.{Start}
use Rattle.journal_protocol.specs.CallCommand.{CallCommand}
use Rattle.journal_protocol.specs.CallRequest.{CallRequest}
use Rattle.journal_protocol.specs.OneWayCallCommand.{OneWayCallCommand}
use Rattle.journal_protocol.specs.InvocationCommand.{InvocationCommand}
use Rattle.journal_protocol.specs.CompletePromiseCommand.{CompletePromiseCommand}
use Rattle.journal_protocol.specs.PromiseCommand.{PromiseCommand}
use Rattle.journal_protocol.specs.CompleteAwakeableCommand.{CompleteAwakeableCommand}
use Rattle.journal_protocol.specs.SendSignalCommand.{SendSignalCommand}
use Rattle.journal_protocol.specs.ErrorMessage.{ErrorMessage}
use Rattle.journal_protocol.specs.ClearAllStateCommand.{ClearAllStateCommand}
use Rattle.journal_protocol.specs.ClearStateCommand.{ClearStateCommand}
use Rattle.journal_protocol.specs.GetEagerStateCommand.{GetEagerStateCommand}
use Rattle.journal_protocol.specs.GetEagerStateKeysCommand.{GetEagerStateKeysCommand}
use Rattle.journal_protocol.specs.GetLazyStateCommand.{GetLazyStateCommand}
use Rattle.journal_protocol.specs.GetLazyStateKeysCommand.{GetLazyStateKeysCommand}
use Rattle.journal_protocol.specs.GetStateEphemeralCommand.{GetStateEphemeralCommand}
use Rattle.journal_protocol.specs.GetStateEphemeralNotification.{GetStateEphemeralNotification}
use Rattle.journal_protocol.specs.SetStateCommand.{SetStateCommand}
use Rattle.journal_protocol.specs.Notification.{Notification}
use Rattle.frame_values.specs.Choices.{behavior_notation, notification_id_notation, notification_result_notation, signal_notation, signal_result_notation, target_notation, value_or_failure_notation, void_or_value_notation}
use Rattle.frame_values.specs.Futures.{future_notation}
use Rattle.frame_values.specs.Notation.{Fields, bytes_notation, field, flag_notation, header_notation, list_notation, nothing, number, optional, pair, string}

abbrev pub start_fields : Fields Start
start_fields =
    field (codes "id") (λ m. m.id) bytes_notation (
    field (codes "debug_id") (λ m. m.debug_id) string (
    field (codes "key") (λ m. m.key) string (
    field (codes "known_entries") (λ m. m.known_entries) (number 32) (
    field (codes "state") (λ m. m.state) (list_notation (pair bytes_notation bytes_notation)) (
    field (codes "partial") (λ m. m.partial) flag_notation (
    field (codes "retry_count") (λ m. m.retry_count) (number 32) (
    field (codes "duration") (λ m. m.duration) (number 64) (
    field (codes "random_seed") (λ m. m.random_seed) (number 64) (
    field (codes "scope") (λ m. m.scope) (optional string) (
    field (codes "limit_key") (λ m. m.limit_key) (optional string) (
    field (codes "idempotency_key") (λ m. m.idempotency_key) (optional string) nothing)))))))))))

abbrev pub suspension_fields : Fields Suspension
suspension_fields =
    field (codes "future") (λ m. m.future) future_notation nothing

abbrev pub error_fields : Fields ErrorMessage
error_fields =
    field (codes "code") (λ m. m.code) (number 32) (
    field (codes "message") (λ m. m.message) string (
    field (codes "stacktrace") (λ m. m.stacktrace) string (
    field (codes "behaviour") (λ m. m.behavior) behavior_notation (
    field (codes "index") (λ m. m.index) (optional (number 32)) (
    field (codes "type") (λ m. m.ty) (optional (number 32)) (
    field (codes "name") (λ m. m.name) (optional string) (
    field (codes "delay") (λ m. m.delay) (optional (number 64)) nothing)))))))

abbrev pub propose_run_completion_fields : Fields ProposeRunCompletion
propose_run_completion_fields =
    field (codes "id") (λ m. m.id) (number 32) (
    field (codes "result") (λ m. m.result) value_or_failure_notation nothing)

abbrev pub propose_run_completion_ack_fields : Fields ProposeRunCompletionAck
propose_run_completion_ack_fields =
    field (codes "id") (λ m. m.id) (number 32) nothing

abbrev pub awaiting_on_fields : Fields AwaitingOn
awaiting_on_fields =
    field (codes "future") (λ m. m.future) future_notation (
    field (codes "executing_side_effects") (λ m. m.executing_side_effects) flag_notation nothing)

abbrev pub get_state_ephemeral_command_fields : Fields GetStateEphemeralCommand
get_state_ephemeral_command_fields =
    field (codes "id") (λ m. m.id) (number 32) (
    field (codes "key") (λ m. m.key) string nothing)

abbrev pub get_state_ephemeral_notification_fields : Fields GetStateEphemeralNotification
get_state_ephemeral_notification_fields =
    field (codes "id") (λ m. m.id) (number 32) (
    field (codes "result") (λ m. m.result) (optional void_or_value_notation) nothing)

abbrev pub input_fields : Fields InputCommand
input_fields =
    field (codes "headers") (λ m. m.headers) (list_notation header_notation) (
    field (codes "value") (λ m. m.value) bytes_notation nothing)

abbrev pub get_eager_state_fields : Fields GetEagerStateCommand
get_eager_state_fields =
    field (codes "name") (λ m. m.name) string (
    field (codes "key") (λ m. m.key) string (
    field (codes "result") (λ m. m.result) (optional void_or_value_notation) nothing))

abbrev pub get_lazy_state_fields : Fields GetLazyStateCommand
get_lazy_state_fields =
    field (codes "name") (λ m. m.name) string (
    field (codes "key") (λ m. m.key) string (
    field (codes "result_completion_id") (λ m. m.result_completion_id) (number 32) nothing))

abbrev pub get_eager_state_keys_fields : Fields GetEagerStateKeysCommand
get_eager_state_keys_fields =
    field (codes "value") (λ m. m.value) (optional (list_notation bytes_notation)) (
    field (codes "name") (λ m. m.name) string nothing)

abbrev pub get_lazy_state_keys_fields : Fields GetLazyStateKeysCommand
get_lazy_state_keys_fields =
    field (codes "result_completion_id") (λ m. m.result_completion_id) (number 32) (
    field (codes "name") (λ m. m.name) string nothing)

abbrev pub set_state_fields : Fields SetStateCommand
set_state_fields =
    field (codes "name") (λ m. m.name) string (
    field (codes "key") (λ m. m.key) string (
    field (codes "value") (λ m. m.value) bytes_notation nothing))

abbrev pub clear_state_fields : Fields ClearStateCommand
clear_state_fields =
    field (codes "name") (λ m. m.name) string (
    field (codes "key") (λ m. m.key) string nothing)

abbrev pub clear_all_state_fields : Fields ClearAllStateCommand
clear_all_state_fields =
    field (codes "name") (λ m. m.name) string nothing

abbrev pub sleep_fields : Fields SleepCommand
sleep_fields =
    field (codes "wake_up_time") (λ m. m.wake_up_time) (number 64) (
    field (codes "result_completion_id") (λ m. m.result_completion_id) (number 32) (
    field (codes "name") (λ m. m.name) string nothing))

-- the fields of a request, and others after them
abbrev pub behind_request : {A : Type 0} → (A → CallRequest) → Fields A → Fields A
behind_request request others =
    field (codes "service_name") (λ m. (request m).service_name) string (
    field (codes "handler_name") (λ m. (request m).handler_name) string (
    field (codes "key") (λ m. (request m).key) string (
    field (codes "idempotency_key") (λ m. (request m).idempotency_key) (optional string) (
    field (codes "scope") (λ m. (request m).scope) (optional string) (
    field (codes "limit_key") (λ m. (request m).limit_key) (optional string) (
    field (codes "headers") (λ m. (request m).headers) (list_notation header_notation) (
    field (codes "parameter") (λ m. (request m).parameter) bytes_notation (
    field (codes "invocation_id_notification_idx") (λ m. (request m).invocation_id_notification_idx)
    (number 32) (
    field (codes "name") (λ m. (request m).name) string others)))))))))

abbrev pub call_request_fields : Fields CallRequest
call_request_fields = behind_request (λ m. m) nothing

abbrev pub call_fields : Fields CallCommand
call_fields = behind_request (λ m. m.request)
    (field (codes "result_completion_id") (λ m. m.result_completion_id) (number 32) nothing)

abbrev pub one_way_call_fields : Fields OneWayCallCommand
one_way_call_fields = behind_request (λ m. m.request)
    (field (codes "invoke_time") (λ m. m.invoke_time) (number 64) nothing)

abbrev pub complete_awakeable_fields : Fields CompleteAwakeableCommand
complete_awakeable_fields =
    field (codes "awakeable_id") (λ m. m.awakeable_id) string (
    field (codes "result") (λ m. m.result) value_or_failure_notation nothing)

abbrev pub send_signal_fields : Fields SendSignalCommand
send_signal_fields =
    field (codes "target_invocation_id") (λ m. m.target_invocation_id) string (
    field (codes "signal") (λ m. m.signal) signal_notation (
    field (codes "result") (λ m. m.result) signal_result_notation nothing))

abbrev pub promise_fields : Fields PromiseCommand
promise_fields =
    field (codes "key") (λ m. m.key) string (
    field (codes "result_completion_id") (λ m. m.result_completion_id) (number 32) nothing)

abbrev pub complete_promise_fields : Fields CompletePromiseCommand
complete_promise_fields =
    field (codes "key") (λ m. m.key) string (
    field (codes "completion") (λ m. m.completion) value_or_failure_notation (
    field (codes "result_completion_id") (λ m. m.result_completion_id) (number 32) nothing))

abbrev pub run_fields : Fields RunCommand
run_fields =
    field (codes "name") (λ m. m.name) string (
    field (codes "result_completion_id") (λ m. m.result_completion_id) (number 32) nothing)

abbrev pub invocation_fields : Fields InvocationCommand
invocation_fields =
    field (codes "target") (λ m. m.target) target_notation (
    field (codes "result_completion_id") (λ m. m.result_completion_id) (number 32) nothing)

abbrev pub output_fields : Fields OutputCommand
output_fields =
    field (codes "result") (λ m. m.result) value_or_failure_notation nothing

abbrev pub notification_fields : Fields Notification
notification_fields =
    field (codes "id") (λ m. m.id) notification_id_notation (
    field (codes "result") (λ m. m.result) notification_result_notation nothing)
