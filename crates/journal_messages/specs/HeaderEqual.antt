-- Whether replay takes two messages for one, as a test.
use Rattle.std.specs.Prelude.{nat_eq, ◌==◌, ◌&&◌, ◌||◌, Bool, true, false}
use Rattle.std.specs.Bool.{beq}
use Rattle.std.specs.Cmp.Lexicographic.{pointwise}
use Rattle.std.specs.Option.{option_eq}
use Rattle.journal_attempt.specs.contracts.future.FuturePartialEq.TheImpl as futures_of
use Rattle.journal_values.specs.contracts.parts.HeaderPartialEq.TheImpl as headers_of
use Rattle.journal_values.specs.contracts.parts.ValueOrFailurePartialEq.TheImpl as values_of
use Rattle.journal_state.specs.contracts.state.VoidOrValuePartialEq.TheImpl as state_of
use Rattle.journal_calls.specs.contracts.signals.SignalPartialEq.TheImpl as signals_of
use Rattle.journal_calls.specs.contracts.signals.SignalResultPartialEq.TheImpl as sent_of
use Rattle.journal_calls.specs.contracts.invocations.InvocationTargetPartialEq.TheImpl as targets_of
use Rattle.journal_values.specs.contracts.notification.NotificationIdPartialEq.TheImpl as ids_of
use Rattle.journal_values.specs.contracts.notification.NotificationResultPartialEq.TheImpl as results_of
use Rattle.journal_attempt.specs.contracts.start.StartPartialEq.TheImpl as starts_of
use Rattle.journal_errors.specs.contracts.error_message.ErrorMessagePartialEq.TheImpl as errors_of
use Rattle.journal_attempt.specs.declared.start.Start as starts
use Rattle.journal_attempt.specs.declared.control.Suspension as suspensions
use Rattle.journal_errors.specs.declared.error_message.ErrorMessage.{ErrorMessage}
use Rattle.journal_attempt.specs.declared.runs.ProposeRunCompletion as proposals
use Rattle.journal_attempt.specs.declared.runs.ProposeRunCompletionAck as acks
use Rattle.journal_attempt.specs.declared.control.AwaitingOn as awaiting
use Rattle.journal_state.specs.declared.state.GetStateEphemeralCommand as ephemeral_commands
use Rattle.journal_state.specs.declared.state.GetStateEphemeralNotification as ephemeral_notifications
use Rattle.journal_state.specs.declared.state.GetEagerStateCommand.{GetEagerStateCommand}
use Rattle.journal_state.specs.declared.state.GetLazyStateCommand.{GetLazyStateCommand}
use Rattle.journal_state.specs.declared.state.GetEagerStateKeysCommand.{GetEagerStateKeysCommand}
use Rattle.journal_state.specs.declared.state.GetLazyStateKeysCommand.{GetLazyStateKeysCommand}
use Rattle.journal_state.specs.declared.state.SetStateCommand.{SetStateCommand}
use Rattle.journal_state.specs.declared.state.ClearStateCommand.{ClearStateCommand}
use Rattle.journal_state.specs.declared.state.ClearAllStateCommand.{ClearAllStateCommand}
use Rattle.journal_attempt.specs.declared.commands.SleepCommand.{SleepCommand}
use Rattle.journal_calls.specs.declared.calls.CallCommand.{CallCommand}
use Rattle.journal_calls.specs.declared.calls.OneWayCallCommand.{OneWayCallCommand}
use Rattle.journal_calls.specs.declared.signals.CompleteAwakeableCommand.{CompleteAwakeableCommand}
use Rattle.journal_calls.specs.declared.signals.SendSignalCommand.{SendSignalCommand}
use Rattle.journal_calls.specs.declared.promises.PromiseCommand.{PromiseCommand}
use Rattle.journal_calls.specs.declared.promises.CompletePromiseCommand.{CompletePromiseCommand}
use Rattle.journal_attempt.specs.declared.runs.RunCommand.{RunCommand}
use Rattle.journal_calls.specs.declared.invocations.InvocationCommand.{InvocationCommand}
use Rattle.journal_attempt.specs.declared.commands.OutputCommand.{OutputCommand}
use Rattle.journal_values.specs.declared.notification.Notification as notifications
use Rattle.journal_calls.specs.declared.calls.CallRequest.{CallRequest}
use Rattle.journal_messages.specs.declared.message.Message.{Message}
use Rattle.journal_messages.specs.declared.message.Message.TheVariants.{Start, Suspension, Error, End, ProposeRunCompletion, ProposeRunCompletionAck, AwaitingOn, GetStateEphemeralCommand, GetStateEphemeralNotification, Input, GetEagerState, GetLazyState, GetEagerStateKeys, GetLazyStateKeys, SetState, ClearState, ClearAllState, Sleep, Call, OneWayCall, CompleteAwakeable, SendSignal, GetPromise, PeekPromise, CompletePromise, Run, AttachInvocation, GetInvocationOutput, Output, Notification}

-- ---- what is looked at of bodies that several messages have

-- the parameter isn't compared if payloads are ignored
abbrev pub request_equal : Bool → CallRequest → CallRequest → Bool
request_equal ignore a b = pointwise nat_eq a.service_name b.service_name
    && pointwise nat_eq a.handler_name b.handler_name && pointwise nat_eq a.key b.key
    && option_eq (pointwise nat_eq) a.idempotency_key b.idempotency_key
    && option_eq (pointwise nat_eq) a.scope b.scope
    && option_eq (pointwise nat_eq) a.limit_key b.limit_key
    && pointwise (headers_of.ghosts).eq a.headers b.headers
    && (ignore || pointwise nat_eq a.parameter b.parameter)
    && (a.invocation_id_notification_idx == b.invocation_id_notification_idx)
    && pointwise nat_eq a.name b.name

-- a get or a peek of a promise: key and completion id
abbrev pub promise_equal : PromiseCommand → PromiseCommand → Bool
promise_equal a b =
    pointwise nat_eq a.key b.key && (a.result_completion_id == b.result_completion_id)

-- an attach, or a question for the output: the invocation that is meant and the completion id
abbrev pub invocation_equal : InvocationCommand → InvocationCommand → Bool
invocation_equal a b =
    (targets_of.ghosts).eq a.target b.target && (a.result_completion_id == b.result_completion_id)

-- ---- one type with another message

-- starts: every field
abbrev pub start_equal : starts.Start → Message → Bool
start_equal a (Start b) = (starts_of.ghosts).eq a b
start_equal a _ = false

-- suspensions: the future, node by node
abbrev pub suspension_equal : suspensions.Suspension → Message → Bool
suspension_equal a (Suspension b) = (futures_of.ghosts).eq a.future b.future
suspension_equal a _ = false

-- errors: every field
abbrev pub error_equal : ErrorMessage → Message → Bool
error_equal a (Error b) = (errors_of.ghosts).eq a b
error_equal a _ = false

-- ends: there are no fields
abbrev pub end_equal : Message → Bool
end_equal End = true
end_equal _ = false

-- proposed results of runs: id, and the result unless payloads are ignored
abbrev pub propose_run_completion_equal : Bool → proposals.ProposeRunCompletion → Message → Bool
propose_run_completion_equal ignore a (ProposeRunCompletion b) = (a.id == b.id)
    && (ignore || (values_of.ghosts).eq a.result b.result)
propose_run_completion_equal ignore a _ = false

-- acknowledgements of proposed results: id
abbrev pub propose_run_completion_ack_equal : acks.ProposeRunCompletionAck → Message → Bool
propose_run_completion_ack_equal a (ProposeRunCompletionAck b) = a.id == b.id
propose_run_completion_ack_equal a _ = false

-- what attempts await: the future, node by node, and whether side effects are executed
abbrev pub awaiting_on_equal : awaiting.AwaitingOn → Message → Bool
awaiting_on_equal a (AwaitingOn b) = (futures_of.ghosts).eq a.future b.future
    && beq a.executing_side_effects b.executing_side_effects
awaiting_on_equal a _ = false

-- ephemeral reads: id and key
abbrev pub get_state_ephemeral_command_equal : ephemeral_commands.GetStateEphemeralCommand → Message
    → Bool
get_state_ephemeral_command_equal a (GetStateEphemeralCommand b) = (a.id == b.id)
    && pointwise nat_eq a.key b.key
get_state_ephemeral_command_equal a _ = false

-- what ephemeral reads found: id, and the result unless payloads are ignored
abbrev pub get_state_ephemeral_notification_equal : Bool
    → ephemeral_notifications.GetStateEphemeralNotification → Message → Bool
get_state_ephemeral_notification_equal ignore a (GetStateEphemeralNotification b) = (a.id == b.id)
    && (ignore || option_eq (state_of.ghosts).eq a.result b.result)
get_state_ephemeral_notification_equal ignore a _ = false

-- no field is looked at
abbrev pub input_equal : Message → Bool
input_equal (Input _) = true
input_equal _ = false

-- eager reads: name and key, and what was found unless payloads are ignored
abbrev pub get_eager_state_equal : Bool → GetEagerStateCommand → Message → Bool
get_eager_state_equal ignore a (GetEagerState b) = pointwise nat_eq a.name b.name
    && pointwise nat_eq a.key b.key && (ignore || option_eq (state_of.ghosts).eq a.result b.result)
get_eager_state_equal ignore a _ = false

-- lazy reads: name, key and completion id
abbrev pub get_lazy_state_equal : GetLazyStateCommand → Message → Bool
get_lazy_state_equal a (GetLazyState b) = pointwise nat_eq a.name b.name
    && pointwise nat_eq a.key b.key && (a.result_completion_id == b.result_completion_id)
get_lazy_state_equal a _ = false

-- eager reads of the keys: name, and the keys unless payloads are ignored
abbrev pub get_eager_state_keys_equal : Bool → GetEagerStateKeysCommand → Message → Bool
get_eager_state_keys_equal ignore a (GetEagerStateKeys b) = (ignore
    || option_eq (pointwise (pointwise nat_eq)) a.value b.value) && pointwise nat_eq a.name b.name
get_eager_state_keys_equal ignore a _ = false

-- lazy reads of the keys: completion id and name
abbrev pub get_lazy_state_keys_equal : GetLazyStateKeysCommand → Message → Bool
get_lazy_state_keys_equal a (GetLazyStateKeys b) =
    (a.result_completion_id == b.result_completion_id) && pointwise nat_eq a.name b.name
get_lazy_state_keys_equal a _ = false

-- states that are set: name and key, and the value unless payloads are ignored
abbrev pub set_state_equal : Bool → SetStateCommand → Message → Bool
set_state_equal ignore a (SetState b) = pointwise nat_eq a.name b.name
    && pointwise nat_eq a.key b.key && (ignore || pointwise nat_eq a.value b.value)
set_state_equal ignore a _ = false

-- states that are cleared: name and key
abbrev pub clear_state_equal : ClearStateCommand → Message → Bool
clear_state_equal a (ClearState b) = pointwise nat_eq a.name b.name && pointwise nat_eq a.key b.key
clear_state_equal a _ = false

-- clears of all state: name
abbrev pub clear_all_state_equal : ClearAllStateCommand → Message → Bool
clear_all_state_equal a (ClearAllState b) = pointwise nat_eq a.name b.name
clear_all_state_equal a _ = false

-- the wake up time isn't looked at
abbrev pub sleep_equal : SleepCommand → Message → Bool
sleep_equal a (Sleep b) = (a.result_completion_id == b.result_completion_id)
    && pointwise nat_eq a.name b.name
sleep_equal a _ = false

-- calls: the request, and the completion id of the result
abbrev pub call_equal : Bool → CallCommand → Message → Bool
call_equal ignore a (Call b) = request_equal ignore a.request b.request
    && (a.result_completion_id == b.result_completion_id)
call_equal ignore a _ = false

-- the invoke time isn't looked at
abbrev pub one_way_call_equal : Bool → OneWayCallCommand → Message → Bool
one_way_call_equal ignore a (OneWayCall b) = request_equal ignore a.request b.request
one_way_call_equal ignore a _ = false

-- completions of awakeables: the awakeable's id, and the result unless payloads are ignored
abbrev pub complete_awakeable_equal : Bool → CompleteAwakeableCommand → Message → Bool
complete_awakeable_equal ignore a (CompleteAwakeable b) = pointwise nat_eq a.awakeable_id
    b.awakeable_id && (ignore || (values_of.ghosts).eq a.result b.result)
complete_awakeable_equal ignore a _ = false

-- signals that are sent: the invocation and the signal, and what is sent unless payloads are
-- ignored
abbrev pub send_signal_equal : Bool → SendSignalCommand → Message → Bool
send_signal_equal ignore a (SendSignal b) = pointwise nat_eq a.target_invocation_id
    b.target_invocation_id && (signals_of.ghosts).eq a.signal b.signal
    && (ignore || (sent_of.ghosts).eq a.result b.result)
send_signal_equal ignore a _ = false

-- gets of promises, and no peek: key and completion id
abbrev pub get_promise_equal : PromiseCommand → Message → Bool
get_promise_equal a (GetPromise b) = promise_equal a b
get_promise_equal a _ = false

-- peeks of promises, and no get: key and completion id
abbrev pub peek_promise_equal : PromiseCommand → Message → Bool
peek_promise_equal a (PeekPromise b) = promise_equal a b
peek_promise_equal a _ = false

-- completions of promises: key and completion id, and what they are completed with unless payloads
-- are ignored
abbrev pub complete_promise_equal : Bool → CompletePromiseCommand → Message → Bool
complete_promise_equal ignore a (CompletePromise b) = pointwise nat_eq a.key b.key
    && (ignore || (values_of.ghosts).eq a.completion b.completion)
    && (a.result_completion_id == b.result_completion_id)
complete_promise_equal ignore a _ = false

-- runs: name and completion id
abbrev pub run_equal : RunCommand → Message → Bool
run_equal a (Run b) = pointwise nat_eq a.name b.name
    && (a.result_completion_id == b.result_completion_id)
run_equal a _ = false

-- attaches: the invocation that is meant and the completion id
abbrev pub attach_invocation_equal : InvocationCommand → Message → Bool
attach_invocation_equal a (AttachInvocation b) = invocation_equal a b
attach_invocation_equal a _ = false

-- questions for outputs: the invocation that is meant and the completion id
abbrev pub get_invocation_output_equal : InvocationCommand → Message → Bool
get_invocation_output_equal a (GetInvocationOutput b) = invocation_equal a b
get_invocation_output_equal a _ = false

-- the result isn't compared if payloads are ignored
abbrev pub output_equal : Bool → OutputCommand → Message → Bool
output_equal ignore a (Output b) = ignore || (values_of.ghosts).eq a.result b.result
output_equal ignore a _ = false

-- notifications: id, and the result unless payloads are ignored
abbrev pub notification_equal : Bool → notifications.Notification → Message → Bool
notification_equal ignore a (Notification b) = (ids_of.ghosts).eq a.id b.id
    && (ignore || (results_of.ghosts).eq a.result b.result)
notification_equal ignore a _ = false

-- the two are of one type, and equal in what is looked at
unfoldable pub header_equal : Message → Message → Bool → Bool
header_equal (Start a) m ignore = start_equal a m
header_equal (Suspension a) m ignore = suspension_equal a m
header_equal (Error a) m ignore = error_equal a m
header_equal End m ignore = end_equal m
header_equal (ProposeRunCompletion a) m ignore = propose_run_completion_equal ignore a m
header_equal (ProposeRunCompletionAck a) m ignore = propose_run_completion_ack_equal a m
header_equal (AwaitingOn a) m ignore = awaiting_on_equal a m
header_equal (GetStateEphemeralCommand a) m ignore = get_state_ephemeral_command_equal a m
header_equal (GetStateEphemeralNotification a) m ignore = get_state_ephemeral_notification_equal
    ignore a m
header_equal (Input _) m ignore = input_equal m
header_equal (GetEagerState a) m ignore = get_eager_state_equal ignore a m
header_equal (GetLazyState a) m ignore = get_lazy_state_equal a m
header_equal (GetEagerStateKeys a) m ignore = get_eager_state_keys_equal ignore a m
header_equal (GetLazyStateKeys a) m ignore = get_lazy_state_keys_equal a m
header_equal (SetState a) m ignore = set_state_equal ignore a m
header_equal (ClearState a) m ignore = clear_state_equal a m
header_equal (ClearAllState a) m ignore = clear_all_state_equal a m
header_equal (Sleep a) m ignore = sleep_equal a m
header_equal (Call a) m ignore = call_equal ignore a m
header_equal (OneWayCall a) m ignore = one_way_call_equal ignore a m
header_equal (CompleteAwakeable a) m ignore = complete_awakeable_equal ignore a m
header_equal (SendSignal a) m ignore = send_signal_equal ignore a m
header_equal (GetPromise a) m ignore = get_promise_equal a m
header_equal (PeekPromise a) m ignore = peek_promise_equal a m
header_equal (CompletePromise a) m ignore = complete_promise_equal ignore a m
header_equal (Run a) m ignore = run_equal a m
header_equal (AttachInvocation a) m ignore = attach_invocation_equal a m
header_equal (GetInvocationOutput a) m ignore = get_invocation_output_equal a m
header_equal (Output a) m ignore = output_equal ignore a m
header_equal (Notification a) m ignore = notification_equal ignore a m
