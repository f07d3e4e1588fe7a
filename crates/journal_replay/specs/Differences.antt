-- The first field in which two messages aren't the same to replay, in an order in which ids come
-- last.
use Rattle.std.specs.Prelude.{◌≡◌, ◌⊎◌, IsTrue, nat_eq, ◌==◌, ◌||◌, Bool, Option, None, Some}
use Rattle.std.specs.Cmp.Lexicographic.{pointwise}
use Rattle.std.specs.Option.{option_eq}
use Rattle.journal_attempt.specs.declared.commands.OutputCommand.{OutputCommand}
use Rattle.journal_attempt.specs.declared.commands.SleepCommand.{SleepCommand}
use Rattle.journal_attempt.specs.declared.runs.RunCommand.{RunCommand}
use Rattle.journal_calls.specs.contracts.invocations.InvocationTargetPartialEq.TheImpl as targets_of
use Rattle.journal_calls.specs.contracts.signals.SignalPartialEq.TheImpl as signals_of
use Rattle.journal_calls.specs.contracts.signals.SignalResultPartialEq.TheImpl as sent_of
use Rattle.journal_calls.specs.declared.calls.CallCommand.{CallCommand}
use Rattle.journal_calls.specs.declared.calls.CallRequest.{CallRequest}
use Rattle.journal_calls.specs.declared.calls.OneWayCallCommand.{OneWayCallCommand}
use Rattle.journal_calls.specs.declared.invocations.InvocationCommand.{InvocationCommand}
use Rattle.journal_calls.specs.declared.promises.CompletePromiseCommand.{CompletePromiseCommand}
use Rattle.journal_calls.specs.declared.promises.PromiseCommand.{PromiseCommand}
use Rattle.journal_calls.specs.declared.signals.CompleteAwakeableCommand.{CompleteAwakeableCommand}
use Rattle.journal_calls.specs.declared.signals.SendSignalCommand.{SendSignalCommand}
use Rattle.journal_messages.specs.HeaderEqual.{header_equal}
use Rattle.journal_messages.specs.declared.message.Message.TheVariants.{Start, Suspension, Error, End, ProposeRunCompletion, ProposeRunCompletionAck, AwaitingOn, GetStateEphemeralCommand, GetStateEphemeralNotification, Input, GetEagerState, GetLazyState, GetEagerStateKeys, GetLazyStateKeys, SetState, ClearState, ClearAllState, Sleep, Call, OneWayCall, CompleteAwakeable, SendSignal, GetPromise, PeekPromise, CompletePromise, Run, AttachInvocation, GetInvocationOutput, Output, Notification}
use Rattle.journal_messages.specs.declared.message.Message.{Message}
use Rattle.journal_replay.specs.Fields.{Before, IsNothing, unless}
use Rattle.journal_replay.specs.declared.field.Field.TheVariants as field
use Rattle.journal_replay.specs.declared.field.Field.{Field}
use Rattle.journal_state.specs.contracts.state.VoidOrValuePartialEq.TheImpl as state_of
use Rattle.journal_state.specs.declared.state.ClearAllStateCommand.{ClearAllStateCommand}
use Rattle.journal_state.specs.declared.state.ClearStateCommand.{ClearStateCommand}
use Rattle.journal_state.specs.declared.state.GetEagerStateCommand.{GetEagerStateCommand}
use Rattle.journal_state.specs.declared.state.GetEagerStateKeysCommand.{GetEagerStateKeysCommand}
use Rattle.journal_state.specs.declared.state.GetLazyStateCommand.{GetLazyStateCommand}
use Rattle.journal_state.specs.declared.state.GetLazyStateKeysCommand.{GetLazyStateKeysCommand}
use Rattle.journal_state.specs.declared.state.SetStateCommand.{SetStateCommand}
use Rattle.journal_values.specs.contracts.parts.HeaderPartialEq.TheImpl as headers_of
use Rattle.journal_values.specs.contracts.parts.ValueOrFailurePartialEq.TheImpl as values_of

-- ---- the first field that isn't the same

-- two requests, and what is found after them
abbrev pub request_difference : Bool → CallRequest → CallRequest → Option Field → Option Field
request_difference ignore a b others =
    unless (pointwise nat_eq a.service_name b.service_name) field.ServiceName (
    unless (pointwise nat_eq a.handler_name b.handler_name) field.HandlerName (
    unless (pointwise nat_eq a.key b.key) field.Key (
    unless (option_eq (pointwise nat_eq) a.idempotency_key b.idempotency_key) field.IdempotencyKey (
    unless (option_eq (pointwise nat_eq) a.scope b.scope) field.Scope (
    unless (option_eq (pointwise nat_eq) a.limit_key b.limit_key) field.LimitKey (
    unless (pointwise (headers_of.ghosts).eq a.headers b.headers) field.Headers (
    unless (ignore || pointwise nat_eq a.parameter b.parameter) field.Parameter (
    unless (pointwise nat_eq a.name b.name) field.Name (
    unless (a.invocation_id_notification_idx == b.invocation_id_notification_idx)
    field.InvocationIdNotificationIdx (others))))))))))

-- ---- one type with another message

-- inputs: no field is looked at
abbrev pub input_difference : Message → Option Field
input_difference (Input _) = None
input_difference _ = Some field.Type

abbrev pub get_eager_state_difference : Bool → GetEagerStateCommand → Message → Option Field
get_eager_state_difference ignore a (GetEagerState b) =
    unless (pointwise nat_eq a.name b.name) field.Name (
    unless (pointwise nat_eq a.key b.key) field.Key (
    unless (ignore || option_eq (state_of.ghosts).eq a.result b.result) field.Result (None)))
get_eager_state_difference ignore a _ = Some field.Type

abbrev pub get_lazy_state_difference : GetLazyStateCommand → Message → Option Field
get_lazy_state_difference a (GetLazyState b) =
    unless (pointwise nat_eq a.name b.name) field.Name (
    unless (pointwise nat_eq a.key b.key) field.Key (
    unless (a.result_completion_id == b.result_completion_id) field.ResultCompletionId (None)))
get_lazy_state_difference a _ = Some field.Type

abbrev pub get_eager_state_keys_difference : Bool → GetEagerStateKeysCommand → Message
    → Option Field
get_eager_state_keys_difference ignore a (GetEagerStateKeys b) =
    unless (ignore || option_eq (pointwise (pointwise nat_eq)) a.value b.value) field.Value (
    unless (pointwise nat_eq a.name b.name) field.Name (None))
get_eager_state_keys_difference ignore a _ = Some field.Type

abbrev pub get_lazy_state_keys_difference : GetLazyStateKeysCommand → Message → Option Field
get_lazy_state_keys_difference a (GetLazyStateKeys b) =
    unless (pointwise nat_eq a.name b.name) field.Name (
    unless (a.result_completion_id == b.result_completion_id) field.ResultCompletionId (None))
get_lazy_state_keys_difference a _ = Some field.Type

abbrev pub set_state_difference : Bool → SetStateCommand → Message → Option Field
set_state_difference ignore a (SetState b) =
    unless (pointwise nat_eq a.name b.name) field.Name (
    unless (pointwise nat_eq a.key b.key) field.Key (
    unless (ignore || pointwise nat_eq a.value b.value) field.Value (None)))
set_state_difference ignore a _ = Some field.Type

abbrev pub clear_state_difference : ClearStateCommand → Message → Option Field
clear_state_difference a (ClearState b) =
    unless (pointwise nat_eq a.name b.name) field.Name (
    unless (pointwise nat_eq a.key b.key) field.Key (None))
clear_state_difference a _ = Some field.Type

abbrev pub clear_all_state_difference : ClearAllStateCommand → Message → Option Field
clear_all_state_difference a (ClearAllState b) =
    unless (pointwise nat_eq a.name b.name) field.Name (None)
clear_all_state_difference a _ = Some field.Type

abbrev pub sleep_difference : SleepCommand → Message → Option Field
sleep_difference a (Sleep b) =
    unless (pointwise nat_eq a.name b.name) field.Name (
    unless (a.result_completion_id == b.result_completion_id) field.ResultCompletionId (None))
sleep_difference a _ = Some field.Type

abbrev pub call_difference : Bool → CallCommand → Message → Option Field
call_difference ignore a (Call b) =
    request_difference ignore a.request b.request (unless
    (a.result_completion_id == b.result_completion_id) field.ResultCompletionId None)
call_difference ignore a _ = Some field.Type

abbrev pub one_way_call_difference : Bool → OneWayCallCommand → Message → Option Field
one_way_call_difference ignore a (OneWayCall b) =
    request_difference ignore a.request b.request None
one_way_call_difference ignore a _ = Some field.Type

abbrev pub complete_awakeable_difference : Bool → CompleteAwakeableCommand → Message → Option Field
complete_awakeable_difference ignore a (CompleteAwakeable b) =
    unless (pointwise nat_eq a.awakeable_id b.awakeable_id) field.AwakeableId (
    unless (ignore || (values_of.ghosts).eq a.result b.result) field.Result (None))
complete_awakeable_difference ignore a _ = Some field.Type

abbrev pub send_signal_difference : Bool → SendSignalCommand → Message → Option Field
send_signal_difference ignore a (SendSignal b) =
    unless (pointwise nat_eq a.target_invocation_id b.target_invocation_id)
    field.TargetInvocationId (
    unless ((signals_of.ghosts).eq a.signal b.signal) field.Signal (
    unless (ignore || (sent_of.ghosts).eq a.result b.result) field.Result (None)))
send_signal_difference ignore a _ = Some field.Type

abbrev pub get_promise_difference : PromiseCommand → Message → Option Field
get_promise_difference a (GetPromise b) =
    unless (pointwise nat_eq a.key b.key) field.Key (
    unless (a.result_completion_id == b.result_completion_id) field.ResultCompletionId (None))
get_promise_difference a _ = Some field.Type

abbrev pub peek_promise_difference : PromiseCommand → Message → Option Field
peek_promise_difference a (PeekPromise b) =
    unless (pointwise nat_eq a.key b.key) field.Key (
    unless (a.result_completion_id == b.result_completion_id) field.ResultCompletionId (None))
peek_promise_difference a _ = Some field.Type

abbrev pub complete_promise_difference : Bool → CompletePromiseCommand → Message → Option Field
complete_promise_difference ignore a (CompletePromise b) =
    unless (pointwise nat_eq a.key b.key) field.Key (
    unless (ignore || (values_of.ghosts).eq a.completion b.completion) field.Completion (
    unless (a.result_completion_id == b.result_completion_id) field.ResultCompletionId (None)))
complete_promise_difference ignore a _ = Some field.Type

abbrev pub run_difference : RunCommand → Message → Option Field
run_difference a (Run b) =
    unless (pointwise nat_eq a.name b.name) field.Name (
    unless (a.result_completion_id == b.result_completion_id) field.ResultCompletionId (None))
run_difference a _ = Some field.Type

abbrev pub attach_invocation_difference : InvocationCommand → Message → Option Field
attach_invocation_difference a (AttachInvocation b) =
    unless ((targets_of.ghosts).eq a.target b.target) field.Target (
    unless (a.result_completion_id == b.result_completion_id) field.ResultCompletionId (None))
attach_invocation_difference a _ = Some field.Type

abbrev pub get_invocation_output_difference : InvocationCommand → Message → Option Field
get_invocation_output_difference a (GetInvocationOutput b) =
    unless ((targets_of.ghosts).eq a.target b.target) field.Target (
    unless (a.result_completion_id == b.result_completion_id) field.ResultCompletionId (None))
get_invocation_output_difference a _ = Some field.Type

abbrev pub output_difference : Bool → OutputCommand → Message → Option Field
output_difference ignore a (Output b) =
    unless (ignore || (values_of.ghosts).eq a.result b.result) field.Result (None)
output_difference ignore a _ = Some field.Type

-- messages that are no commands are compared as a whole
abbrev pub body_difference : Bool → Message → Message → Option Field
body_difference ignore a b = unless (header_equal a b ignore) field.Body None

-- the first field that isn't the same
unfoldable pub difference : Bool → Message → Message → Option Field
difference ignore (Start a) m = body_difference ignore (Start a) m
difference ignore (Suspension a) m = body_difference ignore (Suspension a) m
difference ignore (Error a) m = body_difference ignore (Error a) m
difference ignore End m = body_difference ignore End m
difference ignore (ProposeRunCompletion a) m = body_difference ignore (ProposeRunCompletion a) m
difference ignore (ProposeRunCompletionAck a) m = body_difference ignore
    (ProposeRunCompletionAck a) m
difference ignore (AwaitingOn a) m = body_difference ignore (AwaitingOn a) m
difference ignore (GetStateEphemeralCommand a) m = body_difference ignore
    (GetStateEphemeralCommand a) m
difference ignore (GetStateEphemeralNotification a) m = body_difference ignore
    (GetStateEphemeralNotification a) m
difference ignore (Notification a) m = body_difference ignore (Notification a) m
difference ignore (Input _) m = input_difference m
difference ignore (GetEagerState a) m = get_eager_state_difference ignore a m
difference ignore (GetLazyState a) m = get_lazy_state_difference a m
difference ignore (GetEagerStateKeys a) m = get_eager_state_keys_difference ignore a m
difference ignore (GetLazyStateKeys a) m = get_lazy_state_keys_difference a m
difference ignore (SetState a) m = set_state_difference ignore a m
difference ignore (ClearState a) m = clear_state_difference a m
difference ignore (ClearAllState a) m = clear_all_state_difference a m
difference ignore (Sleep a) m = sleep_difference a m
difference ignore (Call a) m = call_difference ignore a m
difference ignore (OneWayCall a) m = one_way_call_difference ignore a m
difference ignore (CompleteAwakeable a) m = complete_awakeable_difference ignore a m
difference ignore (SendSignal a) m = send_signal_difference ignore a m
difference ignore (GetPromise a) m = get_promise_difference a m
difference ignore (PeekPromise a) m = peek_promise_difference a m
difference ignore (CompletePromise a) m = complete_promise_difference ignore a m
difference ignore (Run a) m = run_difference a m
difference ignore (AttachInvocation a) m = attach_invocation_difference a m
difference ignore (GetInvocationOutput a) m = get_invocation_output_difference a m
difference ignore (Output a) m = output_difference ignore a m

-- ---- the same in words

-- a payload is the same, or payloads are ignored
abbrev pub SamePayload : {A : Type 0} → Bool → A → A → Type 0
SamePayload ignore a b = IsTrue ignore ⊎ (a ≡ b)

-- the two are of different types
abbrev pub AreOfTwoTypes : Option Field → Type 0
AreOfTwoTypes found = found ≡ Some field.Type

abbrev pub OfRequest : Bool → CallRequest → CallRequest → (Option Field → Type 0) → Option Field
    → Type 0
OfRequest ignore a b After =
    Before field.ServiceName (a.service_name ≡ b.service_name) (
    Before field.HandlerName (a.handler_name ≡ b.handler_name) (
    Before field.Key (a.key ≡ b.key) (
    Before field.IdempotencyKey (a.idempotency_key ≡ b.idempotency_key) (
    Before field.Scope (a.scope ≡ b.scope) (
    Before field.LimitKey (a.limit_key ≡ b.limit_key) (
    Before field.Headers (a.headers ≡ b.headers) (
    Before field.Parameter (SamePayload ignore a.parameter b.parameter) (
    Before field.Name (a.name ≡ b.name) (
    Before field.InvocationIdNotificationIdx
    (a.invocation_id_notification_idx ≡ b.invocation_id_notification_idx) (After))))))))))

-- ---- one type with another message

abbrev pub OfInput : Message → Option Field → Type 0
OfInput (Input _) = IsNothing
OfInput _ = AreOfTwoTypes

abbrev pub OfGetEagerState : Bool → GetEagerStateCommand → Message → Option Field → Type 0
OfGetEagerState ignore a (GetEagerState b) =
    Before field.Name (a.name ≡ b.name) (
    Before field.Key (a.key ≡ b.key) (
    Before field.Result (SamePayload ignore a.result b.result) (IsNothing)))
OfGetEagerState ignore a _ = AreOfTwoTypes

abbrev pub OfGetLazyState : GetLazyStateCommand → Message → Option Field → Type 0
OfGetLazyState a (GetLazyState b) =
    Before field.Name (a.name ≡ b.name) (
    Before field.Key (a.key ≡ b.key) (
    Before field.ResultCompletionId (a.result_completion_id ≡ b.result_completion_id) (IsNothing)))
OfGetLazyState a _ = AreOfTwoTypes

abbrev pub OfGetEagerStateKeys : Bool → GetEagerStateKeysCommand → Message → Option Field → Type 0
OfGetEagerStateKeys ignore a (GetEagerStateKeys b) =
    Before field.Value (SamePayload ignore a.value b.value) (
    Before field.Name (a.name ≡ b.name) (IsNothing))
OfGetEagerStateKeys ignore a _ = AreOfTwoTypes

abbrev pub OfGetLazyStateKeys : GetLazyStateKeysCommand → Message → Option Field → Type 0
OfGetLazyStateKeys a (GetLazyStateKeys b) =
    Before field.Name (a.name ≡ b.name) (
    Before field.ResultCompletionId (a.result_completion_id ≡ b.result_completion_id) (IsNothing))
OfGetLazyStateKeys a _ = AreOfTwoTypes

abbrev pub OfSetState : Bool → SetStateCommand → Message → Option Field → Type 0
OfSetState ignore a (SetState b) =
    Before field.Name (a.name ≡ b.name) (
    Before field.Key (a.key ≡ b.key) (
    Before field.Value (SamePayload ignore a.value b.value) (IsNothing)))
OfSetState ignore a _ = AreOfTwoTypes

abbrev pub OfClearState : ClearStateCommand → Message → Option Field → Type 0
OfClearState a (ClearState b) =
    Before field.Name (a.name ≡ b.name) (
    Before field.Key (a.key ≡ b.key) (IsNothing))
OfClearState a _ = AreOfTwoTypes

abbrev pub OfClearAllState : ClearAllStateCommand → Message → Option Field → Type 0
OfClearAllState a (ClearAllState b) =
    Before field.Name (a.name ≡ b.name) (IsNothing)
OfClearAllState a _ = AreOfTwoTypes

abbrev pub OfSleep : SleepCommand → Message → Option Field → Type 0
OfSleep a (Sleep b) =
    Before field.Name (a.name ≡ b.name) (
    Before field.ResultCompletionId (a.result_completion_id ≡ b.result_completion_id) (IsNothing))
OfSleep a _ = AreOfTwoTypes

abbrev pub OfCall : Bool → CallCommand → Message → Option Field → Type 0
OfCall ignore a (Call b) =
    OfRequest ignore a.request b.request (Before field.ResultCompletionId
    (a.result_completion_id ≡ b.result_completion_id) IsNothing)
OfCall ignore a _ = AreOfTwoTypes

abbrev pub OfOneWayCall : Bool → OneWayCallCommand → Message → Option Field → Type 0
OfOneWayCall ignore a (OneWayCall b) =
    OfRequest ignore a.request b.request IsNothing
OfOneWayCall ignore a _ = AreOfTwoTypes

abbrev pub OfCompleteAwakeable : Bool → CompleteAwakeableCommand → Message → Option Field → Type 0
OfCompleteAwakeable ignore a (CompleteAwakeable b) =
    Before field.AwakeableId (a.awakeable_id ≡ b.awakeable_id) (
    Before field.Result (SamePayload ignore a.result b.result) (IsNothing))
OfCompleteAwakeable ignore a _ = AreOfTwoTypes

abbrev pub OfSendSignal : Bool → SendSignalCommand → Message → Option Field → Type 0
OfSendSignal ignore a (SendSignal b) =
    Before field.TargetInvocationId (a.target_invocation_id ≡ b.target_invocation_id) (
    Before field.Signal (a.signal ≡ b.signal) (
    Before field.Result (SamePayload ignore a.result b.result) (IsNothing)))
OfSendSignal ignore a _ = AreOfTwoTypes

abbrev pub OfGetPromise : PromiseCommand → Message → Option Field → Type 0
OfGetPromise a (GetPromise b) =
    Before field.Key (a.key ≡ b.key) (
    Before field.ResultCompletionId (a.result_completion_id ≡ b.result_completion_id) (IsNothing))
OfGetPromise a _ = AreOfTwoTypes

abbrev pub OfPeekPromise : PromiseCommand → Message → Option Field → Type 0
OfPeekPromise a (PeekPromise b) =
    Before field.Key (a.key ≡ b.key) (
    Before field.ResultCompletionId (a.result_completion_id ≡ b.result_completion_id) (IsNothing))
OfPeekPromise a _ = AreOfTwoTypes

abbrev pub OfCompletePromise : Bool → CompletePromiseCommand → Message → Option Field → Type 0
OfCompletePromise ignore a (CompletePromise b) =
    Before field.Key (a.key ≡ b.key) (
    Before field.Completion (SamePayload ignore a.completion b.completion) (
    Before field.ResultCompletionId (a.result_completion_id ≡ b.result_completion_id) (IsNothing)))
OfCompletePromise ignore a _ = AreOfTwoTypes

abbrev pub OfRun : RunCommand → Message → Option Field → Type 0
OfRun a (Run b) =
    Before field.Name (a.name ≡ b.name) (
    Before field.ResultCompletionId (a.result_completion_id ≡ b.result_completion_id) (IsNothing))
OfRun a _ = AreOfTwoTypes

abbrev pub OfAttachInvocation : InvocationCommand → Message → Option Field → Type 0
OfAttachInvocation a (AttachInvocation b) =
    Before field.Target (a.target ≡ b.target) (
    Before field.ResultCompletionId (a.result_completion_id ≡ b.result_completion_id) (IsNothing))
OfAttachInvocation a _ = AreOfTwoTypes

abbrev pub OfGetInvocationOutput : InvocationCommand → Message → Option Field → Type 0
OfGetInvocationOutput a (GetInvocationOutput b) =
    Before field.Target (a.target ≡ b.target) (
    Before field.ResultCompletionId (a.result_completion_id ≡ b.result_completion_id) (IsNothing))
OfGetInvocationOutput a _ = AreOfTwoTypes

abbrev pub OfOutput : Bool → OutputCommand → Message → Option Field → Type 0
OfOutput ignore a (Output b) =
    Before field.Result (SamePayload ignore a.result b.result) (IsNothing)
OfOutput ignore a _ = AreOfTwoTypes

-- messages that are no commands are compared as a whole
abbrev pub OfBody : Bool → Message → Message → Option Field → Type 0
OfBody ignore a b = Before field.Body (IsTrue (header_equal a b ignore)) IsNothing

-- what is found is the first field that isn't the same, if there is one
unfoldable pub IsFirst : Bool → Message → Message → Option Field → Type 0
IsFirst ignore (Start a) m = OfBody ignore (Start a) m
IsFirst ignore (Suspension a) m = OfBody ignore (Suspension a) m
IsFirst ignore (Error a) m = OfBody ignore (Error a) m
IsFirst ignore End m = OfBody ignore End m
IsFirst ignore (ProposeRunCompletion a) m = OfBody ignore (ProposeRunCompletion a) m
IsFirst ignore (ProposeRunCompletionAck a) m = OfBody ignore
    (ProposeRunCompletionAck a) m
IsFirst ignore (AwaitingOn a) m = OfBody ignore (AwaitingOn a) m
IsFirst ignore (GetStateEphemeralCommand a) m = OfBody ignore
    (GetStateEphemeralCommand a) m
IsFirst ignore (GetStateEphemeralNotification a) m = OfBody ignore
    (GetStateEphemeralNotification a) m
IsFirst ignore (Notification a) m = OfBody ignore (Notification a) m
IsFirst ignore (Input _) m = OfInput m
IsFirst ignore (GetEagerState a) m = OfGetEagerState ignore a m
IsFirst ignore (GetLazyState a) m = OfGetLazyState a m
IsFirst ignore (GetEagerStateKeys a) m = OfGetEagerStateKeys ignore a m
IsFirst ignore (GetLazyStateKeys a) m = OfGetLazyStateKeys a m
IsFirst ignore (SetState a) m = OfSetState ignore a m
IsFirst ignore (ClearState a) m = OfClearState a m
IsFirst ignore (ClearAllState a) m = OfClearAllState a m
IsFirst ignore (Sleep a) m = OfSleep a m
IsFirst ignore (Call a) m = OfCall ignore a m
IsFirst ignore (OneWayCall a) m = OfOneWayCall ignore a m
IsFirst ignore (CompleteAwakeable a) m = OfCompleteAwakeable ignore a m
IsFirst ignore (SendSignal a) m = OfSendSignal ignore a m
IsFirst ignore (GetPromise a) m = OfGetPromise a m
IsFirst ignore (PeekPromise a) m = OfPeekPromise a m
IsFirst ignore (CompletePromise a) m = OfCompletePromise ignore a m
IsFirst ignore (Run a) m = OfRun a m
IsFirst ignore (AttachInvocation a) m = OfAttachInvocation a m
IsFirst ignore (GetInvocationOutput a) m = OfGetInvocationOutput a m
IsFirst ignore (Output a) m = OfOutput ignore a m
