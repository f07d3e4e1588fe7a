-- The parts of a message, by their places: texts and bytes. The first eight places are for what
-- each such message has; from the eighth on stand its headers, or the parts of its result.
use Rattle.std.specs.Prelude.{◌==◌, ◌/◌, ◌%◌, ◌-◌, ℕ, if◌then◌else◌, List, [], slice_get, Option, Some, None}
use Rattle.std.specs.Option.{option_map}
use Rattle.journal_protocol.specs.CallRequest.{CallRequest}
use Rattle.journal_protocol.specs.CompletePromiseCommand.{CompletePromiseCommand}
use Rattle.journal_protocol.specs.ErrorMessage.{ErrorMessage}
use Rattle.journal_protocol.specs.Failure.{Failure}
use Rattle.journal_protocol.specs.Header.{Header}
use Rattle.journal_protocol.specs.IdempotencyId.{IdempotencyId}
use Rattle.journal_protocol.specs.InputCommand.{InputCommand}
use Rattle.journal_protocol.specs.InvocationTarget.{InvocationTarget}
use Rattle.journal_protocol.specs.InvocationTarget.TheVariants as target
use Rattle.journal_protocol.specs.Message.{Message}
use Rattle.journal_protocol.specs.Message.TheVariants as message
use Rattle.journal_protocol.specs.Notification.{Notification}
use Rattle.journal_protocol.specs.NotificationId.{NotificationId}
use Rattle.journal_protocol.specs.NotificationId.TheVariants.{CompletionId, SignalId, SignalName}
use Rattle.journal_protocol.specs.NotificationResult.{NotificationResult}
use Rattle.journal_protocol.specs.NotificationResult.TheVariants as result
use Rattle.journal_protocol.specs.SendSignalCommand.{SendSignalCommand}
use Rattle.journal_protocol.specs.Signal.{Signal}
use Rattle.journal_protocol.specs.Signal.TheVariants as signal
use Rattle.journal_protocol.specs.SignalResult.{SignalResult}
use Rattle.journal_protocol.specs.SignalResult.TheVariants as sent
use Rattle.journal_protocol.specs.ValueOrFailure.{ValueOrFailure}
use Rattle.journal_protocol.specs.ValueOrFailure.TheVariants as given
use Rattle.journal_protocol.specs.WorkflowId.{WorkflowId}

-- one part, at 0
abbrev pub sole_part : List ℕ → ℕ → Option (List ℕ)
sole_part text at = if at == 0 then Some text else None

-- a part at 0, and one at 1
abbrev pub two_parts : List ℕ → List ℕ → ℕ → Option (List ℕ)
two_parts first second at = if at == 0 then Some first else if at == 1 then Some second else None

-- the name of a header, if the place is even, or its value
abbrev pub header_half : ℕ → Header → List ℕ
header_half at header = if at % 2 == 0 then header.key else header.value

-- the names and values of headers in turn
abbrev pub headers_part : List Header → ℕ → Option (List ℕ)
headers_part headers at = option_map (header_half at) (slice_get headers (at / 2))

-- the key of a pair, if the place is even, or its value
abbrev pub pair_half : ℕ → List ℕ × List ℕ → List ℕ
pair_half at pair = if at % 2 == 0 then pair.0 else pair.1

-- the keys and values of pairs in turn
abbrev pub pairs_part : List (List ℕ × List ℕ) → ℕ → Option (List ℕ)
pairs_part pairs at = option_map (pair_half at) (slice_get pairs (at / 2))

-- of a failure: the message, then the metadata
abbrev pub failure_part : Failure → ℕ → Option (List ℕ)
failure_part failure at =
    if at == 0 then Some failure.message else pairs_part failure.metadata (at - 1)

-- of a result: the bytes, the failure, the keys, or the id of an invocation
abbrev pub value_part : ValueOrFailure → ℕ → Option (List ℕ)
value_part (given.Value bytes) at = sole_part bytes at
value_part (given.Failure failure) at = failure_part failure at

abbrev pub sent_part : SignalResult → ℕ → Option (List ℕ)
sent_part sent.Void at = None
sent_part (sent.Value bytes) at = sole_part bytes at
sent_part (sent.Failure failure) at = failure_part failure at

abbrev pub notification_part : NotificationResult → ℕ → Option (List ℕ)
notification_part result.Void at = None
notification_part (result.Value bytes) at = sole_part bytes at
notification_part (result.Failure failure) at = failure_part failure at
notification_part (result.StateKeys keys) at = slice_get keys at
notification_part (result.InvocationId id) at = sole_part id at

-- of a message that has a text: the text, then the result
abbrev pub state_part : List ℕ → ValueOrFailure → ℕ → Option (List ℕ)
state_part text value at =
    if at / 8 == 0 then sole_part text at else value_part value (at - 8)

-- of an input: its bytes, then the headers
abbrev pub input_part : InputCommand → ℕ → Option (List ℕ)
input_part input at =
    if at / 8 == 0 then sole_part input.value at else headers_part input.headers (at - 8)

-- of a call: what it is given, whom it calls, and what else it says, then the headers
abbrev pub call_part : CallRequest → ℕ → Option (List ℕ)
call_part call at =
    if at == 0 then Some call.parameter
    else if at == 1 then Some call.service_name
    else if at == 2 then Some call.handler_name
    else if at == 3 then Some call.key
    else if at == 4 then call.idempotency_key
    else if at == 5 then call.scope
    else if at == 6 then call.limit_key
    else if at == 7 then Some call.name
    else headers_part call.headers (at - 8)

abbrev pub workflow_part : WorkflowId → ℕ → Option (List ℕ)
workflow_part workflow at =
    if at == 1 then Some workflow.name
    else if at == 3 then Some workflow.key
    else if at == 5 then workflow.scope
    else None

abbrev pub idempotency_part : IdempotencyId → ℕ → Option (List ℕ)
idempotency_part call at =
    if at == 1 then Some call.service_name
    else if at == 2 then Some call.handler_name
    else if at == 3 then call.service_key
    else if at == 4 then Some call.idempotency_key
    else if at == 5 then call.scope
    else None

-- of the invocation that is meant: its id; or, at the places of a call, what it was called by
abbrev pub target_part : InvocationTarget → ℕ → Option (List ℕ)
target_part (target.InvocationId id) at = sole_part id at
target_part (target.WorkflowId workflow) at = workflow_part workflow at
target_part (target.IdempotencyId call) at = idempotency_part call at

-- the name of a notification's id, if it has one
abbrev pub id_part : NotificationId → ℕ → Option (List ℕ)
id_part (CompletionId id) at = None
id_part (SignalId id) at = None
id_part (SignalName name) at = sole_part name at

-- the name of a signal, if it has one
abbrev pub signal_name : Signal → Option (List ℕ)
signal_name (signal.Index index) = None
signal_name (signal.Name name) = Some name

-- of a signal that is sent: the invocation's id, and the signal's name, then the result
abbrev pub signal_part : SendSignalCommand → ℕ → Option (List ℕ)
signal_part sent at =
    if at == 0 then Some sent.target_invocation_id
    else if at == 1 then signal_name sent.signal
    else if at / 8 == 0 then None
    else sent_part sent.result (at - 8)

-- of a notification: the name of its id, then its result
abbrev pub arrived_part : Notification → ℕ → Option (List ℕ)
arrived_part note at =
    if at / 8 == 0 then id_part note.id at else notification_part note.result (at - 8)

-- of a promise that is completed: its key, then the result
abbrev pub promise_part : CompletePromiseCommand → ℕ → Option (List ℕ)
promise_part promise at = state_part promise.key promise.completion at

-- of an error: its text, and its stack trace
abbrev pub error_part : ErrorMessage → ℕ → Option (List ℕ)
error_part error at = two_parts error.message error.stacktrace at

-- the part of a message at this place, if it has one there
abbrev pub message_part : Message → ℕ → Option (List ℕ)
message_part (message.Error m) at = error_part m at
message_part (message.ProposeRunCompletion m) at = state_part [] m.result at
message_part (message.Input m) at = input_part m at
message_part (message.GetLazyState m) at = sole_part m.key at
message_part (message.SetState m) at = two_parts m.key m.value at
message_part (message.ClearState m) at = sole_part m.key at
message_part (message.Sleep m) at = sole_part m.name at
message_part (message.Call m) at = call_part m.request at
message_part (message.OneWayCall m) at = call_part m.request at
message_part (message.CompleteAwakeable m) at = state_part m.awakeable_id m.result at
message_part (message.SendSignal m) at = signal_part m at
message_part (message.GetPromise m) at = sole_part m.key at
message_part (message.PeekPromise m) at = sole_part m.key at
message_part (message.CompletePromise m) at = promise_part m at
message_part (message.Run m) at = sole_part m.name at
message_part (message.AttachInvocation m) at = target_part m.target at
message_part (message.GetInvocationOutput m) at = target_part m.target at
message_part (message.Output m) at = state_part [] m.result at
message_part (message.Notification m) at = arrived_part m at
message_part m at = None
