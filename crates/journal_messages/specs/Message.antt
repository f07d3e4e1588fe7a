-- Messages as frames.
use Rattle.std.specs.Prelude.{◌≡◌, ℕ, ◌+◌, ◌<◌, ◌^◌, List, [], ◌++◌, length, take, drop, Result, Ok, Err}
use Rattle.std.specs.Int.{w64, from_be_bytes}
use Rattle.wire.specs.Format.{u16s, bytes}
use Rattle.wire.specs.Fault.{Fault}
use Rattle.wire.specs.Fault.TheVariants.{Memory, Malformed}
use Rattle.journal_errors.specs.Types.{type_number}
use Rattle.journal_errors.specs.declared.types.MessageType.{MessageType}
use Rattle.journal_errors.specs.declared.types.MessageType.TheVariants as type
use Rattle.journal_attempt.specs.Encoding.{start_body, suspension, propose_run_completion, propose_run_completion_ack, awaiting_on, input, sleep_body, run_body, output_body}
use Rattle.journal_errors.specs.Encoding.{error}
use Rattle.journal_state.specs.Encoding.{get_state_ephemeral_command, get_state_ephemeral_notification, get_eager_state, get_lazy_state, get_eager_state_keys, get_lazy_state_keys, set_state, clear_state, clear_all_state}
use Rattle.journal_calls.specs.Encoding.{call_body, one_way_call, complete_awakeable_body, send_signal, promise_body, complete_promise_body, invocation}
use Rattle.journal_values.specs.Encoding.{notification}
use Rattle.journal_attempt.specs.Bodies.{start_format, suspension_format, propose_run_completion_format, propose_run_completion_ack_format, awaiting_on_format, input_format, sleep_format, run_format, output_format}
use Rattle.journal_errors.specs.Bodies.{error_format}
use Rattle.journal_state.specs.Bodies.{get_state_ephemeral_command_format, get_state_ephemeral_notification_format, get_eager_state_format, get_lazy_state_format, get_eager_state_keys_format, get_lazy_state_keys_format, set_state_format, clear_state_format, clear_all_state_format}
use Rattle.journal_calls.specs.Bodies.{call_format, one_way_call_format, complete_awakeable_format, send_signal_format, promise_format, complete_promise_format, invocation_format}
use Rattle.journal_values.specs.Bodies.{notification_format}
use Rattle.journal_errors.specs.declared.error.Error as errors
use Rattle.journal_errors.specs.Errors.{fault_error}
use Rattle.journal_messages.specs.declared.message.Message.{Message}
use Rattle.journal_messages.specs.declared.message.Message.TheVariants as message

-- the type whose number stands at the front of the message's frame
abbrev pub type_of : Message → MessageType
type_of (message.Start _) = type.Start
type_of (message.Suspension _) = type.Suspension
type_of (message.Error _) = type.Error
type_of message.End = type.End
type_of (message.ProposeRunCompletion _) = type.ProposeRunCompletion
type_of (message.ProposeRunCompletionAck _) = type.ProposeRunCompletionAck
type_of (message.AwaitingOn _) = type.AwaitingOn
type_of (message.GetStateEphemeralCommand _) = type.GetStateEphemeralCommand
type_of (message.GetStateEphemeralNotification _) = type.GetStateEphemeralNotification
type_of (message.Input _) = type.InputCommand
type_of (message.GetEagerState _) = type.GetEagerStateCommand
type_of (message.GetLazyState _) = type.GetLazyStateCommand
type_of (message.GetEagerStateKeys _) = type.GetEagerStateKeysCommand
type_of (message.GetLazyStateKeys _) = type.GetLazyStateKeysCommand
type_of (message.SetState _) = type.SetStateCommand
type_of (message.ClearState _) = type.ClearStateCommand
type_of (message.ClearAllState _) = type.ClearAllStateCommand
type_of (message.Sleep _) = type.SleepCommand
type_of (message.Call _) = type.CallCommand
type_of (message.OneWayCall _) = type.OneWayCallCommand
type_of (message.CompleteAwakeable _) = type.CompleteAwakeableCommand
type_of (message.SendSignal _) = type.SendSignalCommand
type_of (message.GetPromise _) = type.GetPromiseCommand
type_of (message.PeekPromise _) = type.PeekPromiseCommand
type_of (message.CompletePromise _) = type.CompletePromiseCommand
type_of (message.Run _) = type.RunCommand
type_of (message.AttachInvocation _) = type.AttachInvocationCommand
type_of (message.GetInvocationOutput _) = type.GetInvocationOutputCommand
type_of (message.Output _) = type.OutputCommand
type_of (message.Notification _) = type.Notification

-- the message's fields, one after the other; an end has none
abbrev pub body : Message → List ℕ
body (message.Start m) = start_body m
body (message.Suspension m) = suspension m
body (message.Error m) = error m
body message.End = []
body (message.ProposeRunCompletion m) = propose_run_completion m
body (message.ProposeRunCompletionAck m) = propose_run_completion_ack m
body (message.AwaitingOn m) = awaiting_on m
body (message.GetStateEphemeralCommand m) = get_state_ephemeral_command m
body (message.GetStateEphemeralNotification m) = get_state_ephemeral_notification m
body (message.Input m) = input m
body (message.GetEagerState m) = get_eager_state m
body (message.GetLazyState m) = get_lazy_state m
body (message.GetEagerStateKeys m) = get_eager_state_keys m
body (message.GetLazyStateKeys m) = get_lazy_state_keys m
body (message.SetState m) = set_state m
body (message.ClearState m) = clear_state m
body (message.ClearAllState m) = clear_all_state m
body (message.Sleep m) = sleep_body m
body (message.Call m) = call_body m
body (message.OneWayCall m) = one_way_call m
body (message.CompleteAwakeable m) = complete_awakeable_body m
body (message.SendSignal m) = send_signal m
body (message.GetPromise m) = promise_body m
body (message.PeekPromise m) = promise_body m
body (message.CompletePromise m) = complete_promise_body m
body (message.Run m) = run_body m
body (message.AttachInvocation m) = invocation m
body (message.GetInvocationOutput m) = invocation m
body (message.Output m) = output_body m
body (message.Notification m) = notification m

-- a number, a length and that many bytes
abbrev pub numbered_frame : ℕ → List ℕ → List ℕ
numbered_frame n b = u16s n ++ bytes b

-- the frame of a type's number
abbrev pub frame : MessageType → List ℕ → List ℕ
frame ty b = numbered_frame (type_number ty) b

-- how many bytes the frame at the front has, by the length that stands after its type's number
unfoldable pub frame_size : List ℕ → ℕ
frame_size bs = 10 + from_be_bytes w64 (take 8 (drop 2 bs))

-- the message as a frame: its type's number (2 bytes), its body's length (8 bytes), its body
abbrev pub encoding : Message → List ℕ
encoding m = frame (type_of m) (body m)

-- the numbers and lengths in it fit, and its texts are texts
abbrev pub IsValid : Message → Type 0
IsValid (message.Start m) = start_format.valid m
IsValid (message.Suspension m) = suspension_format.valid m
IsValid (message.Error m) = error_format.valid m
IsValid message.End = Unit {0}
IsValid (message.ProposeRunCompletion m) = propose_run_completion_format.valid m
IsValid (message.ProposeRunCompletionAck m) = propose_run_completion_ack_format.valid m
IsValid (message.AwaitingOn m) = awaiting_on_format.valid m
IsValid (message.GetStateEphemeralCommand m) = get_state_ephemeral_command_format.valid m
IsValid (message.GetStateEphemeralNotification m) = get_state_ephemeral_notification_format.valid m
IsValid (message.Input m) = input_format.valid m
IsValid (message.GetEagerState m) = get_eager_state_format.valid m
IsValid (message.GetLazyState m) = get_lazy_state_format.valid m
IsValid (message.GetEagerStateKeys m) = get_eager_state_keys_format.valid m
IsValid (message.GetLazyStateKeys m) = get_lazy_state_keys_format.valid m
IsValid (message.SetState m) = set_state_format.valid m
IsValid (message.ClearState m) = clear_state_format.valid m
IsValid (message.ClearAllState m) = clear_all_state_format.valid m
IsValid (message.Sleep m) = sleep_format.valid m
IsValid (message.Call m) = call_format.valid m
IsValid (message.OneWayCall m) = one_way_call_format.valid m
IsValid (message.CompleteAwakeable m) = complete_awakeable_format.valid m
IsValid (message.SendSignal m) = send_signal_format.valid m
IsValid (message.GetPromise m) = promise_format.valid m
IsValid (message.PeekPromise m) = promise_format.valid m
IsValid (message.CompletePromise m) = complete_promise_format.valid m
IsValid (message.Run m) = run_format.valid m
IsValid (message.AttachInvocation m) = invocation_format.valid m
IsValid (message.GetInvocationOutput m) = invocation_format.valid m
IsValid (message.Output m) = output_format.valid m
IsValid (message.Notification m) = notification_format.valid m

-- a body is read exactly if it is a message's
abbrev pub DecodesTo : MessageType → List ℕ → Result Message Fault → Type 0
DecodesTo ty b (Ok m) = IsValid m × (type_of m ≡ ty) × (b ≡ body m)
DecodesTo ty b (Err Memory) = Unit {0}
DecodesTo ty b (Err Malformed) = (m : Message) → IsValid m → type_of m ≡ ty → b ≡ body m → ⊥

-- the same, the fault as an error
pub record DecodesToError (ty : MessageType) (b : List ℕ) (e : errors.Error) : Type 0 where
  pub why : Fault
  pub error : e ≡ fault_error why
  pub none : DecodesTo ty b (Err why)

-- a body of a type is read as a message, or the error says why it isn't
abbrev pub Decodes : MessageType → List ℕ → Result Message errors.Error → Type 0
Decodes ty b (Ok m) = DecodesTo ty b (Ok m)
Decodes ty b (Err e) = DecodesToError ty b e

-- a message whose body is no longer than its length can say
abbrev pub IsWhole : Message → Type 0
IsWhole m = IsValid m × (length (body m) < 2 ^ 64)
