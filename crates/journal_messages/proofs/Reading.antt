-- A body is read exactly if it is a message's.
use Rattle.std.proofs.Common.{◌≡◌, ℕ, List, Option, Some, None, refl, sym, ap, ◌∙◌, subst}
use Rattle.std.specs.Prelude.{Result, Ok, Err}
use Rattle.std.specs.Option.{option_map}
use Rattle.wire.specs.Format.{Format}
use Rattle.wire.specs.Forms.{nothing_format}
use Rattle.wire.specs.Reads.{Read, read_all}
use Rattle.wire.specs.Fault.{Fault}
use Rattle.wire.specs.Fault.TheVariants.{Memory, Malformed}
use Rattle.wire.proofs.Read.{all_read, all_is, some_none}
use Rattle.journal_attempt.specs.Bodies.{start_format, suspension_format, propose_run_completion_format, propose_run_completion_ack_format, awaiting_on_format, input_format, sleep_format, run_format, output_format}
use Rattle.journal_errors.specs.Bodies.{error_format}
use Rattle.journal_state.specs.Bodies.{get_state_ephemeral_command_format, get_state_ephemeral_notification_format, get_eager_state_format, get_lazy_state_format, get_eager_state_keys_format, get_lazy_state_keys_format, set_state_format, clear_state_format, clear_all_state_format}
use Rattle.journal_calls.specs.Bodies.{call_format, one_way_call_format, complete_awakeable_format, send_signal_format, promise_format, complete_promise_format, invocation_format}
use Rattle.journal_values.specs.Bodies.{notification_format}
use Rattle.journal_messages.specs.Message.{body, type_of, IsValid, DecodesTo}
use Rattle.journal_messages.specs.Reading.{acknowledgement_in, body_as, ephemeral_notification_in, input_in, message_in, notification_in, proposal_in, start_in}
use Rattle.journal_attempt.specs.declared.start.Start.{Start}
use Rattle.journal_attempt.specs.declared.commands.InputCommand.{InputCommand}
use Rattle.journal_attempt.specs.declared.runs.ProposeRunCompletion.{ProposeRunCompletion}
use Rattle.journal_attempt.specs.declared.runs.ProposeRunCompletionAck.{ProposeRunCompletionAck}
use Rattle.journal_values.specs.declared.notification.Notification.{Notification}
use Rattle.journal_errors.specs.declared.types.MessageType.{MessageType}
use Rattle.journal_errors.specs.declared.types.MessageType.TheVariants as type
use Rattle.journal_messages.specs.declared.message.Message.{Message}
use Rattle.journal_messages.specs.declared.message.Message.TheVariants as message

-- ---- what is read is valid, of the type, and has the body

pub record IsMessage (ty : MessageType) (b : List ℕ) (m : Message) : Type 0 where
  pub valid : IsValid m
  pub typed : type_of m ≡ ty
  pub spelled : b ≡ body m

map_some : {A B : Type 0} (g : A → B) (o : Option A) (y : B) → option_map g o ≡ Some y → (x : A) × (o ≡ Some x) × (g x ≡ y)
map_some g None y e = absurd cc
map_some g (Some x) y e = (x, refl, cc)

-- a type whose bodies are of the format
made_is : {A : Type 0} (make : A → Message) (f : Format A) (ty : MessageType) (b : List ℕ) (m : Message) → ((a : A) → f.valid a → b ≡ f.spelling a → IsMessage ty b (make a)) → option_map make (read_all f b) ≡ Some m → IsMessage ty b m
made_is make f ty b m h e =
    let k = map_some make (read_all f b) m e in
    let p = all_is f b k.0 k.1 in
    subst (IsMessage ty b) k.2 (h k.0 p.0 p.1)

is_message : (ty : MessageType) (b : List ℕ) (m : Message) → message_in ty b ≡ Some m → IsMessage ty b m
unfolding message_in body_as start_in input_in notification_in acknowledgement_in proposal_in ephemeral_notification_in
is_message type.Start b m = made_is message.Start start_format type.Start b m (λ a v e. record { valid = v; typed = refl; spelled = e })
is_message type.Suspension b m = made_is message.Suspension suspension_format type.Suspension b m (λ a v e. record { valid = v; typed = refl; spelled = e })
is_message type.Error b m = made_is message.Error error_format type.Error b m (λ a v e. record { valid = v; typed = refl; spelled = e })
is_message type.End b m = made_is (λ _. message.End) nothing_format type.End b m (λ a v e. record { valid = v; typed = refl; spelled = e })
is_message type.ProposeRunCompletion b m = made_is message.ProposeRunCompletion propose_run_completion_format type.ProposeRunCompletion b m (λ a v e. record { valid = v; typed = refl; spelled = e })
is_message type.ProposeRunCompletionAck b m = made_is message.ProposeRunCompletionAck propose_run_completion_ack_format type.ProposeRunCompletionAck b m (λ a v e. record { valid = v; typed = refl; spelled = e })
is_message type.AwaitingOn b m = made_is message.AwaitingOn awaiting_on_format type.AwaitingOn b m (λ a v e. record { valid = v; typed = refl; spelled = e })
is_message type.GetStateEphemeralCommand b m = made_is message.GetStateEphemeralCommand get_state_ephemeral_command_format type.GetStateEphemeralCommand b m (λ a v e. record { valid = v; typed = refl; spelled = e })
is_message type.GetStateEphemeralNotification b m = made_is message.GetStateEphemeralNotification get_state_ephemeral_notification_format type.GetStateEphemeralNotification b m (λ a v e. record { valid = v; typed = refl; spelled = e })
is_message type.InputCommand b m = made_is message.Input input_format type.InputCommand b m (λ a v e. record { valid = v; typed = refl; spelled = e })
is_message type.GetEagerStateCommand b m = made_is message.GetEagerState get_eager_state_format type.GetEagerStateCommand b m (λ a v e. record { valid = v; typed = refl; spelled = e })
is_message type.GetLazyStateCommand b m = made_is message.GetLazyState get_lazy_state_format type.GetLazyStateCommand b m (λ a v e. record { valid = v; typed = refl; spelled = e })
is_message type.GetEagerStateKeysCommand b m = made_is message.GetEagerStateKeys get_eager_state_keys_format type.GetEagerStateKeysCommand b m (λ a v e. record { valid = v; typed = refl; spelled = e })
is_message type.GetLazyStateKeysCommand b m = made_is message.GetLazyStateKeys get_lazy_state_keys_format type.GetLazyStateKeysCommand b m (λ a v e. record { valid = v; typed = refl; spelled = e })
is_message type.SetStateCommand b m = made_is message.SetState set_state_format type.SetStateCommand b m (λ a v e. record { valid = v; typed = refl; spelled = e })
is_message type.ClearStateCommand b m = made_is message.ClearState clear_state_format type.ClearStateCommand b m (λ a v e. record { valid = v; typed = refl; spelled = e })
is_message type.ClearAllStateCommand b m = made_is message.ClearAllState clear_all_state_format type.ClearAllStateCommand b m (λ a v e. record { valid = v; typed = refl; spelled = e })
is_message type.SleepCommand b m = made_is message.Sleep sleep_format type.SleepCommand b m (λ a v e. record { valid = v; typed = refl; spelled = e })
is_message type.CallCommand b m = made_is message.Call call_format type.CallCommand b m (λ a v e. record { valid = v; typed = refl; spelled = e })
is_message type.OneWayCallCommand b m = made_is message.OneWayCall one_way_call_format type.OneWayCallCommand b m (λ a v e. record { valid = v; typed = refl; spelled = e })
is_message type.CompleteAwakeableCommand b m = made_is message.CompleteAwakeable complete_awakeable_format type.CompleteAwakeableCommand b m (λ a v e. record { valid = v; typed = refl; spelled = e })
is_message type.SendSignalCommand b m = made_is message.SendSignal send_signal_format type.SendSignalCommand b m (λ a v e. record { valid = v; typed = refl; spelled = e })
is_message type.GetPromiseCommand b m = made_is message.GetPromise promise_format type.GetPromiseCommand b m (λ a v e. record { valid = v; typed = refl; spelled = e })
is_message type.PeekPromiseCommand b m = made_is message.PeekPromise promise_format type.PeekPromiseCommand b m (λ a v e. record { valid = v; typed = refl; spelled = e })
is_message type.CompletePromiseCommand b m = made_is message.CompletePromise complete_promise_format type.CompletePromiseCommand b m (λ a v e. record { valid = v; typed = refl; spelled = e })
is_message type.RunCommand b m = made_is message.Run run_format type.RunCommand b m (λ a v e. record { valid = v; typed = refl; spelled = e })
is_message type.AttachInvocationCommand b m = made_is message.AttachInvocation invocation_format type.AttachInvocationCommand b m (λ a v e. record { valid = v; typed = refl; spelled = e })
is_message type.GetInvocationOutputCommand b m = made_is message.GetInvocationOutput invocation_format type.GetInvocationOutputCommand b m (λ a v e. record { valid = v; typed = refl; spelled = e })
is_message type.OutputCommand b m = made_is message.Output output_format type.OutputCommand b m (λ a v e. record { valid = v; typed = refl; spelled = e })
is_message type.Notification b m = made_is message.Notification notification_format type.Notification b m (λ a v e. record { valid = v; typed = refl; spelled = e })

pub message_is : (ty : MessageType) (b : List ℕ) (m : Message) → message_in ty b ≡ Some m → IsValid m × (type_of m ≡ ty) × (b ≡ body m)
message_is ty b m e = let h = is_message ty b m e in (h.valid, h.typed, h.spelled)

-- ---- what is valid is read back

made_read : {A : Type 0} (make : A → Message) (f : Format A) (a : A) → f.valid a → option_map make (read_all f (f.spelling a)) ≡ Some (make a)
made_read make f a v = ap (option_map make) (all_read f a (f.spelling a) v refl)

pub message_read : (m : Message) → IsValid m → message_in (type_of m) (body m) ≡ Some m
unfolding message_in body_as start_in input_in notification_in acknowledgement_in proposal_in ephemeral_notification_in
message_read (message.Start a) v = made_read message.Start start_format a v
message_read (message.Suspension a) v = made_read message.Suspension suspension_format a v
message_read (message.Error a) v = made_read message.Error error_format a v
message_read message.End v = refl
message_read (message.ProposeRunCompletion a) v = made_read message.ProposeRunCompletion propose_run_completion_format a v
message_read (message.ProposeRunCompletionAck a) v = made_read message.ProposeRunCompletionAck propose_run_completion_ack_format a v
message_read (message.AwaitingOn a) v = made_read message.AwaitingOn awaiting_on_format a v
message_read (message.GetStateEphemeralCommand a) v = made_read message.GetStateEphemeralCommand get_state_ephemeral_command_format a v
message_read (message.GetStateEphemeralNotification a) v = made_read message.GetStateEphemeralNotification get_state_ephemeral_notification_format a v
message_read (message.Input a) v = made_read message.Input input_format a v
message_read (message.GetEagerState a) v = made_read message.GetEagerState get_eager_state_format a v
message_read (message.GetLazyState a) v = made_read message.GetLazyState get_lazy_state_format a v
message_read (message.GetEagerStateKeys a) v = made_read message.GetEagerStateKeys get_eager_state_keys_format a v
message_read (message.GetLazyStateKeys a) v = made_read message.GetLazyStateKeys get_lazy_state_keys_format a v
message_read (message.SetState a) v = made_read message.SetState set_state_format a v
message_read (message.ClearState a) v = made_read message.ClearState clear_state_format a v
message_read (message.ClearAllState a) v = made_read message.ClearAllState clear_all_state_format a v
message_read (message.Sleep a) v = made_read message.Sleep sleep_format a v
message_read (message.Call a) v = made_read message.Call call_format a v
message_read (message.OneWayCall a) v = made_read message.OneWayCall one_way_call_format a v
message_read (message.CompleteAwakeable a) v = made_read message.CompleteAwakeable complete_awakeable_format a v
message_read (message.SendSignal a) v = made_read message.SendSignal send_signal_format a v
message_read (message.GetPromise a) v = made_read message.GetPromise promise_format a v
message_read (message.PeekPromise a) v = made_read message.PeekPromise promise_format a v
message_read (message.CompletePromise a) v = made_read message.CompletePromise complete_promise_format a v
message_read (message.Run a) v = made_read message.Run run_format a v
message_read (message.AttachInvocation a) v = made_read message.AttachInvocation invocation_format a v
message_read (message.GetInvocationOutput a) v = made_read message.GetInvocationOutput invocation_format a v
message_read (message.Output a) v = made_read message.Output output_format a v
message_read (message.Notification a) v = made_read message.Notification notification_format a v

pub message_there : (ty : MessageType) (b : List ℕ) (m : Message) → IsValid m → type_of m ≡ ty → b ≡ body m → message_in ty b ≡ Some m
message_there ty b m v t e = (λ i. message_in (sym t i) (e i)) ∙ message_read m v

-- ---- the bodies that are read one by one

pub start_read : (a : Start) → IsValid (message.Start a) → start_in (body (message.Start a)) ≡ Some a
unfolding start_in body_as
start_read a v = all_read start_format a (start_format.spelling a) v refl

pub input_read : (a : InputCommand) → IsValid (message.Input a) → input_in (body (message.Input a)) ≡ Some a
unfolding input_in body_as
input_read a v = all_read input_format a (input_format.spelling a) v refl

pub notification_read : (a : Notification) → IsValid (message.Notification a) → notification_in (body (message.Notification a)) ≡ Some a
unfolding notification_in body_as
notification_read a v = all_read notification_format a (notification_format.spelling a) v refl

pub acknowledgement_read : (a : ProposeRunCompletionAck) → IsValid (message.ProposeRunCompletionAck a) → acknowledgement_in (body (message.ProposeRunCompletionAck a)) ≡ Some a
unfolding acknowledgement_in body_as
acknowledgement_read a v = all_read propose_run_completion_ack_format a (propose_run_completion_ack_format.spelling a) v refl

pub proposal_read : (a : ProposeRunCompletion) → IsValid (message.ProposeRunCompletion a) → proposal_in (body (message.ProposeRunCompletion a)) ≡ Some a
unfolding proposal_in body_as
proposal_read a v = all_read propose_run_completion_format a (propose_run_completion_format.spelling a) v refl

-- ---- one message

abbrev message_or : Message → Option Message → Message
message_or m None = m
message_or m (Some n) = n

-- A valid message is known by its type and its body.
pub one_message : (a b : Message) → type_of a ≡ type_of b → IsValid a → IsValid b → body a ≡ body b → a ≡ b
one_message a b t v w e = ap (message_or a) (sym (message_read a v) ∙ (λ i. message_in (t i) (e i)) ∙ message_read b w)

-- ---- reading as a relation

pub decodes : (ty : MessageType) (b : List ℕ) (r : Result Message Fault) → Read (message_in ty b) r → DecodesTo ty b r
decodes ty b (Ok m) e = message_is ty b m e
decodes ty b (Err Memory) e = tt
decodes ty b (Err Malformed) e = λ m v t s. some_none (message_in ty b) m (message_there ty b m v t s) e
