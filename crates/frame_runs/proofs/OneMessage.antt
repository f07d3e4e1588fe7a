-- Words are the fields of one message of a type at most.
use Rattle.std.proofs.Common.{◌≡◌, ℕ, List, [], ap, sym, refl, subst, ◌∙◌}
use Rattle.std.specs.Borrow.{Bor}
use Rattle.journal_protocol.specs.Frames.{type_of}
use Rattle.journal_protocol.specs.MessageType.{MessageType}
use Rattle.journal_protocol.specs.MessageType.TheVariants as type
use Rattle.journal_protocol.specs.Message.{Message}
use Rattle.journal_protocol.specs.Message.TheVariants as message
use Rattle.journal_protocol.specs.AwaitingOn.{AwaitingOn}
use Rattle.journal_protocol.specs.CallCommand.{CallCommand}
use Rattle.journal_protocol.specs.ClearAllStateCommand.{ClearAllStateCommand}
use Rattle.journal_protocol.specs.ClearStateCommand.{ClearStateCommand}
use Rattle.journal_protocol.specs.CompleteAwakeableCommand.{CompleteAwakeableCommand}
use Rattle.journal_protocol.specs.CompletePromiseCommand.{CompletePromiseCommand}
use Rattle.journal_protocol.specs.ErrorMessage.{ErrorMessage}
use Rattle.journal_protocol.specs.GetEagerStateCommand.{GetEagerStateCommand}
use Rattle.journal_protocol.specs.GetEagerStateKeysCommand.{GetEagerStateKeysCommand}
use Rattle.journal_protocol.specs.GetLazyStateCommand.{GetLazyStateCommand}
use Rattle.journal_protocol.specs.GetLazyStateKeysCommand.{GetLazyStateKeysCommand}
use Rattle.journal_protocol.specs.GetStateEphemeralCommand.{GetStateEphemeralCommand}
use Rattle.journal_protocol.specs.GetStateEphemeralNotification.{GetStateEphemeralNotification}
use Rattle.journal_protocol.specs.InputCommand.{InputCommand}
use Rattle.journal_protocol.specs.InvocationCommand.{InvocationCommand}
use Rattle.journal_protocol.specs.Notification.{Notification}
use Rattle.journal_protocol.specs.OneWayCallCommand.{OneWayCallCommand}
use Rattle.journal_protocol.specs.OutputCommand.{OutputCommand}
use Rattle.journal_protocol.specs.PromiseCommand.{PromiseCommand}
use Rattle.journal_protocol.specs.ProposeRunCompletion.{ProposeRunCompletion}
use Rattle.journal_protocol.specs.ProposeRunCompletionAck.{ProposeRunCompletionAck}
use Rattle.journal_protocol.specs.RunCommand.{RunCommand}
use Rattle.journal_protocol.specs.SendSignalCommand.{SendSignalCommand}
use Rattle.journal_protocol.specs.SetStateCommand.{SetStateCommand}
use Rattle.journal_protocol.specs.SleepCommand.{SleepCommand}
use Rattle.journal_protocol.specs.Start.{Start}
use Rattle.journal_protocol.specs.Suspension.{Suspension}
use Rattle.frame_lines.specs.Forms.{awaiting_on_fields, call_fields, clear_all_state_fields, clear_state_fields, complete_awakeable_fields, complete_promise_fields, error_fields, get_eager_state_fields, get_eager_state_keys_fields, get_lazy_state_fields, get_lazy_state_keys_fields, get_state_ephemeral_command_fields, get_state_ephemeral_notification_fields, input_fields, invocation_fields, notification_fields, one_way_call_fields, output_fields, promise_fields, propose_run_completion_fields, propose_run_completion_ack_fields, run_fields, send_signal_fields, set_state_fields, sleep_fields, start_fields, suspension_fields}
use Rattle.frame_lines.specs.Messages.{AreFieldsOf}
use Rattle.frame_values.specs.Notation.{AreFields}
use Rattle.frame_runs.proofs.Rows.{awaiting_on_once, call_once, clear_all_state_once, clear_state_once, complete_awakeable_once, complete_promise_once, error_once, get_eager_state_once, get_eager_state_keys_once, get_lazy_state_once, get_lazy_state_keys_once, get_state_ephemeral_command_once, get_state_ephemeral_notification_once, input_once, invocation_once, notification_once, one_way_call_once, output_once, promise_once, propose_run_completion_once, propose_run_completion_ack_once, run_once, send_signal_once, set_state_once, sleep_once, start_once, suspension_once}

-- what a message of the type holds
abbrev Held : MessageType → Type 0
Held type.Start = Start
Held type.Suspension = Suspension
Held type.Error = ErrorMessage
Held type.End = Unit {0}
Held type.ProposeRunCompletion = ProposeRunCompletion
Held type.ProposeRunCompletionAck = ProposeRunCompletionAck
Held type.AwaitingOn = AwaitingOn
Held type.GetStateEphemeralCommand = GetStateEphemeralCommand
Held type.GetStateEphemeralNotification = GetStateEphemeralNotification
Held type.InputCommand = InputCommand
Held type.GetEagerStateCommand = GetEagerStateCommand
Held type.GetLazyStateCommand = GetLazyStateCommand
Held type.GetEagerStateKeysCommand = GetEagerStateKeysCommand
Held type.GetLazyStateKeysCommand = GetLazyStateKeysCommand
Held type.SetStateCommand = SetStateCommand
Held type.ClearStateCommand = ClearStateCommand
Held type.ClearAllStateCommand = ClearAllStateCommand
Held type.SleepCommand = SleepCommand
Held type.CallCommand = CallCommand
Held type.OneWayCallCommand = OneWayCallCommand
Held type.CompleteAwakeableCommand = CompleteAwakeableCommand
Held type.SendSignalCommand = SendSignalCommand
Held type.GetPromiseCommand = PromiseCommand
Held type.PeekPromiseCommand = PromiseCommand
Held type.CompletePromiseCommand = CompletePromiseCommand
Held type.RunCommand = RunCommand
Held type.AttachInvocationCommand = InvocationCommand
Held type.GetInvocationOutputCommand = InvocationCommand
Held type.OutputCommand = OutputCommand
Held type.Notification = Notification

abbrev make : (ty : MessageType) → Held ty → Message
make type.Start it = message.Start it
make type.Suspension it = message.Suspension it
make type.Error it = message.Error it
make type.End it = message.End
make type.ProposeRunCompletion it = message.ProposeRunCompletion it
make type.ProposeRunCompletionAck it = message.ProposeRunCompletionAck it
make type.AwaitingOn it = message.AwaitingOn it
make type.GetStateEphemeralCommand it = message.GetStateEphemeralCommand it
make type.GetStateEphemeralNotification it = message.GetStateEphemeralNotification it
make type.InputCommand it = message.Input it
make type.GetEagerStateCommand it = message.GetEagerState it
make type.GetLazyStateCommand it = message.GetLazyState it
make type.GetEagerStateKeysCommand it = message.GetEagerStateKeys it
make type.GetLazyStateKeysCommand it = message.GetLazyStateKeys it
make type.SetStateCommand it = message.SetState it
make type.ClearStateCommand it = message.ClearState it
make type.ClearAllStateCommand it = message.ClearAllState it
make type.SleepCommand it = message.Sleep it
make type.CallCommand it = message.Call it
make type.OneWayCallCommand it = message.OneWayCall it
make type.CompleteAwakeableCommand it = message.CompleteAwakeable it
make type.SendSignalCommand it = message.SendSignal it
make type.GetPromiseCommand it = message.GetPromise it
make type.PeekPromiseCommand it = message.PeekPromise it
make type.CompletePromiseCommand it = message.CompletePromise it
make type.RunCommand it = message.Run it
make type.AttachInvocationCommand it = message.AttachInvocation it
make type.GetInvocationOutputCommand it = message.GetInvocationOutput it
make type.OutputCommand it = message.Output it
make type.Notification it = message.Notification it

-- the words are its fields
abbrev Are : (ty : MessageType) → List (Bor (List ℕ)) → Held ty → Type 0
Are type.Start words it = AreFields start_fields words it
Are type.Suspension words it = AreFields suspension_fields words it
Are type.Error words it = AreFields error_fields words it
Are type.End words it = words ≡ []
Are type.ProposeRunCompletion words it = AreFields propose_run_completion_fields words it
Are type.ProposeRunCompletionAck words it = AreFields propose_run_completion_ack_fields words it
Are type.AwaitingOn words it = AreFields awaiting_on_fields words it
Are type.GetStateEphemeralCommand words it = AreFields get_state_ephemeral_command_fields words it
Are type.GetStateEphemeralNotification words it = AreFields get_state_ephemeral_notification_fields words it
Are type.InputCommand words it = AreFields input_fields words it
Are type.GetEagerStateCommand words it = AreFields get_eager_state_fields words it
Are type.GetLazyStateCommand words it = AreFields get_lazy_state_fields words it
Are type.GetEagerStateKeysCommand words it = AreFields get_eager_state_keys_fields words it
Are type.GetLazyStateKeysCommand words it = AreFields get_lazy_state_keys_fields words it
Are type.SetStateCommand words it = AreFields set_state_fields words it
Are type.ClearStateCommand words it = AreFields clear_state_fields words it
Are type.ClearAllStateCommand words it = AreFields clear_all_state_fields words it
Are type.SleepCommand words it = AreFields sleep_fields words it
Are type.CallCommand words it = AreFields call_fields words it
Are type.OneWayCallCommand words it = AreFields one_way_call_fields words it
Are type.CompleteAwakeableCommand words it = AreFields complete_awakeable_fields words it
Are type.SendSignalCommand words it = AreFields send_signal_fields words it
Are type.GetPromiseCommand words it = AreFields promise_fields words it
Are type.PeekPromiseCommand words it = AreFields promise_fields words it
Are type.CompletePromiseCommand words it = AreFields complete_promise_fields words it
Are type.RunCommand words it = AreFields run_fields words it
Are type.AttachInvocationCommand words it = AreFields invocation_fields words it
Are type.GetInvocationOutputCommand words it = AreFields invocation_fields words it
Are type.OutputCommand words it = AreFields output_fields words it
Are type.Notification words it = AreFields notification_fields words it

abbrev held : (m : Message) → Held (type_of m)
held (message.Start it) = it
held (message.Suspension it) = it
held (message.Error it) = it
held message.End = tt
held (message.ProposeRunCompletion it) = it
held (message.ProposeRunCompletionAck it) = it
held (message.AwaitingOn it) = it
held (message.GetStateEphemeralCommand it) = it
held (message.GetStateEphemeralNotification it) = it
held (message.Input it) = it
held (message.GetEagerState it) = it
held (message.GetLazyState it) = it
held (message.GetEagerStateKeys it) = it
held (message.GetLazyStateKeys it) = it
held (message.SetState it) = it
held (message.ClearState it) = it
held (message.ClearAllState it) = it
held (message.Sleep it) = it
held (message.Call it) = it
held (message.OneWayCall it) = it
held (message.CompleteAwakeable it) = it
held (message.SendSignal it) = it
held (message.GetPromise it) = it
held (message.PeekPromise it) = it
held (message.CompletePromise it) = it
held (message.Run it) = it
held (message.AttachInvocation it) = it
held (message.GetInvocationOutput it) = it
held (message.Output it) = it
held (message.Notification it) = it

made : (m : Message) → make (type_of m) (held m) ≡ m
made (message.Start it) = refl
made (message.Suspension it) = refl
made (message.Error it) = refl
made message.End = refl
made (message.ProposeRunCompletion it) = refl
made (message.ProposeRunCompletionAck it) = refl
made (message.AwaitingOn it) = refl
made (message.GetStateEphemeralCommand it) = refl
made (message.GetStateEphemeralNotification it) = refl
made (message.Input it) = refl
made (message.GetEagerState it) = refl
made (message.GetLazyState it) = refl
made (message.GetEagerStateKeys it) = refl
made (message.GetLazyStateKeys it) = refl
made (message.SetState it) = refl
made (message.ClearState it) = refl
made (message.ClearAllState it) = refl
made (message.Sleep it) = refl
made (message.Call it) = refl
made (message.OneWayCall it) = refl
made (message.CompleteAwakeable it) = refl
made (message.SendSignal it) = refl
made (message.GetPromise it) = refl
made (message.PeekPromise it) = refl
made (message.CompletePromise it) = refl
made (message.Run it) = refl
made (message.AttachInvocation it) = refl
made (message.GetInvocationOutput it) = refl
made (message.Output it) = refl
made (message.Notification it) = refl

are_held : (words : List (Bor (List ℕ))) (m : Message) → AreFieldsOf words m → Are (type_of m) words (held m)
unfolding AreFieldsOf
are_held words (message.Start it) are = are
are_held words (message.Suspension it) are = are
are_held words (message.Error it) are = are
are_held words message.End are = are
are_held words (message.ProposeRunCompletion it) are = are
are_held words (message.ProposeRunCompletionAck it) are = are
are_held words (message.AwaitingOn it) are = are
are_held words (message.GetStateEphemeralCommand it) are = are
are_held words (message.GetStateEphemeralNotification it) are = are
are_held words (message.Input it) are = are
are_held words (message.GetEagerState it) are = are
are_held words (message.GetLazyState it) are = are
are_held words (message.GetEagerStateKeys it) are = are
are_held words (message.GetLazyStateKeys it) are = are
are_held words (message.SetState it) are = are
are_held words (message.ClearState it) are = are
are_held words (message.ClearAllState it) are = are
are_held words (message.Sleep it) are = are
are_held words (message.Call it) are = are
are_held words (message.OneWayCall it) are = are
are_held words (message.CompleteAwakeable it) are = are
are_held words (message.SendSignal it) are = are
are_held words (message.GetPromise it) are = are
are_held words (message.PeekPromise it) are = are
are_held words (message.CompletePromise it) are = are
are_held words (message.Run it) are = are
are_held words (message.AttachInvocation it) are = are
are_held words (message.GetInvocationOutput it) are = are
are_held words (message.Output it) are = are
are_held words (message.Notification it) are = are

held_once : (ty : MessageType) (words : List (Bor (List ℕ))) (a b : Held ty) → Are ty words a → Are ty words b → make ty a ≡ make ty b
held_once type.Start words a b p q = ap message.Start (start_once words a b p q)
held_once type.Suspension words a b p q = ap message.Suspension (suspension_once words a b p q)
held_once type.Error words a b p q = ap message.Error (error_once words a b p q)
held_once type.End words a b p q = refl
held_once type.ProposeRunCompletion words a b p q = ap message.ProposeRunCompletion (propose_run_completion_once words a b p q)
held_once type.ProposeRunCompletionAck words a b p q = ap message.ProposeRunCompletionAck (propose_run_completion_ack_once words a b p q)
held_once type.AwaitingOn words a b p q = ap message.AwaitingOn (awaiting_on_once words a b p q)
held_once type.GetStateEphemeralCommand words a b p q = ap message.GetStateEphemeralCommand (get_state_ephemeral_command_once words a b p q)
held_once type.GetStateEphemeralNotification words a b p q = ap message.GetStateEphemeralNotification (get_state_ephemeral_notification_once words a b p q)
held_once type.InputCommand words a b p q = ap message.Input (input_once words a b p q)
held_once type.GetEagerStateCommand words a b p q = ap message.GetEagerState (get_eager_state_once words a b p q)
held_once type.GetLazyStateCommand words a b p q = ap message.GetLazyState (get_lazy_state_once words a b p q)
held_once type.GetEagerStateKeysCommand words a b p q = ap message.GetEagerStateKeys (get_eager_state_keys_once words a b p q)
held_once type.GetLazyStateKeysCommand words a b p q = ap message.GetLazyStateKeys (get_lazy_state_keys_once words a b p q)
held_once type.SetStateCommand words a b p q = ap message.SetState (set_state_once words a b p q)
held_once type.ClearStateCommand words a b p q = ap message.ClearState (clear_state_once words a b p q)
held_once type.ClearAllStateCommand words a b p q = ap message.ClearAllState (clear_all_state_once words a b p q)
held_once type.SleepCommand words a b p q = ap message.Sleep (sleep_once words a b p q)
held_once type.CallCommand words a b p q = ap message.Call (call_once words a b p q)
held_once type.OneWayCallCommand words a b p q = ap message.OneWayCall (one_way_call_once words a b p q)
held_once type.CompleteAwakeableCommand words a b p q = ap message.CompleteAwakeable (complete_awakeable_once words a b p q)
held_once type.SendSignalCommand words a b p q = ap message.SendSignal (send_signal_once words a b p q)
held_once type.GetPromiseCommand words a b p q = ap message.GetPromise (promise_once words a b p q)
held_once type.PeekPromiseCommand words a b p q = ap message.PeekPromise (promise_once words a b p q)
held_once type.CompletePromiseCommand words a b p q = ap message.CompletePromise (complete_promise_once words a b p q)
held_once type.RunCommand words a b p q = ap message.Run (run_once words a b p q)
held_once type.AttachInvocationCommand words a b p q = ap message.AttachInvocation (invocation_once words a b p q)
held_once type.GetInvocationOutputCommand words a b p q = ap message.GetInvocationOutput (invocation_once words a b p q)
held_once type.OutputCommand words a b p q = ap message.Output (output_once words a b p q)
held_once type.Notification words a b p q = ap message.Notification (notification_once words a b p q)

same_type : (t u : MessageType) → t ≡ u → (words : List (Bor (List ℕ))) (a : Held t) → Are t words a → (b : Held u) → Are u words b → make t a ≡ make u b
same_type t u e words a p = subst (λ (s : MessageType). (b : Held s) → Are s words b → make t a ≡ make s b) e (λ b q. held_once t words a b p q)

pub message_once : (words : List (Bor (List ℕ))) (m n : Message) → type_of m ≡ type_of n → AreFieldsOf words m → AreFieldsOf words n → m ≡ n
message_once words m n e p q = sym (made m) ∙ same_type (type_of m) (type_of n) e words (held m) (are_held words m p) (held n) (are_held words n q) ∙ made n
