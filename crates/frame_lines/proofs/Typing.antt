-- Which words are the fields of a message of a type.
use Rattle.std.proofs.Common.{◌≡◌, ℕ, List, [], ◌∷◌, refl}
use Rattle.std.specs.Borrow.{Bor}
use Rattle.plain.specs.declared.fault.Fault.{Fault}
use Rattle.lines.specs.Readings.{Blames}
use Rattle.lines.proofs.Once.{Same}
use Rattle.journal_protocol.specs.Frames.{type_of}
use Rattle.journal_protocol.specs.MessageType.{MessageType}
use Rattle.journal_protocol.specs.Message.{Message}
use Rattle.journal_protocol.specs.Message.TheVariants as message
use Rattle.frame_lines.specs.Forms.{awaiting_on_fields, call_fields, clear_all_state_fields, clear_state_fields, complete_awakeable_fields, complete_promise_fields, error_fields, get_eager_state_fields, get_eager_state_keys_fields, get_lazy_state_fields, get_lazy_state_keys_fields, get_state_ephemeral_command_fields, get_state_ephemeral_notification_fields, input_fields, invocation_fields, notification_fields, one_way_call_fields, output_fields, promise_fields, propose_run_completion_ack_fields, propose_run_completion_fields, run_fields, send_signal_fields, set_state_fields, sleep_fields, start_fields, suspension_fields}
use Rattle.frame_lines.specs.FrameLines.{Encodes}
use Rattle.frame_lines.specs.Messages.{AreFieldsOf}
use Rattle.frame_values.proofs.Refusing.{same_fields}

-- ---- the words' texts decide

same_none : (ws vs : List (Bor (List ℕ))) → Same ws vs → ws ≡ [] → vs ≡ []
same_none [] [] same none = refl
same_none [] (v ∷ vs) same none = absurd same
same_none (w ∷ ws) vs same none = cc

pub same_fields_of : (ws vs : List (Bor (List ℕ))) → Same ws vs → (m : Message) → AreFieldsOf ws m → AreFieldsOf vs m
unfolding AreFieldsOf
same_fields_of ws vs same (message.Start m) are = same_fields start_fields ws vs m same are
same_fields_of ws vs same (message.Suspension m) are = same_fields suspension_fields ws vs m same are
same_fields_of ws vs same (message.Error m) are = same_fields error_fields ws vs m same are
same_fields_of ws vs same (message.ProposeRunCompletion m) are = same_fields propose_run_completion_fields ws vs m same are
same_fields_of ws vs same (message.ProposeRunCompletionAck m) are = same_fields propose_run_completion_ack_fields ws vs m same are
same_fields_of ws vs same (message.AwaitingOn m) are = same_fields awaiting_on_fields ws vs m same are
same_fields_of ws vs same (message.GetStateEphemeralCommand m) are = same_fields get_state_ephemeral_command_fields ws vs m same are
same_fields_of ws vs same (message.GetStateEphemeralNotification m) are = same_fields get_state_ephemeral_notification_fields ws vs m same are
same_fields_of ws vs same (message.Input m) are = same_fields input_fields ws vs m same are
same_fields_of ws vs same (message.GetEagerState m) are = same_fields get_eager_state_fields ws vs m same are
same_fields_of ws vs same (message.GetLazyState m) are = same_fields get_lazy_state_fields ws vs m same are
same_fields_of ws vs same (message.GetEagerStateKeys m) are = same_fields get_eager_state_keys_fields ws vs m same are
same_fields_of ws vs same (message.GetLazyStateKeys m) are = same_fields get_lazy_state_keys_fields ws vs m same are
same_fields_of ws vs same (message.SetState m) are = same_fields set_state_fields ws vs m same are
same_fields_of ws vs same (message.ClearState m) are = same_fields clear_state_fields ws vs m same are
same_fields_of ws vs same (message.ClearAllState m) are = same_fields clear_all_state_fields ws vs m same are
same_fields_of ws vs same (message.Sleep m) are = same_fields sleep_fields ws vs m same are
same_fields_of ws vs same (message.Call m) are = same_fields call_fields ws vs m same are
same_fields_of ws vs same (message.OneWayCall m) are = same_fields one_way_call_fields ws vs m same are
same_fields_of ws vs same (message.CompleteAwakeable m) are = same_fields complete_awakeable_fields ws vs m same are
same_fields_of ws vs same (message.SendSignal m) are = same_fields send_signal_fields ws vs m same are
same_fields_of ws vs same (message.GetPromise m) are = same_fields promise_fields ws vs m same are
same_fields_of ws vs same (message.PeekPromise m) are = same_fields promise_fields ws vs m same are
same_fields_of ws vs same (message.CompletePromise m) are = same_fields complete_promise_fields ws vs m same are
same_fields_of ws vs same (message.Run m) are = same_fields run_fields ws vs m same are
same_fields_of ws vs same (message.AttachInvocation m) are = same_fields invocation_fields ws vs m same are
same_fields_of ws vs same (message.GetInvocationOutput m) are = same_fields invocation_fields ws vs m same are
same_fields_of ws vs same (message.Output m) are = same_fields output_fields ws vs m same are
same_fields_of ws vs same (message.Notification m) are = same_fields notification_fields ws vs m same are
same_fields_of ws vs same message.End none = same_none ws vs same none

pub encodes_blamed : (ty : MessageType) (words : List (Bor (List ℕ))) (fault : Fault) → Blames (λ m. (type_of m ≡ ty) × AreFieldsOf words m) fault → Blames (Encodes ty words) fault
encodes_blamed ty words fault blames = record { nothing = λ bad frame encodes. blames.nothing bad encodes.message (encodes.typed, encodes.fields) }
