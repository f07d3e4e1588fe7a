-- The names of types are words.
use Rattle.std.proofs.Common.{refl, arith}
use Rattle.std.specs.Prelude.{codes}
use Rattle.journal_protocol.specs.MessageType.{MessageType}
use Rattle.journal_protocol.specs.MessageType.TheVariants as type
use Rattle.frame_lines.specs.Names.{type_word}
use Rattle.frame_runs.proofs.Closed.{IsWord, plain_word}

pub type_is_word : (ty : MessageType) → IsWord (type_word ty)
unfolding type_word
type_is_word type.Start = plain_word (codes "Start") (omega arith) refl
type_is_word type.Suspension = plain_word (codes "Suspension") (omega arith) refl
type_is_word type.Error = plain_word (codes "Error") (omega arith) refl
type_is_word type.End = plain_word (codes "End") (omega arith) refl
type_is_word type.ProposeRunCompletion = plain_word (codes "ProposeRunCompletion") (omega arith) refl
type_is_word type.ProposeRunCompletionAck = plain_word (codes "ProposeRunCompletionAck") (omega arith) refl
type_is_word type.AwaitingOn = plain_word (codes "AwaitingOn") (omega arith) refl
type_is_word type.GetStateEphemeralCommand = plain_word (codes "GetStateEphemeralCommand") (omega arith) refl
type_is_word type.GetStateEphemeralNotification = plain_word (codes "GetStateEphemeralNotification") (omega arith) refl
type_is_word type.InputCommand = plain_word (codes "Input") (omega arith) refl
type_is_word type.GetEagerStateCommand = plain_word (codes "GetEagerState") (omega arith) refl
type_is_word type.GetLazyStateCommand = plain_word (codes "GetLazyState") (omega arith) refl
type_is_word type.GetEagerStateKeysCommand = plain_word (codes "GetEagerStateKeys") (omega arith) refl
type_is_word type.GetLazyStateKeysCommand = plain_word (codes "GetLazyStateKeys") (omega arith) refl
type_is_word type.SetStateCommand = plain_word (codes "SetState") (omega arith) refl
type_is_word type.ClearStateCommand = plain_word (codes "ClearState") (omega arith) refl
type_is_word type.ClearAllStateCommand = plain_word (codes "ClearAllState") (omega arith) refl
type_is_word type.SleepCommand = plain_word (codes "Sleep") (omega arith) refl
type_is_word type.CallCommand = plain_word (codes "Call") (omega arith) refl
type_is_word type.OneWayCallCommand = plain_word (codes "OneWayCall") (omega arith) refl
type_is_word type.CompleteAwakeableCommand = plain_word (codes "CompleteAwakeable") (omega arith) refl
type_is_word type.SendSignalCommand = plain_word (codes "SendSignal") (omega arith) refl
type_is_word type.GetPromiseCommand = plain_word (codes "GetPromise") (omega arith) refl
type_is_word type.PeekPromiseCommand = plain_word (codes "PeekPromise") (omega arith) refl
type_is_word type.CompletePromiseCommand = plain_word (codes "CompletePromise") (omega arith) refl
type_is_word type.RunCommand = plain_word (codes "Run") (omega arith) refl
type_is_word type.AttachInvocationCommand = plain_word (codes "AttachInvocation") (omega arith) refl
type_is_word type.GetInvocationOutputCommand = plain_word (codes "GetInvocationOutput") (omega arith) refl
type_is_word type.OutputCommand = plain_word (codes "Output") (omega arith) refl
type_is_word type.Notification = plain_word (codes "Notification") (omega arith) refl
