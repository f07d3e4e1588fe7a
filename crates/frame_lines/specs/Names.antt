-- The names that types of messages have on a line.
use Rattle.std.specs.Prelude.{ℕ, List, codes}
use Rattle.journal_protocol.specs.MessageType.{MessageType}
use Rattle.journal_protocol.specs.MessageType.TheVariants as type

-- the word for a type
unfoldable pub type_word : MessageType → List ℕ
type_word type.Start = codes "Start"
type_word type.Suspension = codes "Suspension"
type_word type.Error = codes "Error"
type_word type.End = codes "End"
type_word type.ProposeRunCompletion = codes "ProposeRunCompletion"
type_word type.ProposeRunCompletionAck = codes "ProposeRunCompletionAck"
type_word type.AwaitingOn = codes "AwaitingOn"
type_word type.GetStateEphemeralCommand = codes "GetStateEphemeralCommand"
type_word type.GetStateEphemeralNotification = codes "GetStateEphemeralNotification"
type_word type.InputCommand = codes "Input"
type_word type.GetEagerStateCommand = codes "GetEagerState"
type_word type.GetLazyStateCommand = codes "GetLazyState"
type_word type.GetEagerStateKeysCommand = codes "GetEagerStateKeys"
type_word type.GetLazyStateKeysCommand = codes "GetLazyStateKeys"
type_word type.SetStateCommand = codes "SetState"
type_word type.ClearStateCommand = codes "ClearState"
type_word type.ClearAllStateCommand = codes "ClearAllState"
type_word type.SleepCommand = codes "Sleep"
type_word type.CallCommand = codes "Call"
type_word type.OneWayCallCommand = codes "OneWayCall"
type_word type.CompleteAwakeableCommand = codes "CompleteAwakeable"
type_word type.SendSignalCommand = codes "SendSignal"
type_word type.GetPromiseCommand = codes "GetPromise"
type_word type.PeekPromiseCommand = codes "PeekPromise"
type_word type.CompletePromiseCommand = codes "CompletePromise"
type_word type.RunCommand = codes "Run"
type_word type.AttachInvocationCommand = codes "AttachInvocation"
type_word type.GetInvocationOutputCommand = codes "GetInvocationOutput"
type_word type.OutputCommand = codes "Output"
type_word type.Notification = codes "Notification"
