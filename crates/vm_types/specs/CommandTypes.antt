-- The message types by which errors name commands, and the texts that name them to people.
use Rattle.std.specs.Prelude.{ℕ, List, codes}
use Rattle.journal_errors.specs.declared.types.MessageType.{MessageType}
use Rattle.journal_errors.specs.declared.types.MessageType.TheVariants as message
use Rattle.vm_types.specs.declared.command_type.CommandType.{CommandType}
use Rattle.vm_types.specs.declared.command_type.CommandType.TheVariants as command

-- a state read is named by its lazy form, the cancelling of an invocation by the signal that it
-- sends; each other command by its own message
unfoldable pub message_type : CommandType → MessageType
message_type command.Input = message.InputCommand
message_type command.Output = message.OutputCommand
message_type command.GetState = message.GetLazyStateCommand
message_type command.GetStateKeys = message.GetLazyStateKeysCommand
message_type command.SetState = message.SetStateCommand
message_type command.ClearState = message.ClearStateCommand
message_type command.ClearAllState = message.ClearAllStateCommand
message_type command.GetPromise = message.GetPromiseCommand
message_type command.PeekPromise = message.PeekPromiseCommand
message_type command.CompletePromise = message.CompletePromiseCommand
message_type command.Sleep = message.SleepCommand
message_type command.Call = message.CallCommand
message_type command.OneWayCall = message.OneWayCallCommand
message_type command.SendSignal = message.SendSignalCommand
message_type command.Run = message.RunCommand
message_type command.AttachInvocation = message.AttachInvocationCommand
message_type command.GetInvocationOutput = message.GetInvocationOutputCommand
message_type command.CompleteAwakeable = message.CompleteAwakeableCommand
message_type command.CancelInvocation = message.SendSignalCommand

-- the text that names a command to people
unfoldable pub command_text : CommandType → List ℕ
command_text command.Input = codes "handler input"
command_text command.Output = codes "handler return"
command_text command.GetState = codes "get state"
command_text command.GetStateKeys = codes "get state keys"
command_text command.SetState = codes "set state"
command_text command.ClearState = codes "clear state"
command_text command.ClearAllState = codes "clear all state"
command_text command.GetPromise = codes "get promise"
command_text command.PeekPromise = codes "peek promise"
command_text command.CompletePromise = codes "complete promise"
command_text command.Sleep = codes "sleep"
command_text command.Call = codes "call"
command_text command.OneWayCall = codes "one way call/send"
command_text command.SendSignal = codes "send signal"
command_text command.Run = codes "run"
command_text command.AttachInvocation = codes "attach invocation"
command_text command.GetInvocationOutput = codes "get invocation output"
command_text command.CompleteAwakeable = codes "complete awakeable"
command_text command.CancelInvocation = codes "cancel invocation"
