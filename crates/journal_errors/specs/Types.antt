-- The numbers of the message types.
use Rattle.std.specs.Prelude.{ℕ, Option, Some, None, if◌then◌else◌, ◌==◌}
use Rattle.journal_errors.specs.declared.types.MessageType.{MessageType}
use Rattle.journal_errors.specs.declared.types.MessageType.TheVariants as type

-- 10 to 29 are the commands, which a journal records; 30 are its other entries; 1 to 9 stand in no
-- journal
abbrev pub type_number : MessageType → ℕ
type_number type.Start = 1
type_number type.Suspension = 2
type_number type.Error = 3
type_number type.End = 4
type_number type.ProposeRunCompletion = 5
type_number type.ProposeRunCompletionAck = 6
type_number type.AwaitingOn = 7
type_number type.GetStateEphemeralCommand = 8
type_number type.GetStateEphemeralNotification = 9
type_number type.InputCommand = 10
type_number type.GetEagerStateCommand = 11
type_number type.GetLazyStateCommand = 12
type_number type.GetEagerStateKeysCommand = 13
type_number type.GetLazyStateKeysCommand = 14
type_number type.SetStateCommand = 15
type_number type.ClearStateCommand = 16
type_number type.ClearAllStateCommand = 17
type_number type.SleepCommand = 18
type_number type.CallCommand = 19
type_number type.OneWayCallCommand = 20
type_number type.CompleteAwakeableCommand = 21
type_number type.SendSignalCommand = 22
type_number type.GetPromiseCommand = 23
type_number type.PeekPromiseCommand = 24
type_number type.CompletePromiseCommand = 25
type_number type.RunCommand = 26
type_number type.AttachInvocationCommand = 27
type_number type.GetInvocationOutputCommand = 28
type_number type.OutputCommand = 29
type_number type.Notification = 30

-- the type that has the number
unfoldable pub type_at : ℕ → Option MessageType
type_at n =
    if n == 1 then Some type.Start
    else if n == 2 then Some type.Suspension
    else if n == 3 then Some type.Error
    else if n == 4 then Some type.End
    else if n == 5 then Some type.ProposeRunCompletion
    else if n == 6 then Some type.ProposeRunCompletionAck
    else if n == 7 then Some type.AwaitingOn
    else if n == 8 then Some type.GetStateEphemeralCommand
    else if n == 9 then Some type.GetStateEphemeralNotification
    else if n == 10 then Some type.InputCommand
    else if n == 11 then Some type.GetEagerStateCommand
    else if n == 12 then Some type.GetLazyStateCommand
    else if n == 13 then Some type.GetEagerStateKeysCommand
    else if n == 14 then Some type.GetLazyStateKeysCommand
    else if n == 15 then Some type.SetStateCommand
    else if n == 16 then Some type.ClearStateCommand
    else if n == 17 then Some type.ClearAllStateCommand
    else if n == 18 then Some type.SleepCommand
    else if n == 19 then Some type.CallCommand
    else if n == 20 then Some type.OneWayCallCommand
    else if n == 21 then Some type.CompleteAwakeableCommand
    else if n == 22 then Some type.SendSignalCommand
    else if n == 23 then Some type.GetPromiseCommand
    else if n == 24 then Some type.PeekPromiseCommand
    else if n == 25 then Some type.CompletePromiseCommand
    else if n == 26 then Some type.RunCommand
    else if n == 27 then Some type.AttachInvocationCommand
    else if n == 28 then Some type.GetInvocationOutputCommand
    else if n == 29 then Some type.OutputCommand
    else if n == 30 then Some type.Notification
    else None
