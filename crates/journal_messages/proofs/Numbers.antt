-- The types and their numbers.
use Rattle.std.proofs.Common.{◌≡◌, ◌<◌, ◌^◌, Some, refl, sym, ap, ◌∙◌, arith}
use Rattle.journal_errors.specs.Types.{type_number, type_at}
use Rattle.journal_errors.specs.declared.types.MessageType.{MessageType}
use Rattle.journal_errors.specs.declared.types.MessageType.TheVariants as type

pub small_number : (ty : MessageType) → type_number ty < 2 ^ 16
small_number type.Start = omega arith
small_number type.Suspension = omega arith
small_number type.Error = omega arith
small_number type.End = omega arith
small_number type.ProposeRunCompletion = omega arith
small_number type.ProposeRunCompletionAck = omega arith
small_number type.AwaitingOn = omega arith
small_number type.GetStateEphemeralCommand = omega arith
small_number type.GetStateEphemeralNotification = omega arith
small_number type.InputCommand = omega arith
small_number type.GetEagerStateCommand = omega arith
small_number type.GetLazyStateCommand = omega arith
small_number type.GetEagerStateKeysCommand = omega arith
small_number type.GetLazyStateKeysCommand = omega arith
small_number type.SetStateCommand = omega arith
small_number type.ClearStateCommand = omega arith
small_number type.ClearAllStateCommand = omega arith
small_number type.SleepCommand = omega arith
small_number type.CallCommand = omega arith
small_number type.OneWayCallCommand = omega arith
small_number type.CompleteAwakeableCommand = omega arith
small_number type.SendSignalCommand = omega arith
small_number type.GetPromiseCommand = omega arith
small_number type.PeekPromiseCommand = omega arith
small_number type.CompletePromiseCommand = omega arith
small_number type.RunCommand = omega arith
small_number type.AttachInvocationCommand = omega arith
small_number type.GetInvocationOutputCommand = omega arith
small_number type.OutputCommand = omega arith
small_number type.Notification = omega arith

some_one : (a b : MessageType) → Some a ≡ Some b → a ≡ b
some_one a b e = cc

pub type_found : (ty : MessageType) → type_at (type_number ty) ≡ Some ty
unfolding type_at
type_found type.Start = refl
type_found type.Suspension = refl
type_found type.Error = refl
type_found type.End = refl
type_found type.ProposeRunCompletion = refl
type_found type.ProposeRunCompletionAck = refl
type_found type.AwaitingOn = refl
type_found type.GetStateEphemeralCommand = refl
type_found type.GetStateEphemeralNotification = refl
type_found type.InputCommand = refl
type_found type.GetEagerStateCommand = refl
type_found type.GetLazyStateCommand = refl
type_found type.GetEagerStateKeysCommand = refl
type_found type.GetLazyStateKeysCommand = refl
type_found type.SetStateCommand = refl
type_found type.ClearStateCommand = refl
type_found type.ClearAllStateCommand = refl
type_found type.SleepCommand = refl
type_found type.CallCommand = refl
type_found type.OneWayCallCommand = refl
type_found type.CompleteAwakeableCommand = refl
type_found type.SendSignalCommand = refl
type_found type.GetPromiseCommand = refl
type_found type.PeekPromiseCommand = refl
type_found type.CompletePromiseCommand = refl
type_found type.RunCommand = refl
type_found type.AttachInvocationCommand = refl
type_found type.GetInvocationOutputCommand = refl
type_found type.OutputCommand = refl
type_found type.Notification = refl

-- no two types have one number
pub one_number : (a b : MessageType) → type_number a ≡ type_number b → a ≡ b
one_number a b e = some_one a b (sym (type_found a) ∙ ap type_at e ∙ type_found b)
