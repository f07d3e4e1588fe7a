-- How a command is answered, and how many handles that needs.
use Rattle.std.proofs.Common.{◌≡◌, ℕ, ◌+◌, ◌<◌, ◌^◌, refl, arith}
use Rattle.journal_protocol.specs.Message.{Message}
use Rattle.journal_protocol.specs.Message.TheVariants as message
use Rattle.await_trees.specs.declared.handle.NotificationHandle.{NotificationHandle}
use Rattle.vm_asks.specs.declared.asks.AnswerKind.{AnswerKind}
use Rattle.vm_asks.specs.declared.asks.AnswerKind.TheVariants as kind
use Rattle.vm_asks.specs.Asks.{AnswerTakes, HandlesFit, answer_kind}
use Rattle.vm_machine.specs.Commands.{HandleFits}
use Rattle.vm_asks.specs.Requests.{ids_of}

-- only a call is answered by two handles, and it takes two
call_takes_two : (m : Message) → answer_kind m ≡ kind.Call → ids_of m ≡ 2
call_takes_two (message.Start c) is = absurd (cc)
call_takes_two (message.Suspension c) is = absurd (cc)
call_takes_two (message.Error c) is = absurd (cc)
call_takes_two message.End is = absurd (cc)
call_takes_two (message.ProposeRunCompletion c) is = absurd (cc)
call_takes_two (message.ProposeRunCompletionAck c) is = absurd (cc)
call_takes_two (message.AwaitingOn c) is = absurd (cc)
call_takes_two (message.GetStateEphemeralCommand c) is = absurd (cc)
call_takes_two (message.GetStateEphemeralNotification c) is = absurd (cc)
call_takes_two (message.Input c) is = absurd (cc)
call_takes_two (message.GetEagerState c) is = absurd (cc)
call_takes_two (message.GetLazyState c) is = absurd (cc)
call_takes_two (message.GetEagerStateKeys c) is = absurd (cc)
call_takes_two (message.GetLazyStateKeys c) is = absurd (cc)
call_takes_two (message.SetState c) is = absurd (cc)
call_takes_two (message.ClearState c) is = absurd (cc)
call_takes_two (message.ClearAllState c) is = absurd (cc)
call_takes_two (message.Sleep c) is = absurd (cc)
call_takes_two (message.Call c) is = refl
call_takes_two (message.OneWayCall c) is = absurd (cc)
call_takes_two (message.CompleteAwakeable c) is = absurd (cc)
call_takes_two (message.SendSignal c) is = absurd (cc)
call_takes_two (message.GetPromise c) is = absurd (cc)
call_takes_two (message.PeekPromise c) is = absurd (cc)
call_takes_two (message.CompletePromise c) is = absurd (cc)
call_takes_two (message.Run c) is = absurd (cc)
call_takes_two (message.AttachInvocation c) is = absurd (cc)
call_takes_two (message.GetInvocationOutput c) is = absurd (cc)
call_takes_two (message.Output c) is = absurd (cc)
call_takes_two (message.Notification c) is = absurd (cc)

-- no command by itself is answered by three
none_with_deadline : (m : Message) → answer_kind m ≡ kind.CallWithDeadline → ⊥
none_with_deadline (message.Call c) is = cc
none_with_deadline (message.OneWayCall c) is = cc
none_with_deadline m is = cc

fits_by : (k : AnswerKind) (ids handle : ℕ) → (k ≡ kind.Call → ids ≡ 2) → (k ≡ kind.CallWithDeadline → ⊥) → handle + ids < 2 ^ 32 → HandlesFit k (record { 0 = handle })
fits_by kind.Unit ids handle two none fits = tt
fits_by kind.Handle ids handle two none fits = tt
fits_by kind.Call ids handle two none fits = omega (arith, two refl, fits)
fits_by kind.CallWithDeadline ids handle two none fits = absurd (none refl)
fits_by kind.Send ids handle two none fits = tt

-- what a command is answered by fits, where its handles do
pub handles_fit : (m : Message) (handle : NotificationHandle) → HandleFits m handle → HandlesFit (answer_kind m) handle
handles_fit m handle fits = fits_by (answer_kind m) (ids_of m) handle.0 (call_takes_two m) (none_with_deadline m) fits

-- what several commands are answered by fits, where their handles do
pub several_fit : (k : AnswerKind) (ids : ℕ) (handle : NotificationHandle) → AnswerTakes k ids → handle.0 + ids < 2 ^ 32 → HandlesFit k handle
several_fit kind.Unit ids handle takes fits = tt
several_fit kind.Handle ids handle takes fits = tt
several_fit kind.Call ids handle takes fits = omega (arith, takes, fits)
several_fit kind.CallWithDeadline ids handle takes fits = omega (arith, takes, fits)
several_fit kind.Send ids handle takes fits = tt
