-- Which messages replay takes for one: those that are equal once the fields that it doesn't look at
-- are erased.
use Rattle.std.specs.Prelude.{◌≡◌, Bool, true, false, [], None}
use Rattle.journal_calls.specs.declared.calls.CallRequest.{CallRequest}
use Rattle.journal_values.specs.declared.notification.NotificationResult.TheVariants as notified
use Rattle.journal_values.specs.declared.parts.ValueOrFailure.TheVariants as value
use Rattle.journal_calls.specs.declared.signals.SignalResult.TheVariants as sent
use Rattle.journal_messages.specs.declared.message.Message.{Message}
use Rattle.journal_messages.specs.declared.message.Message.TheVariants as message

-- a payload, or this in its place if payloads are ignored
abbrev pub payload : {A : Type 0} → Bool → A → A → A
payload true nothing given = nothing
payload false nothing given = given

abbrev pub erased_request : Bool → CallRequest → CallRequest
erased_request ignore r = record r { parameter = payload ignore [] r.parameter }

-- Never looked at: an input's fields, when a sleep ends, and when a call without a result begins.
-- Payloads are looked at unless they are ignored, and each other field always.
abbrev pub erased : Bool → Message → Message
erased ignore (message.Input c) = message.Input (record { headers = []; value = [] })
erased ignore (message.Sleep c) = message.Sleep (record c { wake_up_time = 0 })
erased ignore (message.OneWayCall c) = message.OneWayCall
    (record { request = erased_request ignore c.request; invoke_time = 0 })
erased ignore (message.Call c) = message.Call
    (record c { request = erased_request ignore c.request })
erased ignore (message.GetEagerState c) = message.GetEagerState
    (record c { result = payload ignore None c.result })
erased ignore (message.GetEagerStateKeys c) = message.GetEagerStateKeys
    (record c { value = payload ignore None c.value })
erased ignore (message.SetState c) = message.SetState
    (record c { value = payload ignore [] c.value })
erased ignore (message.CompleteAwakeable c) = message.CompleteAwakeable
    (record c { result = payload ignore (value.Value []) c.result })
erased ignore (message.SendSignal c) = message.SendSignal
    (record c { result = payload ignore sent.Void c.result })
erased ignore (message.CompletePromise c) = message.CompletePromise
    (record c { completion = payload ignore (value.Value []) c.completion })
erased ignore (message.Output c) = message.Output
    (record { result = payload ignore (value.Value []) c.result })
erased ignore (message.Notification m) = message.Notification
    (record m { result = payload ignore notified.Void m.result })
erased ignore (message.ProposeRunCompletion m) = message.ProposeRunCompletion
    (record m { result = payload ignore (value.Value []) m.result })
erased ignore (message.GetStateEphemeralNotification m) = message.GetStateEphemeralNotification
    (record m { result = payload ignore None m.result })
erased ignore m = m

abbrev pub HeaderEqual : Bool → Message → Message → Type 0
HeaderEqual ignore a b = erased ignore a ≡ erased ignore b
