-- Each message is header-equal to itself, whether or not payloads are ignored.
use Rattle.std.proofs.Common.{◌≡◌, ℕ, Bool, true, false, ◌||◌, ◌&&◌, List, [], ◌∷◌, Option, Some, None, refl}
use Rattle.std.specs.Prelude.{◌==◌, nat_eq}
use Rattle.std.specs.Bool.{beq}
use Rattle.std.specs.Cmp.Lexicographic.{bytes_decides, pointwise}
use Rattle.std.specs.Option.{option_eq}
use Rattle.std.proofs.lemmas.Bool.{eq-eqb}
use Rattle.journal_messages.specs.HeaderEqual.{header_equal, request_equal}
use Rattle.journal_attempt.specs.contracts.start.StartEq.TheImpl.Laws as starts_of
use Rattle.journal_attempt.specs.contracts.future.FutureEq.TheImpl.Laws as futures_of
use Rattle.journal_errors.specs.contracts.error_message.ErrorMessageEq.TheImpl.Laws as errors_of
use Rattle.journal_values.specs.contracts.notification.NotificationIdEq.TheImpl.Laws as ids_of
use Rattle.journal_values.specs.contracts.notification.NotificationResultEq.TheImpl.Laws as results_of
use Rattle.journal_values.specs.contracts.parts.ValueOrFailureEq.TheImpl.Laws as values_of
use Rattle.journal_calls.specs.contracts.signals.SignalEq.TheImpl.Laws as signals_of
use Rattle.journal_calls.specs.contracts.signals.SignalResultEq.TheImpl.Laws as sent_of
use Rattle.journal_state.specs.contracts.state.VoidOrValuePartialEq.TheImpl as state_of
use Rattle.journal_state.specs.contracts.state.VoidOrValueEq.TheImpl.Laws as found_of
use Rattle.journal_values.specs.contracts.parts.HeaderPartialEq.TheImpl as headers_are
use Rattle.journal_values.specs.contracts.parts.HeaderEq.TheImpl.Laws as headers_of
use Rattle.journal_calls.specs.contracts.invocations.InvocationTargetEq.TheImpl.Laws as targets_of
use Rattle.journal_calls.specs.declared.calls.CallRequest.{CallRequest}
use Rattle.journal_values.specs.declared.parts.Header.{Header}
use Rattle.journal_state.specs.declared.state.VoidOrValue.{VoidOrValue}
use Rattle.journal_messages.specs.declared.message.Message.{Message}
use Rattle.journal_messages.specs.declared.message.Message.TheVariants as message

text_same : (xs : List ℕ) → pointwise nat_eq xs xs ≡ true
text_same xs = (bytes_decides xs xs).1 refl

number_same : (n : ℕ) → (n == n) ≡ true
number_same n = eq-eqb n n refl

flag_same : (b : Bool) → beq b b ≡ true
flag_same true = refl
flag_same false = refl

or_true : (ignore b : Bool) → b ≡ true → (ignore || b) ≡ true
or_true true b e = refl
or_true false b e = e

and_true : (a b : Bool) → a ≡ true → b ≡ true → (a && b) ≡ true
and_true true b x y = y
and_true false b x y = x

option_same : (o : Option (List ℕ)) → option_eq (pointwise nat_eq) o o ≡ true
option_same None = refl
option_same (Some xs) = text_same xs

found_same : (o : Option VoidOrValue) → option_eq (state_of.ghosts).eq o o ≡ true
found_same None = refl
found_same (Some found) = (found_of.laws-law).refl found

texts_same : (xs : List (List ℕ)) → pointwise (pointwise nat_eq) xs xs ≡ true
texts_same [] = refl
texts_same (x ∷ xs) = rw (text_same x) (texts_same xs)

keys_same : (o : Option (List (List ℕ))) → option_eq (pointwise (pointwise nat_eq)) o o ≡ true
keys_same None = refl
keys_same (Some xs) = texts_same xs

headers_same : (xs : List Header) → pointwise (headers_are.ghosts).eq xs xs ≡ true
headers_same [] = refl
headers_same (x ∷ xs) = rw ((headers_of.laws-law).refl x) (headers_same xs)

request_same : (ignore : Bool) (r : CallRequest) → request_equal ignore r r ≡ true
request_same ignore r =
    rw (text_same r.service_name, text_same r.handler_name, text_same r.key, option_same r.idempotency_key, option_same r.scope, option_same r.limit_key, headers_same r.headers, number_same r.invocation_id_notification_idx, text_same r.name)
    (and_true _ _ (and_true _ _ (or_true ignore _ (text_same r.parameter)) refl) refl)

pub same_header : (m : Message) (ignore : Bool) → header_equal m m ignore ≡ true
unfolding header_equal
same_header (message.Start m) ignore = (starts_of.laws-law).refl m
same_header (message.Suspension m) ignore = (futures_of.laws-law).refl m.future
same_header (message.Error m) ignore = (errors_of.laws-law).refl m
same_header message.End ignore = refl
same_header (message.ProposeRunCompletion m) ignore = rw (number_same m.id) (or_true ignore _ ((values_of.laws-law).refl m.result))
same_header (message.ProposeRunCompletionAck m) ignore = number_same m.id
same_header (message.AwaitingOn m) ignore = rw ((futures_of.laws-law).refl m.future) (flag_same m.executing_side_effects)
same_header (message.GetStateEphemeralCommand m) ignore = rw (number_same m.id) (text_same m.key)
same_header (message.GetStateEphemeralNotification m) ignore = rw (number_same m.id) (or_true ignore _ (found_same m.result))
same_header (message.Input c) ignore = refl
same_header (message.GetEagerState c) ignore = rw (text_same c.name, text_same c.key) (or_true ignore _ (found_same c.result))
same_header (message.GetLazyState c) ignore = rw (text_same c.name, text_same c.key, number_same c.result_completion_id) refl
same_header (message.GetEagerStateKeys c) ignore = and_true _ _ (or_true ignore _ (keys_same c.value)) (text_same c.name)
same_header (message.GetLazyStateKeys c) ignore = rw (number_same c.result_completion_id, text_same c.name) refl
same_header (message.SetState c) ignore = rw (text_same c.name, text_same c.key) (or_true ignore _ (text_same c.value))
same_header (message.ClearState c) ignore = rw (text_same c.name, text_same c.key) refl
same_header (message.ClearAllState c) ignore = text_same c.name
same_header (message.Sleep c) ignore = rw (number_same c.result_completion_id, text_same c.name) refl
same_header (message.Call c) ignore = and_true _ _ (request_same ignore c.request) (number_same c.result_completion_id)
same_header (message.OneWayCall c) ignore = request_same ignore c.request
same_header (message.CompleteAwakeable c) ignore = rw (text_same c.awakeable_id) (or_true ignore _ ((values_of.laws-law).refl c.result))
same_header (message.SendSignal c) ignore = rw (text_same c.target_invocation_id, (signals_of.laws-law).refl c.signal) (or_true ignore _ ((sent_of.laws-law).refl c.result))
same_header (message.GetPromise c) ignore = rw (text_same c.key, number_same c.result_completion_id) refl
same_header (message.PeekPromise c) ignore = rw (text_same c.key, number_same c.result_completion_id) refl
same_header (message.CompletePromise c) ignore = rw (text_same c.key, number_same c.result_completion_id) (and_true _ _ (or_true ignore _ ((values_of.laws-law).refl c.completion)) refl)
same_header (message.Run c) ignore = rw (text_same c.name, number_same c.result_completion_id) refl
same_header (message.AttachInvocation c) ignore = rw ((targets_of.laws-law).refl c.target, number_same c.result_completion_id) refl
same_header (message.GetInvocationOutput c) ignore = rw ((targets_of.laws-law).refl c.target, number_same c.result_completion_id) refl
same_header (message.Output c) ignore = or_true ignore _ ((values_of.laws-law).refl c.result)
same_header (message.Notification m) ignore = rw ((ids_of.laws-law).refl m.id) (or_true ignore _ ((results_of.laws-law).refl m.result))
