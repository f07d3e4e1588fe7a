-- Messages that are equal once what replay doesn't look at is erased are header-equal. Of two that aren't, a field is found: the first that
-- isn't the same.
use Rattle.std.proofs.Common.{◌≡◌, ◌⊎◌, ℕ, List, Bool, true, false, ◌||◌, ◌&&◌, Option, Some, None, refl, sym, ap, ◌∙◌, inl, inr}
use Rattle.std.specs.Prelude.{◌==◌, nat_eq, is_none, IsTrue}
use Rattle.std.specs.Bool.{Decides}
use Rattle.std.specs.Cmp.Lexicographic.{bytes_decides, pointwise, pointwise_decides}
use Rattle.std.specs.Option.{option_eq}
use Rattle.std.proofs.lemmas.Bool.Decides.{Decides-eqb}
use Rattle.wire.specs.Same.{Exact, exact_on, exact_option, exact_pair}
use Rattle.journal_values.specs.Same.{value_exact}
use Rattle.journal_state.specs.Same.{void_or_value_exact}
use Rattle.journal_calls.specs.Same.{attach_target_exact, signal_exact, signal_result_exact}
use Rattle.journal_values.specs.contracts.parts.HeaderPartialEq.TheImpl as headers_of
use Rattle.journal_values.specs.contracts.parts.ValueOrFailurePartialEq.TheImpl as values_of
use Rattle.journal_state.specs.contracts.state.VoidOrValuePartialEq.TheImpl as state_of
use Rattle.journal_calls.specs.contracts.signals.SignalPartialEq.TheImpl as signals_of
use Rattle.journal_calls.specs.contracts.signals.SignalResultPartialEq.TheImpl as sent_of
use Rattle.journal_calls.specs.contracts.invocations.InvocationTargetPartialEq.TheImpl as targets_of
use Rattle.journal_calls.specs.declared.calls.CallRequest.{CallRequest}
use Rattle.journal_replay.specs.Fields.{Before, IsNothing, unless}
use Rattle.journal_messages.specs.HeaderEqual.{header_equal, request_equal}
use Rattle.journal_replay.specs.Differences.{IsFirst, OfRequest, SamePayload, difference, request_difference}
use Rattle.journal_replay.specs.Headers.{erased}
use Rattle.journal_replay.specs.declared.field.Field.{Field}
use Rattle.journal_replay.specs.declared.field.Field.TheVariants as field
use Rattle.journal_messages.proofs.SameHeader.{same_header}
use Rattle.journal_messages.specs.declared.message.Message.{Message}
use Rattle.journal_messages.specs.declared.message.Message.TheVariants as message

-- what is erased isn't looked at
same_test : (ignore : Bool) (a b : Message) → header_equal (erased ignore a) (erased ignore b) ignore ≡ header_equal a b ignore
unfolding header_equal
same_test ignore (message.Start a) (message.Start b) = refl
same_test ignore (message.Start a) b = refl
same_test ignore (message.Suspension a) (message.Suspension b) = refl
same_test ignore (message.Suspension a) b = refl
same_test ignore (message.Error a) (message.Error b) = refl
same_test ignore (message.Error a) b = refl
same_test ignore message.End message.End = refl
same_test ignore message.End b = refl
same_test true (message.ProposeRunCompletion a) (message.ProposeRunCompletion b) = refl
same_test false (message.ProposeRunCompletion a) (message.ProposeRunCompletion b) = refl
same_test ignore (message.ProposeRunCompletion a) b = refl
same_test ignore (message.ProposeRunCompletionAck a) (message.ProposeRunCompletionAck b) = refl
same_test ignore (message.ProposeRunCompletionAck a) b = refl
same_test ignore (message.AwaitingOn a) (message.AwaitingOn b) = refl
same_test ignore (message.AwaitingOn a) b = refl
same_test ignore (message.GetStateEphemeralCommand a) (message.GetStateEphemeralCommand b) = refl
same_test ignore (message.GetStateEphemeralCommand a) b = refl
same_test true (message.GetStateEphemeralNotification a) (message.GetStateEphemeralNotification b) = refl
same_test false (message.GetStateEphemeralNotification a) (message.GetStateEphemeralNotification b) = refl
same_test ignore (message.GetStateEphemeralNotification a) b = refl
same_test ignore (message.Input a) (message.Input b) = refl
same_test ignore (message.Input a) b = refl
same_test true (message.GetEagerState a) (message.GetEagerState b) = refl
same_test false (message.GetEagerState a) (message.GetEagerState b) = refl
same_test ignore (message.GetEagerState a) b = refl
same_test ignore (message.GetLazyState a) (message.GetLazyState b) = refl
same_test ignore (message.GetLazyState a) b = refl
same_test true (message.GetEagerStateKeys a) (message.GetEagerStateKeys b) = refl
same_test false (message.GetEagerStateKeys a) (message.GetEagerStateKeys b) = refl
same_test ignore (message.GetEagerStateKeys a) b = refl
same_test ignore (message.GetLazyStateKeys a) (message.GetLazyStateKeys b) = refl
same_test ignore (message.GetLazyStateKeys a) b = refl
same_test true (message.SetState a) (message.SetState b) = refl
same_test false (message.SetState a) (message.SetState b) = refl
same_test ignore (message.SetState a) b = refl
same_test ignore (message.ClearState a) (message.ClearState b) = refl
same_test ignore (message.ClearState a) b = refl
same_test ignore (message.ClearAllState a) (message.ClearAllState b) = refl
same_test ignore (message.ClearAllState a) b = refl
same_test ignore (message.Sleep a) (message.Sleep b) = refl
same_test ignore (message.Sleep a) b = refl
same_test true (message.Call a) (message.Call b) = refl
same_test false (message.Call a) (message.Call b) = refl
same_test ignore (message.Call a) b = refl
same_test true (message.OneWayCall a) (message.OneWayCall b) = refl
same_test false (message.OneWayCall a) (message.OneWayCall b) = refl
same_test ignore (message.OneWayCall a) b = refl
same_test true (message.CompleteAwakeable a) (message.CompleteAwakeable b) = refl
same_test false (message.CompleteAwakeable a) (message.CompleteAwakeable b) = refl
same_test ignore (message.CompleteAwakeable a) b = refl
same_test true (message.SendSignal a) (message.SendSignal b) = refl
same_test false (message.SendSignal a) (message.SendSignal b) = refl
same_test ignore (message.SendSignal a) b = refl
same_test ignore (message.GetPromise a) (message.GetPromise b) = refl
same_test ignore (message.GetPromise a) b = refl
same_test ignore (message.PeekPromise a) (message.PeekPromise b) = refl
same_test ignore (message.PeekPromise a) b = refl
same_test true (message.CompletePromise a) (message.CompletePromise b) = refl
same_test false (message.CompletePromise a) (message.CompletePromise b) = refl
same_test ignore (message.CompletePromise a) b = refl
same_test ignore (message.Run a) (message.Run b) = refl
same_test ignore (message.Run a) b = refl
same_test ignore (message.AttachInvocation a) (message.AttachInvocation b) = refl
same_test ignore (message.AttachInvocation a) b = refl
same_test ignore (message.GetInvocationOutput a) (message.GetInvocationOutput b) = refl
same_test ignore (message.GetInvocationOutput a) b = refl
same_test true (message.Output a) (message.Output b) = refl
same_test false (message.Output a) (message.Output b) = refl
same_test ignore (message.Output a) b = refl
same_test true (message.Notification a) (message.Notification b) = refl
same_test false (message.Notification a) (message.Notification b) = refl
same_test ignore (message.Notification a) b = refl

pub erased_equal : (ignore : Bool) (a b : Message) → erased ignore a ≡ erased ignore b → header_equal a b ignore ≡ true
erased_equal ignore a b e =
    sym (same_test ignore a b) ∙ ap (λ m. header_equal (erased ignore a) m ignore) (sym e) ∙ same_header (erased ignore a) ignore

-- ---- the first field that isn't the same

last : (p : Bool) (f : Field) → is_none (unless p f None) ≡ p
unfolding unless
last true f = refl
last false f = refl

two : (p q : Bool) (f g : Field) → is_none (unless p f (unless q g None)) ≡ (p && q)
unfolding unless
two true true f g = refl
two true false f g = refl
two false q f g = refl

three : (p q r : Bool) (f g h : Field) → is_none (unless p f (unless q g (unless r h None))) ≡ ((p && q) && r)
unfolding unless
three true true true f g h = refl
three true true false f g h = refl
three true false r f g h = refl
three false q r f g h = refl

swapped : (p q : Bool) (f g : Field) → is_none (unless p f (unless q g None)) ≡ (q && p)
unfolding unless
swapped true true f g = refl
swapped true false f g = refl
swapped false true f g = refl
swapped false false f g = refl

-- the first of several
first : {r : Bool} (p : Bool) (f : Field) (others : Option Field) → (p && is_none others) ≡ r → is_none (unless p f others) ≡ r
unfolding unless
first true f others h = h
first false f others h = h

-- one more after some
next : {r : Bool} (c p : Bool) (f : Field) (others : Option Field) → ((c && p) && is_none others) ≡ r → (c && is_none (unless p f others)) ≡ r
unfolding unless
next true true f others h = h
next true false f others h = h
next false p f others h = h

-- two more, which are compared the other way round
exchanged : {r : Bool} (c p q : Bool) (f g : Field) (others : Option Field) → (((c && q) && p) && is_none others) ≡ r → (c && is_none (unless p f (unless q g others))) ≡ r
unfolding unless
exchanged true true true f g others h = h
exchanged true true false f g others h = h
exchanged true false true f g others h = h
exchanged true false false f g others h = h
exchanged false p q f g others h = h

request_none : (ignore : Bool) (a b : CallRequest) (others : Option Field) → is_none (request_difference ignore a b others) ≡ (request_equal ignore a b && is_none others)
request_none ignore a b others =
    first (pointwise nat_eq a.service_name b.service_name) field.ServiceName _
    (next _ (pointwise nat_eq a.handler_name b.handler_name) field.HandlerName _
    (next _ (pointwise nat_eq a.key b.key) field.Key _
    (next _ (option_eq (pointwise nat_eq) a.idempotency_key b.idempotency_key) field.IdempotencyKey _
    (next _ (option_eq (pointwise nat_eq) a.scope b.scope) field.Scope _
    (next _ (option_eq (pointwise nat_eq) a.limit_key b.limit_key) field.LimitKey _
    (next _ (pointwise (headers_of.ghosts).eq a.headers b.headers) field.Headers _
    (next _ (ignore || pointwise nat_eq a.parameter b.parameter) field.Parameter _
    (exchanged _ (pointwise nat_eq a.name b.name) (a.invocation_id_notification_idx == b.invocation_id_notification_idx) field.Name field.InvocationIdNotificationIdx others refl))))))))

one_way : (b : Bool) → (b && true) ≡ b
one_way true = refl
one_way false = refl

pub none_test : (ignore : Bool) (a b : Message) → is_none (difference ignore a b) ≡ header_equal a b ignore
unfolding header_equal difference
none_test ignore (message.Start a) b = last (header_equal (message.Start a) b ignore) field.Body
none_test ignore (message.Suspension a) b = last (header_equal (message.Suspension a) b ignore) field.Body
none_test ignore (message.Error a) b = last (header_equal (message.Error a) b ignore) field.Body
none_test ignore message.End b = last (header_equal message.End b ignore) field.Body
none_test ignore (message.ProposeRunCompletion a) b = last (header_equal (message.ProposeRunCompletion a) b ignore) field.Body
none_test ignore (message.ProposeRunCompletionAck a) b = last (header_equal (message.ProposeRunCompletionAck a) b ignore) field.Body
none_test ignore (message.AwaitingOn a) b = last (header_equal (message.AwaitingOn a) b ignore) field.Body
none_test ignore (message.GetStateEphemeralCommand a) b = last (header_equal (message.GetStateEphemeralCommand a) b ignore) field.Body
none_test ignore (message.GetStateEphemeralNotification a) b = last (header_equal (message.GetStateEphemeralNotification a) b ignore) field.Body
none_test ignore (message.Notification a) b = last (header_equal (message.Notification a) b ignore) field.Body
none_test ignore (message.Input a) (message.Input b) = refl
none_test ignore (message.Input a) b = refl
none_test ignore (message.GetEagerState a) (message.GetEagerState b) = three (pointwise nat_eq a.name b.name) (pointwise nat_eq a.key b.key) (ignore || option_eq (state_of.ghosts).eq a.result b.result) field.Name field.Key field.Result
none_test ignore (message.GetEagerState a) b = refl
none_test ignore (message.GetLazyState a) (message.GetLazyState b) = three (pointwise nat_eq a.name b.name) (pointwise nat_eq a.key b.key) (a.result_completion_id == b.result_completion_id) field.Name field.Key field.ResultCompletionId
none_test ignore (message.GetLazyState a) b = refl
none_test ignore (message.GetEagerStateKeys a) (message.GetEagerStateKeys b) = two (ignore || option_eq (pointwise (pointwise nat_eq)) a.value b.value) (pointwise nat_eq a.name b.name) field.Value field.Name
none_test ignore (message.GetEagerStateKeys a) b = refl
none_test ignore (message.GetLazyStateKeys a) (message.GetLazyStateKeys b) = swapped (pointwise nat_eq a.name b.name) (a.result_completion_id == b.result_completion_id) field.Name field.ResultCompletionId
none_test ignore (message.GetLazyStateKeys a) b = refl
none_test ignore (message.SetState a) (message.SetState b) = three (pointwise nat_eq a.name b.name) (pointwise nat_eq a.key b.key) (ignore || pointwise nat_eq a.value b.value) field.Name field.Key field.Value
none_test ignore (message.SetState a) b = refl
none_test ignore (message.ClearState a) (message.ClearState b) = two (pointwise nat_eq a.name b.name) (pointwise nat_eq a.key b.key) field.Name field.Key
none_test ignore (message.ClearState a) b = refl
none_test ignore (message.ClearAllState a) (message.ClearAllState b) = last (pointwise nat_eq a.name b.name) field.Name
none_test ignore (message.ClearAllState a) b = refl
none_test ignore (message.Sleep a) (message.Sleep b) = swapped (pointwise nat_eq a.name b.name) (a.result_completion_id == b.result_completion_id) field.Name field.ResultCompletionId
none_test ignore (message.Sleep a) b = refl
none_test ignore (message.Call a) (message.Call b) = request_none ignore a.request b.request (unless (a.result_completion_id == b.result_completion_id) field.ResultCompletionId None) ∙ ap (λ t. request_equal ignore a.request b.request && t) (last (a.result_completion_id == b.result_completion_id) field.ResultCompletionId)
none_test ignore (message.Call a) b = refl
none_test ignore (message.OneWayCall a) (message.OneWayCall b) = request_none ignore a.request b.request None ∙ one_way (request_equal ignore a.request b.request)
none_test ignore (message.OneWayCall a) b = refl
none_test ignore (message.CompleteAwakeable a) (message.CompleteAwakeable b) = two (pointwise nat_eq a.awakeable_id b.awakeable_id) (ignore || (values_of.ghosts).eq a.result b.result) field.AwakeableId field.Result
none_test ignore (message.CompleteAwakeable a) b = refl
none_test ignore (message.SendSignal a) (message.SendSignal b) = three (pointwise nat_eq a.target_invocation_id b.target_invocation_id) ((signals_of.ghosts).eq a.signal b.signal) (ignore || (sent_of.ghosts).eq a.result b.result) field.TargetInvocationId field.Signal field.Result
none_test ignore (message.SendSignal a) b = refl
none_test ignore (message.GetPromise a) (message.GetPromise b) = two (pointwise nat_eq a.key b.key) (a.result_completion_id == b.result_completion_id) field.Key field.ResultCompletionId
none_test ignore (message.GetPromise a) b = refl
none_test ignore (message.PeekPromise a) (message.PeekPromise b) = two (pointwise nat_eq a.key b.key) (a.result_completion_id == b.result_completion_id) field.Key field.ResultCompletionId
none_test ignore (message.PeekPromise a) b = refl
none_test ignore (message.CompletePromise a) (message.CompletePromise b) = three (pointwise nat_eq a.key b.key) (ignore || (values_of.ghosts).eq a.completion b.completion) (a.result_completion_id == b.result_completion_id) field.Key field.Completion field.ResultCompletionId
none_test ignore (message.CompletePromise a) b = refl
none_test ignore (message.Run a) (message.Run b) = two (pointwise nat_eq a.name b.name) (a.result_completion_id == b.result_completion_id) field.Name field.ResultCompletionId
none_test ignore (message.Run a) b = refl
none_test ignore (message.AttachInvocation a) (message.AttachInvocation b) = two ((targets_of.ghosts).eq a.target b.target) (a.result_completion_id == b.result_completion_id) field.Target field.ResultCompletionId
none_test ignore (message.AttachInvocation a) b = refl
none_test ignore (message.GetInvocationOutput a) (message.GetInvocationOutput b) = two ((targets_of.ghosts).eq a.target b.target) (a.result_completion_id == b.result_completion_id) field.Target field.ResultCompletionId
none_test ignore (message.GetInvocationOutput a) b = refl
none_test ignore (message.Output a) (message.Output b) = last (ignore || (values_of.ghosts).eq a.result b.result) field.Result
none_test ignore (message.Output a) b = refl

header_exact : Exact (headers_of.ghosts).eq
header_exact = exact_on (λ h. (h.key, h.value)) (λ p. record { key = p.0; value = p.1 }) (λ _. refl) (exact_pair bytes_decides bytes_decides)

either : {Same : Type 0} (p : Bool) → (Same → p ≡ true) → (false ≡ true) ⊎ Same → p ≡ true
either p h (inl e) = absurd (cc)
either p h (inr same) = h same

payload_decides : {Same : Type 0} (ignore p : Bool) → Decides p Same → Decides (ignore || p) (IsTrue ignore ⊎ Same)
payload_decides true p d = (λ _. inl refl, λ _. refl)
payload_decides false p d = (λ e. inr (d.0 e), either p d.1)

itself : (p : Bool) → Decides p (IsTrue p)
itself p = (λ e. e, λ e. e)

-- a field comes before what is found after it
before : {Same : Type 0} (p : Bool) → Decides p Same → (f : Field) (After : Option Field → Type 0) (others : Option Field) → After others → Before f Same After (unless p f others)
unfolding Before unless
before true d f After others h = inr (d.0 refl, h)
before false d f After others h = inl (λ same. let e : false ≡ true = d.1 same in absurd (cc), refl)

request_first : (ignore : Bool) (a b : CallRequest) (After : Option Field → Type 0) (others : Option Field) → After others → OfRequest ignore a b After (request_difference ignore a b others)
request_first ignore a b After others h =
    before (pointwise nat_eq a.service_name b.service_name) (bytes_decides a.service_name b.service_name) field.ServiceName _ _
    (before (pointwise nat_eq a.handler_name b.handler_name) (bytes_decides a.handler_name b.handler_name) field.HandlerName _ _
    (before (pointwise nat_eq a.key b.key) (bytes_decides a.key b.key) field.Key _ _
    (before (option_eq (pointwise nat_eq) a.idempotency_key b.idempotency_key) (exact_option bytes_decides a.idempotency_key b.idempotency_key) field.IdempotencyKey _ _
    (before (option_eq (pointwise nat_eq) a.scope b.scope) (exact_option bytes_decides a.scope b.scope) field.Scope _ _
    (before (option_eq (pointwise nat_eq) a.limit_key b.limit_key) (exact_option bytes_decides a.limit_key b.limit_key) field.LimitKey _ _
    (before (pointwise (headers_of.ghosts).eq a.headers b.headers) (pointwise_decides header_exact a.headers b.headers) field.Headers _ _
    (before (ignore || pointwise nat_eq a.parameter b.parameter) (payload_decides ignore (pointwise nat_eq a.parameter b.parameter) (bytes_decides a.parameter b.parameter)) field.Parameter _ _
    (before (pointwise nat_eq a.name b.name) (bytes_decides a.name b.name) field.Name _ _
    (before (a.invocation_id_notification_idx == b.invocation_id_notification_idx) (Decides-eqb a.invocation_id_notification_idx b.invocation_id_notification_idx) field.InvocationIdNotificationIdx After others
    h)))))))))

pub is_first : (ignore : Bool) (a b : Message) → IsFirst ignore a b (difference ignore a b)
unfolding IsFirst difference
is_first ignore (message.Start a) b = before (header_equal (message.Start a) b ignore) (itself (header_equal (message.Start a) b ignore)) field.Body IsNothing None refl
is_first ignore (message.Suspension a) b = before (header_equal (message.Suspension a) b ignore) (itself (header_equal (message.Suspension a) b ignore)) field.Body IsNothing None refl
is_first ignore (message.Error a) b = before (header_equal (message.Error a) b ignore) (itself (header_equal (message.Error a) b ignore)) field.Body IsNothing None refl
is_first ignore message.End b = before (header_equal message.End b ignore) (itself (header_equal message.End b ignore)) field.Body IsNothing None refl
is_first ignore (message.ProposeRunCompletion a) b = before (header_equal (message.ProposeRunCompletion a) b ignore) (itself (header_equal (message.ProposeRunCompletion a) b ignore)) field.Body IsNothing None refl
is_first ignore (message.ProposeRunCompletionAck a) b = before (header_equal (message.ProposeRunCompletionAck a) b ignore) (itself (header_equal (message.ProposeRunCompletionAck a) b ignore)) field.Body IsNothing None refl
is_first ignore (message.AwaitingOn a) b = before (header_equal (message.AwaitingOn a) b ignore) (itself (header_equal (message.AwaitingOn a) b ignore)) field.Body IsNothing None refl
is_first ignore (message.GetStateEphemeralCommand a) b = before (header_equal (message.GetStateEphemeralCommand a) b ignore) (itself (header_equal (message.GetStateEphemeralCommand a) b ignore)) field.Body IsNothing None refl
is_first ignore (message.GetStateEphemeralNotification a) b = before (header_equal (message.GetStateEphemeralNotification a) b ignore) (itself (header_equal (message.GetStateEphemeralNotification a) b ignore)) field.Body IsNothing None refl
is_first ignore (message.Notification a) b = before (header_equal (message.Notification a) b ignore) (itself (header_equal (message.Notification a) b ignore)) field.Body IsNothing None refl
is_first ignore (message.Input a) (message.Input b) = refl
is_first ignore (message.Input a) b = refl
is_first ignore (message.GetEagerState a) (message.GetEagerState b) = before (pointwise nat_eq a.name b.name) (bytes_decides a.name b.name) field.Name _ _ (before (pointwise nat_eq a.key b.key) (bytes_decides a.key b.key) field.Key _ _ (before (ignore || option_eq (state_of.ghosts).eq a.result b.result) (payload_decides ignore (option_eq (state_of.ghosts).eq a.result b.result) (exact_option void_or_value_exact a.result b.result)) field.Result IsNothing None refl))
is_first ignore (message.GetEagerState a) b = refl
is_first ignore (message.GetLazyState a) (message.GetLazyState b) = before (pointwise nat_eq a.name b.name) (bytes_decides a.name b.name) field.Name _ _ (before (pointwise nat_eq a.key b.key) (bytes_decides a.key b.key) field.Key _ _ (before (a.result_completion_id == b.result_completion_id) (Decides-eqb a.result_completion_id b.result_completion_id) field.ResultCompletionId IsNothing None refl))
is_first ignore (message.GetLazyState a) b = refl
is_first ignore (message.GetEagerStateKeys a) (message.GetEagerStateKeys b) = before (ignore || option_eq (pointwise (pointwise nat_eq)) a.value b.value) (payload_decides ignore (option_eq (pointwise (pointwise nat_eq)) a.value b.value) (exact_option (pointwise_decides bytes_decides) a.value b.value)) field.Value _ _ (before (pointwise nat_eq a.name b.name) (bytes_decides a.name b.name) field.Name IsNothing None refl)
is_first ignore (message.GetEagerStateKeys a) b = refl
is_first ignore (message.GetLazyStateKeys a) (message.GetLazyStateKeys b) = before (pointwise nat_eq a.name b.name) (bytes_decides a.name b.name) field.Name _ _ (before (a.result_completion_id == b.result_completion_id) (Decides-eqb a.result_completion_id b.result_completion_id) field.ResultCompletionId IsNothing None refl)
is_first ignore (message.GetLazyStateKeys a) b = refl
is_first ignore (message.SetState a) (message.SetState b) = before (pointwise nat_eq a.name b.name) (bytes_decides a.name b.name) field.Name _ _ (before (pointwise nat_eq a.key b.key) (bytes_decides a.key b.key) field.Key _ _ (before (ignore || pointwise nat_eq a.value b.value) (payload_decides ignore (pointwise nat_eq a.value b.value) (bytes_decides a.value b.value)) field.Value IsNothing None refl))
is_first ignore (message.SetState a) b = refl
is_first ignore (message.ClearState a) (message.ClearState b) = before (pointwise nat_eq a.name b.name) (bytes_decides a.name b.name) field.Name _ _ (before (pointwise nat_eq a.key b.key) (bytes_decides a.key b.key) field.Key IsNothing None refl)
is_first ignore (message.ClearState a) b = refl
is_first ignore (message.ClearAllState a) (message.ClearAllState b) = before (pointwise nat_eq a.name b.name) (bytes_decides a.name b.name) field.Name IsNothing None refl
is_first ignore (message.ClearAllState a) b = refl
is_first ignore (message.Sleep a) (message.Sleep b) = before (pointwise nat_eq a.name b.name) (bytes_decides a.name b.name) field.Name _ _ (before (a.result_completion_id == b.result_completion_id) (Decides-eqb a.result_completion_id b.result_completion_id) field.ResultCompletionId IsNothing None refl)
is_first ignore (message.Sleep a) b = refl
is_first ignore (message.Call a) (message.Call b) = request_first ignore a.request b.request (Before field.ResultCompletionId (a.result_completion_id ≡ b.result_completion_id) IsNothing) (unless (a.result_completion_id == b.result_completion_id) field.ResultCompletionId None) (before (a.result_completion_id == b.result_completion_id) (Decides-eqb a.result_completion_id b.result_completion_id) field.ResultCompletionId IsNothing None refl)
is_first ignore (message.Call a) b = refl
is_first ignore (message.OneWayCall a) (message.OneWayCall b) = request_first ignore a.request b.request IsNothing None refl
is_first ignore (message.OneWayCall a) b = refl
is_first ignore (message.CompleteAwakeable a) (message.CompleteAwakeable b) = before (pointwise nat_eq a.awakeable_id b.awakeable_id) (bytes_decides a.awakeable_id b.awakeable_id) field.AwakeableId _ _ (before (ignore || (values_of.ghosts).eq a.result b.result) (payload_decides ignore ((values_of.ghosts).eq a.result b.result) (value_exact a.result b.result)) field.Result IsNothing None refl)
is_first ignore (message.CompleteAwakeable a) b = refl
is_first ignore (message.SendSignal a) (message.SendSignal b) = before (pointwise nat_eq a.target_invocation_id b.target_invocation_id) (bytes_decides a.target_invocation_id b.target_invocation_id) field.TargetInvocationId _ _ (before ((signals_of.ghosts).eq a.signal b.signal) (signal_exact a.signal b.signal) field.Signal _ _ (before (ignore || (sent_of.ghosts).eq a.result b.result) (payload_decides ignore ((sent_of.ghosts).eq a.result b.result) (signal_result_exact a.result b.result)) field.Result IsNothing None refl))
is_first ignore (message.SendSignal a) b = refl
is_first ignore (message.GetPromise a) (message.GetPromise b) = before (pointwise nat_eq a.key b.key) (bytes_decides a.key b.key) field.Key _ _ (before (a.result_completion_id == b.result_completion_id) (Decides-eqb a.result_completion_id b.result_completion_id) field.ResultCompletionId IsNothing None refl)
is_first ignore (message.GetPromise a) b = refl
is_first ignore (message.PeekPromise a) (message.PeekPromise b) = before (pointwise nat_eq a.key b.key) (bytes_decides a.key b.key) field.Key _ _ (before (a.result_completion_id == b.result_completion_id) (Decides-eqb a.result_completion_id b.result_completion_id) field.ResultCompletionId IsNothing None refl)
is_first ignore (message.PeekPromise a) b = refl
is_first ignore (message.CompletePromise a) (message.CompletePromise b) = before (pointwise nat_eq a.key b.key) (bytes_decides a.key b.key) field.Key _ _ (before (ignore || (values_of.ghosts).eq a.completion b.completion) (payload_decides ignore ((values_of.ghosts).eq a.completion b.completion) (value_exact a.completion b.completion)) field.Completion _ _ (before (a.result_completion_id == b.result_completion_id) (Decides-eqb a.result_completion_id b.result_completion_id) field.ResultCompletionId IsNothing None refl))
is_first ignore (message.CompletePromise a) b = refl
is_first ignore (message.Run a) (message.Run b) = before (pointwise nat_eq a.name b.name) (bytes_decides a.name b.name) field.Name _ _ (before (a.result_completion_id == b.result_completion_id) (Decides-eqb a.result_completion_id b.result_completion_id) field.ResultCompletionId IsNothing None refl)
is_first ignore (message.Run a) b = refl
is_first ignore (message.AttachInvocation a) (message.AttachInvocation b) = before ((targets_of.ghosts).eq a.target b.target) (attach_target_exact a.target b.target) field.Target _ _ (before (a.result_completion_id == b.result_completion_id) (Decides-eqb a.result_completion_id b.result_completion_id) field.ResultCompletionId IsNothing None refl)
is_first ignore (message.AttachInvocation a) b = refl
is_first ignore (message.GetInvocationOutput a) (message.GetInvocationOutput b) = before ((targets_of.ghosts).eq a.target b.target) (attach_target_exact a.target b.target) field.Target _ _ (before (a.result_completion_id == b.result_completion_id) (Decides-eqb a.result_completion_id b.result_completion_id) field.ResultCompletionId IsNothing None refl)
is_first ignore (message.GetInvocationOutput a) b = refl
is_first ignore (message.Output a) (message.Output b) = before (ignore || (values_of.ghosts).eq a.result b.result) (payload_decides ignore ((values_of.ghosts).eq a.result b.result) (value_exact a.result b.result)) field.Result IsNothing None refl
is_first ignore (message.Output a) b = refl
