-- If signals queue, what is left of a signal's deliveries begins at the index, from 0, that is the
-- number of its takes.
use Rattle.std.proofs.Common.{◌≡◌, ◌≤◌, ℕ, zero, suc, true, cond, List, [], ◌∷◌, ◌++◌, length, drop, Some, refl, sym, ap, ◌∙◌, subst, arith, append-nil}
use Rattle.await_arrivals.specs.Results.{results_of}
use Rattle.await_arrivals.proofs.Awaited.{results-append}
use Rattle.journal_protocol.specs.InputCommand.{InputCommand}
use Rattle.journal_protocol.specs.RawMessage.{RawMessage}
use Rattle.journal_protocol.specs.Notification.{Notification}
use Rattle.journal_protocol.specs.NotificationId.{NotificationId}
use Rattle.journal_protocol.specs.NotificationId.TheVariants.{CompletionId, SignalId, SignalName}
use Rattle.journal_protocol.specs.SignalDelivery.TheVariants.{Queued}
use Rattle.vm_parts.specs.Deliveries.{is_listed, same_id}
use Rattle.vm_model.specs.Calls.{Meaning, Setup, Usage, ready_by_usage}
use Rattle.vm_model.specs.Calls.Usage.{Used, Read, Taken}
use Rattle.vm_model.specs.Deliveries.{EachTookAResult, deliveries, takes}
use Rattle.vm_model.specs.Moves.{Point, after, start}
use Rattle.vm_model.specs.SignalQueues.{IsSignal, values_left, values_ready}
use Rattle.vm_model.specs.Uses.{arrivals_in}
use Rattle.vm_model.proofs.Results.{none_read, not_a_completion, rest_ready, results_behind}
use Rattle.vm_model.proofs.Took.{told_took}
use Rattle.vm_model.proofs.Uses.{arrivals_used}

signal_queues : (id : NotificationId) → IsSignal id → is_listed Queued id ≡ true
signal_queues (CompletionId n) h = absurd h
signal_queues (SignalId n) h = refl
signal_queues (SignalName name) h = refl

-- what came for a signal came with arrivals that awaits used
came_used : (id : NotificationId) → is_listed Queued id ≡ true → (us : List Usage) → deliveries id us ≡ results_of id (arrivals_in us)
came_used id queues [] = refl
came_used id queues (Used n ∷ us) = ap (λ l. cond (same_id n.id id) (l ++ n.result ∷ []) l) (came_used id queues us) ∙ sym (results_behind id (arrivals_in us) n)
came_used id queues (Read i result ∷ us) = rw (not_a_completion id i queues) (came_used id queues us)
came_used id queues (Taken i ∷ us) = came_used id queues us

drop_front : {A : Type 0} (k : ℕ) (xs ys : List A) → k ≤ length xs → drop k (xs ++ ys) ≡ drop k xs ++ ys
drop_front zero xs ys h = refl
drop_front (suc k) [] ys h = absurd (omega (arith, h))
drop_front (suc k) (x ∷ xs) ys h = drop_front k xs ys (omega (arith, h))

left_behind : (id : NotificationId) → is_listed Queued id ≡ true → (us : List Usage) (queue : List Notification) → EachTookAResult Queued us
    → values_ready id (ready_by_usage Queued us) ++ results_of id queue ≡ drop (takes id us) (results_of id (arrivals_in us ++ queue))
left_behind id queues us queue took =
    let rest = rest_ready id queues us took in
    ap (λ l. (results_of id (ready_by_usage Queued us).delivered ++ l) ++ results_of id queue) (none_read id queues us)
    ∙ ap (λ l. l ++ results_of id queue) (append-nil (results_of id (ready_by_usage Queued us).delivered) ∙ rest.ready)
    ∙ sym (drop_front (takes id us) (deliveries id us) (results_of id queue) rest.within)
    ∙ ap (λ l. drop (takes id us) (l ++ results_of id queue)) (came_used id queues us)
    ∙ ap (drop (takes id us)) (sym (results-append id (arrivals_in us) queue))

pub queue_in_order : (s : Setup) (m : Meaning) (n : ℕ) (input : InputCommand) (ns : List Notification) (cs : List RawMessage) (q : Point) → s.options.signal_delivery ≡ Queued → after s m n (start s input ns cs) ≡ Some q → (id : NotificationId) → IsSignal id → values_left s id q ≡ drop (takes id q.derived.usage) (results_of id ns)
queue_in_order s m n input ns cs q queued e id signal =
    let took = told_took s m n input ns cs q e in
    let us = q.derived.usage in
    let all : EachTookAResult Queued us → values_ready id (ready_by_usage Queued us) ++ results_of id q.queue ≡ drop (takes id us) (results_of id (arrivals_in us ++ q.queue)) = left_behind id (signal_queues id signal) us q.queue in
    subst (λ d. EachTookAResult d us → values_ready id (ready_by_usage d us) ++ results_of id q.queue ≡ drop (takes id us) (results_of id (arrivals_in us ++ q.queue))) (sym queued) all took
    ∙ ap (λ l. drop (takes id us) (results_of id l)) (sym (arrivals_used s m n input ns cs q e))
