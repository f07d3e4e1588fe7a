-- The wire future of a residual wakes as the tree does.
use Rattle.std.proofs.Common.{◌≡◌, ℕ, ◌+◌, ◌≤◌, true, false, List, [], ◌∷◌, ◌++◌, length, take, drop, refl, sym, ◌∙◌, ap, arith, append_assoc, Option, Some, None}
use Rattle.std.proofs.lemmas.List.{take-append-drop}
use Rattle.std.proofs.Math.Seq.{take-append-add, take-length}
use Rattle.std.specs.Option.{option_or}
use Rattle.journal_attempt.specs.declared.future.FutureKind.{FutureKind}
use Rattle.journal_values.specs.declared.notification.Notification.{Notification}
use Rattle.journal_values.specs.declared.notification.NotificationId.{NotificationId}
use Rattle.journal_values.specs.declared.notification.NotificationId.TheVariants.{CompletionId, SignalId, SignalName}
use Rattle.journal_values.specs.declared.notification.NotificationResult.{NotificationResult}
use Rattle.journal_values.specs.declared.notification.NotificationResult.TheVariants.{Void, Value, Failure, StateKeys, InvocationId}
use Rattle.await_arrivals.specs.Results.{results_of, first, newest}
use Rattle.journal_values.specs.declared.delivery.SignalDelivery.{SignalDelivery}
use Rattle.journal_values.specs.declared.delivery.SignalDelivery.TheVariants.{Queued}
use Rattle.vm_parts.specs.Arrived.{Arrived}
use Rattle.vm_parts.specs.Deliveries.{id_at, is_listed, present_result, present_result_for}
use Rattle.await_trees.specs.declared.outcome.Outcome.{Outcome}
use Rattle.await_trees.specs.declared.outcome.Outcome.TheVariants.{Pending, Succeeded, Failed}
use Rattle.await_trees.specs.Outcomes.{is_done, outcome, all_wait, fires, any_fires, awake, first_of}
use Rattle.await_trees.specs.Tree.{Tree, Forest, leaf, node, none, more}
use Rattle.await_trees.specs.Wires.{outcome_of_leaf}
use Rattle.await_trees.proofs.Bools.{or_neither}
use Rattle.await_trees.proofs.Prune.{Waits, AllWait, residual_waits}
use Rattle.await_trees.proofs.Readings.{sent_awake}
use Rattle.await_tries.specs.Await.{earlier, outcomes, LeftPending}
use Rattle.await_tries.specs.Later.{with_later, EachLeaf, EachLeafOf, IsAbsent}
use Rattle.await_tries.specs.Leaves.{leaf_outcome, result_outcome}
use Rattle.await_tries.specs.Message.{ids, first_delivery, MessageWakes}
use Rattle.await_tries.specs.Used.{used}
use Rattle.await_arrivals.proofs.Awaited.{results-append}
use Rattle.await_tries.proofs.LaterArrivals.{ready, id_outcome, once_stays, wakes_alike, first_is_now}

-- where two give the same to what waits, they agree on a tree whose leaves wait
module _ (at bt ct : ℕ → Outcome) (agree : (h : ℕ) → is_done (at h) ≡ false → bt h ≡ ct h) where
  mutual
    same_outcome_on : (t : Tree) → Waits at t → outcome bt t ≡ outcome ct t
    same_outcome_on (leaf h) w = agree h w
    same_outcome_on (node k ts) w = rw (same_wait_on k ts w) refl

    same_wait_on : (k : FutureKind) (ts : Forest) → AllWait at ts → all_wait bt k ts ≡ all_wait ct k ts
    same_wait_on k none w = refl
    same_wait_on k (more t ts) w = rw (same_outcome_on t w.0, same_wait_on k ts w.1) refl

  mutual
    same_fires_on : (t : Tree) → Waits at t → fires bt t ≡ fires ct t
    same_fires_on (leaf h) w = refl
    same_fires_on (node k ts) w = same_any_on k ts w

    same_any_on : (k : FutureKind) (ts : Forest) → AllWait at ts → any_fires bt k ts ≡ any_fires ct k ts
    same_any_on k none w = refl
    same_any_on k (more t ts) w = rw (same_outcome_on t w.0, same_fires_on t w.0, same_any_on k ts w.1) refl

  same_awake_on : (t : Tree) → Waits at t → awake bt t ≡ awake ct t
  same_awake_on t w = rw (same_outcome_on t w, same_fires_on t w) refl

done_result : (r : NotificationResult) → is_done (result_outcome (Some r)) ≡ true
done_result Void = refl
done_result (Value bytes) = refl
done_result (Failure failure) = refl
done_result (StateKeys keys) = refl
done_result (InvocationId id) = refl

none_first : (rs es : List NotificationResult) → is_done (result_outcome (option_or (first rs) (first es))) ≡ false → rs ≡ []
none_first [] es p = refl
none_first (r ∷ rs) es p = let d = done_result r in cc

or_none : (o : Option NotificationResult) (es : List NotificationResult) → es ≡ [] → option_or o (first es) ≡ o
or_none None [] e = refl
or_none None (x ∷ es) e = cc
or_none (Some r) es e = refl

one_newest : (rs ss us es : List NotificationResult) → length ((rs ++ ss) ++ us) + length es ≤ 1 → is_done (result_outcome (option_or (newest rs) (newest es))) ≡ false → option_or (newest (rs ++ ss)) (newest es) ≡ first ss
one_newest [] ss us (x ∷ []) one p = let d = done_result x in cc
one_newest [] ss us (x ∷ y ∷ es) one p = absurd (omega arith)
one_newest [] [] us [] one p = refl
one_newest [] (s ∷ []) us [] one p = refl
one_newest [] (s ∷ t ∷ ss) us [] one p = absurd (omega arith)
one_newest (r ∷ []) ss us es one p = let d = done_result r in cc
one_newest (r ∷ s ∷ rs) ss us es one p = absurd (omega arith)

module _ (xs ys zs es : List Notification) (once : (i : ℕ) → length (results_of (CompletionId i) ((xs ++ ys) ++ zs)) + length (results_of (CompletionId i) es) ≤ 1)
    (others : (id : NotificationId) → is_listed Queued id ≡ true → results_of id es ≡ []) where
  new_signal : (id : NotificationId) → results_of id es ≡ [] → is_done (result_outcome (option_or (first (results_of id xs)) (first (results_of id es)))) ≡ false
      → option_or (first (results_of id (xs ++ ys))) (first (results_of id es)) ≡ first (results_of id ys)
  new_signal id e p =
      let none : results_of id xs ≡ [] = none_first (results_of id xs) (results_of id es) p in
      let all : results_of id (xs ++ ys) ≡ results_of id ys = results-append id xs ys ∙ ap (λ z. z ++ results_of id ys) none in
      ap (λ z. option_or (first z) (first (results_of id es))) all ∙ or_none (first (results_of id ys)) (results_of id es) e

  new_present : (id : NotificationId) → is_done (result_outcome (present_result Queued id (ready xs es))) ≡ false → present_result Queued id (ready (xs ++ ys) es) ≡ first (results_of id ys)
  new_present (SignalId i) p = new_signal (SignalId i) (others (SignalId i) refl) p
  new_present (SignalName i) p = new_signal (SignalName i) (others (SignalName i) refl) p
  new_present (CompletionId i) p =
      let one : length ((results_of (CompletionId i) xs ++ results_of (CompletionId i) ys) ++ results_of (CompletionId i) zs) + length (results_of (CompletionId i) es) ≤ 1 =
      rw (← results-append (CompletionId i) xs ys, ← results-append (CompletionId i) (xs ++ ys) zs) (once i) in
      rw results-append (one_newest (results_of (CompletionId i) xs) (results_of (CompletionId i) ys) (results_of (CompletionId i) zs) (results_of (CompletionId i) es) one p)

  new_outcome : (o : Option NotificationId) → is_done (id_outcome Queued xs es o) ≡ false → outcome_of_leaf (first_delivery ys) o ≡ id_outcome Queued (xs ++ ys) es o
  new_outcome None p = refl
  new_outcome (Some id) p = ap result_outcome (sym (new_present id p))

pub message_wakes : (delivery : SignalDelivery) (v : Arrived) (t r : Tree) → LeftPending delivery v t r → MessageWakes delivery v t r
message_wakes delivery v t r p later o mapped n =
    let w = with_later v later in
    let stays = once_stays delivery w o in
    let all = length v.queued in
    let ys = take n later in
    let xs = v.ready.delivered ++ v.queued in
    let zs = drop n later in
    let delivered : v.ready.delivered ++ take (all + n) (v.queued ++ later) ≡ xs ++ ys = rw (take-append-add v.queued later n) (sym (append_assoc v.ready.delivered v.queued ys)) in
    let whole : (xs ++ ys) ++ zs ≡ v.ready.delivered ++ (v.queued ++ later) =
    rw (append_assoc xs ys zs, take-append-drop n later) (append_assoc v.ready.delivered v.queued later) in
    let once : (i : ℕ) → length (results_of (CompletionId i) ((xs ++ ys) ++ zs)) + length (results_of (CompletionId i) v.ready.eager) ≤ 1 = λ i. rw whole (o.once i) in
    let agree : (h : ℕ) → is_done (outcomes delivery v all h) ≡ false → outcome_of_leaf (first_delivery ys) (ids v h) ≡ leaf_outcome delivery (used w (all + n)) h = λ h d.
    let now : outcomes delivery v all h ≡ leaf_outcome delivery (used v all) h = first_is_now delivery v later stays all h (omega arith) in
    let pending : is_done (id_outcome Queued xs v.ready.eager (id_at h v.handles)) ≡ false = rw (← o.queued, ← take-length v.queued) (rw now at d) in
    rw (delivered, o.queued) (new_outcome xs ys zs v.ready.eager once o.completions (id_at h v.handles) pending) in
    let asleep = or_neither (is_done (outcome (outcomes delivery v all) t)) (fires (outcomes delivery v all) t) (p.never all (omega arith)) in
    let waits : Waits (outcomes delivery v all) r = residual_waits (outcomes delivery v all) p.residual asleep.0 in
    sent_awake (ids v) (first_delivery ys) r mapped
    ∙ same_awake_on (outcomes delivery v all) (λ h. outcome_of_leaf (first_delivery ys) (ids v h)) (leaf_outcome delivery (used w (all + n))) agree r waits
    ∙ wakes_alike delivery v t r p later stays (all + n) (omega arith)

-- ---- no leaf of a residual has a present result

now_pending : (a b : Outcome) → is_done (first_of a b) ≡ false → is_done b ≡ false
now_pending Pending b p = p
now_pending Succeeded b p = cc
now_pending Failed b p = cc

absent : (o : Option NotificationResult) → is_done (result_outcome o) ≡ false → o ≡ None
absent None p = refl
absent (Some r) p = let d = done_result r in cc

module _ (at : ℕ → Outcome) (P : ℕ → Type 0) (each : (h : ℕ) → is_done (at h) ≡ false → P h) where
  mutual
    each_leaf : (t : Tree) → Waits at t → EachLeaf P t
    each_leaf (leaf h) w = each h w
    each_leaf (node k ts) w = each_leaves ts w

    each_leaves : (ts : Forest) → AllWait at ts → EachLeafOf P ts
    each_leaves none w = tt
    each_leaves (more t ts) w = (each_leaf t w.0, each_leaves ts w.1)

pub none_present : (delivery : SignalDelivery) (v : Arrived) (t r : Tree) → LeftPending delivery v t r → EachLeaf (IsAbsent delivery (used v (length v.queued))) r
none_present delivery v t r p =
    let all = length v.queued in
    let asleep = or_neither (is_done (outcome (outcomes delivery v all) t)) (fires (outcomes delivery v all) t) (p.never all (omega arith)) in
    let waits : Waits (outcomes delivery v all) r = residual_waits (outcomes delivery v all) p.residual asleep.0 in
    each_leaf (outcomes delivery v all) (IsAbsent delivery (used v all))
    (λ h d. absent (present_result_for delivery (id_at h v.handles) (used v all).ready) (now_pending (earlier delivery v all h) (leaf_outcome delivery (used v all) h) d)) r waits
