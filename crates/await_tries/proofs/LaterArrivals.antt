-- The awake moments of a tree and of its residual.
use Rattle.std.proofs.Common.{◌≡◌, ℕ, zero, suc, ◌+◌, ◌-◌, ◌≤◌, true, List, [], ◌∷◌, ◌++◌, length, take, drop, refl, sym, ◌∙◌, ap, subst, arith, append_assoc, Option, Some, None}
use Rattle.std.proofs.lemmas.List.{take-append-le, take-append-drop}
use Rattle.std.proofs.Math.Seq.{take-add}
use Rattle.std.specs.Option.{option_or}
use Rattle.journal_values.specs.declared.notification.Notification.{Notification}
use Rattle.journal_values.specs.declared.notification.NotificationId.{NotificationId}
use Rattle.journal_values.specs.declared.notification.NotificationId.TheVariants.{CompletionId, SignalId, SignalName}
use Rattle.journal_values.specs.declared.notification.NotificationResult.{NotificationResult}
use Rattle.await_arrivals.specs.Results.{results_of, first, newest}
use Rattle.await_arrivals.proofs.Awaited.{results-append}
use Rattle.journal_values.specs.declared.delivery.SignalDelivery.{SignalDelivery}
use Rattle.journal_values.specs.declared.delivery.SignalDelivery.TheVariants.{Queued}
use Rattle.vm_parts.specs.Arrived.{Arrived, Ready}
use Rattle.vm_parts.specs.Deliveries.{id_at, is_listed, present_result, present_result_for}
use Rattle.await_trees.specs.declared.outcome.Outcome.{Outcome}
use Rattle.await_trees.specs.declared.outcome.Outcome.TheVariants.{Pending, Succeeded, Failed}
use Rattle.await_trees.specs.Outcomes.{is_done, first_of, Grows}
use Rattle.await_trees.specs.Same.{Same}
use Rattle.await_trees.specs.Tree.{Tree}
use Rattle.await_trees.proofs.Sameness.{same_awake}
use Rattle.await_tries.specs.Await.{outcomes, LeftPending, LeastAwake, NeverAwake}
use Rattle.await_tries.specs.Later.{with_later, Stays, WakesAlike, EachOnce, PlainlyLeast}
use Rattle.await_tries.specs.Leaves.{leaf_outcome, result_outcome}
use Rattle.await_tries.specs.Used.{used}

-- these delivered, and those read eagerly
abbrev pub ready : List Notification → List Notification → Ready
ready ns es = record { delivered = ns; eager = es }

abbrev pub id_outcome : SignalDelivery → List Notification → List Notification → Option NotificationId → Outcome
id_outcome delivery ns es o = result_outcome (present_result_for delivery o (ready ns es))

-- what is known already does not see what comes later
known_now : (delivery : SignalDelivery) (v : Arrived) (later : List Notification) (m h : ℕ) → m ≤ length v.queued → leaf_outcome delivery (used (with_later v later) m) h ≡ leaf_outcome delivery (used v m) h
known_now delivery v later m h below = rw (take-append-le m v.queued later below) refl

first_again : (o p : Outcome) → (is_done o ≡ true → p ≡ o) → first_of o p ≡ p
first_again Pending p f = refl
first_again Succeeded p f = sym (f refl)
first_again Failed p f = sym (f refl)

module _ (delivery : SignalDelivery) (v : Arrived) (later : List Notification) (stays : Stays delivery (with_later v later)) where
  pub first_is_now : (m h : ℕ) → m ≤ length v.queued → outcomes delivery v m h ≡ leaf_outcome delivery (used v m) h
  first_is_now zero h below = refl
  first_is_now (suc m) h below =
      let now : leaf_outcome delivery (used (with_later v later) (suc m)) h ≡ leaf_outcome delivery (used v (suc m)) h = known_now delivery v later (suc m) h below in
      let before : leaf_outcome delivery (used (with_later v later) m) h ≡ leaf_outcome delivery (used v m) h = known_now delivery v later m h (omega arith) in
      let same = stays m (suc m) h (omega arith) in
      let e = first_is_now m h (omega arith) in
      rw e (first_again (leaf_outcome delivery (used v m) h) (leaf_outcome delivery (used v (suc m)) h) (rw (now, before) at same))

  grows_on : (n : ℕ) → length v.queued ≤ n → Grows (outcomes delivery v (length v.queued)) (leaf_outcome delivery (used (with_later v later) n))
  grows_on n above h d =
      let e = first_is_now (length v.queued) h (omega arith) in
      let k = known_now delivery v later (length v.queued) h (omega arith) in
      let done : is_done (leaf_outcome delivery (used (with_later v later) (length v.queued)) h) ≡ true = ap is_done (k ∙ sym e) ∙ d in
      stays (length v.queued) n h above done ∙ k ∙ sym e

pub wakes_alike : (delivery : SignalDelivery) (v : Arrived) (t r : Tree) → LeftPending delivery v t r → WakesAlike delivery v t r
wakes_alike delivery v t r p later stays n above = p.alike (leaf_outcome delivery (used (with_later v later) n)) (grows_on delivery v later stays n above)

signal_stays : (ks bs es : List NotificationResult) → es ≡ [] → is_done (result_outcome (option_or (first ks) (first es))) ≡ true → option_or (first (ks ++ bs)) (first es) ≡ option_or (first ks) (first es)
signal_stays [] bs [] e d = cc
signal_stays [] bs (x ∷ es) e d = cc
signal_stays (a ∷ ks) bs es e d = refl

newest_stays : (ks bs cs es : List NotificationResult) → length ((ks ++ bs) ++ cs) + length es ≤ 1 → is_done (result_outcome (option_or (newest ks) (newest es))) ≡ true
    → option_or (newest (ks ++ bs)) (newest es) ≡ option_or (newest ks) (newest es)
newest_stays [] [] cs es one d = refl
newest_stays [] (b ∷ bs) cs [] one d = cc
newest_stays [] (b ∷ bs) cs (x ∷ es) one d = absurd (omega arith)
newest_stays (a ∷ []) [] cs es one d = refl
newest_stays (a ∷ []) (b ∷ bs) cs es one d = absurd (omega arith)
newest_stays (a ∷ b ∷ ks) bs cs es one d = absurd (omega arith)

module _ (xs ys zs es : List Notification) (once : (i : ℕ) → length (results_of (CompletionId i) ((xs ++ ys) ++ zs)) + length (results_of (CompletionId i) es) ≤ 1)
    (others : (id : NotificationId) → is_listed Queued id ≡ true → results_of id es ≡ []) where
  present_stays : (id : NotificationId) → is_done (result_outcome (present_result Queued id (ready xs es))) ≡ true → present_result Queued id (ready (xs ++ ys) es) ≡ present_result Queued id (ready xs es)
  present_stays (SignalId i) d = rw results-append (signal_stays (results_of (SignalId i) xs) (results_of (SignalId i) ys) (results_of (SignalId i) es) (others (SignalId i) refl) d)
  present_stays (SignalName i) d = rw results-append (signal_stays (results_of (SignalName i) xs) (results_of (SignalName i) ys) (results_of (SignalName i) es) (others (SignalName i) refl) d)
  present_stays (CompletionId i) d =
      let one : length ((results_of (CompletionId i) xs ++ results_of (CompletionId i) ys) ++ results_of (CompletionId i) zs) + length (results_of (CompletionId i) es) ≤ 1 =
      rw (← results-append (CompletionId i) xs ys, ← results-append (CompletionId i) (xs ++ ys) zs) (once i) in
      rw results-append (newest_stays (results_of (CompletionId i) xs) (results_of (CompletionId i) ys) (results_of (CompletionId i) zs) (results_of (CompletionId i) es) one d)

  outcome_stays : (o : Option NotificationId) → is_done (id_outcome Queued xs es o) ≡ true → id_outcome Queued (xs ++ ys) es o ≡ id_outcome Queued xs es o
  outcome_stays None d = cc
  outcome_stays (Some id) d = ap result_outcome (present_stays id d)

-- with queued signals and completions that come once, no present result is replaced
pub once_stays : (delivery : SignalDelivery) (v : Arrived) → EachOnce delivery v → Stays delivery v
once_stays delivery v o m n h le d =
    let q = v.queued in
    let d' = n - m in
    let n_is : n ≡ m + d' = omega arith in
    let ys = take d' (drop m q) in
    let xs = v.ready.delivered ++ take m q in
    let n_take : take n q ≡ take m q ++ ys = subst (λ z. take z q ≡ take m q ++ ys) (sym n_is) (take-add m d' q) in
    let split : v.ready.delivered ++ take n q ≡ xs ++ ys = rw n_take (sym (append_assoc v.ready.delivered (take m q) ys)) in
    let whole : (xs ++ ys) ++ drop n q ≡ v.ready.delivered ++ q = rw (← split, append_assoc v.ready.delivered (take n q) (drop n q), take-append-drop n q) refl in
    let once : (i : ℕ) → length (results_of (CompletionId i) ((xs ++ ys) ++ drop n q)) + length (results_of (CompletionId i) v.ready.eager) ≤ 1 = λ i. rw whole (o.once i) in
    let known : is_done (id_outcome Queued xs v.ready.eager (id_at h v.handles)) ≡ true = rw (← o.queued) d in
    rw (o.queued, split) (outcome_stays xs ys (drop n q) v.ready.eager once o.completions (id_at h v.handles) known)

-- if nothing is replaced, the first outcome in a try is the outcome of now
module _ (delivery : SignalDelivery) (v : Arrived) (stays : Stays delivery v) where
  plain_now : (n h : ℕ) → outcomes delivery v n h ≡ leaf_outcome delivery (used v n) h
  plain_now zero h = refl
  plain_now (suc n) h = rw (plain_now n h) (first_again (leaf_outcome delivery (used v n) h) (leaf_outcome delivery (used v (suc n)) h) (stays n (suc n) h (omega arith)))

  plain_at : (n : ℕ) → outcomes delivery v n ≡ leaf_outcome delivery (used v n)
  plain_at n = λ i h. plain_now n h i

  pub plainly_least : (t : Tree) (n : ℕ) → LeastAwake delivery v t n → PlainlyLeast delivery v t n
  plainly_least t n p = record {
    wakes = rw (← plain_at n) p.wakes;
    least = λ m l. rw (← plain_at m) (p.least m l);
  }

-- ---- order and repetition

pub same_least : (delivery : SignalDelivery) (v : Arrived) (t u : Tree) (n : ℕ) → Same t u → LeastAwake delivery v t n → LeastAwake delivery v u n
same_least delivery v t u n s p = record {
  known = p.known;
  wakes = sym (same_awake (outcomes delivery v n) s) ∙ p.wakes;
  least = λ m l. sym (same_awake (outcomes delivery v m) s) ∙ p.least m l;
}

pub same_never : (delivery : SignalDelivery) (v : Arrived) (t u : Tree) → Same t u → NeverAwake delivery v t → NeverAwake delivery v u
same_never delivery v t u s p = λ m l. sym (same_awake (outcomes delivery v m) s) ∙ p m l
