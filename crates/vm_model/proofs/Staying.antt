-- Where signals are queued and no completion has two results, a handle keeps its present result while arrivals are used.
use Rattle.std.proofs.Common.{◌≡◌, ℕ, ◌+◌, ◌-◌, ◌≤◌, true, is_some, List, [], ◌∷◌, ◌++◌, length, take, drop, Option, Some, None, refl, sym, ap, ◌∙◌, subst, arith, append_assoc}
use Rattle.std.proofs.lemmas.List.{take-append-drop}
use Rattle.std.proofs.Math.Seq.{take-add}
use Rattle.std.specs.Option.{option_or}
use Rattle.await_arrivals.specs.Results.{first, newest, results_of}
use Rattle.await_arrivals.proofs.Awaited.{results-append}
use Rattle.journal_protocol.specs.Notification.{Notification}
use Rattle.journal_protocol.specs.NotificationId.{NotificationId}
use Rattle.journal_protocol.specs.NotificationId.TheVariants.{CompletionId, SignalId, SignalName}
use Rattle.journal_protocol.specs.NotificationResult.{NotificationResult}
use Rattle.journal_protocol.specs.SignalDelivery.TheVariants.{Queued}
use Rattle.vm_parts.specs.Arrived.{Ready}
use Rattle.vm_parts.specs.Deliveries.{id_at, is_listed, present_result, present_result_for}
use Rattle.vm_model.specs.Calls.{Derived, Setup, ready_in}
use Rattle.vm_model.specs.Cancels.{present_in}
use Rattle.vm_model.specs.Deliveries.{HasNoTwo}
use Rattle.vm_model.specs.Histories.{arrivals_used}
use Rattle.vm_model.specs.Moves.{Point}
use Rattle.vm_model.proofs.Trees.{come_once, handles_more, ready_more}

-- of a signal the first result stays
first_stays : (ks bs es : List NotificationResult) → es ≡ [] → is_some (option_or (first ks) (first es)) ≡ true → option_or (first (ks ++ bs)) (first es) ≡ option_or (first ks) (first es)
first_stays [] bs [] e h = absurd (cc)
first_stays [] bs (x ∷ es) e h = absurd (cc)
first_stays (a ∷ ks) bs es e h = refl

-- of a completion with one result at most that one stays
newest_stays : (ks bs cs es : List NotificationResult) → length ((ks ++ bs) ++ cs) + length es ≤ 1 → is_some (option_or (newest ks) (newest es)) ≡ true → option_or (newest (ks ++ bs)) (newest es) ≡ option_or (newest ks) (newest es)
newest_stays [] [] cs es one h = refl
newest_stays [] (b ∷ bs) cs [] one h = absurd (cc)
newest_stays [] (b ∷ bs) cs (x ∷ es) one h = absurd (omega arith)
newest_stays (a ∷ []) [] cs es one h = refl
newest_stays (a ∷ []) (b ∷ bs) cs es one h = absurd (omega arith)
newest_stays (a ∷ b ∷ ks) bs cs es one h = absurd (omega arith)

-- these delivered, and those read eagerly
ready : List Notification → List Notification → Ready
ready ns es = record { delivered = ns; eager = es }

module _ (xs ys zs es : List Notification) (once : (i : ℕ) → length (results_of (CompletionId i) ((xs ++ ys) ++ zs)) + length (results_of (CompletionId i) es) ≤ 1)
    (others : (id : NotificationId) → is_listed Queued id ≡ true → results_of id es ≡ []) where
  -- an id keeps its present result where more is delivered
  id_keeps : (id : NotificationId) → is_some (present_result Queued id (ready xs es)) ≡ true → present_result Queued id (ready (xs ++ ys) es) ≡ present_result Queued id (ready xs es)
  unfolding ready
  id_keeps (SignalId i) h = rw results-append (first_stays (results_of (SignalId i) xs) (results_of (SignalId i) ys) (results_of (SignalId i) es) (others (SignalId i) refl) h)
  id_keeps (SignalName i) h = rw results-append (first_stays (results_of (SignalName i) xs) (results_of (SignalName i) ys) (results_of (SignalName i) es) (others (SignalName i) refl) h)
  id_keeps (CompletionId i) h =
      let one : length ((results_of (CompletionId i) xs ++ results_of (CompletionId i) ys) ++ results_of (CompletionId i) zs) + length (results_of (CompletionId i) es) ≤ 1 =
      rw (← results-append (CompletionId i) xs ys, ← results-append (CompletionId i) (xs ++ ys) zs) (once i) in
      rw results-append (newest_stays (results_of (CompletionId i) xs) (results_of (CompletionId i) ys) (results_of (CompletionId i) zs) (results_of (CompletionId i) es) one h)

  -- and what a handle stands for
  some_keeps : (o : Option NotificationId) → is_some (present_result_for Queued o (ready xs es)) ≡ true → present_result_for Queued o (ready (xs ++ ys) es) ≡ present_result_for Queued o (ready xs es)
  some_keeps None h = refl
  some_keeps (Some id) h = id_keeps id h

module _ (s : Setup) (p : Point) (queued : s.options.signal_delivery ≡ Queued) (two : HasNoTwo p) where
  abbrev used_by : ℕ → Derived
  used_by n = arrivals_used (take n p.queue) p.derived

  abbrev delivered : List Notification
  delivered = (ready_in s p.derived).delivered

  abbrev eager : List Notification
  eager = (ready_in s p.derived).eager

  -- the arrivals are used up to a number: a handle's result by what is delivered then
  at_number : (handle n : ℕ) → present_in s handle (used_by n) ≡ present_result_for Queued (id_at handle p.derived.handles) (ready (delivered ++ take n p.queue) eager)
  unfolding ready
  at_number handle n = λ i. present_result_for (queued i) (id_at handle (handles_more (take n p.queue) p.derived i)) (ready_more s (take n p.queue) p.derived i)

  -- a handle keeps its present result
  pub keeps_result : (handle m n : ℕ) → m ≤ n → is_some (present_in s handle (used_by m)) ≡ true → present_in s handle (used_by n) ≡ present_in s handle (used_by m)
  keeps_result handle m n le there =
      let o = id_at handle p.derived.handles in
      let q = p.queue in
      let k = n - m in
      let n_is : n ≡ m + k = omega arith in
      let xs = delivered ++ take m q in
      let ys = take k (drop m q) in
      let n_take : take n q ≡ take m q ++ ys = subst (λ z. take z q ≡ take m q ++ ys) (sym n_is) (take-add m k q) in
      let split : delivered ++ take n q ≡ xs ++ ys = ap (λ l. delivered ++ l) n_take ∙ sym (append_assoc delivered (take m q) ys) in
      let whole : (xs ++ ys) ++ drop n q ≡ delivered ++ q = ap (λ l. l ++ drop n q) (sym split) ∙ append_assoc delivered (take n q) (drop n q) ∙ ap (λ l. delivered ++ l) (take-append-drop n q) in
      let once = come_once s p queued two in
      at_number handle n
      ∙ ap (λ l. present_result_for Queued o (ready l eager)) split
      ∙ some_keeps xs ys (drop n q) eager (λ i. subst (λ l. length (results_of (CompletionId i) l) + length (results_of (CompletionId i) eager) ≤ 1) (sym whole) (once.once i)) once.completions o (ap is_some (sym (at_number handle m)) ∙ there)
      ∙ sym (at_number handle m)
