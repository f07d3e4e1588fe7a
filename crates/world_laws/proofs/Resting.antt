-- What is left of what a run waits for wakes as the run passes: by the same further arrivals.
use Rattle.std.proofs.Common.{◌≡◌, ◌⊎◌, ◌≤◌, ◌<◌, ℕ, zero, suc, ◌+◌, Bool, true, false, ◌&&◌, ◌||◌, is_some, List, [], ◌∷◌, ◌++◌, take, drop, length, Option, Some, None, refl, sym, ap, ◌∙◌, subst, inl, inr, ⊎_elim, append_assoc, append-nil, arith}
use Rattle.std.specs.Prelude.{if◌then◌else◌}
use Rattle.std.proofs.lemmas.Option.{same_Some}
use Rattle.std.proofs.Math.Seq.{take-length}
use native.Mathlib.Nat.{zero-add, suc-add}
use Rattle.journal_protocol.specs.FutureKind.TheVariants.{FirstCompleted, AllCompleted, FirstSucceededOrAllFailed, AllSucceededOrFirstFailed, Unknown}
use Rattle.journal_protocol.specs.InputCommand.{InputCommand}
use Rattle.journal_protocol.specs.NamedFault.{NamedFault}
use Rattle.journal_protocol.specs.Notification.{Notification}
use Rattle.journal_protocol.specs.NotificationResult.{NotificationResult}
use Rattle.journal_protocol.specs.NotificationResult.TheVariants as result
use Rattle.journal_protocol.specs.RawMessage.{RawMessage}
use Rattle.journal_protocol.specs.SignalDelivery.TheVariants.{Queued}
use Rattle.await_trees.specs.declared.outcome.Outcome.{Outcome as Come}
use Rattle.await_trees.specs.declared.tree.UnresolvedFuture.{UnresolvedFuture}
use Rattle.await_trees.specs.Outcomes.{Grows, awake, is_done}
use Rattle.await_trees.specs.Residual.{Residual}
use Rattle.await_trees.specs.Tree.{Tree, leaf, node, none, more, tree_of}
use Rattle.await_trees.proofs.Monotone.{awake_stays}
use Rattle.await_tries.specs.Await.{AwakeAlike, LeftPending, outcomes}
use Rattle.await_tries.specs.Leaves.{leaf_outcome, result_outcome}
use Rattle.await_tries.specs.Later.{EachOnce}
use Rattle.await_tries.specs.Used.{used}
use Rattle.await_tries.proofs.LaterArrivals.{once_stays}
use Rattle.await_tries.proofs.Messages.{message_wakes}
use Rattle.vm_types.specs.declared.steps.Answer.{Answer}
use Rattle.vm_types.specs.declared.steps.Answer.TheVariants as answer
use Rattle.vm_types.specs.declared.steps.Step.TheVariants as step
use Rattle.vm_types.specs.Options.{ends_awaits}
use Rattle.vm_state.specs.Counting.{missing_number}
use Rattle.vm_parts.specs.Tracked.{id_of_result, invocation_ids, unresolved_handles}
use Rattle.vm_awaits.specs.Awaits.{or_cancelled}
use Rattle.vm_model.specs.Calls.{Derived, Meaning, Setup, awaited, awaiting, call_of, cancel_sent, cancelled, cancelling, id_awaited, id_read, is_awake, is_cancelled_in, leaf_in, tree_wakes}
use Rattle.vm_model.specs.Calls.Move.{Awaits}
use Rattle.vm_model.specs.Cancels.{present_in}
use Rattle.vm_model.specs.Deliveries.{HasNoTwo, arrived_at}
use Rattle.vm_model.specs.Histories.{IsAwaiting, IsLeast, IsPrefix, Told, arrivals_used, ends_await}
use Rattle.vm_model.specs.Moves.{Point, after, and_then, arrival_used, later, longer, move_at, moved, next, start, uses_arrival}
use Rattle.vm_model.proofs.Cancelling.{cancelled_next, cancelled_stays}
use Rattle.vm_model.proofs.Compared.{after_answers}
use Rattle.vm_model.proofs.Runs.{after_later, after_longer, and_then_some, next_longer, none_some}
use Rattle.vm_model.proofs.Trees.{come_once, used_at}
use Rattle.vm_model.proofs.Waking.{least_next, least_now, wakes_next}
use Rattle.vm_attempt.specs.Agreement.{awaited_tree, first_or}
use Rattle.vm_attempt.proofs.Waiting.{tracked_more}
use Rattle.world_laws.specs.Suspensions.{HasPassed, IsPast, Passes, StandsForIds, StaysWaiting, WaitsAt, is_left_awake, using}

-- ---- a tree that the cancel signal ends too

-- the first of a tree and of the cancel handle wakes with either
either_way : (wakes comes : Bool) → (wakes || ((comes || false) || false)) ≡ (comes || wakes)
either_way true true = refl
either_way true false = refl
either_way false true = refl
either_way false false = refl

alone : (comes : Bool) → ((comes || false) || false) ≡ (comes || false)
alone true = refl
alone false = refl

cancelled_too : (at : ℕ → Come) (t : Tree) → awake at (or_cancelled t) ≡ (is_done (at 1) || awake at t)
cancelled_too at (leaf h) = either_way (awake at (leaf h)) (is_done (at 1))
cancelled_too at (node FirstCompleted none) = alone (is_done (at 1))
cancelled_too at (node FirstCompleted (more u us)) = either_way (awake at (node FirstCompleted (more u us))) (is_done (at 1))
cancelled_too at (node AllCompleted ts) = either_way (awake at (node AllCompleted ts)) (is_done (at 1))
cancelled_too at (node FirstSucceededOrAllFailed ts) = either_way (awake at (node FirstSucceededOrAllFailed ts)) (is_done (at 1))
cancelled_too at (node AllSucceededOrFirstFailed ts) = either_way (awake at (node AllSucceededOrFirstFailed ts)) (is_done (at 1))
cancelled_too at (node Unknown ts) = either_way (awake at (node Unknown ts)) (is_done (at 1))

-- ---- results

-- a result is an outcome
done_some : (o : Option NotificationResult) → is_done (result_outcome o) ≡ is_some o
done_some None = refl
done_some (Some result.Void) = refl
done_some (Some (result.Value bytes)) = refl
done_some (Some (result.Failure failure)) = refl
done_some (Some (result.StateKeys keys)) = refl
done_some (Some (result.InvocationId id)) = refl

or_none : (b : Bool) → (b || false) ≡ b
or_none true = refl
or_none false = refl

-- a cancelled handler stays so
stays_cancelled : (s : Setup) (ns : List Notification) (d : Derived) → is_cancelled_in s d ≡ true → is_cancelled_in s (arrivals_used ns d) ≡ true
stays_cancelled s [] d h = h
stays_cancelled s (n ∷ ns) d h = stays_cancelled s ns (arrival_used n d) (cancelled_next s n d h)

neither : (a b : Bool) → (a || b) ≡ false → (a ≡ false) × (b ≡ false)
neither true b h = absurd (cc)
neither false b h = (refl, h)

-- ---- arrivals alone

-- the run uses arrivals as long as it asks for more
uses_so_far : (s : Setup) (m : Meaning) (n : ℕ) (p : Point) (queue : List Notification) → p.queue ≡ queue → n ≤ length queue → ((i : ℕ) → i < n → call_of s (m p.answers) (arrivals_used (take i queue) p.derived) ≡ Awaits) → after s m n p ≡ Some (using n queue p)
uses_so_far s m zero p queue e below asks = ap Some (λ i. record p { queue = e i })
uses_so_far s m (suc n) p [] e below asks = absurd (omega (arith, below))
uses_so_far s m (suc n) p (x ∷ xs) e below asks =
    let there : Point = record p { derived = arrival_used x p.derived; queue = xs } in
    let waits : move_at s m p ≡ Awaits = asks 0 (omega arith) in
    let goes : next s m p ≡ Some there = ap (λ mv. moved mv p) waits ∙ ap (λ q. uses_arrival q p) e in
    ap (λ o. and_then o (after s m n)) goes ∙ uses_so_far s m n there xs refl (omega (arith, below)) (λ i l. asks (suc i) (omega (arith, l)))

-- where it asks for more with all of them there is no other answer
no_answer : (s : Setup) (m : Meaning) (k : ℕ) (p q : Point) (queue : List Notification) → p.queue ≡ queue → ((i : ℕ) → i ≤ length queue → call_of s (m p.answers) (arrivals_used (take i queue) p.derived) ≡ Awaits) → after s m k p ≡ Some q → q.answers ≡ p.answers
no_answer s m zero p q queue e asks h = ap (λ (z : Point). z.answers) (sym (same_Some p q h))
no_answer s m (suc k) p q [] e asks h =
    let stuck : next s m p ≡ None = ap (λ mv. moved mv p) (asks 0 (omega arith)) ∙ ap (λ l. uses_arrival l p) e in
    none_some (sym (ap (λ o. and_then o (after s m k)) stuck) ∙ h)
no_answer s m (suc k) p q (x ∷ xs) e asks h =
    let there : Point = record p { derived = arrival_used x p.derived; queue = xs } in
    let goes : next s m p ≡ Some there = ap (λ mv. moved mv p) (asks 0 (omega arith)) ∙ ap (λ l. uses_arrival l p) e in
    no_answer s m k there q xs refl (λ i l. asks (suc i) (omega (arith, l))) (sym (ap (λ o. and_then o (after s m k)) goes) ∙ h)

-- a test that holds once all are used holds after a least number
least_of : (test : Derived → Bool) (d : Derived) (queue : List Notification) → test (arrivals_used queue d) ≡ true → (j : ℕ) × IsLeast test d queue j
least_of test d [] h = (0, least_now test d [] h)
least_of test d (x ∷ xs) h = by_test (test d) refl (least_of test (arrival_used x d) xs h)
  where
    by_test : (b : Bool) → test d ≡ b → (j : ℕ) × IsLeast test (arrival_used x d) xs j → (j : ℕ) × IsLeast test d (x ∷ xs) j
    by_test true t on = (0, least_now test d (x ∷ xs) t)
    by_test false t on = (suc on.0, least_next test d x xs on.0 t on.1)

-- ---- what an await waits for

module _ (s : Setup) (m : Meaning) (p : Point) (future : UnresolvedFuture) (at : IsAwaiting m p future) (asks : move_at s m p ≡ Awaits) where
  abbrev d : Derived
  d = p.derived

  abbrev t : Tree
  t = awaited_tree s future d

  -- the move of the await
  move_is : (e : Derived) → call_of s (m p.answers) e ≡ awaited s (is_cancelled_in s e) future e
  move_is e = ap (λ st. call_of s st e) at

  -- where the handler isn't cancelled it waits for what ends the await
  plain_tree : is_cancelled_in s d ≡ false → (e : Derived) → tree_wakes s t e ≡ ends_await s future e
  plain_tree never e = ap (λ b. tree_wakes s (if b then first_or (unresolved_handles d.tracked) (tree_of future) else if ends_awaits s.options.implicit_cancellation then or_cancelled (tree_of future) else tree_of future) e) never ∙ by_option (ends_awaits s.options.implicit_cancellation)
    where
      by_option : (b : Bool) → tree_wakes s (if b then or_cancelled (tree_of future) else tree_of future) e ≡ ((b && is_some (present_in s 1 e)) || is_awake s future e)
      by_option true = cancelled_too (leaf_in s e) (tree_of future) ∙ ap (λ b. b || is_awake s future e) (done_some (present_in s 1 e))
      by_option false = refl

  -- where it is, it waits for the id of the first call whose id isn't known
  next_handle : is_cancelled_in s d ≡ true → (handle : ℕ) × (handles : List ℕ) × (unresolved_handles d.tracked ≡ handle ∷ handles)
  next_handle so = by_handles (unresolved_handles d.tracked) refl (sym (ap (λ b. awaited s b future d) so) ∙ sym (move_is d) ∙ asks)
    where
      by_fault : {A : Type 0} (id : List ℕ) (o : Option NamedFault) → cancel_sent s id o d ≡ Awaits → A
      by_fault id (Some name) e = absurd (cc)
      by_fault id None e = absurd (cc)

      by_ids : {A : Type 0} (ids : List (List ℕ)) → cancelling s ids d ≡ Awaits → A
      by_ids [] e = absurd (cc)
      by_ids (id ∷ ids) e = by_fault id (missing_number 0 0 0 d.counters) e

      by_handles : (l : List ℕ) → unresolved_handles d.tracked ≡ l → cancelled s (unresolved_handles d.tracked) d ≡ Awaits → (handle : ℕ) × (handles : List ℕ) × (unresolved_handles d.tracked ≡ handle ∷ handles)
      by_handles [] is e = by_ids (invocation_ids d.tracked) (sym (ap (λ l. cancelled s l d) is) ∙ e)
      by_handles (handle ∷ handles) is e = (handle, handles, is)

  handle_tree : is_cancelled_in s d ≡ true → (handle : ℕ) (handles : List ℕ) → unresolved_handles d.tracked ≡ handle ∷ handles → (e : Derived) → tree_wakes s t e ≡ is_some (present_in s handle e)
  handle_tree so handle handles is e =
      ap (λ b. tree_wakes s (if b then first_or (unresolved_handles d.tracked) (tree_of future) else if ends_awaits s.options.implicit_cancellation then or_cancelled (tree_of future) else tree_of future) e) so
      ∙ ap (λ l. tree_wakes s (first_or l (tree_of future)) e) is
      ∙ or_none (is_done (result_outcome (present_in s handle e)))
      ∙ done_some (present_in s handle e)

  -- it asks for one more arrival as long as that isn't awake
  asks_still : (ns : List Notification) → tree_wakes s t (arrivals_used ns d) ≡ false → call_of s (m p.answers) (arrivals_used ns d) ≡ Awaits
  asks_still ns sleeps = by_cancelled (is_cancelled_in s d) refl
    where
      by_present : (o : Option NotificationResult) → is_some o ≡ false → id_awaited o (arrivals_used ns d) ≡ Awaits
      by_present None f = refl
      by_present (Some found) f = absurd (cc)

      by_cancelled : (b : Bool) → is_cancelled_in s d ≡ b → call_of s (m p.answers) (arrivals_used ns d) ≡ Awaits
      by_cancelled false never =
          let not = neither (is_cancelled_in s (arrivals_used ns d)) (is_awake s future (arrivals_used ns d)) (sym (plain_tree never (arrivals_used ns d)) ∙ sleeps) in
          move_is (arrivals_used ns d) ∙ ap (λ b. awaited s b future (arrivals_used ns d)) not.0 ∙ ap (λ b. awaiting b (arrivals_used ns d)) not.1
      by_cancelled true so =
          let h = next_handle so in
          move_is (arrivals_used ns d)
          ∙ ap (λ b. awaited s b future (arrivals_used ns d)) (stays_cancelled s ns d so)
          ∙ ap (λ l. cancelled s l (arrivals_used ns d)) (ap unresolved_handles (tracked_more ns d) ∙ h.2)
          ∙ by_present (present_in s h.0 (arrivals_used ns d)) (sym (handle_tree so h.0 h.1 h.2 (arrivals_used ns d)) ∙ sleeps)

  -- it isn't awake at the point itself
  sleeps_now : tree_wakes s t d ≡ false
  sleeps_now = by_cancelled (is_cancelled_in s d) refl
    where
      by_awake : (b : Bool) → awaiting b d ≡ Awaits → b ≡ false
      by_awake false e = refl
      by_awake true e = absurd (cc)

      by_id : {A : Type 0} (o : Option (List ℕ)) → id_read o d ≡ Awaits → A
      by_id None e = absurd (cc)
      by_id (Some id) e = absurd (cc)

      by_present : (o : Option NotificationResult) → id_awaited o d ≡ Awaits → is_some o ≡ false
      by_present None e = refl
      by_present (Some found) e = by_id (id_of_result found) e

      by_cancelled : (b : Bool) → is_cancelled_in s d ≡ b → tree_wakes s t d ≡ false
      by_cancelled false never =
          let wakes : is_awake s future d ≡ false = by_awake (is_awake s future d) (sym (ap (λ b. awaited s b future d) never) ∙ sym (move_is d) ∙ asks) in
          plain_tree never d ∙ (λ i. never i || wakes i)
      by_cancelled true so =
          let h = next_handle so in
          handle_tree so h.0 h.1 h.2 d ∙ by_present (present_in s h.0 d) (sym (ap (λ l. cancelled s l d) h.2) ∙ sym (ap (λ b. awaited s b future d) so) ∙ sym (move_is d) ∙ asks)

  -- where it is awake the run passes
  passes_there : (e : Derived) (queue : List Notification) → tree_wakes s t e ≡ true → HasPassed s m p (record p { derived = e; queue = queue })
  passes_there e queue wakes = by_cancelled (is_cancelled_in s d) refl
    where
      by_there : (b : Bool) → is_cancelled_in s e ≡ b → is_cancelled_in s d ≡ false → (b || is_awake s future e) ≡ true → HasPassed s m p (record p { derived = e; queue = queue })
      by_there true so never w = inr (inl (never, so))
      by_there false not never w = inl (wakes_next s m future (record p { derived = e; queue = queue }) at not w)

      by_cancelled : (b : Bool) → is_cancelled_in s d ≡ b → HasPassed s m p (record p { derived = e; queue = queue })
      by_cancelled false never = by_there (is_cancelled_in s e) refl never (sym (plain_tree never e) ∙ wakes)
      by_cancelled true so = let h = next_handle so in inr (inr (h.0, h.1, h.2, so, sym (handle_tree so h.0 h.1 h.2 e) ∙ wakes))

-- ---- what is sent of it

module _ (s : Setup) (m : Meaning) (p : Point) (left : Tree) (w : WaitsAt s m p left) (queued : s.options.signal_delivery ≡ Queued) (extra : List Notification) (two : HasNoTwo (later extra p)) (mapped : StandsForIds p left) where
  abbrev tree : Tree
  tree = awaited_tree s w.future p.derived

  -- the point, with no arrival left
  abbrev here : Point
  here = record p { queue = [] }

  abbrev there : Point
  there = record p { queue = extra }

  is_here : here ≡ p
  is_here = λ i. record p { queue = sym w.no_arrival i }

  is_there : later extra p ≡ there
  is_there = λ i. record p { queue = w.no_arrival i ++ extra }

  two_there : HasNoTwo there
  two_there = subst HasNoTwo is_there two

  -- the leaves once the first n of the further arrivals are used
  leaves_at : (n : ℕ) → leaf_outcome s.options.signal_delivery (used (arrived_at s there) n) ≡ leaf_in s (arrivals_used (take n extra) p.derived)
  leaves_at n = λ i h. leaf_outcome s.options.signal_delivery (used_at s there n i) h

  leaves_now : outcomes s.options.signal_delivery (arrived_at s here) 0 ≡ leaf_in s p.derived
  leaves_now = λ i h. leaf_outcome s.options.signal_delivery (used_at s here 0 i) h

  pending : LeftPending s.options.signal_delivery (arrived_at s here) tree left
  pending = record {
    never = never;
    residual = subst (λ leaves. Residual leaves tree left) (sym leaves_now) w.is_left.residual;
    alike = subst (λ leaves. AwakeAlike leaves tree left) (sym leaves_now) w.is_left.alike;
  }
    where
      never : (k : ℕ) → k ≤ 0 → awake (outcomes s.options.signal_delivery (arrived_at s here) k) tree ≡ false
      never zero l = ap (λ at. awake at tree) leaves_now ∙ sleeps_now s m p w.future w.awaits w.asks
      never (suc k) l = absurd (omega (arith, l))

  once : EachOnce s.options.signal_delivery (arrived_at s there)
  once = come_once s there queued two_there

  -- what is sent is awake as the tree is
  sent_at : (n : ℕ) → is_left_awake p left (take n extra) ≡ tree_wakes s tree (arrivals_used (take n extra) p.derived)
  sent_at n =
      message_wakes s.options.signal_delivery (arrived_at s here) tree left pending extra once mapped n
      ∙ ap (λ k. awake (leaf_outcome s.options.signal_delivery (used (arrived_at s there) k)) tree) (zero-add n)
      ∙ ap (λ at. awake at tree) (leaves_at n)

  sent_all : is_left_awake p left extra ≡ tree_wakes s tree (arrivals_used extra p.derived)
  sent_all = subst (λ l. is_left_awake p left l ≡ tree_wakes s tree (arrivals_used l p.derived)) (take-length extra) (sent_at (length extra))

  asks_at : (i : ℕ) → tree_wakes s tree (arrivals_used (take i extra) p.derived) ≡ false → call_of s (m p.answers) (arrivals_used (take i extra) p.derived) ≡ Awaits
  asks_at i sleeps = asks_still s m p w.future w.awaits w.asks (take i extra) sleeps

  pub run_passes : is_left_awake p left extra ≡ true → Passes s m p extra
  run_passes wakes =
      let on = least_of (tree_wakes s tree) p.derived extra (sym sent_all ∙ wakes) in
      record {
        count = on.0;
        there = on.1.there;
        leads = ap (after s m on.0) is_there ∙ uses_so_far s m on.0 there extra refl on.1.there (λ i l. asks_at i (on.1.least i l));
        passed = passes_there s m p w.future w.awaits w.asks (arrivals_used (take on.0 extra) p.derived) (drop on.0 extra) on.1.holds;
      }

  -- if all of the arrivals don't wake it, none of the first ones do
  sleeps_at : is_left_awake p left extra ≡ false → (i : ℕ) → i ≤ length extra → tree_wakes s tree (arrivals_used (take i extra) p.derived) ≡ false
  sleeps_at never i le = by_test (tree_wakes s tree (arrivals_used (take i extra) p.derived)) refl
    where
      grows : Grows (leaf_outcome s.options.signal_delivery (used (arrived_at s there) i)) (leaf_outcome s.options.signal_delivery (used (arrived_at s there) (length extra)))
      grows h done = once_stays s.options.signal_delivery (arrived_at s there) once i (length extra) h le done

      by_test : (b : Bool) → tree_wakes s tree (arrivals_used (take i extra) p.derived) ≡ b → b ≡ false
      by_test false t = refl
      by_test true t =
          let first : awake (leaf_outcome s.options.signal_delivery (used (arrived_at s there) i)) tree ≡ true = ap (λ at. awake at tree) (leaves_at i) ∙ t in
          let last : awake (leaf_outcome s.options.signal_delivery (used (arrived_at s there) (length extra))) tree ≡ true = awake_stays (leaf_outcome s.options.signal_delivery (used (arrived_at s there) i)) (leaf_outcome s.options.signal_delivery (used (arrived_at s there) (length extra))) grows tree first in
          let all : tree_wakes s tree (arrivals_used (take (length extra) extra) p.derived) ≡ true = sym (ap (λ at. awake at tree) (leaves_at (length extra))) ∙ last in
          let so : tree_wakes s tree (arrivals_used extra p.derived) ≡ true = subst (λ l. tree_wakes s tree (arrivals_used l p.derived) ≡ true) (take-length extra) all in
          sym so ∙ sym sent_all ∙ never

  asks_always : is_left_awake p left extra ≡ false → (i : ℕ) → i ≤ length extra → call_of s (m p.answers) (arrivals_used (take i extra) p.derived) ≡ Awaits
  asks_always never i le = asks_at i (sleeps_at never i le)

  pub run_waits : is_left_awake p left extra ≡ false → StaysWaiting s m p extra
  run_waits never = record {
    leads = ap (after s m (length extra)) is_there ∙ uses_so_far s m (length extra) there extra refl (omega arith) (λ i l. asks_always never i (omega (arith, l)));
    asks = asks_always never (length extra) (omega arith);
    nothing = λ k q h. no_answer s m k there q extra refl (asks_always never) (sym (ap (after s m k) is_there) ∙ h);
  }

  -- so it is with further recorded commands
  pub none_further : is_left_awake p left extra ≡ false → (ds : List RawMessage) (k : ℕ) (q : Point) → after s m k (longer ds (later extra p)) ≡ Some q → q.answers ≡ p.answers
  none_further never ds k q h = no_answer s m k (longer ds there) q extra refl (asks_always never) (sym (ap (λ z. after s m k (longer ds z)) is_there) ∙ h)

-- ---- two points of one run

after_then : (s : Setup) (m : Meaning) (n k : ℕ) (p q r : Point) → after s m n p ≡ Some q → after s m k q ≡ Some r → after s m (n + k) p ≡ Some r
after_then s m zero k p q r h t = rw zero-add (subst (λ z. after s m k z ≡ Some r) (sym (same_Some p q h)) t)
after_then s m (suc n) k p q r h t =
    let x = and_then_some (next s m p) (after s m n) q h in
    rw (suc-add, x.1) (after_then s m n k x.0 q r x.2 t)

-- one is led to from the other
reach : (s : Setup) (m : Meaning) (n k : ℕ) (first a b : Point) → after s m n first ≡ Some a → after s m k first ≡ Some b → ((j : ℕ) × (after s m j a ≡ Some b)) ⊎ ((j : ℕ) × (after s m j b ≡ Some a))
reach s m zero k first a b h e = inl (k, ap (after s m k) (sym (same_Some first a h)) ∙ e)
reach s m (suc n) zero first a b h e = inr (suc n, ap (after s m (suc n)) (sym (same_Some first b e)) ∙ h)
reach s m (suc n) (suc k) first a b h e =
    let x = and_then_some (next s m first) (after s m n) a h in
    let y = and_then_some (next s m first) (after s m k) b e in
    reach s m n k x.0 a b x.2 (ap (after s m k) (same_Some x.0 y.0 (sym x.1 ∙ y.1)) ∙ y.2)

-- ---- a later attempt

module _ (s : Setup) (m : Meaning) (input : InputCommand) (ns extra : List Notification) (cs ds : List RawMessage) (p : Point) (told : Told s m input ns cs p) (left : Tree) (w : WaitsAt s m p left) (queued : s.options.signal_delivery ≡ Queued) (two : HasNoTwo (later extra p)) (mapped : StandsForIds p left) where
  abbrev first_point : Point
  first_point = start s input (ns ++ extra) (cs ++ ds)

  -- the point, in the later run
  comes : after s m told.0 first_point ≡ Some (longer ds (later extra p))
  comes = after_longer s m ds told.0 (later extra (start s input ns cs)) (later extra p) (after_later s m extra told.0 (start s input ns cs) p told.1)

  -- the answers of a point that is reached don't go further
  pub answers_wait : is_left_awake p left extra ≡ false → (q : Point) → Told s m input (ns ++ extra) (cs ++ ds) q → IsPrefix q.answers p.answers
  answers_wait never q other =
      ⊎_elim
      (λ (x : (j : ℕ) × (after s m j (longer ds (later extra p)) ≡ Some q)). ([], sym (none_further s m p left w queued extra two mapped never ds x.0 q x.1) ∙ sym (append-nil q.answers)))
      (λ (x : (j : ℕ) × (after s m j q ≡ Some (longer ds (later extra p)))). after_answers s m x.0 q (longer ds (later extra p)) x.1)
      (reach s m told.0 other.0 first_point (longer ds (later extra p)) q comes other.1)

  module _ (x : Passes s m p extra) where
    -- where the run has passed
    abbrev passed_at : Point
    passed_at = using x.count extra p

    abbrev answered_at : Point
    answered_at = record passed_at { answers = passed_at.answers ++ answer.Awake ∷ [] }

    led_there : Told s m input (ns ++ extra) (cs ++ ds) (longer ds passed_at)
    led_there = (told.0 + x.count, after_then s m told.0 x.count first_point (longer ds (later extra p)) (longer ds passed_at) comes (after_longer s m ds x.count (later extra p) passed_at x.leads))

    -- where the attempt rests, and what is reached before
    module _ (answers : List Answer) (future : UnresolvedFuture) (now : Point) (awaits : m answers ≡ step.Await future) (told_now : Told s m input (ns ++ extra) (cs ++ ds) now) (is : now.answers ≡ answers) (spent : now.queue ≡ []) (asks : move_at s m now ≡ Awaits) (all : (q : Point) → Told s m input (ns ++ extra) (cs ++ ds) q → IsPrefix q.answers answers) where
      stuck : next s m now ≡ None
      stuck = ap (λ mv. moved mv now) asks ∙ ap (λ l. uses_arrival l now) spent

      back : (j : ℕ) → is_cancelled_in s passed_at.derived ≡ true → after s m j now ≡ Some (longer ds passed_at) → is_cancelled_in s now.derived ≡ true
      back zero so h = ap (λ (z : Point). is_cancelled_in s z.derived) (same_Some now (longer ds passed_at) h) ∙ so
      back (suc j) so h = none_some (sym (ap (λ o. and_then o (after s m j)) stuck) ∙ h)

      still_cancelled : answers ≡ p.answers → is_cancelled_in s passed_at.derived ≡ true → is_cancelled_in s now.derived ≡ true
      still_cancelled same so =
          ⊎_elim
          (λ (y : (j : ℕ) × (after s m j (longer ds passed_at) ≡ Some now)). cancelled_stays s m future y.0 (longer ds passed_at) now (ap m (sym same) ∙ awaits) so y.1 (is ∙ same))
          (λ (y : (j : ℕ) × (after s m j now ≡ Some (longer ds passed_at))). back y.0 so y.1)
          (reach s m led_there.0 told_now.0 first_point (longer ds passed_at) now led_there.1 told_now.1)

      by_rest : is_cancelled_in s passed_at.derived ≡ true → (rest : List Answer) → answers ≡ p.answers ++ rest → IsPast s p answers now
      by_rest so [] e = inr (e ∙ append-nil p.answers, still_cancelled (e ∙ append-nil p.answers) so)
      by_rest so (a ∷ rest) e = inl (a, (rest, e ∙ sym (append_assoc p.answers (a ∷ []) rest)))

      by_cancel : is_cancelled_in s passed_at.derived ≡ true → IsPast s p answers now
      by_cancel so = let y = all (longer ds passed_at) led_there in by_rest so y.0 y.1

      is_past : HasPassed s m p passed_at → IsPast s p answers now
      is_past (inl wakes) =
          let on : after s m 1 (longer ds passed_at) ≡ Some (longer ds answered_at) = ap (λ o. and_then o (after s m 0)) (next_longer s m ds passed_at answered_at wakes) in
          inl (answer.Awake, all (longer ds answered_at) (led_there.0 + 1, after_then s m led_there.0 1 first_point (longer ds passed_at) (longer ds answered_at) led_there.1 on))
      is_past (inr (inl (never, so))) = by_cancel so
      is_past (inr (inr (handle, handles, first, so, has))) = by_cancel (stays_cancelled s (take x.count extra) p.derived so)

  -- where it rests it is past the point
  pub rests_past : is_left_awake p left extra ≡ true → (answers : List Answer) (future : UnresolvedFuture) (now : Point) → m answers ≡ step.Await future → Told s m input (ns ++ extra) (cs ++ ds) now → now.answers ≡ answers → now.queue ≡ [] → move_at s m now ≡ Awaits
      → ((q : Point) → Told s m input (ns ++ extra) (cs ++ ds) q → IsPrefix q.answers answers) → IsPast s p answers now
  rests_past wakes answers future now awaits told_now is spent asks all =
      let x = run_passes s m p left w queued extra two mapped wakes in
      is_past x answers future now awaits told_now is spent asks all x.passed
