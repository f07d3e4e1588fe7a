-- How an await of a cancelled handler ends.
use Rattle.std.proofs.Common.{◌≡◌, ℕ, zero, suc, ◌<◌, ◌≤◌, Bool, true, false, ◌&&◌, is_some, List, [], ◌∷◌, ◌++◌, take, drop, Option, Some, None, refl, sym, ap, ◌∙◌, subst, ⊎_elim, append_assoc, append-nil}
use Rattle.std.specs.Prelude.{option_and_then}
use Rattle.std.proofs.lemmas.Bool.{cases_lt}
use Rattle.std.proofs.lemmas.Option.{same_Some}
use Rattle.journal_protocol.specs.Notification.{Notification}
use Rattle.journal_protocol.specs.NotificationId.{NotificationId}
use Rattle.journal_protocol.specs.NotificationResult.{NotificationResult}
use Rattle.journal_protocol.specs.SignalDelivery.TheVariants.{Queued}
use Rattle.vm_state.specs.declared.tracked_call.TrackedCall.{TrackedCall}
use Rattle.vm_types.specs.declared.steps.Answer.{Answer}
use Rattle.vm_types.specs.declared.steps.Answer.TheVariants as answer
use Rattle.await_trees.specs.declared.tree.UnresolvedFuture.{UnresolvedFuture}
use Rattle.vm_parts.specs.Deliveries.{id_at, present_result_for}
use Rattle.vm_parts.specs.Tracked.{id_of_result, invocation_ids, unresolved_handles, with_next_id, without_first_call}
use Rattle.vm_asks.specs.Asks.{cancel_invocation_command}
use Rattle.vm_model.specs.Calls.{Derived, Meaning, Setup, with_cancel_taken, is_cancelled_in, ready_by_usage}
use Rattle.vm_model.specs.Calls.Usage.{Used, Taken}
use Rattle.vm_model.specs.Cancels.{AreInvocations, AreInvocationsIn, CancelledAwait, IsInvocation, all_present, cancel_commands, id_in, present_in}
use Rattle.vm_model.specs.Deliveries.{HasNoTwo}
use Rattle.vm_model.specs.Histories.{IsAwaiting, IsLeast, arrivals_used}
use Rattle.vm_model.specs.Moves.{Point, after, and_then, arrival_used, next}
use Rattle.vm_model.proofs.Cancelling.{CancelMove, Sent, both_parts, cancel_move, cancelled_next, cancelled_same, handle_stays, longer_list, same_item}
use Rattle.vm_model.proofs.Cancelling.CancelMove.{Arrives, Learns, Sends, Finishes}
use Rattle.vm_model.proofs.Compared.{after_answers}
use Rattle.vm_model.proofs.Runs.{and_then_some}
use Rattle.vm_model.proofs.Staying.{keeps_result}
use Rattle.vm_model.proofs.Waking.{least_next, least_now}

-- a tracked call
abbrev call : ℕ → Option (List ℕ) → TrackedCall
call handle id = record { handle = handle; invocation_id = id }

-- ---- tracked calls

-- the first id that isn't known is the first handle's
first_learned : (id : List ℕ) (ts : List TrackedCall) (h : ℕ) (hs : List ℕ) → unresolved_handles ts ≡ h ∷ hs → unresolved_handles (with_next_id id ts) ≡ hs
first_learned id [] h hs e = absurd (cc)
first_learned id (t ∷ ts) h hs e = by_id t.invocation_id e (first_learned id ts h hs)
  where
    by_id : (o : Option (List ℕ)) → unresolved_handles (call t.handle o ∷ ts) ≡ h ∷ hs → (unresolved_handles ts ≡ h ∷ hs → unresolved_handles (with_next_id id ts) ≡ hs) → unresolved_handles (with_next_id id (call t.handle o ∷ ts)) ≡ hs
    by_id None e ih = (cc)
    by_id (Some known) e ih = ih e

-- without an id there is no call
no_calls : (ts : List TrackedCall) → unresolved_handles ts ≡ [] → invocation_ids ts ≡ [] → ts ≡ []
no_calls [] e f = refl
no_calls (t ∷ ts) e f = by_id t.invocation_id e f
  where
    by_id : {A : Type 0} (o : Option (List ℕ)) → unresolved_handles (call t.handle o ∷ ts) ≡ [] → invocation_ids (call t.handle o ∷ ts) ≡ [] → A
    by_id None e f = absurd (cc)
    by_id (Some known) e f = absurd (cc)

-- the calls after the first, if all their ids are known
others_known : (ts : List TrackedCall) (id : List ℕ) (ids : List (List ℕ)) → unresolved_handles ts ≡ [] → invocation_ids ts ≡ id ∷ ids → (unresolved_handles (without_first_call ts) ≡ []) × (invocation_ids (without_first_call ts) ≡ ids)
others_known [] id ids e f = absurd (cc)
others_known (t ∷ ts) id ids e f = by_id t.invocation_id e f
  where
    by_id : (o : Option (List ℕ)) → unresolved_handles (call t.handle o ∷ ts) ≡ [] → invocation_ids (call t.handle o ∷ ts) ≡ id ∷ ids → (unresolved_handles ts ≡ []) × (invocation_ids ts ≡ ids)
    by_id None e f = absurd (cc)
    by_id (Some known) e f = (e, (cc))

-- ---- tests

-- two points alike in their handles and in what was used
record Alike (d e : Derived) : Type 0 where
  handles : e.handles ≡ d.handles
  usage : e.usage ≡ d.usage

-- they stay alike while arrivals are used
alike_more : (ns : List Notification) (d e : Derived) → Alike d e → Alike (arrivals_used ns d) (arrivals_used ns e)
alike_more [] d e h = h
alike_more (n ∷ ns) d e h = alike_more ns (arrival_used n d) (arrival_used n e) (record { handles = h.handles; usage = ap (λ us. Used n ∷ us) h.usage })

-- a handle has one result at both
present_alike : (s : Setup) (handle : ℕ) (d e : Derived) → Alike d e → present_in s handle e ≡ present_in s handle d
present_alike s handle d e h = λ i. present_result_for s.options.signal_delivery (id_at handle (h.handles i)) (ready_by_usage s.options.signal_delivery (h.usage i))

-- so have all
all_alike : (s : Setup) (handles : List ℕ) (d e : Derived) → Alike d e → all_present s handles e ≡ all_present s handles d
all_alike s [] d e h = refl
all_alike s (handle ∷ handles) d e h = λ i. is_some (present_alike s handle d e h i) && all_alike s handles d e h i

-- a least number is one by another test that holds of the same
least_alike : (f g : Derived → Bool) (d e : Derived) (queue : List Notification) (n : ℕ) → ((ns : List Notification) → f (arrivals_used ns d) ≡ g (arrivals_used ns e)) → IsLeast g e queue n → IsLeast f d queue n
least_alike f g d e queue n same l = record {
  there = l.there;
  holds = same (take n queue) ∙ l.holds;
  least = λ i below. same (take i queue) ∙ l.least i below;
}

-- one handle without a result
not_all : (s : Setup) (h : ℕ) (hs : List ℕ) (d : Derived) → present_in s h d ≡ None → all_present s (h ∷ hs) d ≡ false
not_all s h hs d none = ap (λ o. is_some o && all_present s hs d) none

-- one handle with a result
one_there : (s : Setup) (h : ℕ) (hs : List ℕ) (d : Derived) → is_some (present_in s h d) ≡ true → all_present s (h ∷ hs) d ≡ all_present s hs d
one_there s h hs d there = ap (λ b. b && all_present s hs d) there

-- an id is a result
id_there : (o : Option NotificationResult) (id : List ℕ) → option_and_then id_of_result o ≡ Some id → is_some o ≡ true
id_there None id e = absurd (cc)
id_there (Some result) id e = refl

-- the first of some handles with results have results
all_front : (s : Setup) (xs ys : List ℕ) (d : Derived) → all_present s (xs ++ ys) d ≡ true → all_present s xs d ≡ true
all_front s [] ys d h = refl
all_front s (x ∷ xs) ys d h = let b = both_parts (is_some (present_in s x d)) (all_present s (xs ++ ys) d) h in ap (λ c. c && all_present s xs d) b.0 ∙ all_front s xs ys d b.1

-- ---- an arrival is used

module _ (s : Setup) (d : Derived) (x : Notification) (queue : List Notification) where
  -- the first of the handles has no result yet
  shifted : (h : ℕ) (handles : List ℕ) (handle : ℕ) (id : List ℕ) → present_in s h d ≡ None → IsInvocation s (arrival_used x d) queue (h ∷ handles) handle None id → IsInvocation s d (x ∷ queue) (h ∷ handles) handle None id
  shifted h handles handle id none (n, least, is) = (suc n, least_next (all_present s (h ∷ handles)) d x queue n (not_all s h handles d none) least, is)

  -- so have the calls after it
  others_shifted : (h : ℕ) (before : List ℕ) (ts : List TrackedCall) (ids : List (List ℕ)) → present_in s h d ≡ None → AreInvocations s (arrival_used x d) queue (h ∷ before) ts ids → AreInvocations s d (x ∷ queue) (h ∷ before) ts ids
  others_shifted h before [] ids none a = a
  others_shifted h before (t ∷ ts) [] none a = a
  others_shifted h before (t ∷ ts) (id ∷ ids) none a = by_id t.invocation_id a (λ b. others_shifted h b ts ids none)
    where
      by_id : (o : Option (List ℕ)) → AreInvocations s (arrival_used x d) queue (h ∷ before) (call t.handle o ∷ ts) (id ∷ ids) → ((b : List ℕ) → AreInvocations s (arrival_used x d) queue (h ∷ b) ts ids → AreInvocations s d (x ∷ queue) (h ∷ b) ts ids)
          → AreInvocations s d (x ∷ queue) (h ∷ before) (call t.handle o ∷ ts) (id ∷ ids)
      by_id None (is, more) ih = (shifted h (before ++ t.handle ∷ []) t.handle id none is, ih (before ++ t.handle ∷ []) more)
      by_id (Some known) (is, more) ih = (is, ih before more)

  -- and all calls
  all_shifted : (h : ℕ) (hs : List ℕ) (ts : List TrackedCall) (ids : List (List ℕ)) → unresolved_handles ts ≡ h ∷ hs → present_in s h d ≡ None → AreInvocations s (arrival_used x d) queue [] ts ids → AreInvocations s d (x ∷ queue) [] ts ids
  all_shifted h hs [] ids e none a = a
  all_shifted h hs (t ∷ ts) [] e none a = a
  all_shifted h hs (t ∷ ts) (id ∷ ids) e none a = by_id t.invocation_id e a (λ f. all_shifted h hs ts ids f none)
    where
      by_id : (o : Option (List ℕ)) → unresolved_handles (call t.handle o ∷ ts) ≡ h ∷ hs → AreInvocations s (arrival_used x d) queue [] (call t.handle o ∷ ts) (id ∷ ids) → (unresolved_handles ts ≡ h ∷ hs → AreInvocations s (arrival_used x d) queue [] ts ids → AreInvocations s d (x ∷ queue) [] ts ids)
          → AreInvocations s d (x ∷ queue) [] (call t.handle o ∷ ts) (id ∷ ids)
      by_id None e (is, more) ih =
          let same : h ≡ t.handle = cc in
          let none' : present_in s t.handle d ≡ None = subst (λ k. present_in s k d ≡ None) same none in
          (shifted t.handle [] t.handle id none' is, others_shifted t.handle [] ts ids none' more)
      by_id (Some known) e (is, more) ih = (is, ih e more)

-- ---- a result is read

module _ (s : Setup) (d e : Derived) (alike : Alike d e) (queue : List Notification) where
  -- an id is present at both
  id_alike : (handle : ℕ) (ns : List Notification) → id_in s handle (arrivals_used ns d) ≡ id_in s handle (arrivals_used ns e)
  id_alike handle ns = ap (option_and_then id_of_result) (sym (present_alike s handle (arrivals_used ns d) (arrivals_used ns e) (alike_more ns d e alike)))

  -- with one more handle that has a result
  all_with : (h : ℕ) (handles : List ℕ) → is_some (present_in s h d) ≡ true → (ns : List Notification) → all_present s (h ∷ handles) (arrivals_used ns d) ≡ all_present s handles (arrivals_used ns e)
  all_with h handles there ns = one_there s h handles (arrivals_used ns d) (handle_stays s h ns d there) ∙ sym (all_alike s handles (arrivals_used ns d) (arrivals_used ns e) (alike_more ns d e alike))

  -- the calls after one whose result is there
  behind_read : (h : ℕ) (before : List ℕ) (ts : List TrackedCall) (ids : List (List ℕ)) → is_some (present_in s h d) ≡ true → AreInvocations s e queue before ts ids → AreInvocations s d queue (h ∷ before) ts ids
  behind_read h before [] ids there a = a
  behind_read h before (t ∷ ts) [] there a = a
  behind_read h before (t ∷ ts) (id ∷ ids) there a = by_id t.invocation_id a (λ b. behind_read h b ts ids there)
    where
      by_id : (o : Option (List ℕ)) → AreInvocations s e queue before (call t.handle o ∷ ts) (id ∷ ids) → ((b : List ℕ) → AreInvocations s e queue b ts ids → AreInvocations s d queue (h ∷ b) ts ids) → AreInvocations s d queue (h ∷ before) (call t.handle o ∷ ts) (id ∷ ids)
      by_id None ((n, least, is), more) ih =
          let handles = before ++ t.handle ∷ [] in
          ((n, least_alike (all_present s (h ∷ handles)) (all_present s handles) d e queue n (all_with h handles there) least, id_alike t.handle (take n queue) ∙ is), ih handles more)
      by_id (Some known) (is, more) ih = (is, ih before more)

  -- all calls, where the first result is read
  all_read : (h : ℕ) (hs : List ℕ) (id : List ℕ) (ts : List TrackedCall) (ids : List (List ℕ)) → unresolved_handles ts ≡ h ∷ hs → id_in s h d ≡ Some id → AreInvocations s e queue [] (with_next_id id ts) ids → AreInvocations s d queue [] ts ids
  all_read h hs id [] ids first is a = a
  all_read h hs id (t ∷ ts) ids first is a = by_id t.invocation_id ids first a (λ more f. all_read h hs id ts more f is)
    where
      by_id : (o : Option (List ℕ)) (ids : List (List ℕ)) → unresolved_handles (call t.handle o ∷ ts) ≡ h ∷ hs → AreInvocations s e queue [] (with_next_id id (call t.handle o ∷ ts)) ids
          → ((more : List (List ℕ)) → unresolved_handles ts ≡ h ∷ hs → AreInvocations s e queue [] (with_next_id id ts) more → AreInvocations s d queue [] ts more) → AreInvocations s d queue [] (call t.handle o ∷ ts) ids
      by_id None [] f a ih = a
      by_id None (i ∷ more) f (same, others) ih =
          let here : h ≡ t.handle = cc in
          let now : id_in s t.handle d ≡ Some i = ap (λ k. id_in s k d) (sym here) ∙ is ∙ ap Some (sym same) in
          let there : is_some (present_in s t.handle d) ≡ true = id_there (present_in s t.handle d) i now in
          ((0, least_now (all_present s (t.handle ∷ [])) d queue (one_there s t.handle [] d there), now), behind_read t.handle [] ts more there others)
      by_id (Some known) [] f a ih = a
      by_id (Some known) (i ∷ more) f (same, others) ih = (same, ih more f others)

-- ---- all ids are known

-- the known ids are the invocations
known_are : (s : Setup) (d : Derived) (queue : List Notification) (ts : List TrackedCall) → unresolved_handles ts ≡ [] → AreInvocations s d queue [] ts (invocation_ids ts)
known_are s d queue [] e = refl
known_are s d queue (t ∷ ts) e = by_id t.invocation_id e (known_are s d queue ts)
  where
    by_id : (o : Option (List ℕ)) → unresolved_handles (call t.handle o ∷ ts) ≡ [] → (unresolved_handles ts ≡ [] → AreInvocations s d queue [] ts (invocation_ids ts)) → AreInvocations s d queue [] (call t.handle o ∷ ts) (invocation_ids (call t.handle o ∷ ts))
    by_id None e ih = absurd (cc)
    by_id (Some known) e ih = (refl, ih e)

-- and no others
are_known : (s : Setup) (d : Derived) (queue : List Notification) (ts : List TrackedCall) (ids : List (List ℕ)) → unresolved_handles ts ≡ [] → AreInvocations s d queue [] ts ids → ids ≡ invocation_ids ts
are_known s d queue [] ids e a = a
are_known s d queue (t ∷ ts) [] e a = absurd a
are_known s d queue (t ∷ ts) (id ∷ ids) e a = by_id t.invocation_id e a (are_known s d queue ts ids)
  where
    by_id : (o : Option (List ℕ)) → unresolved_handles (call t.handle o ∷ ts) ≡ [] → AreInvocations s d queue [] (call t.handle o ∷ ts) (id ∷ ids) → (unresolved_handles ts ≡ [] → AreInvocations s d queue [] ts ids → ids ≡ invocation_ids ts) → id ∷ ids ≡ invocation_ids (call t.handle o ∷ ts)
    by_id None e a ih = absurd (cc)
    by_id (Some known) e (is, more) ih = λ i. is i ∷ ih e more i

-- ---- the ids are those that are present at the end

module _ (s : Setup) (p : Point) (queued : s.options.signal_delivery ≡ Queued) (two : HasNoTwo p) (j : ℕ) where
  abbrev at_end : Derived
  at_end = arrivals_used (take j p.queue) p.derived

  -- the number at which a call's result is read isn't past the end
  within : (handles : List ℕ) (n : ℕ) → IsLeast (all_present s handles) p.derived p.queue n → all_present s handles at_end ≡ true → n ≤ j
  within handles n least there = ⊎_elim (λ (below : j < n). absurd (let none = least.least j below in let z : true ≡ false = sym there ∙ none in cc)) (λ (le : n ≤ j). le) (cases_lt j n)

  -- each result that was read is present at the end
  pub present_at_end : (before : List ℕ) (ts : List TrackedCall) (ids : List (List ℕ)) → all_present s (before ++ unresolved_handles ts) at_end ≡ true → AreInvocations s p.derived p.queue before ts ids → AreInvocationsIn s at_end ts ids
  present_at_end before [] ids all a = a
  present_at_end before (t ∷ ts) [] all a = a
  present_at_end before (t ∷ ts) (id ∷ ids) all a = by_id t.invocation_id all a (λ b. present_at_end b ts ids)
    where
      by_id : (o : Option (List ℕ)) → all_present s (before ++ unresolved_handles (call t.handle o ∷ ts)) at_end ≡ true → AreInvocations s p.derived p.queue before (call t.handle o ∷ ts) (id ∷ ids)
          → ((b : List ℕ) → all_present s (b ++ unresolved_handles ts) at_end ≡ true → AreInvocations s p.derived p.queue b ts ids → AreInvocationsIn s at_end ts ids) → AreInvocationsIn s at_end (call t.handle o ∷ ts) (id ∷ ids)
      by_id (Some known) all (is, more) ih = (ap Some (sym is), ih before all more)
      by_id None all ((n, least, is), more) ih =
          let handles = before ++ t.handle ∷ [] in
          let all' : all_present s (handles ++ unresolved_handles ts) at_end ≡ true = ap (λ l. all_present s l at_end) (append_assoc before (t.handle ∷ []) (unresolved_handles ts)) ∙ all in
          let le : n ≤ j = within handles n least (all_front s handles (unresolved_handles ts) at_end all') in
          let same = keeps_result s p queued two t.handle n j le (id_there (present_in s t.handle (arrivals_used (take n p.queue) p.derived)) id is) in
          (ap (option_and_then id_of_result) same ∙ is, ih handles all' more)

-- ---- one move

-- a take of the cancel signal by what was used before
cancel_usage : (o : Option NotificationId) (d e : Derived) → e.usage ≡ d.usage → (with_cancel_taken o e).usage ≡ (with_cancel_taken o d).usage
cancel_usage None d e same = same
cancel_usage (Some id) d e same = ap (λ us. Taken id ∷ us) same

-- it leaves the tracked calls
cancel_tracked : (o : Option NotificationId) (d : Derived) → d.tracked ≡ [] → (with_cancel_taken o d).tracked ≡ []
cancel_tracked None d e = e
cancel_tracked (Some id) d e = e

module _ (s : Setup) (m : Meaning) (p r : Point) (a : Answer) (moves : next s m p ≡ Some r) where
  abbrev d : Derived
  d = p.derived

  abbrev calls : List TrackedCall
  calls = d.tracked

  -- one more move
  leads_on : (k : ℕ) (to : Point) → after s m k r ≡ Some to → after s m (suc k) p ≡ Some to
  leads_on k to h = ap (λ o. and_then o (after s m k)) moves ∙ h

  -- an arrival is used first
  arrives : (handle : ℕ) (handles : List ℕ) (n : Notification) (queue : List Notification) → unresolved_handles calls ≡ handle ∷ handles → present_in s handle d ≡ None → p.queue ≡ n ∷ queue → record p { derived = arrival_used n d; queue = queue } ≡ r → CancelledAwait s m r a → CancelledAwait s m p a
  arrives handle handles n queue first none at now ends =
      let z : Point = record p { derived = arrival_used n d; queue = queue } in
      let k : CancelledAwait s m z a = subst (λ y. CancelledAwait s m y a) (sym now) ends in
      let j = suc k.arrivals in
      let absent : all_present s (unresolved_handles calls) d ≡ false = ap (λ l. all_present s l d) first ∙ not_all s handle handles d none in
      let least : IsLeast (all_present s (unresolved_handles calls)) d p.queue j = subst (λ q. IsLeast (all_present s (unresolved_handles calls)) d q j) (sym at) (least_next (all_present s (unresolved_handles calls)) d n queue k.arrivals absent k.least) in
      let are : AreInvocations s d p.queue [] calls k.invocations = subst (λ q. AreInvocations s d q [] calls k.invocations) (sym at) (all_shifted s d n queue handle handles calls k.invocations first none k.are) in
      record {
        answered = k.answered;
        arrivals = j;
        least = least;
        invocations = k.invocations;
        are = are;
        are_present = λ queued two. present_at_end s p queued two j [] calls k.invocations least.holds are;
        moves = suc k.moves;
        to = k.to;
        leads = leads_on k.moves k.to (ap (after s m k.moves) (sym now) ∙ k.leads);
        answers = k.answers;
        said = k.said;
        queue = k.queue ∙ ap (drop j) (sym at);
        usage = k.usage ∙ ap (λ q. (with_cancel_taken (id_at 1 d.handles) (arrivals_used (take j q) d)).usage) (sym at);
        tracked = k.tracked;
      }

  -- a result is read first
  learns : (handle : ℕ) (handles id : List ℕ) → unresolved_handles calls ≡ handle ∷ handles → id_in s handle d ≡ Some id → record p { derived = record d { tracked = with_next_id id calls } } ≡ r → CancelledAwait s m r a → CancelledAwait s m p a
  learns handle handles id first is now ends =
      let e : Derived = record d { tracked = with_next_id id calls } in
      let z : Point = record p { derived = e } in
      let k : CancelledAwait s m z a = subst (λ y. CancelledAwait s m y a) (sym now) ends in
      let alike : Alike d e = record { handles = refl; usage = refl } in
      let there = id_there (present_in s handle d) id is in
      let least = least_alike (all_present s (unresolved_handles calls)) (all_present s (unresolved_handles e.tracked)) d e p.queue k.arrivals
      (λ ns. ap (λ l. all_present s l (arrivals_used ns d)) first ∙ all_with s d e alike p.queue handle handles there ns ∙ sym (ap (λ l. all_present s l (arrivals_used ns e)) (first_learned id calls handle handles first))) k.least
      in
      let are = all_read s d e alike p.queue handle handles id calls k.invocations first is k.are in
      record {
        answered = k.answered;
        arrivals = k.arrivals;
        least = least;
        invocations = k.invocations;
        are = are;
        are_present = λ queued two. present_at_end s p queued two k.arrivals [] calls k.invocations least.holds are;
        moves = suc k.moves;
        to = k.to;
        leads = leads_on k.moves k.to (ap (after s m k.moves) (sym now) ∙ k.leads);
        answers = k.answers;
        said = k.said;
        queue = k.queue;
        usage = k.usage ∙ cancel_usage (id_at 1 d.handles) (arrivals_used (take k.arrivals p.queue) d) (arrivals_used (take k.arrivals p.queue) e) (alike_more (take k.arrivals p.queue) d e alike).usage;
        tracked = k.tracked;
      }

  -- a cancel command is used first
  sends : (id : List ℕ) (ids : List (List ℕ)) → unresolved_handles calls ≡ [] → invocation_ids calls ≡ id ∷ ids → Sent s id p r → CancelledAwait s m r a → CancelledAwait s m p a
  sends id ids known is sent k =
      let e = r.derived in
      let alike : Alike d e = record { handles = sent.handles; usage = sent.usage } in
      let on = others_known calls id ids known is in
      let known' : unresolved_handles e.tracked ≡ [] = ap unresolved_handles sent.tracked ∙ on.0 in
      let ids_are : k.invocations ≡ ids = are_known s e r.queue e.tracked k.invocations known' k.are ∙ ap invocation_ids sent.tracked ∙ on.1 in
      let least = least_alike (all_present s (unresolved_handles calls)) (all_present s (unresolved_handles e.tracked)) d e p.queue k.arrivals
      (λ ns. ap (λ l. all_present s l (arrivals_used ns d)) known ∙ sym (ap (λ l. all_present s l (arrivals_used ns e)) known'))
      (subst (λ q. IsLeast (all_present s (unresolved_handles e.tracked)) e q k.arrivals) sent.queue k.least)
      in
      let are : AreInvocations s d p.queue [] calls (id ∷ k.invocations) = subst (AreInvocations s d p.queue [] calls) (is ∙ ap (λ l. id ∷ l) (sym ids_are)) (known_are s d p.queue calls known) in
      record {
        answered = k.answered;
        arrivals = k.arrivals;
        least = least;
        invocations = id ∷ k.invocations;
        are = are;
        are_present = λ queued two. present_at_end s p queued two k.arrivals [] calls (id ∷ k.invocations) least.holds are;
        moves = suc k.moves;
        to = k.to;
        leads = leads_on k.moves k.to k.leads;
        answers = k.answers ∙ ap (λ l. l ++ a ∷ []) sent.answers;
        said = k.said ∙ ap (λ l. l ++ cancel_commands k.invocations) sent.said ∙ append_assoc p.said ((cancel_invocation_command id).message ∷ []) (cancel_commands k.invocations);
        queue = k.queue ∙ ap (drop k.arrivals) sent.queue;
        usage = k.usage
            ∙ (λ i. (with_cancel_taken (id_at 1 (sent.handles i)) (arrivals_used (take k.arrivals (sent.queue i)) e)).usage)
            ∙ cancel_usage (id_at 1 d.handles) (arrivals_used (take k.arrivals p.queue) d) (arrivals_used (take k.arrivals p.queue) e) (alike_more (take k.arrivals p.queue) d e alike).usage;
        tracked = k.tracked;
      }

  -- the await is answered
  finishes : a ≡ answer.Cancelled → unresolved_handles calls ≡ [] → invocation_ids calls ≡ [] → record p { answers = p.answers ++ answer.Cancelled ∷ []; derived = with_cancel_taken (id_at 1 d.handles) (record d { tracked = [] }) } ≡ r → CancelledAwait s m p a
  finishes answered known is now =
      let least = least_now (all_present s (unresolved_handles calls)) d p.queue (ap (λ l. all_present s l d) known) in
      let are : AreInvocations s d p.queue [] calls [] = subst (λ ts. AreInvocations s d p.queue [] ts []) (sym (no_calls calls known is)) refl in
      record {
        answered = answered;
        arrivals = 0;
        least = least;
        invocations = [];
        are = are;
        are_present = λ queued two. present_at_end s p queued two 0 [] calls [] least.holds are;
        moves = 1;
        to = r;
        leads = leads_on 0 r refl;
        answers = ap (λ z. z.answers) (sym now) ∙ ap (λ x. p.answers ++ x ∷ []) (sym answered);
        said = ap (λ z. z.said) (sym now) ∙ sym (append-nil p.said);
        queue = ap (λ z. z.queue) (sym now);
        usage = ap (λ z. z.derived.usage) (sym now) ∙ cancel_usage (id_at 1 d.handles) d (record d { tracked = [] }) refl;
        tracked = ap (λ z. z.derived.tracked) (sym now) ∙ cancel_tracked (id_at 1 d.handles) (record d { tracked = [] }) refl;
      }

-- ---- the law

-- an await of a cancelled handler that was answered
pub cancelled_ends : (s : Setup) (m : Meaning) (future : UnresolvedFuture) (n : ℕ) (p q : Point) (a : Answer) (more : List Answer) → IsAwaiting m p future → is_cancelled_in s p.derived ≡ true → after s m n p ≡ Some q → q.answers ≡ p.answers ++ a ∷ more → CancelledAwait s m p a
cancelled_ends s m future zero p q a more at c h e = absurd (longer_list p.answers a more (ap (λ z. z.answers) (same_Some p q h) ∙ e))
cancelled_ends s m future (suc n) p q a more at c h e =
    let x = and_then_some (next s m p) (after s m n) q h in
    by_move x.0 x.1 x.2 (cancel_move s m p x.0 future at c x.1) (λ same there. cancelled_ends s m future n x.0 q a more (ap m same ∙ at) there x.2 (e ∙ ap (λ l. l ++ a ∷ more) (sym same)))
  where
    by_move : (r : Point) → next s m p ≡ Some r → after s m n r ≡ Some q → CancelMove s p r → (r.answers ≡ p.answers → is_cancelled_in s r.derived ≡ true → CancelledAwait s m r a) → CancelledAwait s m p a
    by_move r moves on (Arrives handle handles x queue first none is now) ih =
        arrives s m p r a moves handle handles x queue first none is now (ih (ap (λ z. z.answers) (sym now)) (ap (λ z. is_cancelled_in s z.derived) (sym now) ∙ cancelled_next s x p.derived c))
    by_move r moves on (Learns handle handles id first is now) ih = learns s m p r a moves handle handles id first is now (ih (ap (λ z. z.answers) (sym now)) (ap (λ z. is_cancelled_in s z.derived) (sym now) ∙ c))
    by_move r moves on (Sends id ids known is sent) ih = sends s m p r a moves id ids known is sent (ih sent.answers (cancelled_same s p.derived r.derived sent.handles sent.usage c))
    by_move r moves on (Finishes known is now) ih =
        let rest = after_answers s m n r q on in
        finishes s m p r a moves (same_item p.answers a answer.Cancelled more rest.0 (sym e ∙ rest.1 ∙ ap (λ z. z.answers ++ rest.0) (sym now) ∙ append_assoc p.answers (answer.Cancelled ∷ []) rest.0)) known is now
