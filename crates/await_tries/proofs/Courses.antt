-- The courses of leaves and nodes.
use Rattle.std.proofs.Common.{◌≡◌, ℕ, zero, suc, ◌<◌, ◌≤◌, Bool, true, false, cond, ◌||◌, List, [], ◌∷◌, ◌++◌, length, take, drop, Option, Some, None, refl, sym, ap, subst, ◌∙◌, arith, append_assoc, append-nil, ◌⊎◌, inl, inr}
use Rattle.std.specs.Option.{is_some, option_or}
use Rattle.std.proofs.Math.ListN.{set}
use Rattle.std.proofs.lemmas.Bool.{cases_eq}
use Rattle.std.proofs.lemmas.List.{take-append-drop, get_or-set_same, get_or-set_other}
use Rattle.journal_attempt.specs.declared.future.FutureKind.{FutureKind}
use Rattle.journal_values.specs.declared.notification.Notification.{Notification}
use Rattle.journal_values.specs.declared.notification.NotificationId.{NotificationId}
use Rattle.journal_values.specs.declared.notification.NotificationResult.{NotificationResult}
use Rattle.journal_values.specs.declared.notification.NotificationResult.TheVariants.{Void, Value, Failure, StateKeys, InvocationId}
use Rattle.await_arrivals.specs.Came.{enough}
use Rattle.await_arrivals.specs.Ids.{same_id}
use Rattle.await_arrivals.specs.Results.{results_of, first, newest, newest_after}
use Rattle.await_arrivals.proofs.Awaited.{results-append}
use Rattle.await_arrivals.proofs.Tracking.{has_is}
use Rattle.await_trees.specs.declared.nodes.Node.{Node}
use Rattle.await_trees.specs.declared.nodes.Label.TheVariants.{Leaf, Inner}
use Rattle.await_trees.specs.declared.outcome.Outcome.{Outcome}
use Rattle.await_trees.specs.declared.outcome.Outcome.TheVariants.{Pending, Succeeded, Failed}
use Rattle.await_trees.specs.Outcomes.{any_fires, all_wait, outcome_of, is_done, first_of}
use Rattle.await_trees.specs.Tree.{Tree, Forest, leaf, none, more}
use Rattle.journal_values.specs.declared.delivery.SignalDelivery.{SignalDelivery}
use Rattle.vm_parts.specs.Arrived.{Arrived}
use Rattle.vm_parts.specs.Deliveries.{id_at, is_listed, present_result, present_result_for, has_result_for, ready_after, first_result_for}
use Rattle.await_tries.specs.Await.{earlier, outcomes}
use Rattle.await_tries.specs.Courses.{FollowsCourse, never, course_at, any_fires_by, all_wait_by}
use Rattle.await_tries.specs.Leaves.{result_outcome, leaf_outcome}
use Rattle.await_tries.specs.Spells.{node_at, children, AllAbove, Spells, SpellAll, no_more, one_more}
use Rattle.await_tries.specs.Used.{used}
use Rattle.await_tries.specs.declared.course.Course.{Course}
use Rattle.await_tries.proofs.Moves.{take_suc}
use Rattle.await_tries.proofs.Nodes.{opened, leaf_is}

-- ---- a node

module _ (at : ℕ → ℕ → Outcome) (ns : List Node) (kids : List ℕ) (cs : ℕ → Course) where
  -- each child takes its course
  abbrev AllFollow : List ℕ → Forest → Type 0
  AllFollow [] none = Unit {0}
  AllFollow [] (more t ts) = ⊥
  AllFollow (c ∷ ds) none = ⊥
  AllFollow (c ∷ ds) (more t ts) = FollowsCourse at t (cs c) × AllFollow ds ts

  fires_alike : (k : FutureKind) (n : ℕ) (ds : List ℕ) (ts : Forest) → AllFollow ds ts → any_fires (at n) k ts ≡ any_fires_by cs k n ds
  fires_alike k n [] none a = refl
  fires_alike k n [] (more t ts) a = absurd a
  fires_alike k n (c ∷ ds) none a = absurd a
  fires_alike k n (c ∷ ds) (more t ts) a = rw (a.0.outcomes n, a.0.fires n, fires_alike k n ds ts a.1) refl

  waits_alike : (k : FutureKind) (n : ℕ) (ds : List ℕ) (ts : Forest) → AllFollow ds ts → all_wait (at n) k ts ≡ all_wait_by cs k n ds
  waits_alike k n [] none a = refl
  waits_alike k n [] (more t ts) a = absurd a
  waits_alike k n (c ∷ ds) none a = absurd a
  waits_alike k n (c ∷ ds) (more t ts) a = rw (a.0.outcomes n, waits_alike k n ds ts a.1) refl

  module _ (i : ℕ) (known : (m : ℕ) (u : Tree) → i < m → Spells ns kids m u → FollowsCourse at u (cs m)) where
    all_follow : (ds : List ℕ) (ts : Forest) → AllAbove i ds → SpellAll ns kids ds ts → AllFollow ds ts
    all_follow ds ts a no_more = tt
    all_follow ds ts a (one_more {c = c} {cs = es} {t = t} {ts = us} s r) = (known c t a.0 s, all_follow es us a.1 r)

    pub node_follows : (k : FutureKind) (t : Tree) (c : Course) → (node_at ns i).label ≡ Inner k → Spells ns kids i t → c.outcome ≡ outcome_of k
        → ((n : ℕ) → enough c.done n ≡ all_wait_by cs k n (children ns kids i)) → ((n : ℕ) → enough c.fired n ≡ any_fires_by cs k n (children ns kids i)) → FollowsCourse at t c
    node_follows k t c l s o d f =
        let p = opened ns kids i k t l s in
        let all = all_follow (children ns kids i) p.forest p.above p.spelled in
        record {
          outcomes = λ n. rw (p.is, waits_alike k n (children ns kids i) p.forest all, o, d n) refl;
          fires = λ n. rw (p.is) (fires_alike k n (children ns kids i) p.forest all ∙ sym (f n));
        }

pub leaf_follows : (at : ℕ → ℕ → Outcome) (ns : List Node) (kids : List ℕ) (i h : ℕ) (t : Tree) (c : Course) → (node_at ns i).label ≡ Leaf h → Spells ns kids i t → FollowsCourse at (leaf h) c → FollowsCourse at t c
leaf_follows at ns kids i h t c l s f = rw (leaf_is ns kids i h t l s) f

-- one course more is known, that of the node before those that are
pub known_before : (at : ℕ → ℕ → Outcome) (ns : List Node) (kids : List ℕ) (cs : List Course) (i : ℕ) (c : Course) → i < length cs
    → ((m : ℕ) (t : Tree) → i < m → Spells ns kids m t → FollowsCourse at t (course_at cs m)) → ((t : Tree) → Spells ns kids i t → FollowsCourse at t c)
    → (m : ℕ) (t : Tree) → i ≤ m → Spells ns kids m t → FollowsCourse at t (course_at (set cs i c) m)
known_before at ns kids cs i c within behind here m t b s = go (cases_eq m i)
  where
    go : (m ≡ i) ⊎ (m ≡ i → ⊥) → FollowsCourse at t (course_at (set cs i c) m)
    go (inl e) =
        let own : Spells ns kids i t = subst (λ n. Spells ns kids n t) e s in
        rw (e, get_or-set_same cs i c never within) (here t own)
    go (inr n) = rw (get_or-set_other cs i m c never n) (behind m t (omega arith) s)

-- ---- first outcomes

-- where an outcome comes at some number, and not before
module _ (at acc : ℕ → Outcome) (has : ℕ → Bool) (o : Outcome) (start : acc 0 ≡ Pending) (step : (n : ℕ) → acc (suc n) ≡ first_of (acc n) (at n))
    (none_yet : (n : ℕ) → has n ≡ false → at n ≡ Pending) (at_once : has 0 ≡ true → at 0 ≡ o) (then : (n : ℕ) → has n ≡ false → has (suc n) ≡ true → at (suc n) ≡ o)
    (stays : (n : ℕ) → has n ≡ true → has (suc n) ≡ true) (done : (n : ℕ) → has n ≡ true → is_done o ≡ true) where
  first_stays : (p q : Outcome) → is_done p ≡ true → first_of p q ≡ p
  first_stays Pending q d = cc
  first_stays Succeeded q d = refl
  first_stays Failed q d = refl

  first_at_zero : (b : Bool) → has 0 ≡ b → at 0 ≡ cond b o Pending
  first_at_zero true h = at_once h
  first_at_zero false h = none_yet 0 h

  first_later : (n : ℕ) (b c : Bool) → has n ≡ b → has (suc n) ≡ c → first_of (cond b o Pending) (at (suc n)) ≡ cond c o Pending
  first_later n true true h j = first_stays o (at (suc n)) (done n h)
  first_later n true false h j = let e = stays n h in cc
  first_later n false true h j = then n h j
  first_later n false false h j = none_yet (suc n) j

  pub first_outcomes : (n : ℕ) → acc (suc n) ≡ cond (has n) o Pending
  first_outcomes zero = step 0 ∙ ap (λ p. first_of p (at 0)) start ∙ first_at_zero (has 0) refl
  first_outcomes (suc n) = step (suc n) ∙ ap (λ p. first_of p (at (suc n))) (first_outcomes n) ∙ first_later n (has n) (has (suc n)) refl refl

-- ---- the results of an id

abbrev pick : Bool → List NotificationResult → Option NotificationResult
pick listed rs = cond listed (first rs) (newest rs)

abbrev any : List NotificationResult → Bool
any rs = is_some (first rs)

newest_some : (r : NotificationResult) (rs : List NotificationResult) → is_some (newest_after (Some r) rs) ≡ true
newest_some r [] = refl
newest_some r (s ∷ rs) = newest_some s rs

pick_some : (listed : Bool) (rs : List NotificationResult) → is_some (pick listed rs) ≡ any rs
pick_some true rs = refl
pick_some false [] = refl
pick_some false (r ∷ rs) = newest_some r rs

pick_one : (listed : Bool) (r : NotificationResult) → pick listed (r ∷ []) ≡ Some r
pick_one true r = refl
pick_one false r = refl

none_any : (rs : List NotificationResult) → any rs ≡ false → rs ≡ []
none_any [] h = refl
none_any (r ∷ rs) h = cc

or_some : (a b : Option NotificationResult) → is_some (option_or a b) ≡ (is_some a || is_some b)
or_some None b = refl
or_some (Some r) b = refl

pub result_done : (a : Option NotificationResult) → is_done (result_outcome a) ≡ is_some a
result_done None = refl
result_done (Some Void) = refl
result_done (Some (Value bytes)) = refl
result_done (Some (Failure failure)) = refl
result_done (Some (StateKeys keys)) = refl
result_done (Some (InvocationId id)) = refl

pending_is : (o : Outcome) → is_done o ≡ false → o ≡ Pending
pending_is Pending d = refl
pending_is Succeeded d = cc
pending_is Failed d = cc

or_first : (a b : Option NotificationResult) → is_some a ≡ true → option_or a b ≡ a
or_first None b h = cc
or_first (Some r) b h = refl

or_true_left : (a b : Bool) → a ≡ true → (a || b) ≡ true
or_true_left true b h = refl
or_true_left false b h = cc

or_either : (a b c : Bool) → (a || b) ≡ false → (c || b) ≡ true → (a ≡ false) × (b ≡ false) × (c ≡ true)
or_either true b c h j = cc
or_either false true c h j = cc
or_either false false true h j = (refl, refl, refl)
or_either false false false h j = cc

or_true_right : (a : Bool) → (a || true) ≡ true
or_true_right true = refl
or_true_right false = refl

any_more : (xs ys : List NotificationResult) → any xs ≡ true → any (xs ++ ys) ≡ true
any_more [] ys h = cc
any_more (x ∷ xs) ys h = refl

-- results so far, those of one more notification, and those after it
module _ (listed : Bool) (ds bs one rest es : List NotificationResult) (few : length one ≤ 1) where
  one_comes : (any (ds ++ bs) || any es) ≡ false → (any ((ds ++ bs) ++ one) || any es) ≡ true
      → option_or (pick listed ((ds ++ bs) ++ one)) (pick listed es) ≡ option_or (option_or (pick listed ds) (pick listed es)) (first ((bs ++ one) ++ rest))
  one_comes h j = go ds bs one es few (or_either (any (ds ++ bs)) (any es) (any ((ds ++ bs) ++ one)) h j)
    where
      go : (ds bs one es : List NotificationResult) → length one ≤ 1 → (any (ds ++ bs) ≡ false) × (any es ≡ false) × (any ((ds ++ bs) ++ one) ≡ true)
          → option_or (pick listed ((ds ++ bs) ++ one)) (pick listed es) ≡ option_or (option_or (pick listed ds) (pick listed es)) (first ((bs ++ one) ++ rest))
      go (a ∷ ds) bs one es f p = let q = p.0 in cc
      go [] (b ∷ bs) one es f p = let q = p.0 in cc
      go [] [] [] es f p = let q = p.2 in cc
      go [] [] (r ∷ s ∷ rs) es f p = absurd (omega arith)
      go [] [] (r ∷ []) (e ∷ es) f p = let q = p.1 in cc
      go [] [] (r ∷ []) [] f p = last listed
        where
          last : (listed : Bool) → option_or (pick listed (r ∷ [])) (pick listed []) ≡ option_or (option_or (pick listed []) (pick listed [])) (Some r)
          last true = refl
          last false = refl

some_known : (ds bs rest es : List NotificationResult) (b : Bool) → b ≡ (any ds || any es) → (any (ds ++ bs) || any es) ≡ true → (b || any (bs ++ rest)) ≡ true
some_known (a ∷ ds) bs rest es b e h = rw e refl
some_known [] (r ∷ bs) rest es b e h = or_true_right b
some_known [] [] rest es b e h = rw (e, h) refl

-- ---- a leaf

-- an outcome comes once there is a result, and stays
pub record Comes (at : ℕ → Outcome) (has : ℕ → Bool) (o : Outcome) : Type 0 where
  pub none_yet : (n : ℕ) → has n ≡ false → at n ≡ Pending
  pub at_once : has 0 ≡ true → at 0 ≡ o
  pub then : (n : ℕ) → has n ≡ false → has (suc n) ≡ true → at (suc n) ≡ o
  pub stays : (n : ℕ) → has n ≡ true → has (suc n) ≡ true
  pub done : (n : ℕ) → has n ≡ true → is_done o ≡ true

module _ (delivery : SignalDelivery) (v : Arrived) (id : NotificationId) where
  abbrev listed : Bool
  listed = is_listed delivery id

  abbrev ds : List NotificationResult
  ds = results_of id v.ready.delivered

  abbrev bs : ℕ → List NotificationResult
  bs n = results_of id (take n v.queued)

  abbrev es : List NotificationResult
  es = results_of id v.ready.eager

  abbrev one : ℕ → List NotificationResult
  one n = results_of id (take 1 (drop n v.queued))

  abbrev has : ℕ → Bool
  has n = has_result_for (Some id) (ready_after n v)

  present_is : (n : ℕ) → present_result delivery id (ready_after n v) ≡ option_or (pick listed (ds ++ bs n)) (pick listed es)
  present_is n = ap (λ rs. option_or (pick listed rs) (pick listed es)) (results-append id v.ready.delivered (take n v.queued))

  has_any : (n : ℕ) → has n ≡ (any (ds ++ bs n) || any es)
  has_any n =
      rw (has_is id (v.ready.delivered ++ take n v.queued) (first (results_of id (v.ready.delivered ++ take n v.queued))) refl, has_is id v.ready.eager (first es) refl)
      (ap (λ rs. any rs || any es) (results-append id v.ready.delivered (take n v.queued)))

  some_present : (n : ℕ) → is_some (present_result delivery id (ready_after n v)) ≡ has n
  some_present n = rw (present_is n, or_some (pick listed (ds ++ bs n)) (pick listed es), pick_some listed (ds ++ bs n), pick_some listed es) (sym (has_any n))

  now_is : present_result delivery id (ready_after 0 v) ≡ present_result delivery id v.ready
  now_is = ap (λ ns. present_result delivery id (record v.ready { delivered = ns })) (append-nil v.ready.delivered)

  grows : (n : ℕ) → bs (suc n) ≡ bs n ++ one n
  grows n = ap (results_of id) (take_suc v.queued n) ∙ results-append id (take n v.queued) (take 1 (drop n v.queued))

  all_are : (n : ℕ) → results_of id v.queued ≡ bs n ++ results_of id (drop n v.queued)
  all_are n = ap (results_of id) (sym (take-append-drop n v.queued)) ∙ results-append id (take n v.queued) (drop n v.queued)

  few : (ns : List Notification) → length (results_of id (take 1 ns)) ≤ 1
  few [] = omega arith
  few (n ∷ ns) = go (same_id n.id id)
    where
      go : (b : Bool) → length (cond b (n.result ∷ []) []) ≤ 1
      go true = omega arith
      go false = omega arith

  longer : (n : ℕ) → ds ++ bs (suc n) ≡ (ds ++ bs n) ++ one n
  longer n = ap (λ rs. ds ++ rs) (grows n) ∙ sym (append_assoc ds (bs n) (one n))

  then_first : (n : ℕ) → has n ≡ false → has (suc n) ≡ true → present_result delivery id (ready_after (suc n) v) ≡ option_or (present_result delivery id v.ready) (first (results_of id v.queued))
  then_first n h j =
      let before : (any (ds ++ bs n) || any es) ≡ false = sym (has_any n) ∙ h in
      let after : (any ((ds ++ bs n) ++ one n) || any es) ≡ true = ap (λ rs. any rs || any es) (sym (longer n)) ∙ sym (has_any (suc n)) ∙ j in
      let c = one_comes listed ds (bs n) (one n) (results_of id (drop (suc n) v.queued)) es (few (drop n v.queued)) before after in
      let all : results_of id v.queued ≡ (bs n ++ one n) ++ results_of id (drop (suc n) v.queued) = all_are (suc n) ∙ ap (λ rs. rs ++ results_of id (drop (suc n) v.queued)) (grows n) in
      present_is (suc n) ∙ ap (λ rs. option_or (pick listed rs) (pick listed es)) (longer n) ∙ c ∙ ap (λ rs. option_or (present_result delivery id v.ready) (first rs)) (sym all)

  has_more : (n : ℕ) → has n ≡ true → has (suc n) ≡ true
  has_more n h = has_any (suc n) ∙ ap (λ rs. any rs || any es) (longer n) ∙ go (any (ds ++ bs n)) (any es) refl (sym (has_any n) ∙ h)
    where
      go : (b c : Bool) → any (ds ++ bs n) ≡ b → (b || c) ≡ true → (any ((ds ++ bs n) ++ one n) || c) ≡ true
      go true c e h = or_true_left (any ((ds ++ bs n) ++ one n)) c (any_more (ds ++ bs n) (one n) e)
      go false true e h = or_true_right (any ((ds ++ bs n) ++ one n))
      go false false e h = cc

  known : (n : ℕ) → has n ≡ true → is_some (first_result_for delivery (Some id) v) ≡ true
  known n h =
      let now : is_some (present_result delivery id v.ready) ≡ (any ds || any es) = or_some (pick listed ds) (pick listed es) ∙ rw (pick_some listed ds, pick_some listed es) refl in
      or_some (present_result delivery id v.ready) (first (results_of id v.queued))
      ∙ ap (λ rs. is_some (present_result delivery id v.ready) || any rs) (all_are n)
      ∙ some_known ds (bs n) (results_of id (drop n v.queued)) es (is_some (present_result delivery id v.ready)) now (sym (has_any n) ∙ h)

  id_comes : Comes (λ n. result_outcome (present_result delivery id (ready_after n v))) has (result_outcome (first_result_for delivery (Some id) v))
  id_comes = record {
    none_yet = λ n h. pending_is (result_outcome (present_result delivery id (ready_after n v))) (result_done (present_result delivery id (ready_after n v)) ∙ some_present n ∙ h);
    at_once = λ h. ap result_outcome (now_is ∙ sym (or_first (present_result delivery id v.ready) (first (results_of id v.queued)) (ap is_some (sym now_is) ∙ some_present 0 ∙ h)));
    then = λ n h j. ap result_outcome (then_first n h j);
    stays = has_more;
    done = λ n h. result_done (first_result_for delivery (Some id) v) ∙ known n h;
  }

comes : (delivery : SignalDelivery) (v : Arrived) (id : Option NotificationId)
    → Comes (λ n. result_outcome (present_result_for delivery id (ready_after n v))) (λ n. has_result_for id (ready_after n v)) (result_outcome (first_result_for delivery id v))
comes delivery v None = record { none_yet = λ n h. refl; at_once = λ h. refl; then = λ n h j. refl; stays = λ n h. h; done = λ n h. cc }
comes delivery v (Some id) = id_comes delivery v id

-- the first outcome of a leaf is that of its first result, once there is one
pub outcome_is : (delivery : SignalDelivery) (v : Arrived) (h n : ℕ)
    → outcomes delivery v n h ≡ cond (has_result_for (id_at h v.handles) (ready_after n v)) (result_outcome (first_result_for delivery (id_at h v.handles) v)) Pending
outcome_is delivery v h n =
    let c = comes delivery v (id_at h v.handles) in
    first_outcomes (λ n. leaf_outcome delivery (used v n) h) (λ n. earlier delivery v n h) (λ n. has_result_for (id_at h v.handles) (ready_after n v))
    (result_outcome (first_result_for delivery (id_at h v.handles) v)) refl (λ n. refl) c.none_yet c.at_once c.then c.stays c.done n

-- which is an outcome if there is a result
pub done_is : (delivery : SignalDelivery) (v : Arrived) (h n : ℕ)
    → is_done (cond (has_result_for (id_at h v.handles) (ready_after n v)) (result_outcome (first_result_for delivery (id_at h v.handles) v)) Pending) ≡ has_result_for (id_at h v.handles) (ready_after n v)
done_is delivery v h n = go (has_result_for (id_at h v.handles) (ready_after n v)) refl
  where
    go : (b : Bool) → has_result_for (id_at h v.handles) (ready_after n v) ≡ b → is_done (cond b (result_outcome (first_result_for delivery (id_at h v.handles) v)) Pending) ≡ b
    go true e = (comes delivery v (id_at h v.handles)).done n e
    go false e = refl

pub leaf_takes : (delivery : SignalDelivery) (v : Arrived) (h : ℕ) (c : Course) → c.outcome ≡ result_outcome (first_result_for delivery (id_at h v.handles) v)
    → ((n : ℕ) → enough c.done n ≡ has_result_for (id_at h v.handles) (ready_after n v)) → c.fired ≡ None → FollowsCourse (outcomes delivery v) (leaf h) c
leaf_takes delivery v h c o d f = record { outcomes = λ n. outcome_is delivery v h n ∙ rw (o, d n) refl; fires = λ n. rw f refl }
