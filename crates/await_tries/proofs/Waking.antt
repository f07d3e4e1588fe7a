-- When a tree wakes, by the course that it takes.
use Rattle.std.proofs.Common.{◌≡◌, ℕ, ◌<◌, ◌≤◌, Bool, true, false, cond, ◌||◌, ◌++◌, length, take, Option, Some, None, refl, sym, ap, ◌∙◌, arith, ⊎_elim}
use Rattle.std.specs.Prelude.{nat_le}
use Rattle.std.specs.Option.{is_some}
use Rattle.std.proofs.lemmas.Bool.Decides.{nat_tests}
use Rattle.std.proofs.lemmas.List.{take_all}
use Rattle.std.proofs.lemmas.Bool.{cases_lt}
use Rattle.await_arrivals.specs.Came.{enough}
use Rattle.await_trees.specs.declared.outcome.Outcome.TheVariants.{Pending}
use Rattle.await_trees.specs.Outcomes.{outcome, fires, awake, is_done}
use Rattle.await_trees.specs.Residual.{Residual}
use Rattle.await_trees.specs.Tree.{Tree, leaf}
use Rattle.await_trees.specs.Residual.{same_leaf}
use Rattle.await_trees.proofs.Bools.{or_neither}
use Rattle.await_trees.proofs.Prune.{same_outcome, same_fires}
use Rattle.journal_values.specs.declared.delivery.SignalDelivery.{SignalDelivery}
use Rattle.vm_parts.specs.Arrived.{Arrived}
use Rattle.vm_parts.specs.Deliveries.{id_at, has_result_for, ready_after, first_result_for}
use Rattle.await_tries.specs.Await.{outcomes, LeastAwake, NeverAwake, LeftPending}
use Rattle.await_tries.specs.Courses.{outcome_by, FollowsCourse, end_of}
use Rattle.await_tries.specs.Leaves.{result_outcome}
use Rattle.await_tries.specs.declared.course.Course.{Course}
use Rattle.await_tries.proofs.Courses.{outcome_is, done_is}

enough_at : (n : ℕ) → enough (Some n) n ≡ true
enough_at n = let e : nat_le n n ≡ true = grind (arith, nat_tests) in e

not_before : (m n : ℕ) → m < n → enough (Some n) m ≡ false
not_before m n l = let e : nat_le n m ≡ false = grind (arith, nat_tests) in e

module _ (delivery : SignalDelivery) (v : Arrived) where
  abbrev all : ℕ
  all = length v.queued

  -- past all that wait nothing changes
  settled : (n : ℕ) → all ≤ n → outcomes delivery v n ≡ outcomes delivery v all
  settled n l =
      let same : take n v.queued ≡ take all v.queued = take_all n v.queued l ∙ sym (take_all all v.queued (omega arith)) in
      λ i h. (outcome_is delivery v h n
      ∙ ap (λ ns. cond (has_result_for (id_at h v.handles) (record v.ready { delivered = v.ready.delivered ++ ns })) (result_outcome (first_result_for delivery (id_at h v.handles) v)) Pending) same
      ∙ sym (outcome_is delivery v h all)) i

  module _ (t : Tree) (by : Option ℕ) (is : (n : ℕ) → enough by n ≡ awake (outcomes delivery v n) t) where
    within : (n : ℕ) → by ≡ Some n → n ≤ all
    within n e = ⊎_elim (λ (l : all < n). absurd (late l)) (λ (l : n ≤ all). l) (cases_lt all n)
      where
        late : all < n → ⊥
        late l =
            let before : awake (outcomes delivery v all) t ≡ false = sym (is all) ∙ rw e (not_before all n l) in
            let after : awake (outcomes delivery v n) t ≡ true = sym (is n) ∙ rw e (enough_at n) in
            let same : awake (outcomes delivery v n) t ≡ awake (outcomes delivery v all) t = ap (λ at. awake at t) (settled n (omega arith)) in
            cc

    pub least : (n : ℕ) → by ≡ Some n → LeastAwake delivery v t n
    least n e = record {
      known = within n e;
      wakes = sym (is n) ∙ rw e (enough_at n);
      least = λ m l. sym (is m) ∙ rw e (not_before m n l);
    }

    pub never : by ≡ None → NeverAwake delivery v t
    never e m l = sym (is m) ∙ rw e refl

  -- a leaf wakes with its first result
  pub leaf_wakes : (h : ℕ) (by : Option ℕ) → ((n : ℕ) → enough by n ≡ has_result_for (id_at h v.handles) (ready_after n v)) → (n : ℕ) → enough by n ≡ awake (outcomes delivery v n) (leaf h)
  leaf_wakes h by is n = is n ∙ sym (or_false (is_done (outcomes delivery v n h)) ∙ ap is_done (outcome_is delivery v h n) ∙ done_is delivery v h n)
    where
      or_false : (b : Bool) → (b || false) ≡ b
      or_false true = refl
      or_false false = refl

  -- and a tree by its course
  pub course_wakes : (t : Tree) (c : Course) → FollowsCourse (outcomes delivery v) t c → (n : ℕ) → (is_done (outcome_by c n) || enough c.fired n) ≡ awake (outcomes delivery v n) t
  course_wakes t c f n = rw (f.outcomes n, f.fires n) refl

  -- a leaf that stays pending
  pub leaf_pending : (h : ℕ) → NeverAwake delivery v (leaf h) → LeftPending delivery v (leaf h) (leaf h)
  leaf_pending h n = record { never = n; residual = same_leaf; alike = λ bt g. refl }

  pub tree_pending : (t r : Tree) → NeverAwake delivery v t → Residual (outcomes delivery v all) t r → LeftPending delivery v t r
  tree_pending t r n p =
      let quiet = (or_neither (is_done (outcome (outcomes delivery v all) t)) (fires (outcomes delivery v all) t) (n all (omega arith))).1 in
      record {
        never = n;
        residual = p;
        alike = λ bt g. rw (same_outcome (outcomes delivery v all) bt g p quiet, same_fires (outcomes delivery v all) bt g p quiet) refl;
      }

  -- a tree has its outcome once all that came is used, if it gets one
  pub ends_known : (t : Tree) (c : Course) → FollowsCourse (outcomes delivery v) t c → is_some (end_of c) ≡ is_done (outcome (outcomes delivery v all) t)
  ends_known t c f = go c.done (is_done c.outcome) refl refl
    where
      go : (d : Option ℕ) (b : Bool) → c.done ≡ d → is_done c.outcome ≡ b → is_some (end_of c) ≡ is_done (outcome (outcomes delivery v all) t)
      go None true e g = rw (f.outcomes all, g, e) refl
      go None false e g = rw (f.outcomes all, g, e) refl
      go (Some n) b e g = ⊎_elim (late b g) (in_time b g) (cases_lt all n)
        where
          in_time : (b : Bool) → is_done c.outcome ≡ b → n ≤ all → is_some (end_of c) ≡ is_done (outcome (outcomes delivery v all) t)
          in_time true g l = let h : enough (Some n) all ≡ true = grind (arith, nat_tests) in rw (f.outcomes all, g, e, h, g) refl
          in_time false g l = let h : enough (Some n) all ≡ true = grind (arith, nat_tests) in rw (f.outcomes all, g, e, h, g) refl

          late : (b : Bool) → is_done c.outcome ≡ b → all < n → is_some (end_of c) ≡ is_done (outcome (outcomes delivery v all) t)
          late true g l =
              let now : outcome (outcomes delivery v all) t ≡ Pending = f.outcomes all ∙ rw (e, not_before all n l) refl in
              let then : outcome (outcomes delivery v n) t ≡ c.outcome = f.outcomes n ∙ rw (e, enough_at n) refl in
              let same : outcome (outcomes delivery v n) t ≡ outcome (outcomes delivery v all) t = ap (λ at. outcome at t) (settled n (omega arith)) in
              let is : c.outcome ≡ Pending = sym then ∙ same ∙ now in
              let no : is_done c.outcome ≡ false = ap is_done is in
              cc
          late false g l = rw (f.outcomes all, g, e, not_before all n l) refl
