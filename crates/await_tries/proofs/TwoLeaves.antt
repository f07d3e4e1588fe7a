-- The first of two leaves wakes by the lesser of their uses; while it stays pending all of it is left.
use Rattle.std.proofs.Common.{◌≡◌, ℕ, Bool, true, false, ◌||◌, length, Option, Some, None, refl, ◌∙◌, arith}
use Rattle.std.specs.Prelude.{IfNone, IfSome}
use Rattle.await_arrivals.specs.Came.{enough}
use Rattle.await_trees.specs.Outcomes.{awake, is_done}
use Rattle.await_trees.specs.Residual.{same_leaf, same_kind, nothing, kept, here}
use Rattle.journal_values.specs.declared.delivery.SignalDelivery.{SignalDelivery}
use Rattle.vm_parts.specs.Arrived.{Arrived}
use Rattle.vm_parts.specs.Deliveries.{id_at, has_result_for, ready_after}
use Rattle.await_tries.specs.Await.{outcomes, LeastAwake, LeftPending, NeverAwake}
use Rattle.await_tries.specs.Pairs.{first_of_two}
use Rattle.await_tries.proofs.Waking.{leaf_wakes, least, never}

module _ (delivery : SignalDelivery) (v : Arrived) (one other : ℕ) where
  -- the lesser of two uses
  pub either_wakes : (a b by : Option ℕ) → ((n : ℕ) → enough a n ≡ has_result_for (id_at one v.handles) (ready_after n v)) → ((n : ℕ) → enough b n ≡ has_result_for (id_at other v.handles) (ready_after n v))
      → ((n : ℕ) → enough by n ≡ (enough a n || enough b n)) → (n : ℕ) → enough by n ≡ awake (outcomes delivery v n) (first_of_two one other)
  either_wakes a b by first second is n =
      is n ∙ rw (leaf_wakes delivery v one a first n, leaf_wakes delivery v other b second n) (joined (is_done (outcomes delivery v n one)) (is_done (outcomes delivery v n other)))
    where
      joined : (p q : Bool) → ((p || false) || (q || false)) ≡ ((p || false) || ((q || false) || false))
      joined true q = refl
      joined false true = refl
      joined false false = refl

  neither : (p q : Bool) → ((p || false) || ((q || false) || false)) ≡ false → (p ≡ false) × (q ≡ false)
  neither true q e = cc
  neither false true e = cc
  neither false false e = (refl, refl)

  -- all of it is left
  pub both_left : NeverAwake delivery v (first_of_two one other) → LeftPending delivery v (first_of_two one other) (first_of_two one other)
  both_left never =
      let at = outcomes delivery v (length v.queued) in
      let quiet = neither (is_done (at one)) (is_done (at other)) (never (length v.queued) (omega arith)) in
      record {
        never = never;
        residual = same_kind (kept quiet.0 same_leaf (kept quiet.1 same_leaf nothing here) here);
        alike = λ bt g. refl;
      }

-- ---- for each way in which signals are delivered

abbrev Sooner : Option ℕ → Option ℕ → Option ℕ → Type 0
Sooner by a b = (n : ℕ) → enough by n ≡ (enough a n || enough b n)

abbrev Uses : Arrived → ℕ → Option ℕ → Type 0
Uses v h by = (n : ℕ) → enough by n ≡ has_result_for (id_at h v.handles) (ready_after n v)

module _ (v : Arrived) (one other : ℕ) (a b : Option ℕ) (first : Uses v one a) (second : Uses v other b) where
  pub least_of_either : (by : Option ℕ) → Sooner by a b → IfSome by (λ n. (delivery : SignalDelivery) → LeastAwake delivery v (first_of_two one other) n)
  least_of_either None is = tt
  least_of_either (Some n) is = λ delivery. least delivery v (first_of_two one other) (Some n) (either_wakes delivery v one other a b (Some n) first second is) n refl

  pub left_of_both : (by : Option ℕ) → Sooner by a b → IfNone by ((delivery : SignalDelivery) → LeftPending delivery v (first_of_two one other) (first_of_two one other))
  left_of_both None is = λ delivery. both_left delivery v one other (never delivery v (first_of_two one other) None (either_wakes delivery v one other a b None first second is) refl)
  left_of_both (Some n) is = tt
