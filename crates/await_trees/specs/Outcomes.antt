-- The outcome of a tree, by those of its leaves.
use Rattle.std.specs.Prelude.{ℕ, ◌≡◌, Bool, true, false, cond, ◌&&◌, ◌||◌}
use Rattle.journal_attempt.specs.declared.future.FutureKind.{FutureKind}
use Rattle.journal_attempt.specs.declared.future.FutureKind.TheVariants.{FirstCompleted, AllCompleted, FirstSucceededOrAllFailed, AllSucceededOrFirstFailed, Unknown}
use Rattle.await_trees.specs.declared.outcome.Outcome.{Outcome}
use Rattle.await_trees.specs.declared.outcome.Outcome.TheVariants.{Pending, Succeeded, Failed}
use Rattle.await_trees.specs.Tree.{TreeOver, ForestOver, leaf, node, none, more}

abbrev pub is_done : Outcome → Bool
is_done Pending = false
is_done Succeeded = true
is_done Failed = true

abbrev pub is_success : Outcome → Bool
is_success Pending = false
is_success Succeeded = true
is_success Failed = false

abbrev pub is_failure : Outcome → Bool
is_failure Pending = false
is_failure Succeeded = false
is_failure Failed = true

-- a child with this outcome wakes the whole tree
abbrev pub fires_on : FutureKind → Outcome → Bool
fires_on FirstCompleted o = is_done o
fires_on AllCompleted o = false
fires_on FirstSucceededOrAllFailed o = is_success o
fires_on AllSucceededOrFirstFailed o = is_failure o
fires_on Unknown o = is_done o

-- the node waits until each child has such an outcome
abbrev pub waits_for : FutureKind → Outcome → Bool
waits_for FirstCompleted o = false
waits_for AllCompleted o = is_done o
waits_for FirstSucceededOrAllFailed o = is_failure o
waits_for AllSucceededOrFirstFailed o = is_success o
waits_for Unknown o = false

-- and then has this one
abbrev pub outcome_of : FutureKind → Outcome
outcome_of FirstCompleted = Pending
outcome_of AllCompleted = Succeeded
outcome_of FirstSucceededOrAllFailed = Failed
outcome_of AllSucceededOrFirstFailed = Succeeded
outcome_of Unknown = Pending

abbrev mutual
  pub outcome : {L : Type 0} → (L → Outcome) → TreeOver L → Outcome
  outcome at (leaf h) = at h
  outcome at (node k ts) = cond (all_wait at k ts) (outcome_of k) Pending

  pub all_wait : {L : Type 0} → (L → Outcome) → FutureKind → ForestOver L → Bool
  all_wait at k none = true
  all_wait at k (more t ts) = waits_for k (outcome at t) && all_wait at k ts

abbrev mutual
  pub fires : {L : Type 0} → (L → Outcome) → TreeOver L → Bool
  fires at (leaf h) = false
  fires at (node k ts) = any_fires at k ts

  pub any_fires : {L : Type 0} → (L → Outcome) → FutureKind → ForestOver L → Bool
  any_fires at k none = false
  any_fires at k (more t ts) = (fires_on k (outcome at t) || fires at t) || any_fires at k ts

abbrev pub awake : {L : Type 0} → (L → Outcome) → TreeOver L → Bool
awake at t = is_done (outcome at t) || fires at t

-- an outcome that a leaf has stays so
abbrev pub Grows : (ℕ → Outcome) → (ℕ → Outcome) → Type 0
Grows at bt = (h : ℕ) → is_done (at h) ≡ true → bt h ≡ at h

-- the first outcome of two
abbrev pub first_of : Outcome → Outcome → Outcome
first_of Pending o = o
first_of Succeeded o = Succeeded
first_of Failed o = Failed

abbrev pub first_at : (ℕ → Outcome) → (ℕ → Outcome) → ℕ → Outcome
first_at at bt h = first_of (at h) (bt h)
