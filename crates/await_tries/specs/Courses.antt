-- The outcome of a tree as notifications are used, and how many of them it takes.
use Rattle.std.specs.Prelude.{ℕ, ◌≡◌, Bool, true, false, cond, ◌&&◌, ◌||◌, List, [], ◌∷◌, get_or, Option, None}
use Rattle.std.specs.Option.{is_some}
use Rattle.journal_attempt.specs.declared.future.FutureKind.{FutureKind}
use Rattle.await_arrivals.specs.Came.{enough}
use Rattle.await_trees.specs.declared.outcome.Outcome.{Outcome}
use Rattle.await_trees.specs.declared.outcome.Outcome.TheVariants.{Pending}
use Rattle.await_trees.specs.Outcomes.{outcome, fires, fires_on, waits_for, is_done}
use Rattle.await_trees.specs.Tree.{Tree}
use Rattle.await_tries.specs.declared.course.Course.{Course}

-- its outcome by n notifications
abbrev pub outcome_by : Course → ℕ → Outcome
outcome_by c n = cond (enough c.done n) c.outcome Pending

-- a tree takes this course, if the leaves' outcomes by n notifications are `at n`
pub record FollowsCourse (at : ℕ → ℕ → Outcome) (t : Tree) (c : Course) : Type 0 where
  pub outcomes : (n : ℕ) → outcome (at n) t ≡ outcome_by c n
  pub fires : (n : ℕ) → fires (at n) t ≡ enough c.fired n

-- it never has an outcome
abbrev pub never : Course
never = record { outcome = Pending; done = None; fired = None }

-- the course of a number
abbrev pub course_at : List Course → ℕ → Course
course_at cs n = get_or cs n never

-- some child fires by n notifications
abbrev pub any_fires_by : (ℕ → Course) → FutureKind → ℕ → List ℕ → Bool
any_fires_by at k n [] = false
any_fires_by at k n (c ∷ cs) = (fires_on k (outcome_by (at c) n) || enough (at c).fired n)
    || any_fires_by at k n cs

-- each child has the outcome that its node waits for
abbrev pub all_wait_by : (ℕ → Course) → FutureKind → ℕ → List ℕ → Bool
all_wait_by at k n [] = true
all_wait_by at k n (c ∷ cs) = waits_for k (outcome_by (at c) n) && all_wait_by at k n cs

-- how many notifications it takes until it has an outcome, if it gets one
abbrev pub end_of : Course → Option ℕ
end_of c = cond (is_done c.outcome) c.done None

-- whether the tree with this number gets one
abbrev pub ends_at : List Course → ℕ → Bool
ends_at cs n = is_some (end_of (course_at cs n))
