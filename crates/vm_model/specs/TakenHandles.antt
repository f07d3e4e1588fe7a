-- What a take leaves of the handles, and of the calls whose invocations' ids aren't known.
use Rattle.std.specs.Prelude.{◌≡◌, ◌≢◌, ℕ, ◌==◌, if◌then◌else◌, List, [], ◌∷◌, ◌++◌, Some, None}
use Rattle.vm_types.specs.declared.steps.Answer.TheVariants as answer
use Rattle.vm_types.specs.declared.steps.Step.TheVariants as step
use Rattle.vm_types.specs.declared.values.Value.{Value}
use Rattle.await_trees.specs.declared.handle.NotificationHandle.{NotificationHandle}
use Rattle.vm_parts.specs.Deliveries.{id_at}
use Rattle.vm_parts.specs.Tracked.{unresolved_handles}
use Rattle.vm_model.specs.Calls.{Meaning, Setup}
use Rattle.vm_model.specs.Moves.{Point, next}

-- between these two points a take of this handle was answered with a value
pub record TookValue (s : Setup) (m : Meaning) (handle : NotificationHandle)
    (p q : Point) : Type 0 where
  pub asks : m p.answers ≡ step.Take handle
  pub moves : next s m p ≡ Some q
  pub value : Value
  pub answers : q.answers ≡ p.answers ++ answer.Taken (Some value) ∷ []

-- these handles without this one
abbrev pub without_handle : ℕ → List ℕ → List ℕ
without_handle handle [] = []
without_handle handle (other ∷ others) = if other == handle then without_handle handle others
    else other
    ∷ without_handle handle others

-- The handle stands for nothing any more, unless it is the cancel handle, which is 1. The calls
-- whose invocations' ids aren't known are those that they were, without the call of this handle.
pub record IsGone (handle : NotificationHandle) (p q : Point) : Type 0 where
  pub handles : handle.0 ≢ 1 → id_at handle.0 q.derived.handles ≡ None
  pub calls : unresolved_handles q.derived.tracked
      ≡ without_handle handle.0 (unresolved_handles p.derived.tracked)
