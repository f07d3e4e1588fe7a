-- What is left to await of a tree that is not awake.
use Rattle.std.specs.Prelude.{ℕ, ◌≡◌, true, false}
use Rattle.journal_attempt.specs.declared.future.FutureKind.{FutureKind}
use Rattle.await_trees.specs.declared.outcome.Outcome.{Outcome}
use Rattle.await_trees.specs.Tree.{TreeOver, ForestOver, Tree, Forest, leaf, node, none, more}
use Rattle.await_trees.specs.Outcomes.{outcome, is_done}

-- the second forest is the first with t at some place
pub data Added {L : Type 0} (t : TreeOver L) : ForestOver L → ForestOver L → Type 0 where
  here : {ts : ForestOver L} → Added t ts (more t ts)
  later : {u : TreeOver L} {ts us : ForestOver L} → Added t ts us → Added t (more u ts) (more u us)

mutual
  pub data Residual (at : ℕ → Outcome) : Tree → Tree → Type 0 where
    same_leaf : {h : ℕ} → Residual at (leaf h) (leaf h)
    same_kind : {k : FutureKind} {ts rs : Forest} → Residuals at ts rs
        → Residual at (node k ts) (node k rs)

  -- of the children without an outcome, in any order
  pub data Residuals (at : ℕ → Outcome) : Forest → Forest → Type 0 where
    nothing : Residuals at none none
    gone : {t : Tree} {ts rs : Forest} → is_done (outcome at t) ≡ true → Residuals at ts rs
        → Residuals at (more t ts) rs
    kept : {t r : Tree} {ts rs us : Forest} → is_done (outcome at t) ≡ false → Residual at t r
        → Residuals at ts rs → Added r rs us → Residuals at (more t ts) us
