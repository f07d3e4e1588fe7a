-- Where a run waits, what is sent of what it waits for, and when more arrivals let it pass that
-- point.
use Rattle.std.specs.Prelude.{◌≡◌, ◌⊎◌, ◌≤◌, ℕ, Bool, true, false, is_some, length, take, drop, List, [], ◌∷◌, ◌++◌, Some}
use Rattle.journal_protocol.specs.Message.TheVariants as message
use Rattle.journal_protocol.specs.Notification.{Notification}
use Rattle.journal_protocol.specs.RawMessage.{RawMessage}
use Rattle.journal_protocol.specs.Frames.{encoding}
use Rattle.await_trees.specs.declared.tree.UnresolvedFuture.{UnresolvedFuture}
use Rattle.await_trees.specs.Outcomes.{awake}
use Rattle.await_trees.specs.Tree.{Tree}
use Rattle.await_trees.specs.Wires.{Mapped, sent, tree_of_nodes}
use Rattle.await_tries.specs.Message.{first_delivery}
use Rattle.vm_types.specs.declared.steps.Answer.{Answer}
use Rattle.vm_types.specs.declared.steps.Answer.TheVariants as answer
use Rattle.vm_parts.specs.Deliveries.{id_at}
use Rattle.vm_parts.specs.Tracked.{unresolved_handles}
use Rattle.vm_model.specs.Calls.{Meaning, Setup, is_cancelled_in}
use Rattle.vm_model.specs.Calls.Move.{Awaits}
use Rattle.vm_model.specs.Cancels.{present_in}
use Rattle.vm_model.specs.Fixed.{Fixed}
use Rattle.vm_model.specs.Histories.{IsAwaiting, IsPrefix, arrivals_used}
use Rattle.vm_model.specs.Moves.{Point, after, later, move_at, next}
use Rattle.vm_attempt.specs.Record.{Record, heard}
use Rattle.vm_attempt.specs.Agreement.{IsLeftOf, awaited_tree, suspended_on}
use Rattle.vm_attempt.specs.Journals.{setup_for}
use Rattle.vm_attempt.specs.Told.{IsToldPoint, Journal}

-- A run waits at a point: the handler awaits a future, all arrivals are used, and one more is asked
-- for. This is left of what it waits for.
pub record WaitsAt (s : Setup) (m : Meaning) (p : Point) (left : Tree) : Type 0 where
  pub future : UnresolvedFuture
  pub awaits : IsAwaiting m p future
  pub asks : move_at s m p ≡ Awaits
  pub no_arrival : p.queue ≡ []
  pub is_left : IsLeftOf s (awaited_tree s future p.derived) p.derived left

-- each leaf of what is left stands for an id: its handle wasn't taken
abbrev pub StandsForIds : Point → Tree → Type 0
StandsForIds p left = Mapped (λ handle. id_at handle p.derived.handles) left

-- What is left, as it is sent, is awake by these notifications; of each id the first counts.
abbrev pub is_left_awake : Point → Tree → List Notification → Bool
is_left_awake p left ns =
    awake (first_delivery ns) (tree_of_nodes (sent (λ handle. id_at handle p.derived.handles) left))

-- the point at which the first n of these further arrivals are used
abbrev pub using : ℕ → List Notification → Point → Point
using n more p =
    record p { derived = arrivals_used (take n more) p.derived; queue = drop n more }

-- the handler was cancelled at the one point and had a call whose invocation's id wasn't known; at
-- the other the result of the first of these is there
abbrev pub HasNextId : Setup → Point → Point → Type 0
HasNextId s p q =
    (handle : ℕ) × (handles : List ℕ)
    × (unresolved_handles p.derived.tracked ≡ handle ∷ handles)
    × (is_cancelled_in s p.derived ≡ true)
    × (is_some (present_in s handle q.derived) ≡ true)

-- The run doesn't wait any more for what it waited for: the await is answered, or the handler is
-- cancelled now; or it was, and the id is there that it waited for.
abbrev pub HasPassed : Setup → Meaning → Point → Point → Type 0
HasPassed s m p q =
    (next s m q ≡ Some (record q { answers = q.answers ++ answer.Awake ∷ [] }))
    ⊎ (((is_cancelled_in s p.derived ≡ false) × (is_cancelled_in s q.derived ≡ true))
    ⊎ HasNextId s p q)

-- With more arrivals the run passes the point: it uses some number of them.
pub record Passes (s : Setup) (m : Meaning) (p : Point) (more : List Notification) : Type 0 where
  pub count : ℕ
  pub there : count ≤ length more
  pub leads : after s m count (later more p) ≡ Some (using count more p)
  pub passed : HasPassed s m p (using count more p)

-- With more arrivals the run still waits there: it uses all of them, asks for one more, and no
-- number of moves gives another answer.
pub record StaysWaiting (s : Setup) (m : Meaning) (p : Point) (more : List Notification) : Type 0
  where
    pub leads : after s m (length more) (later more p) ≡ Some (using (length more) more p)
    pub asks : move_at s m (using (length more) more p) ≡ Awaits
    pub nothing : (k : ℕ) (q : Point) → after s m k (later more p) ≡ Some q → q.answers ≡ p.answers

-- A step suspended the invocation: its handler's run waits at a point with its answers, and the
-- Suspension that is written last says what is left of what it waits for.
pub record Suspends (fixed : Fixed) (old new : Record) : Type 0 where
  pub journal : Journal (heard fixed.version old)
  pub written : List RawMessage
  pub at : Point
  pub told : IsToldPoint fixed journal written at
  pub answers : at.answers ≡ old.answers
  pub no_command : at.left ≡ []
  pub left : Tree
  pub waits : WaitsAt (setup_for fixed journal.start) fixed.handler at left
  pub output : new.vm.machine.output ≡ old.vm.machine.output
      ++ encoding (message.Suspension (suspended_on left at.derived)) ∷ []

-- The answers go on after those of a point; or they are the same, and at the point where the
-- attempt waits the handler is cancelled.
abbrev pub IsPast : Setup → Point → List Answer → Point → Type 0
IsPast s p answers now =
    ((a : Answer) × IsPrefix (p.answers ++ a ∷ []) answers)
    ⊎ ((answers ≡ p.answers) × (is_cancelled_in s now.derived ≡ true))
