-- Tests on outcomes.
use Rattle.std.proofs.Common.{◌≡◌, Bool, true, false, cond, ◌&&◌, ◌||◌, refl}
use Rattle.journal_attempt.specs.declared.future.FutureKind.{FutureKind}
use Rattle.journal_attempt.specs.declared.future.FutureKind.TheVariants.{FirstCompleted, AllCompleted, FirstSucceededOrAllFailed, AllSucceededOrFirstFailed, Unknown}
use Rattle.await_trees.specs.declared.outcome.Outcome.{Outcome}
use Rattle.await_trees.specs.declared.outcome.Outcome.TheVariants.{Pending, Succeeded, Failed}
use Rattle.await_trees.specs.Outcomes.{is_done, fires_on, waits_for, outcome_of}

pub and_both : (a b : Bool) → a && b ≡ true → (a ≡ true) × (b ≡ true)
and_both true b h = (refl, h)
and_both false b h = cc

pub or_neither : (a b : Bool) → a || b ≡ false → (a ≡ false) × (b ≡ false)
or_neither true b h = cc
or_neither false b h = (refl, h)

pub done_all : (b : Bool) (k : FutureKind) → is_done (cond b (outcome_of k) Pending) ≡ true → b ≡ true
done_all true k h = refl
done_all false k h = cc

pub waits_quiet : (k : FutureKind) (o : Outcome) → waits_for k o ≡ true → fires_on k o ≡ false
waits_quiet FirstCompleted Pending w = cc
waits_quiet FirstCompleted Succeeded w = cc
waits_quiet FirstCompleted Failed w = cc
waits_quiet AllCompleted o w = refl
waits_quiet FirstSucceededOrAllFailed Pending w = refl
waits_quiet FirstSucceededOrAllFailed Succeeded w = cc
waits_quiet FirstSucceededOrAllFailed Failed w = refl
waits_quiet AllSucceededOrFirstFailed Pending w = refl
waits_quiet AllSucceededOrFirstFailed Succeeded w = refl
waits_quiet AllSucceededOrFirstFailed Failed w = cc
waits_quiet Unknown Pending w = cc
waits_quiet Unknown Succeeded w = cc
waits_quiet Unknown Failed w = cc

pub waits_done : (k : FutureKind) (o : Outcome) → waits_for k o ≡ true → is_done o ≡ true
waits_done FirstCompleted o w = cc
waits_done AllCompleted o w = w
waits_done FirstSucceededOrAllFailed Pending w = w
waits_done FirstSucceededOrAllFailed Succeeded w = refl
waits_done FirstSucceededOrAllFailed Failed w = refl
waits_done AllSucceededOrFirstFailed Pending w = w
waits_done AllSucceededOrFirstFailed Succeeded w = refl
waits_done AllSucceededOrFirstFailed Failed w = refl
waits_done Unknown o w = cc

pub quiet_waits : (k : FutureKind) (o : Outcome) → fires_on k o ≡ false → is_done o ≡ true → waits_for k o ≡ true
quiet_waits FirstCompleted o f d = cc
quiet_waits AllCompleted o f d = d
quiet_waits FirstSucceededOrAllFailed Pending f d = d
quiet_waits FirstSucceededOrAllFailed Succeeded f d = cc
quiet_waits FirstSucceededOrAllFailed Failed f d = refl
quiet_waits AllSucceededOrFirstFailed Pending f d = d
quiet_waits AllSucceededOrFirstFailed Succeeded f d = refl
quiet_waits AllSucceededOrFirstFailed Failed f d = cc
quiet_waits Unknown o f d = cc

pub fires_done : (k : FutureKind) (o : Outcome) → fires_on k o ≡ true → is_done o ≡ true
fires_done FirstCompleted o f = f
fires_done AllCompleted o f = cc
fires_done FirstSucceededOrAllFailed Pending f = f
fires_done FirstSucceededOrAllFailed Succeeded f = refl
fires_done FirstSucceededOrAllFailed Failed f = refl
fires_done AllSucceededOrFirstFailed Pending f = f
fires_done AllSucceededOrFirstFailed Succeeded f = refl
fires_done AllSucceededOrFirstFailed Failed f = refl
fires_done Unknown o f = f

-- a child without an outcome
pub pending_waits : (k : FutureKind) (o : Outcome) → is_done o ≡ false → waits_for k o ≡ false
pending_waits FirstCompleted o d = refl
pending_waits AllCompleted o d = d
pending_waits FirstSucceededOrAllFailed Pending d = refl
pending_waits FirstSucceededOrAllFailed Succeeded d = cc
pending_waits FirstSucceededOrAllFailed Failed d = cc
pending_waits AllSucceededOrFirstFailed Pending d = refl
pending_waits AllSucceededOrFirstFailed Succeeded d = cc
pending_waits AllSucceededOrFirstFailed Failed d = cc
pending_waits Unknown o d = refl

pub pending_quiet : (k : FutureKind) (o : Outcome) → is_done o ≡ false → fires_on k o ≡ false
pending_quiet FirstCompleted o d = d
pending_quiet AllCompleted o d = refl
pending_quiet FirstSucceededOrAllFailed Pending d = refl
pending_quiet FirstSucceededOrAllFailed Succeeded d = cc
pending_quiet FirstSucceededOrAllFailed Failed d = cc
pending_quiet AllSucceededOrFirstFailed Pending d = refl
pending_quiet AllSucceededOrFirstFailed Succeeded d = cc
pending_quiet AllSucceededOrFirstFailed Failed d = cc
pending_quiet Unknown o d = d
