-- A run that is handed out to be executed has no result in the journal with which its round began.
use Rattle.std.proofs.Common.{◌≡◌, ℕ, zero, suc, Bool, true, false, List, [], ◌∷◌, ◌++◌, refl, sym, ap, subst, ⊎_elim}
use Rattle.journal_protocol.specs.Notification.{Notification}
use Rattle.journal_protocol.specs.RawMessage.{RawMessage}
use Rattle.await_trees.specs.declared.handle.NotificationHandle.{NotificationHandle}
use Rattle.vm_runs.specs.Pending.{handle_of}
use Rattle.vm_runs.specs.declared.pending.PendingRun.{PendingRun}
use Rattle.vm_model.specs.Calls.{Meaning}
use Rattle.vm_attempt.specs.Courses.{OneCall}
use Rattle.vm_attempt.specs.Courses.OneCall.{Feeding, Closing, Stepping, Telling}
use Rattle.vm_attempt.proofs.Ahead.{HasRunOf}
use Rattle.vm_attempt.proofs.Executing.{ExecutesNone, call_keeps}
use Rattle.vm_attempt.specs.Record.{Record}
use Rattle.world_rounds.specs.declared.types.Event.{Event}
use Rattle.world_rounds.specs.declared.types.Event.TheVariants as event
use Rattle.journal_entries.specs.Arrivals.{completes_id}
use Rattle.world_rounds.specs.Rounds.{Happen, Happens, Now, Pieces, StepHappens, StepsHappen}
use Rattle.world_rounds.proofs.Pending.{ArePending}
use Rattle.world_rounds.proofs.RunsCalled.{run_ids}

-- of pending runs, that of a handle that is handed out has no result among these notifications
abbrev pub FreeRun : NotificationHandle → List PendingRun → List Notification → Type 0
FreeRun handle runs ns = (before : List PendingRun) × (run : PendingRun) × (behind : List PendingRun) × (runs ≡ before ++ run ∷ behind) × (handle_of run ≡ handle) × (completes_id run.completion_id ns ≡ false)

pub pending_free : (next : ℕ) (ns : List Notification) (cs : List RawMessage) (ps : List ℕ) (runs : List PendingRun) (handle : NotificationHandle) → ArePending next ns cs ps (run_ids runs) → HasRunOf handle runs → FreeRun handle runs ns
pending_free next ns cs ps [] handle pending has = absurd has
pending_free next ns cs ps (run ∷ runs) handle pending has =
    ⊎_elim
    (λ (is : handle_of run ≡ handle). ([], run, runs, refl, is, pending.1.free))
    (λ (more : HasRunOf handle runs).
    let x = pending_free next ns cs ps runs handle pending.3 more in
    (run ∷ x.0, x.1, x.2, ap (λ l. run ∷ l) x.3, x.4, x.5))
    has

-- ---- how an attempt is over

abbrev pub StillNone : Now → Now → Type 0
StillNone now mid = ExecutesNone now.attempt.over → ExecutesNone mid.attempt.over

call_none : (m : Meaning) (now mid : Now) (a : Record) → OneCall m now.attempt a → mid.attempt ≡ a → StillNone now mid
call_none m now mid a call is none = subst (λ (r : Record). ExecutesNone r.over) (sym is) ((call_keeps m now.attempt a call).over none)

step_none : (m : Meaning) (now mid : Now) → StepHappens m now mid → StillNone now mid
step_none m now mid (result, a, d, is) = call_none m now mid a (Stepping result d) (ap (λ (z : Now). z.attempt) is)

pub steps_none : (m : Meaning) (n : ℕ) (now mid : Now) → StepsHappen m n now mid → StillNone now mid
steps_none m zero now mid is none = subst (λ (z : Now). ExecutesNone z.attempt.over) (sym is) none
steps_none m (suc n) now mid (x, first, more) none = steps_none m n x mid more (step_none m now x first none)

event_none : (m : Meaning) (e : Event) (now mid : Now) → Happens m e now mid → StillNone now mid
event_none m (event.Piece n) now mid d = by_closed now.closed d
  where
    by_closed : (closed : Bool) → Pieces closed n now mid → StillNone now mid
    by_closed true is = λ none. subst (λ (z : Now). ExecutesNone z.attempt.over) (sym is) none
    by_closed false (result, a, fed, is) = call_none m now mid a (Feeding _ result fed) (ap (λ (z : Now). z.attempt) is)
event_none m event.Close now mid (result, a, d, is) = call_none m now mid a (Closing result d) (ap (λ (z : Now). z.attempt) is)
event_none m event.Step now mid d = step_none m now mid d
event_none m (event.Steps n) now mid d = steps_none m n now mid d
event_none m (event.RunResult handle exit policy) now mid (result, a, d, is) = call_none m now mid a (Telling handle exit policy result d) (ap (λ (z : Now). z.attempt) is)
event_none m (event.Arrive x) now mid (none, is) = λ over. subst (λ (z : Now). ExecutesNone z.attempt.over) (sym is) over
event_none m (event.Store n) now mid (journal, waiting, unstored, stores, is, whole, proposed) = λ over. subst (λ (z : Now). ExecutesNone z.attempt.over) (sym is) over

pub events_none : (m : Meaning) (es : List Event) (now end : Now) → Happen m es now end → StillNone now end
events_none m [] now end is none = subst (λ (z : Now). ExecutesNone z.attempt.over) (sym is) none
events_none m (e ∷ es) now end (mid, first, more) none = events_none m es mid end more (event_none m e now mid first none)
