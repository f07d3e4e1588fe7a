-- Which report of a run's result the completion of a run comes from, and where the values come from
-- that a round's answers bring.
use Rattle.std.specs.Prelude.{◌≡◌, ◌⊎◌, ℕ, List, [], ◌∷◌, ◌++◌, Some}
use Rattle.std.proofs.Common.{inl, inr}
use Rattle.std.specs.List.{AllByRecursion}
use Rattle.await_trees.specs.declared.handle.NotificationHandle.{NotificationHandle}
use Rattle.journal_protocol.specs.Notification.{Notification}
use Rattle.journal_protocol.specs.ProposeRunCompletion.{ProposeRunCompletion}
use Rattle.journal_entries.specs.Entries.{journal_entries, note_in, notes_in}
use Rattle.journal_entries.specs.Journal.{commands_in, notifications_in}
use Rattle.journal_entries.specs.Proposals.{acknowledged_completion}
use Rattle.vm_retries.specs.declared.policy.RetryPolicy.{RetryPolicy}
use Rattle.vm_types.specs.declared.runs.RunExitResult.{RunExitResult}
use Rattle.vm_runs.specs.Settling.{SettlesRun}
use Rattle.vm_runs.specs.declared.pending.PendingRun.{PendingRun}
use Rattle.vm_runs.specs.declared.settling.Settlement.TheVariants as settlement
use Rattle.vm_machine.specs.Proposals.{earlier_count, earlier_nanos, run_at}
use Rattle.vm_model.specs.Calls.{Meaning}
use Rattle.vm_model.specs.Histories.{after_head}
use Rattle.vm_model.specs.HonestRounds.{Attempted}
use Rattle.world_laws.specs.Values.{ValueCame}
use Rattle.world_rounds.specs.declared.types.Event.{Event}
use Rattle.world_rounds.specs.declared.types.Event.TheVariants as event
use Rattle.world_rounds.specs.declared.types.Round.{Round}
use Rattle.world_rounds.specs.declared.types.Setting.{Setting}
use Rattle.world_rounds.specs.Courses.{attempt_of}
use Rattle.world_rounds.specs.Families.{Played, PlayedDo}
use Rattle.world_rounds.specs.Origins.{IsAmong}
use Rattle.world_rounds.specs.Rounds.{Happen, Now, ReportView, RoundDoes, begin}

-- ---- results of runs

-- One of these events reported the outcome of executing the run of this handle, at a moment at
-- which that run was pending. The proposal has the run's completion id, and the result that becomes
-- of that outcome: its value, its terminal failure, or the failure that isn't retried.
pub record WasTold (m : Meaning) (events : List Event) (begun : Now)
    (p : ProposeRunCompletion) : Type 0 where
  pub before : List Event
  pub handle : NotificationHandle
  pub exit : RunExitResult
  pub policy : RetryPolicy
  pub behind : List Event
  pub split : events ≡ before ++ event.RunResult handle exit policy ∷ behind
  pub now : Now
  pub happen : Happen m before begun now
  pub run : PendingRun
  pub pending : run_at handle.0 now.attempt.vm.machine ≡ Some run
  pub id : p.id ≡ run.completion_id
  pub becomes : SettlesRun run exit policy
      (earlier_count now.attempt.vm.machine.start now.attempt.vm.machine.wrote_command)
      (earlier_nanos now.attempt.vm.machine.start now.attempt.vm.machine.wrote_command)
      (settlement.Proposed p.result)

-- the notification arrived by one of these events
abbrev pub CameBy : List Event → Notification → Type 0
CameBy events n = (entry : List ℕ) × IsAmong (event.Arrive entry) events × (note_in entry ≡ Some n)

-- it is the completion of a run whose outcome one of these events reported
abbrev pub CompletesTold : Meaning → List Event → Now → Notification → Type 0
CompletesTold m events begun n =
    (p : ProposeRunCompletion) × WasTold m events begun p × (n ≡ acknowledged_completion p.id p)

-- the notification arrived in this round, or completes a run whose outcome was reported in it
abbrev pub CameInRound : (m : Meaning) (w : Setting) (round : Round) (old : List (List ℕ))
    (report : ReportView) (new : List (List ℕ)) → RoundDoes m w round old report new → Notification
    → Type 0
CameInRound m w round old report new (inl d) n =
    CameBy round.events n ⊎ CompletesTold m round.events (begin d.alloc w round old) n
CameInRound m w round old report new (inr d) n = CameBy round.events n

-- in one of these rounds it came so
abbrev pub CameInOne : (w : Setting) (played : List Played) (old : List (List ℕ))
    (reports : List ReportView) (new : List (List ℕ)) → PlayedDo w played old reports new
    → Notification → Type 0
CameInOne w [] old reports new d n = ⊥
CameInOne w (p ∷ ps) old reports new (mid, report, more, is, one, others) n =
    CameInRound p.handler w p.round old report mid one n ⊎ CameInOne w ps mid more new others n

-- The journal is the old one and entries after it. Each notification among these arrived in one of
-- the rounds, or completes a run whose outcome was reported in one of them.
pub record ResultsWereTold (w : Setting) (played : List Played) (old : List (List ℕ))
    (reports : List ReportView) (new : List (List ℕ))
    (d : PlayedDo w played old reports new) : Type 0 where
  pub added : List (List ℕ)
  pub extends : new ≡ old ++ added
  pub notes : AllByRecursion (CameInOne w played old reports new d) (notes_in added)

-- ---- values of answers

-- Each value among the answers is that of a notification of the journal or one that was delivered
-- in the round, or that of an eager read which is recorded or which the attempt wrote.
abbrev pub BringsWhatCame : List (List ℕ) → Attempted → Type 0
BringsWhatCame journal a = AllByRecursion (ValueCame
    (notifications_in (journal_entries journal) ++ notifications_in a.course)
    (after_head (commands_in (journal_entries journal)) ++ commands_in a.course)) a.answers

-- the attempt of each of these rounds brings what came
abbrev pub EachBringsWhatCame : (w : Setting) (played : List Played) (old : List (List ℕ))
    (reports : List ReportView) (new : List (List ℕ)) → PlayedDo w played old reports new → Type 0
EachBringsWhatCame w [] old reports new d = Unit {0}
EachBringsWhatCame w (p ∷ ps) old reports new (mid, report, more, is, one, others) =
    BringsWhatCame old (attempt_of p.handler w p.round old report mid one)
    × EachBringsWhatCame w ps mid more new others
