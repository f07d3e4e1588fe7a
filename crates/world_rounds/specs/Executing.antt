-- Which runs rounds execute: at a moment of a round its attempt hands one out.
use Rattle.std.specs.Prelude.{◌≡◌, ℕ, false, List, ◌∷◌, ◌++◌, Ok}
use Rattle.std.proofs.Common.{Global}
use Rattle.journal_protocol.specs.Frames.{IsWhole}
use Rattle.await_trees.specs.declared.handle.NotificationHandle.{NotificationHandle}
use Rattle.vm_runs.specs.Pending.{handle_of}
use Rattle.vm_runs.specs.declared.pending.PendingRun.{PendingRun}
use Rattle.vm_model.specs.Calls.{Meaning}
use Rattle.vm_attempt.specs.declared.progress.Progress.TheVariants.{ExecuteRun}
use Rattle.vm_attempt.specs.Record.{Record}
use Rattle.vm_attempt.specs.Stepping.{StepDoes}
use Rattle.world_rounds.specs.declared.types.Event.{Event}
use Rattle.world_rounds.specs.declared.types.Round.{Round}
use Rattle.world_rounds.specs.declared.types.Setting.{Setting}
use Rattle.journal_entries.specs.Arrivals.{completes_id}
use Rattle.journal_entries.specs.Entries.{notes_in}
use Rattle.world_rounds.specs.Worlds.{start_message}
use Rattle.world_rounds.specs.Rounds.{Happen, Now, StepsHappen, begin}

-- At a moment of a round over this journal, after some of its events and some steps, the next step
-- hands out the run of this handle to be executed.
pub record Executes (m : Meaning) (w : Setting) (round : Round) (old : List (List ℕ))
    (handle : NotificationHandle) : Type 0 where
  pub alloc : Global
  pub start : IsWhole (start_message w round old)
  pub before : List Event
  pub behind : List Event
  pub split : round.events ≡ before ++ behind
  pub mid : Now
  pub happen : Happen m before (begin alloc w round old) mid
  pub steps : ℕ
  pub now : Now
  pub further : StepsHappen m steps mid now
  pub new : Record
  pub hands : StepDoes m now.attempt (Ok (ExecuteRun handle)) new

-- One of these pending runs has this handle, and the journal has no result for its id.
pub record IsUnfinished (handle : NotificationHandle) (runs : List PendingRun)
    (journal : List (List ℕ)) : Type 0 where
  pub before : List PendingRun
  pub run : PendingRun
  pub behind : List PendingRun
  pub split : runs ≡ before ++ run ∷ behind
  pub named : handle_of run ≡ handle
  pub free : completes_id run.completion_id (notes_in journal) ≡ false
