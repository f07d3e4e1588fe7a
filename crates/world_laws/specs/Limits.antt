-- How many steps bring an attempt to its handler's end, or to where it waits.
use Rattle.std.specs.Prelude.{◌≡◌, ◌≤◌, ℕ, zero, suc, length, List, Result, Ok, Err}
use Rattle.journal_protocol.specs.Error.{Error}
use Rattle.journal_protocol.specs.RawMessage.{RawMessage}
use Rattle.vm_types.specs.declared.steps.Answer.{Answer}
use Rattle.vm_types.specs.declared.steps.Step.TheVariants as step
use Rattle.vm_model.specs.Calls.{Meaning}
use Rattle.vm_model.specs.Fixed.{Fixed}
use Rattle.vm_model.specs.Moves.{Point}
use Rattle.vm_attempt.specs.declared.progress.Progress.{Progress}
use Rattle.vm_attempt.specs.declared.progress.Progress.TheVariants as progress
use Rattle.vm_attempt.specs.Blames.{IsOwnError, ReportedResult}
use Rattle.vm_attempt.specs.Heard.{Heard}
use Rattle.vm_attempt.specs.Record.{Record, heard}
use Rattle.vm_attempt.specs.Stepping.{StepDoes, StepFunction}
use Rattle.vm_attempt.specs.Ending.{FinishesOn}
use Rattle.vm_attempt.specs.Told.{AwaitWaits, Journal, MovesTo}

-- The handler comes to its end on the journal that was fed, with this number of answers at most.
abbrev pub EndsWithin : Fixed → Heard → ℕ → Type 0
EndsWithin fixed fed limit =
    (f : FinishesOn fixed fed) × ((j : Journal fed) → length (f j).at.answers ≤ limit)

-- This number of steps, one after another, each of which is answered.
abbrev pub StepsAnswered : StepFunction → ℕ → Record → Record → Type 0
StepsAnswered m zero old new = new ≡ old
StepsAnswered m (suc n) old new =
    (mid : Record) × StepDoes m old (Ok progress.Stepped) mid × StepsAnswered m n mid new

-- ---- an attempt that runs comes to rest

-- The handler ends after this number of answers of any kind.
abbrev pub EndsAfter : Meaning → ℕ → Type 0
EndsAfter m limit = (answers : List Answer) → length answers ≡ limit → m answers ≡ step.End

-- On what was fed the handler's run has this number of answers at most, whichever commands it
-- makes.
abbrev pub AnswersAtMost : Fixed → Heard → ℕ → Type 0
AnswersAtMost fixed fed limit =
    (j : Journal fed) (n : ℕ) (made : List RawMessage) (p : Point) → MovesTo fixed j n made p
    → length p.answers ≤ limit

-- The handler's await waits rightly: no number of the notifications that were fed wakes it.
abbrev pub WaitsForMore : Fixed → Record → Type 0
WaitsForMore fixed r = AwaitWaits fixed (heard fixed.version r) r.answers r.taken r.vm

-- A step after which nothing happens without the runtime: the handler ends; or it waits for more
-- input, for the result of a run, or for the next attempt; or it fails by an error of its own.
abbrev pub ComesToRest : Fixed → Record → Result Progress Error → Record → Type 0
ComesToRest fixed old (Ok progress.NotReady) new = ⊥
ComesToRest fixed old (Ok progress.Stepped) new = ⊥
ComesToRest fixed old (Ok (progress.Waiting input run)) new = WaitsForMore fixed new
ComesToRest fixed old (Ok (progress.ExecuteRun run)) new = WaitsForMore fixed new
ComesToRest fixed old (Ok progress.Suspended) new = WaitsForMore fixed new
ComesToRest fixed old (Ok progress.Ended) new = fixed.handler old.answers ≡ step.End
ComesToRest fixed old (Err e) new =
    IsOwnError fixed (heard fixed.version new) new.closed new.answers
    (ReportedResult fixed new.failed_by) e
