-- What rounds guarantee of a handler and its world. Read this file first.
use Rattle.std.specs.Prelude.{ℕ, List, map, length}
use Rattle.journal_entries.specs.JournalFrames.{commands_among}
use Rattle.vm_model.specs.Alike.{IsOneRunAlike}
use Rattle.vm_model.specs.Calls.{Meaning}
use Rattle.vm_model.specs.Carried.{AreOfTheirKind}
use Rattle.vm_model.specs.Histories.{EagerFrom, History, Honest, Whole, after_head}
use Rattle.journal_entries.specs.Journal.{commands_in}
use Rattle.vm_model.specs.HonestRounds.{IsOneRun}
use Rattle.journal_entries.specs.Entries.{journal_entries, journal_frames, notes_in}
use Rattle.world_rounds.specs.States.{base_of}
use Rattle.world_rounds.specs.Worlds.{WorldView, setup_of}
use Rattle.world_rounds.specs.declared.types.Report.{Report}
use Rattle.world_rounds.specs.declared.types.Round.{Round}
use Rattle.journal_entries.specs.declared.fault.JournalFault.{JournalFault}
use Rattle.world_rounds.specs.declared.types.Setting.{Setting}
use Rattle.world_rounds.specs.Courses.{AreHonest}
use Rattle.world_rounds.specs.Fresh.{AreFresh}
use Rattle.world_rounds.specs.Inside.{report_view}
use Rattle.world_rounds.specs.Owning.{AreOwn}
use Rattle.world_rounds.specs.declared.placed.PlacedFault.{PlacedFault}
use Rattle.world_rounds.specs.Places.{RoundsStop, StopsOutside}
use Rattle.world_rounds.specs.Rounds.{Agree, CompletesOnce, OutsideFault, ReportView, RoundsDo, RoundsFaultBy}
use Rattle.world_rounds.specs.Sound.{IsSoundFor}

-- What is fixed over all rounds: what the handler calls next after the answers that it saw, and
-- with what its attempts are made.
pub record Case : Type 0 where
  pub handler : Meaning
  pub setting : Setting

-- a handler in a world
abbrev pub case_of : Meaning → WorldView → Case
case_of handler world = record { handler = handler; setting = world.setting }

-- ---- of a journal

-- One run of the handler made the journal: each of its commands stands there once, in order, and no
-- other.
abbrev pub IsExactlyOnce : Case → List (List ℕ) → Type 0
IsExactlyOnce c journal =
    IsOneRun (setup_of c.setting) c.handler (Honest (base_of c.setting)) (journal_entries journal)

-- One run made the journal in which each call may be that of another handler, of those that replay
-- can't tell from this one: each of its commands stands there once, in order, and no other.
abbrev pub IsExactlyOnceAlike : Case → List (List ℕ) → Type 0
IsExactlyOnceAlike c journal = IsOneRunAlike (setup_of c.setting) c.handler
    (Honest (base_of c.setting)) (journal_entries journal)

-- One run of the handler made the journal that nothing interrupted: each call knew the whole state.
abbrev pub IsUninterrupted : Case → List (List ℕ) → Type 0
IsUninterrupted c journal =
    IsOneRun (setup_of c.setting) c.handler (Whole (base_of c.setting)) (journal_entries journal)

-- So did one such run of several handlers that are alike.
abbrev pub IsUninterruptedAlike : Case → List (List ℕ) → Type 0
IsUninterruptedAlike c journal = IsOneRunAlike (setup_of c.setting) c.handler
    (Whole (base_of c.setting)) (journal_entries journal)

-- The journal can be replayed to its end, whoever made it: recorded commands are replayed, signals
-- queue, the handler's calls are its commands in order, and these leave of the state what the calls
-- leave.
abbrev pub IsReplayable : Case → List (List ℕ) → Type 0
IsReplayable c journal = IsSoundFor c.handler c.setting journal

-- The journal is a history of the handler: its commands are the handler's calls in order, and it is
-- replayed to its end without a mismatch.
abbrev pub IsHistory : Case → List (List ℕ) → Type 0
IsHistory c journal =
    History (setup_of c.setting) c.handler (base_of c.setting) (journal_entries journal)

-- Each recorded eager read of the journal has the value that the state has there.
abbrev pub HasRightReads : Case → List (List ℕ) → Type 0
HasRightReads c journal =
    EagerFrom (base_of c.setting) (after_head (commands_in (journal_entries journal)))

-- the world's journal can be replayed by the handler
abbrev pub CanBeReplayed : Meaning → WorldView → Type 0
CanBeReplayed handler world = IsReplayable (case_of handler world) world.journal

-- No completion id has two results, at any point of the handler's run over the journal.
abbrev pub HasOneResultEach : Case → List (List ℕ) → Type 0
HasOneResultEach c journal = CompletesOnce (setup_of c.setting) c.handler (journal_entries journal)

-- Each result of an id that a call or a one-way call carries for its invocation's is an
-- invocation's id.
abbrev pub HasRightKinds : List (List ℕ) → Type 0
HasRightKinds journal = AreOfTheirKind (notes_in journal) (commands_among (journal_frames journal))

-- ---- of rounds

-- what some reports tell
abbrev pub told : List Report → List ReportView
told reports = map report_view reports

-- The answers that an earlier report's journal tells, and those of a later report: one list is a
-- prefix of the other.
abbrev pub AttemptsAgree : Case → List (List ℕ) → List ReportView → Type 0
AttemptsAgree c journal reports = Agree (setup_of c.setting) c.handler journal reports

-- Each attempt saw the answers that its journal tells, and each command that was stored stands
-- after all that its attempt was delivered before it wrote the command.
abbrev pub RoundsAreHonest : Case → List Round → List (List ℕ) → List ReportView → List (List ℕ)
    → Type 0
RoundsAreHonest c rounds old reports new =
    (d : RoundsDo c.handler c.setting rounds old reports new)
    → AreHonest (Honest (base_of c.setting)) c.handler c.setting rounds old reports new d

-- Each report's error, if it has one, is its attempt's own: out of memory, input that was closed
-- too early, a call's own refusal after the recorded commands, or that of a run's result; or, if
-- no attempt was made, why. No mismatch is among them.
abbrev pub ErrorsAreTheirOwn : Case → List Round → List (List ℕ) → List ReportView → List (List ℕ)
    → Type 0
ErrorsAreTheirOwn c rounds old reports new =
    (d : RoundsDo c.handler c.setting rounds old reports new)
    → AreOwn c.handler c.setting rounds old reports new d

-- A fault comes from outside: the first event that has one is out of memory, stores into a full
-- journal, or is an arrival that has it on the journal as it is then. What an attempt wrote can
-- always be stored.
abbrev pub FaultsComeFromOutside : Case → List Round → List (List ℕ) → JournalFault → Type 0
FaultsComeFromOutside c rounds old f = RoundsFaultBy OutsideFault c.handler c.setting rounds old f

-- So does the fault of the event at which rounds are stopped.
abbrev pub StopsComeFromOutside : Case → List Round → List (List ℕ) → List ReportView → PlacedFault
    → Type 0
StopsComeFromOutside c rounds old reports at =
    (s : RoundsStop c.handler c.setting rounds old reports at)
    → StopsOutside c.handler c.setting s.round s.journal at.event at.fault s.stops

-- ---- what lasts

-- What a journal has, it has after the rounds too.
abbrev pub Lasts : (List (List ℕ) → Type 0) → WorldView → WorldView → Type 0
Lasts Has old new = Has old.journal → Has new.journal

-- In each round the completion ids of the new commands are greater than all that the journal's
-- commands carried when it began.
abbrev pub IdsAreNew : WorldView → List ReportView → WorldView → Type 0
IdsAreNew old reports new = AreFresh (length old.journal) new.journal reports
