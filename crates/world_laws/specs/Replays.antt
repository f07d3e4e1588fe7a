-- What a replay of a stored journal shows.
use Rattle.std.specs.Prelude.{◌≡◌, ◌≢◌, ◌+◌, ◌≤◌, ◌<◌, ◌++◌, length, ℕ, zero, suc, false, List, [], Result, Ok, Err}
use Rattle.std.proofs.Common.{Global}
use Rattle.std.specs.List.{concat}
use Rattle.journal_protocol.specs.Error.{Error}
use Rattle.journal_protocol.specs.Errors.{no_memory}
use Rattle.journal_protocol.specs.Frames.{encoding, IsWhole}
use Rattle.journal_protocol.specs.Version.{Version}
use Rattle.journal_entries.specs.Arrivals.{most_entries}
use Rattle.journal_entries.specs.Entries.{journal_entries}
use Rattle.journal_entries.specs.JournalFrames.{as_entries}
use Rattle.vm_state.specs.declared.state_map.StateMap.{StateMap}
use Rattle.vm_types.specs.declared.types.State.{State}
use Rattle.vm_types.specs.declared.types.State.TheVariants as state
use Rattle.vm_machine.specs.Queries.{state_of}
use Rattle.invocation_vm.specs.Making.{made, supported}
use Rattle.vm_model.specs.Calls.{Meaning}
use Rattle.vm_model.specs.Fixed.{Fixed}
use Rattle.vm_model.specs.Histories.{History}
use Rattle.vm_attempt.specs.declared.progress.Progress.{Progress}
use Rattle.vm_attempt.specs.Record.{Record, heard}
use Rattle.vm_attempt.specs.Stepping.{FeedDoes, StepDoes, StepFunction, fresh_record}
use Rattle.vm_attempt.specs.Journals.{setup_for}
use Rattle.vm_attempt.specs.Told.{RefusesReplay, bytes_fed}
use Rattle.world_rounds.specs.declared.types.Round.{Round}
use Rattle.world_rounds.specs.declared.types.Setting.{Setting}
use Rattle.world_rounds.specs.Guarantees.{Case}
use Rattle.world_rounds.specs.States.{HaveTextKeys, pairs_for}
use Rattle.world_rounds.specs.Worlds.{IsJournal, setup_of, start_message}
use Rattle.world_laws.specs.declared.outcome.ReplayOutcome.{ReplayOutcome}
use Rattle.world_laws.specs.declared.outcome.ReplayOutcome.TheVariants as outcome
use Rattle.world_laws.specs.ToldSets.{ToldSetsAreCompared}

-- a handler with what all its attempts are made with
abbrev pub case_with : Meaning → Setting → Case
case_with handler setting = record { handler = handler; setting = setting }

-- The values are compared which the calls set that this journal tells.
abbrev pub JournalSetsAreCompared : Case → List (List ℕ) → Type 0
JournalSetsAreCompared c journal =
    ToldSetsAreCompared (setup_of c.setting) c.handler (journal_entries journal)

-- The journal has room for as many entries again: it has at most half as many as a journal may
-- have.
abbrev pub HasRoom : List (List ℕ) → Type 0
HasRoom journal = length journal + length journal ≤ most_entries

-- What an attempt was fed is the Start of a round and then this journal, and nothing else.
pub record IsFedAlone (w : Setting) (round : Round) (journal : List (List ℕ))
    (r : Record) : Type 0 where
  pub is_journal : IsJournal journal
  pub start : IsWhole (start_message w round journal)
  pub bytes : bytes_fed (heard w.version r) ≡ encoding (start_message w round journal)
      ++ concat journal

-- ---- steps

-- This number of steps were made, one after another, each while recorded commands were left, and
-- none had an error.
abbrev pub StepsMade : StepFunction → ℕ → Record → Record → Type 0
StepsMade m zero old new = new ≡ old
StepsMade m (suc n) old new =
    (state_of old.vm.machine ≡ state.Replaying) × (mid : Record) × (progress : Progress)
    × StepDoes m old (Ok progress) mid × StepsMade m n mid new

-- what the state of an attempt shows that makes no further step
abbrev pub shown_at : State → ReplayOutcome
shown_at state.Processing = outcome.GoesOn
shown_at state.Replaying = outcome.TooFewSteps
shown_at state.WaitingPreFlight = outcome.NotReplayed
shown_at state.Closed = outcome.NotReplayed

-- A number of steps, up to this limit, shows this. No recorded command is left after them; or the
-- next step has this error while recorded commands are left; or such are left after as many steps
-- as the limit allows; or the VM takes no call.
abbrev pub StepsShow : StepFunction → ℕ → Record → Record → ReplayOutcome → Type 0
StepsShow m limit old new outcome.GoesOn =
    (n : ℕ) × (n ≤ limit) × StepsMade m n old new × (state_of new.vm.machine ≡ state.Processing)
StepsShow m limit old new (outcome.Differs e) =
    (n : ℕ) × (n < limit) × (mid : Record) × StepsMade m n old mid
    × (state_of mid.vm.machine ≡ state.Replaying) × StepDoes m mid (Err e) new × (e ≢ no_memory)
StepsShow m limit old new (outcome.UnsupportedVersion e) = ⊥
StepsShow m limit old new outcome.TooFewSteps =
    StepsMade m limit old new × (state_of new.vm.machine ≡ state.Replaying)
StepsShow m limit old new outcome.NotReplayed =
    (n : ℕ) × (n ≤ limit) × StepsMade m n old new × (state_of new.vm.machine ≢ state.Replaying)
    × (state_of new.vm.machine ≢ state.Processing)

-- The call of the handler after an attempt's answers is refused by this error: the run reaches a
-- point with these answers from which no move leads on. So the journal that was fed is no history
-- of the handler, unless no recorded command is left at that point.
abbrev pub PartsAt : Fixed → Record → Error → Record → Type 0
PartsAt fixed old e new =
    (x : RefusesReplay fixed (heard fixed.version old) old.answers e old.vm.machine new.vm.machine)
    × ((base : StateMap) → History (setup_for fixed x.journal.start) fixed.handler base
    (as_entries x.journal.entries) → x.at.left ≡ [])

-- ---- a check

-- A new attempt of the handler, made as the setting says, was fed the Start of a round with the
-- whole state, whose keys are texts, and then the journal, and nothing else. Steps up to this limit
-- then show this.
pub record AttemptShows (c : Case) (journal : List (List ℕ)) (limit : ℕ)
    (shown : ReplayOutcome) : Type 0 where
  pub is_journal : IsJournal journal
  pub alloc : Global
  pub round : Round
  pub whole : round.partial ≡ false
  pub start : IsWhole (start_message c.setting round journal)
  pub texts : HaveTextKeys (pairs_for c.setting round journal)
  pub fed : Record
  pub feeds : FeedDoes false (encoding (start_message c.setting round journal) ++ concat journal)
      (fresh_record (made alloc c.setting.options c.setting.version)) (Ok tt) fed
  pub left : Record
  pub steps : StepsShow c.handler limit fed left shown

-- the same, if attempts are made in this version, and else why not
abbrev pub ShowsIn : Result Version Error → Case → List (List ℕ) → ℕ → ReplayOutcome → Type 0
ShowsIn (Ok version) c journal limit shown = AttemptShows c journal limit shown
ShowsIn (Err e) c journal limit shown = shown ≡ outcome.UnsupportedVersion e

-- what a check of a journal shows by steps up to this limit
abbrev pub ReplayShows : Case → List (List ℕ) → ℕ → ReplayOutcome → Type 0
ReplayShows c journal limit shown = ShowsIn (supported c.setting.version) c journal limit shown
