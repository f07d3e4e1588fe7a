-- What rounds do, event by event.
use Rattle.std.specs.Prelude.{◌≡◌, ◌⊎◌, ℕ, zero, suc, ◌≤◌, Bool, true, false, List, [], ◌∷◌, ◌++◌, length, take, drop, Option, Some, None, Result, Ok, Err}
use Rattle.std.proofs.Common.{Global}
use Rattle.std.specs.List.{AllByRecursion, concat}
use Rattle.std.specs.declared.alloc.AllocError.{AllocError}
use Rattle.journal_protocol.specs.Error.{Error}
use Rattle.journal_protocol.specs.Version.{Version}
use Rattle.journal_protocol.specs.Errors.{no_memory}
use Rattle.journal_protocol.specs.Frames.{encoding, IsWhole}
use Rattle.vm_types.specs.declared.options.JournalReplay.TheVariants.{Enabled}
use Rattle.journal_protocol.specs.SignalDelivery.TheVariants.{Queued}
use Rattle.vm_types.specs.declared.options.VMOptions.{VMOptions}
use Rattle.vm_parts.specs.Outboxes.{WholeFrames}
use Rattle.vm_types.specs.declared.steps.Answer.{Answer}
use Rattle.invocation_vm.specs.Making.{IsSupported, made, supported}
use Rattle.vm_model.specs.Calls.{Meaning, Setup}
use Rattle.vm_model.specs.Histories.{OneBegins, Told}
use Rattle.journal_entries.specs.Journal.{Entry, commands_in, input_read_from, notifications_in}
use Rattle.vm_model.specs.Moves.{Point}
use Rattle.vm_model.specs.Deliveries.{HasNoTwo}
use Rattle.journal_protocol.specs.InputCommand.{InputCommand}
use Rattle.journal_protocol.specs.RawMessage.{RawMessage}
use Rattle.vm_attempt.specs.declared.progress.Progress.{Progress}
use Rattle.vm_attempt.specs.Heard.{proposals_in}
use Rattle.vm_attempt.specs.Record.{Record, bytes_written, heard}
use Rattle.vm_attempt.specs.Told.{AnswersAreTold, NumbersFreshly, Premises, written_by}
use Rattle.vm_attempt.specs.Stepping.{CloseDoes, FeedDoes, FinishDoes, StepDoes, fresh_record, output_taken}
use Rattle.world_rounds.specs.declared.types.Event.{Event}
use Rattle.world_rounds.specs.declared.types.Event.TheVariants as event
use Rattle.world_rounds.specs.declared.types.Round.{Round}
use Rattle.journal_entries.specs.declared.fault.JournalFault.{JournalFault}
use Rattle.journal_entries.specs.declared.fault.JournalFault.TheVariants as journal_fault
use Rattle.world_rounds.specs.declared.types.Setting.{Setting}
use Rattle.journal_entries.specs.Arrivals.{arrival_fault, most_entries}
use Rattle.journal_entries.specs.Entries.{journal_entries}
use Rattle.world_rounds.specs.States.{HaveTextKeys, pairs_for}
use Rattle.journal_entries.specs.Storing.{FirstFault, Stores, written_from}
use Rattle.world_rounds.specs.Worlds.{fixed_in, start_message}
use Rattle.vm_model.specs.Fixed.{Fixed}

-- ---- a round on its way

-- The version that the attempt was made for, the journal, the bytes that wait, the attempt, all
-- output that was taken, its bytes that weren't looked at for storing, whether the input was
-- closed, and the first error.
pub record Now : Type 0 where
  pub version : Version
  pub journal : List (List ℕ)
  pub waiting : List ℕ
  pub attempt : Record
  pub output : List ℕ
  pub unstored : List ℕ
  pub closed : Bool
  pub error : Option Error

-- the first error stays
abbrev pub first_error : Option Error → Option Error → Option Error
first_error (Some e) next = Some e
first_error None next = next

-- what a step answers as an error
abbrev pub error_of : {A : Type 0} → Result A Error → Option Error
error_of (Ok x) = None
error_of (Err e) = Some e

-- what feeding and closing answer as an error
abbrev pub memory_of : Result Unit AllocError → Option Error
memory_of (Ok x) = None
memory_of (Err e) = Some no_memory

-- ---- events

-- a piece of what waits is fed, none once the input was closed
abbrev pub Pieces : Bool → ℕ → Now → Now → Type 0
Pieces true n old new = new ≡ old
Pieces false n old new =
    (result : Result Unit AllocError) × (r : Record)
    × FeedDoes old.attempt.starved (take n old.waiting) old.attempt result r
    × (new ≡ record old {
      waiting = drop n old.waiting;
      attempt = r;
      error = first_error old.error (memory_of result);
    })

-- a step of the attempt, whose error is noted
abbrev pub StepHappens : Meaning → Now → Now → Type 0
StepHappens m old new =
    (result : Result Progress Error) × (r : Record) × StepDoes m old.attempt result r
    × (new ≡ record old { attempt = r; error = first_error old.error (error_of result) })

-- n steps, one after another
abbrev pub StepsHappen : Meaning → ℕ → Now → Now → Type 0
StepsHappen m zero old new = new ≡ old
StepsHappen m (suc n) old new = (mid : Now) × StepHappens m old mid × StepsHappen m n mid new

-- what an event does
abbrev pub Happens : Meaning → Event → Now → Now → Type 0
Happens m (event.Piece n) old new = Pieces old.closed n old new
Happens m event.Close old new =
    (result : Result Unit AllocError) × (r : Record)
    × CloseDoes old.attempt.starved old.attempt result r
    × (new ≡ record old {
      attempt = r;
      closed = true;
      error = first_error old.error (memory_of result);
    })
Happens m event.Step old new = StepHappens m old new
Happens m (event.Steps n) old new = StepsHappen m n old new
Happens m (event.RunResult handle exit policy) old new =
    (result : Result Unit Error) × (r : Record)
    × FinishDoes old.attempt.starved handle exit policy old.attempt result r
    × (new ≡ record old { attempt = r; error = first_error old.error (error_of result) })
Happens m (event.Arrive x) old new =
    (arrival_fault x old.journal ≡ None)
    × (new ≡ record old { journal = old.journal ++ x ∷ []; waiting = old.waiting ++ x })
Happens m (event.Store n) old new =
    (journal : List (List ℕ)) × (waiting : List ℕ) × (unstored : List ℕ)
    × Stores old.version n (old.unstored
    ++ concat old.attempt.vm.machine.output) old.journal old.waiting journal waiting unstored
    × (new ≡ record old {
      journal = journal;
      waiting = waiting;
      output = old.output
          ++ concat old.attempt.vm.machine.output;
      unstored = unstored;
      attempt = output_taken old.attempt;
    })
    × WholeFrames old.attempt.vm.machine.output
    × (old.attempt.proposed ≡ proposals_in (bytes_written old.attempt))

-- an event's fault, out of memory aside; if whole frames wait to be stored, that of the first item
-- that has one
abbrev pub Fault : Event → Now → JournalFault → Type 0
Fault (event.Piece n) now f = ⊥
Fault event.Close now f = ⊥
Fault event.Step now f = ⊥
Fault (event.Steps n) now f = ⊥
Fault (event.RunResult handle exit policy) now f = ⊥
Fault (event.Arrive x) now f = arrival_fault x now.journal ≡ Some f
Fault (event.Store n) now f =
    FirstFault now.version (take n
    (written_from (now.unstored ++ concat now.attempt.vm.machine.output))) now.journal f
    × WholeFrames now.attempt.vm.machine.output

-- an event's fault
abbrev pub Faults : Event → Now → JournalFault → Type 0
Faults e now f = (f ≡ journal_fault.Memory) ⊎ Fault e now f

-- what one event does, or its fault
abbrev pub EventOutcome : Meaning → Event → Now → Result Unit JournalFault → Now → Type 0
EventOutcome m e old (Ok u) new = Happens m e old new
EventOutcome m e old (Err f) new = Faults e old f

-- events, one after another
abbrev pub Happen : Meaning → List Event → Now → Now → Type 0
Happen m [] old new = new ≡ old
Happen m (e ∷ es) old new = (mid : Now) × Happens m e old mid × Happen m es mid new

-- a kind of fault that events can have
abbrev pub EventFault : Type 1
EventFault = Event → Now → JournalFault → Type 0

-- the first of these events that has a fault of this kind, or is out of memory, has this one
abbrev pub HappenFaultsBy : EventFault → Meaning → List Event → Now → JournalFault → Type 0
HappenFaultsBy Has m [] now f = ⊥
HappenFaultsBy Has m (e ∷ es) now f = ((f ≡ journal_fault.Memory) ⊎ Has e now f)
    ⊎ ((mid : Now) × Happens m e now mid × HappenFaultsBy Has m es mid f)

-- the first of these events that has a fault has this one
abbrev pub HappenFaults : Meaning → List Event → Now → JournalFault → Type 0
HappenFaults m events now f = HappenFaultsBy Fault m events now f

-- ---- rounds whose attempt was refused

-- the arrivals are stored, and nothing else happens
abbrev pub ArrivalsDo : List Event → List (List ℕ) → List (List ℕ) → Type 0
ArrivalsDo [] old new = new ≡ old
ArrivalsDo (event.Arrive x ∷ es) old new = (arrival_fault x old ≡ None)
    × ArrivalsDo es (old ++ x ∷ []) new
ArrivalsDo (e ∷ es) old new = ArrivalsDo es old new

-- the first of the arrivals that has a fault has this one
abbrev pub ArrivalsFault : List Event → List (List ℕ) → JournalFault → Type 0
ArrivalsFault [] journal f = ⊥
ArrivalsFault (event.Arrive x ∷ es) journal f =
    ((f ≡ journal_fault.Memory) ⊎ (arrival_fault x journal ≡ Some f))
    ⊎ ((arrival_fault x journal ≡ None) × ArrivalsFault es (journal ++ x ∷ []) f)
ArrivalsFault (e ∷ es) journal f = ArrivalsFault es journal f

-- why no attempt was made: its version isn't supported, or out of memory
abbrev pub IsRefusal : Result Version Error → Error → Type 0
IsRefusal (Ok version) e = e ≡ no_memory
IsRefusal (Err refusal) e = e ≡ refusal

-- ---- rounds

-- what a round tells
pub record ReportView : Type 0 where
  pub answers : List Answer
  pub output : List ℕ
  pub error : Option Error
  pub entries : ℕ

-- the report of a round with its attempt
abbrev pub report_of : Now → ReportView
report_of now = record {
  answers = now.attempt.answers;
  output = now.output
      ++ concat now.attempt.vm.machine.output;
  error = now.error;
  entries = length now.journal;
}

-- the report of a round whose attempt was refused
abbrev pub refused_report : Error → List (List ℕ) → ReportView
refused_report e journal =
    record { answers = []; output = []; error = Some e; entries = length journal }

-- What an attempt's own contract tells of it at the end of its round: before its input it has
-- written no command; and under the premises its journal, with what it wrote, tells its answers;
-- and where recorded commands are skipped, its commands carry new ids.
pub record EndsTold (fixed : Fixed) (r : Record) : Type 0 where
  pub begins : r.answers ≡ [] → written_by r ≡ []
  pub told : Premises fixed (heard fixed.version r) → (r.answers ≡ []) ⊎ AnswersAreTold fixed r
  pub fresh : NumbersFreshly fixed r

-- a round begins with this attempt, and these bytes wait
abbrev pub new_now : Version → List (List ℕ) → List ℕ → Record → Now
new_now version journal waiting r = record {
  version = version;
  journal = journal;
  waiting = waiting;
  attempt = r;
  output = [];
  unstored = [];
  closed = false;
  error = None;
}

-- a round begins with a new attempt, and its Start and the whole journal wait
abbrev pub begin : Global → Setting → Round → List (List ℕ) → Now
begin alloc w round journal = new_now w.version journal (encoding (start_message w round journal)
    ++ concat journal) (fresh_record (made alloc w.options w.version))

-- no event lets the journal have more entries than may be
abbrev pub StaysShort : Meaning → List Event → Now → Type 0
StaysShort m events now = (end : Now) → Happen m events now end → length end.journal ≤ most_entries

-- Events that come to an end leave this journal, and tell this report.
pub record Ran (fixed : Fixed) (events : List Event) (begun : Now) (report : ReportView)
    (new : List (List ℕ)) : Type 0 where
  pub now : Now
  pub happen : Happen fixed.handler events begun now
  pub ends : EndsTold fixed now.attempt
  pub told : report ≡ report_of now
  pub left : new ≡ now.journal

-- A round with its attempt, in a version that the VM supports, leaves this journal and tells this
-- report. The keys of the state that its Start hands out are texts.
pub record AttemptDoes (m : Meaning) (w : Setting) (round : Round) (old : List (List ℕ))
    (report : ReportView) (new : List (List ℕ)) : Type 0 where
  pub alloc : Global
  pub speaks : IsSupported w.version
  pub start : IsWhole (start_message w round old)
  pub texts : HaveTextKeys (pairs_for w round old)
  pub ran : Ran (fixed_in m w) round.events (begin alloc w round old) report new

-- A round whose attempt was refused leaves this journal and tells this report.
pub record RefusedDoes (w : Setting) (round : Round) (old : List (List ℕ)) (report : ReportView)
    (new : List (List ℕ)) : Type 0 where
  pub error : Error
  pub refusal : IsRefusal (supported w.version) error
  pub arrivals : ArrivalsDo round.events old new
  pub told : report ≡ refused_report error new

-- what a round does
abbrev pub RoundDoes : Meaning → Setting → Round → List (List ℕ) → ReportView → List (List ℕ)
    → Type 0
RoundDoes m w round old report new =
    AttemptDoes m w round old report new ⊎ RefusedDoes w round old report new

-- rounds, one after another
abbrev pub RoundsDo : Meaning → Setting → List Round → List (List ℕ) → List ReportView
    → List (List ℕ) → Type 0
RoundsDo m w [] old reports new = (reports ≡ []) × (new ≡ old)
RoundsDo m w (r ∷ rs) old reports new =
    (mid : List (List ℕ)) × (report : ReportView) × (more : List ReportView)
    × (reports ≡ report ∷ more) × RoundDoes m w r old report mid × RoundsDo m w rs mid more new

-- the first event of a round with its attempt that has a fault of this kind has this one
pub record AttemptFaultsBy (Has : EventFault) (m : Meaning) (w : Setting) (round : Round)
    (old : List (List ℕ)) (f : JournalFault) : Type 0 where
  pub alloc : Global
  pub speaks : IsSupported w.version
  pub start : IsWhole (start_message w round old)
  pub faults : HappenFaultsBy Has m round.events (begin alloc w round old) f

-- the first event of a round with its attempt that has a fault has this one
abbrev pub AttemptFaults : Meaning → Setting → Round → List (List ℕ) → JournalFault → Type 0
AttemptFaults m w round old f = AttemptFaultsBy Fault m w round old f

-- the first arrival of a round whose attempt was refused that has a fault has this one
pub record RefusedFaults (w : Setting) (round : Round) (old : List (List ℕ))
    (f : JournalFault) : Type 0 where
  pub error : Error
  pub refusal : IsRefusal (supported w.version) error
  pub faults : ArrivalsFault round.events old f

-- a round's fault of this kind: out of memory, or that of the first event that has one
abbrev pub RoundFaultsBy : EventFault → Meaning → Setting → Round → List (List ℕ) → JournalFault
    → Type 0
RoundFaultsBy Has m w round old f =
    (f ≡ journal_fault.Memory) ⊎ (AttemptFaultsBy Has m w round old f ⊎ RefusedFaults w round old f)

-- a round's fault: out of memory, or that of the first event that has one
abbrev pub RoundFaults : Meaning → Setting → Round → List (List ℕ) → JournalFault → Type 0
RoundFaults m w round old f = RoundFaultsBy Fault m w round old f

-- the first round that has a fault of this kind has this one
abbrev pub RoundsFaultBy : EventFault → Meaning → Setting → List Round → List (List ℕ)
    → JournalFault
    → Type 0
RoundsFaultBy Has m w [] old f = f ≡ journal_fault.Memory
RoundsFaultBy Has m w (r ∷ rs) old f =
    RoundFaultsBy Has m w r old f
    ⊎ ((mid : List (List ℕ)) × (report : ReportView) × RoundDoes m w r old report mid
    × RoundsFaultBy Has m w rs mid f)

-- the first round that has a fault has this one
abbrev pub RoundsFault : Meaning → Setting → List Round → List (List ℕ) → JournalFault → Type 0
RoundsFault m w rounds old f = RoundsFaultBy Fault m w rounds old f

-- ---- faults that come from outside

-- An event's fault that comes from outside, out of memory aside: of storing that the journal is
-- full; of an arrival its own, on the journal as it is then.
abbrev pub OutsideFault : EventFault
OutsideFault (event.Piece n) now f = ⊥
OutsideFault event.Close now f = ⊥
OutsideFault event.Step now f = ⊥
OutsideFault (event.Steps n) now f = ⊥
OutsideFault (event.RunResult handle exit policy) now f = ⊥
OutsideFault (event.Arrive x) now f = arrival_fault x now.journal ≡ Some f
OutsideFault (event.Store n) now f = f ≡ journal_fault.JournalFull

-- ---- what is asked for histories

-- recorded commands are replayed, and signals queue
pub record ReplaysAndQueues (options : VMOptions) : Type 0 where
  pub replays : options.journal_replay ≡ Enabled
  pub queues : options.signal_delivery ≡ Queued

-- no round is partial
abbrev pub AreWhole : List Round → Type 0
AreWhole rounds = AllByRecursion (λ r. r.partial ≡ false) rounds

-- The answers of the handler's run over a journal, and those of these reports: one list is a
-- prefix of the other.
abbrev pub TellsAlong : Setup → Meaning → List Entry → List ReportView → Type 0
TellsAlong s m journal reports =
    (first : RawMessage) (input : InputCommand) (rest : List RawMessage) (p : Point)
    → commands_in journal ≡ first ∷ rest → input_read_from first ≡ Some input
    → Told s m input (notifications_in journal) rest p
    → AllByRecursion (λ r. OneBegins p.answers r.answers) reports

-- the same of each report and all later ones, by as many entries of the last journal as there were
-- when it was made
abbrev pub Agree : Setup → Meaning → List (List ℕ) → List ReportView → Type 0
Agree s m journal [] = Unit {0}
Agree s m journal (r ∷ rs) = TellsAlong s m (journal_entries (take r.entries journal)) rs
    × Agree s m journal rs

-- At no point that a journal tells has a completion id two results: of its eager read, of those
-- that came, of those that wait.
abbrev pub CompletesOnce : Setup → Meaning → List Entry → Type 0
CompletesOnce s m journal =
    (first : RawMessage) (input : InputCommand) (rest : List RawMessage) (p : Point)
    → commands_in journal ≡ first ∷ rest → input_read_from first ≡ Some input
    → Told s m input (notifications_in journal) rest p → HasNoTwo p
