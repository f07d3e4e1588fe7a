-- What the record of an attempt says of its handler's run.
use Rattle.std.specs.Prelude.{◌≡◌, ◌≢◌, ◌⊎◌, ◌≤◌, ℕ, true, cond, length, List, [], ◌∷◌, ◌++◌, map, Option, Some, None, Result, Ok, Err}
use Rattle.std.specs.List.{AllByRecursion, concat, flat_map}
use Rattle.journal_protocol.specs.InputCommand.{InputCommand}
use Rattle.journal_protocol.specs.Error.{Error}
use Rattle.journal_protocol.specs.RelatedCommand.{RelatedCommand}
use Rattle.journal_protocol.specs.NamedFault.{NamedFault}
use Rattle.journal_protocol.specs.Message.{Message}
use Rattle.journal_protocol.specs.Message.TheVariants as message
use Rattle.journal_protocol.specs.RawMessage.{RawMessage}
use Rattle.journal_protocol.specs.Notification.{Notification}
use Rattle.journal_protocol.specs.Start.{Start}
use Rattle.journal_protocol.specs.Errors.{error_message, named_error, no_memory}
use Rattle.journal_protocol.specs.Frames.{encoding, IsWhole}
use Rattle.journal_protocol.specs.Bodies.{start_in}
use Rattle.vm_state.specs.declared.state_map.StateMap.{StateMap}
use Rattle.vm_types.specs.declared.options.JournalReplay.TheVariants.{Enabled, Disabled}
use Rattle.vm_asks.specs.Carried.{AreBelow, AreFrom, AreGreater, all_carried}
use Rattle.journal_protocol.specs.SignalDelivery.TheVariants.{Queued}
use Rattle.vm_types.specs.declared.steps.Step.TheVariants as step
use Rattle.await_trees.specs.declared.tree.UnresolvedFuture.{UnresolvedFuture}
use Rattle.vm_machine.specs.declared.machine.Machine.{Machine}
use Rattle.std.proofs.Common.{Global}
use Rattle.vm_machine.specs.declared.phase.Phase.{Phase}
use Rattle.vm_machine.specs.declared.phase.Phase.TheVariants.{Closed, Processing, Replaying}
use Rattle.vm_machine.specs.Inputs.{coverage_of, entries_in}
use Rattle.vm_parts.specs.Starts.{start_info_of}
use Rattle.vm_machine.specs.Making.{fresh}
use Rattle.vm_machine.specs.Phases.{is_running}
use Rattle.journal_entries.specs.Frames.{Rest, frames_of}
use Rattle.vm_model.specs.Calls.{Meaning, Move}
use Rattle.vm_model.specs.Calls.Move.{Awaits}
use Rattle.vm_model.specs.Carried.{AreOfTheirKind}
use Rattle.vm_model.specs.Deliveries.{HasNoTwo}
use Rattle.journal_entries.specs.Journal.{input_read_from, stored_form}
use Rattle.vm_model.specs.Moves.{Point, move_at, start}
use Rattle.vm_model.specs.Histories.{EagerFrom, Handed, History, IsPrefix, Made, Told, after_head}
use Rattle.vm_model.specs.Refusals.{IsRefusedFor}
use Rattle.vm_machine.specs.Outcomes.{IsStarved, ruled}
use Rattle.vm_attempt.specs.declared.progress.Fed.{Fed}
use Rattle.vm_attempt.specs.declared.progress.Progress.{Progress}
use Rattle.vm_attempt.specs.declared.progress.Progress.TheVariants as progress
use Rattle.vm_asks.specs.Asks.{ask_of}
use Rattle.vm_attempt.specs.Agreement.{Agrees, Aside, MakesMany, command_frames}
use Rattle.journal_entries.specs.JournalFrames.{AcknowledgesNothing, as_entries, commands_among, is_command_frame}
use Rattle.vm_attempt.specs.Journals.{HasAll, StillWaits, setup_for}
use Rattle.vm_types.specs.declared.steps.Answer.{Answer}
use Rattle.invocation_vm.specs.Views.{View}
use Rattle.vm_attempt.specs.Arrivals.{AllFound, arriving, kept_after}
use Rattle.vm_attempt.specs.Heard.{Heard, proposals_among}
use Rattle.vm_attempt.specs.Record.{Record, bytes_written, heard}
use Rattle.vm_attempt.specs.Stepping.{IfWaits}
use Rattle.vm_model.specs.Fixed.{Fixed}

-- ---- what is read from the record

-- the bytes of pieces, one after another
abbrev pub bytes_in : List Fed → List ℕ
bytes_in [] = []
bytes_in (f ∷ fs) = f.piece ++ bytes_in fs

-- the bytes that were fed
abbrev pub bytes_fed : Heard → List ℕ
bytes_fed fed = bytes_in fed.pieces

-- the frames that were fed
abbrev pub frames_fed : Heard → List RawMessage
frames_fed fed = (frames_of (bytes_fed fed)).0

-- the commands among some messages, as they are stored
abbrev pub commands_of : List Message → List RawMessage
commands_of [] = []
commands_of (m ∷ ms) = cond (is_command_frame (stored_form m)) (stored_form m
    ∷ commands_of ms) (commands_of ms)

-- messages were written, none of them a command or a proposal
pub record Quiet (old new : Machine) : Type 0 where
  pub messages : List Message
  pub output : new.output ≡ old.output ++ map encoding messages
  pub commands : commands_of messages ≡ []
  pub proposals : proposals_among (map stored_form messages) ≡ []

-- What was taken are whole frames of some messages, what waits are frames too, and these are the
-- commands among them all.
pub record Wrote (taken waits : List (List ℕ)) (written : List RawMessage) : Type 0 where
  pub sent : List Message
  pub bytes : concat taken ≡ flat_map encoding sent
  pub whole : AllByRecursion IsWhole sent
  pub waiting : List Message
  pub frames : waits ≡ map encoding waiting
  pub commands : commands_of (sent ++ waiting) ≡ written

-- the commands that an attempt wrote: those among the frames of all its output
abbrev pub written_by : Record → List RawMessage
written_by r = commands_among (frames_of (bytes_written r)).0

-- The journal of an attempt. After Start come the known entries, as many frames as it says:
-- commands and notifications, the first command among them the input.
pub record Journal (fed : Heard) : Type 0 where
  pub first_frame : RawMessage
  pub entries : List RawMessage
  pub others : List RawMessage
  pub frames : frames_fed fed ≡ first_frame ∷ (entries ++ others)
  pub start : Start
  pub reads_start : start_in first_frame.body ≡ Some start
  pub count : length entries ≡ start.known_entries
  pub none_acknowledge : AllByRecursion AcknowledgesNothing entries
  pub state : List (List ℕ × Option (List ℕ))
  pub reads_state : entries_in start.state ≡ Some state
  pub first : RawMessage
  pub rest : List RawMessage
  pub commands : commands_among entries ≡ first ∷ rest
  pub input : InputCommand
  pub reads_input : input_read_from first ≡ Some input

-- all arrivals that came, in order, among the known entries and after them: a notification as it
-- is, and an acknowledgement as the completion of its run with the result that was proposed
abbrev pub arrivals : {fed : Heard} → Journal fed → List Notification
arrivals {fed} j = arriving fed.proposed (j.entries ++ j.others)

-- the same, read from what was fed: the arrivals after the first frame
abbrev pub arrivals_of : Heard → List Notification
arrivals_of fed = arriving fed.proposed (after_head (frames_fed fed))

-- the state that Start handed out
abbrev pub start_state : {fed : Heard} → Journal fed → StateMap
start_state j = record { entries = j.state; coverage = coverage_of j.start.partial }

-- What an attempt begins with: the point after the input, with all arrivals, and the recorded
-- commands after the input.
abbrev pub begun : {fed : Heard} → Fixed → Journal fed → Point
begun fixed j = start (setup_for fixed j.start) j.input (arrivals j) j.rest

-- This number of moves of the handler's run leads from there to this point, and made these
-- commands.
abbrev pub MovesTo : {fed : Heard} → Fixed → Journal fed → ℕ → List RawMessage → Point → Type 0
MovesTo fixed j moves made p = Made (setup_for fixed j.start) fixed.handler (Handed (start_state j))
    moves (begun fixed j) made p

-- the move that the handler's run makes at a point
abbrev pub next_move : {fed : Heard} → Fixed → Journal fed → Point → Move
next_move fixed j p = move_at (setup_for fixed j.start) fixed.handler p

-- ---- new numbers

-- Each completion id that a written command carries is greater than each that a command of the
-- attempt's journal carries.
pub record HasFreshIds (fed : Heard) (written : List RawMessage) : Type 0 where
  pub journal : Journal fed
  pub greater : AreGreater (all_carried (journal.first ∷ journal.rest)) (all_carried written)

-- Where the recorded commands are skipped, no command was written, or each completion id that one
-- carries is greater than each that a recorded command carries.
abbrev pub NumbersFreshly : Fixed → Record → Type 0
NumbersFreshly fixed r = fixed.options.journal_replay ≡ Disabled → (written_by r ≡ [])
    ⊎ HasFreshIds (heard fixed.version r) (written_by r)

-- ---- what is asked of the options and of the runtime

-- No completion has two results at a point of the handler's run over what was fed, if each further
-- command is its own.
abbrev pub NoneHasTwo : Fixed → Heard → Type 0
NoneHasTwo fixed fed =
    (j : Journal fed) (n : ℕ) (made : List RawMessage) (p : Point) → MovesTo fixed j n made p
    → HasNoTwo p

-- Recorded commands are replayed, signals queue, and no completion has two results.
pub record Premises (fixed : Fixed) (fed : Heard) : Type 0 where
  pub replays : fixed.options.journal_replay ≡ Enabled
  pub queues : fixed.options.signal_delivery ≡ Queued
  pub once : NoneHasTwo fixed fed

-- No completion has two results at a point where recorded commands are left, by what was fed.
abbrev pub NoneHasTwoInReplay : Fixed → Heard → Type 0
NoneHasTwoInReplay fixed fed =
    (j : Journal fed) (n : ℕ) (made : List RawMessage) (p : Point) → MovesTo fixed j n made p
    → p.left ≢ [] → HasNoTwo p

-- What is asked for replay alone: recorded commands are replayed, signals queue, and no completion
-- has two results as long as recorded commands are left. A journal that doesn't fit the handler can
-- have it too.
pub record ReplayPremises (fixed : Fixed) (fed : Heard) : Type 0 where
  pub replays : fixed.options.journal_replay ≡ Enabled
  pub queues : fixed.options.signal_delivery ≡ Queued
  pub once : NoneHasTwoInReplay fixed fed

-- Each result of an invocation's id is one: of the ids that the commands carry for it which are
-- recorded and which the handler's run makes, by what was fed.
abbrev pub AreRightlyKinded : Fixed → Heard → Type 0
AreRightlyKinded fixed fed =
    (j : Journal fed) (n : ℕ) (made : List RawMessage) (p : Point) → MovesTo fixed j n made p
    → AreOfTheirKind (arrivals j) (j.rest ++ made)

-- ---- the answers

-- A point of the handler's run over an attempt's journal followed by what it wrote, with the
-- arrivals that it was fed.
abbrev pub IsToldPoint : {fed : Heard} → Fixed → Journal fed → List RawMessage → Point → Type 0
IsToldPoint fixed j written p =
    Told (setup_for fixed j.start) fixed.handler j.input (arrivals j) (j.rest ++ written) p

-- The answers of an attempt are those of such a point; what it wrote are just the commands that the
-- calls up to there define and that weren't recorded; and while recorded commands are left, it has
-- written none.
pub record ToldBy (fixed : Fixed) (fed : Heard) (answers_so_far : List Answer)
    (written : List RawMessage) : Type 0 where
  pub journal : Journal fed
  pub at : Point
  pub told : IsToldPoint fixed journal written at
  pub answers : at.answers ≡ answers_so_far
  pub moves : ℕ
  pub made : MovesTo fixed journal moves written at
  pub in_order : (written ≡ []) ⊎ (at.left ≡ [])

-- the same of a record
abbrev pub AnswersAreTold : Fixed → Record → Type 0
AnswersAreTold fixed r = ToldBy fixed (heard fixed.version r) r.answers (written_by r)

-- An await waits rightly: with all arrivals that were fed no point with more answers is reached on
-- the journal; and once all its commands and all arrivals are used, the run needs one more arrival.
pub record IsAsleep (fixed : Fixed) (fed : Heard) (answers_so_far : List Answer)
    (written : List RawMessage) : Type 0 where
  pub journal : Journal fed
  pub future : UnresolvedFuture
  pub awaits : fixed.handler answers_so_far ≡ step.Await future
  pub asleep : (p : Point) → IsToldPoint fixed journal written p → IsPrefix p.answers answers_so_far
  pub at : Point
  pub told : IsToldPoint fixed journal written at
  pub answers : at.answers ≡ answers_so_far
  pub no_arrival : at.queue ≡ []
  pub no_command : at.left ≡ []
  pub asks : next_move fixed journal at ≡ Awaits

-- the same of a record
abbrev pub NothingWakes : Fixed → Record → Type 0
NothingWakes fixed r = IsAsleep fixed (heard fixed.version r) r.answers (written_by r)

-- an await waits rightly, by what was written
abbrev pub AwaitWaits : Fixed → Heard → List Answer → List (List ℕ) → View → Type 0
AwaitWaits fixed fed answers taken vm = (written : List RawMessage)
    × Wrote taken vm.machine.output written × IsAsleep fixed fed answers written

-- A call is refused that began while recorded commands were left: the run reaches a point with
-- these answers from which no move leads on, for this reason; one Error is written, which says so
-- by the error rule, and the VM fails by it. A cancelled await may have made commands before it,
-- but none while recorded ones were left.
pub record RefusesReplay (fixed : Fixed) (fed : Heard) (answers_so_far : List Answer) (e : Error)
    (old new : Machine) : Type 0 where
  pub journal : Journal fed
  pub at : Point
  pub moves : ℕ
  pub written : List RawMessage
  pub none_before : (written ≡ []) ⊎ (at.left ≡ [])
  pub made : MovesTo fixed journal moves written at
  pub answers : at.answers ≡ answers_so_far
  pub why : NamedFault
  pub reason : IsRefusedFor (next_move fixed journal at) at.left at.queue why
  pub related : Option RelatedCommand
  pub error : e ≡ ruled old (named_error why related)
  pub output : new.output ≡ old.output
      ++ (command_frames written ++ encoding (message.Error (error_message e)) ∷ [])
  pub failure : new.failure ≡ Some e

-- A call that may make more than one command, and began while recorded ones were left, found no
-- memory for one of them. It may have made others before, each whole, but none while recorded ones
-- were left.
pub record StarvesReplay (fixed : Fixed) (fed : Heard) (answers_so_far : List Answer) (e : Error)
    (old new : Machine) : Type 0 where
  pub journal : Journal fed
  pub at : Point
  pub moves : ℕ
  pub written : List RawMessage
  pub none_before : (written ≡ []) ⊎ (at.left ≡ [])
  pub made : MovesTo fixed journal moves written at
  pub answers : at.answers ≡ answers_so_far
  pub many : MakesMany (ask_of fixed.version (fixed.handler at.answers))
  pub error : e ≡ no_memory
  pub output : new.output ≡ old.output ++ command_frames written
  pub failure : new.failure ≡ Some e

-- While recorded commands are left, the handler's call is answered, and nothing is written, or no
-- recorded command is left any more; or it is refused; or out of memory.
abbrev pub AnswersInReplay : Fixed → Record → Result Progress Error → Record → Type 0
AnswersInReplay fixed old (Ok progress.Stepped) new = (new.vm.machine.output
    ≡ old.vm.machine.output)
    ⊎ (new.vm.machine.phase ≡ Processing)
AnswersInReplay fixed old (Ok progress.NotReady) new = ⊥
AnswersInReplay fixed old (Ok (progress.Waiting input run)) new = ⊥
AnswersInReplay fixed old (Ok (progress.ExecuteRun run)) new = ⊥
AnswersInReplay fixed old (Ok progress.Suspended) new = ⊥
AnswersInReplay fixed old (Ok progress.Ended) new = ⊥
AnswersInReplay fixed old (Err e) new =
    (new.starved ≡ true)
    ⊎ (IsStarved old.vm.machine e new.vm.machine
    ⊎ (StarvesReplay fixed (heard fixed.version old) old.answers e old.vm.machine new.vm.machine
    ⊎ RefusesReplay fixed (heard fixed.version old) old.answers e old.vm.machine new.vm.machine))

-- the VM can make calls: it has neither failed nor ended, nor is the invocation suspended
pub record IsLive (v : Machine) : Type 0 where
  pub failure : v.failure ≡ None
  pub phase : is_running v.phase ≡ true

-- What a machine keeps are the proposals that weren't acknowledged, and each acknowledgement found
-- its proposal.
abbrev pub KeepsProposals : {fed : Heard} → Journal fed → Machine → Type 0
KeepsProposals {fed} j v = (v.proposals ≡ kept_after fed.proposed (j.entries ++ j.others))
    × AllFound fed.proposed (j.entries ++ j.others)

-- nothing is proposed before no recorded command is left
abbrev pub ProposesLate : Heard → Phase → Type 0
ProposesLate fed phase = (fed.proposed ≡ []) ⊎ (phase ≡ Processing)

-- the handler still makes the await that waits
abbrev pub StillAwaits : Meaning → Point → Option UnresolvedFuture → Type 0
StillAwaits m p None = Unit {0}
StillAwaits m p (Some future) = m p.answers ≡ step.Await future

-- The handler runs: a number of moves leads from the point after the input to one with the
-- attempt's answers, and made what was written; and as long as the VM can make calls it agrees with
-- that point.
pub record HandlerRuns (fixed : Fixed) (fed : Heard) (answers_so_far : List Answer)
    (waiting : Option UnresolvedFuture) (taken : List (List ℕ)) (vm : View) : Type 0 where
  pub journal : Journal fed
  pub written : List RawMessage
  pub wrote : Wrote taken vm.machine.output written
  pub at : Point
  pub moves : ℕ
  pub run : MovesTo fixed journal moves written at
  pub answers : at.answers ≡ answers_so_far
  pub awaits : StillAwaits fixed.handler at waiting
  pub agrees : IsLive vm.machine
      → Agrees (setup_for fixed journal.start) (start_state journal) written vm.machine at
  pub rests : IsLive vm.machine → at.derived.parts ≡ 0
  pub keeps : IsLive vm.machine → KeepsProposals journal vm.machine
  pub phase : vm.machine.failure ≡ None → (is_running vm.machine.phase ≡ true)
      ⊎ (vm.machine.phase ≡ Closed)
  pub tail : IsLive vm.machine → (frames_of (bytes_fed fed)).1 ≡ Rest vm.undecoded

-- Where the recorded commands are skipped, the completion ids that the written commands carry, and
-- those of commands to come, are past all that the recorded ones carry: from this one on.
pub record NumbersOn (recorded written : List RawMessage) (v : Machine) : Type 0 where
  pub next : ℕ
  pub past : AreBelow next (all_carried recorded)
  pub from : AreFrom next (all_carried written)
  pub further : IsLive v → next ≤ v.counters.completion

-- The handler has read its input, which the journal begins with. What was written are the frames of
-- messages. The VM was made for this version and these options; it runs, or it is closed or has
-- failed.
pub record JournalCame (fixed : Fixed) (fed : Heard) (answers_so_far : List Answer)
    (taken : List (List ℕ)) (vm : View) : Type 0 where
  pub journal : Journal fed
  pub answered : answers_so_far ≢ []
  pub written : List RawMessage
  pub wrote : Wrote taken vm.machine.output written
  pub made_for : IsLive vm.machine → (vm.machine.version ≡ fixed.version)
      × (vm.machine.options ≡ fixed.options)
  pub keeps : IsLive vm.machine → KeepsProposals journal vm.machine
  pub early : IsLive vm.machine → ProposesLate fed vm.machine.phase
  pub fresh : fixed.options.journal_replay ≡ Disabled
      → NumbersOn (journal.first ∷ journal.rest) written vm.machine
  pub phase : vm.machine.failure ≡ None → (is_running vm.machine.phase ≡ true)
      ⊎ (vm.machine.phase ≡ Closed)
  pub tail : IsLive vm.machine → (frames_of (bytes_fed fed)).1 ≡ Rest vm.undecoded

-- The first frame was a Start: the VM waits for known entries, or has them all.
pub record Begun (fixed : Fixed) (fed : Heard) (machine : Machine) : Type 0 where
  pub first_frame : RawMessage
  pub others : List RawMessage
  pub frames : frames_fed fed ≡ first_frame ∷ others
  pub start : Start
  pub reads_start : start_in first_frame.body ≡ Some start
  pub state : List (List ℕ × Option (List ℕ))
  pub reads_state : entries_in start.state ≡ Some state
  pub aside : Aside
  pub of_start : aside.start ≡ start_info_of fixed.version fixed.options.fallback_random_seed start
  pub waits : StillWaits (setup_for fixed start)
      (record { entries = state; coverage = coverage_of start.partial }) aside start.known_entries
      [] [] others machine
      ⊎ HasAll (setup_for fixed start)
      (record { entries = state; coverage = coverage_of start.partial }) aside
      start.known_entries [] [] others machine

-- no frame came, or the first was a Start
abbrev pub Comes : Fixed → Heard → Machine → Type 0
Comes fixed fed machine = ((frames_fed fed ≡ [])
    × ((alloc : Global) × (machine ≡ fresh alloc fixed.version fixed.options)))
    ⊎ Begun fixed fed machine

-- The handler hasn't read its input: nothing was answered, and no command and no proposal was
-- written.
pub record BeforeInput (fixed : Fixed) (fed : Heard) (answers_so_far : List Answer)
    (waiting : Option UnresolvedFuture) (taken : List (List ℕ)) (vm : View) : Type 0 where
  pub answers : answers_so_far ≡ []
  pub none_proposed : fed.proposed ≡ []
  pub waits_not : waiting ≡ None
  pub wrote : Wrote taken vm.machine.output []
  pub comes : vm.machine.failure ≡ None → Comes fixed fed vm.machine
  pub tail : vm.machine.failure ≡ None → (frames_of (bytes_fed fed)).1 ≡ Rest vm.undecoded

-- what came and what was written, under all options and for all input
abbrev pub HasCome : Fixed → Record → Type 0
HasCome fixed r = BeforeInput fixed (heard fixed.version r) r.answers r.waiting r.taken r.vm
    ⊎ JournalCame fixed (heard fixed.version r) r.answers r.taken r.vm

-- what each call of an attempt keeps of its handler's run
abbrev pub IsKept : Fixed → Record → Type 0
IsKept fixed r = BeforeInput fixed (heard fixed.version r) r.answers r.waiting r.taken r.vm
    ⊎ HandlerRuns fixed (heard fixed.version r) r.answers r.waiting r.taken r.vm

-- the same, under the premises
abbrev pub IsKeptUnder : Fixed → Record → Type 0
IsKeptUnder fixed r = Premises fixed (heard fixed.version r) → IsKept fixed r

-- The journal that was fed is a history of the handler, from each base by which its eager reads are
-- right, if nothing was fed after it.
pub record ProvesHistory (fixed : Fixed) (fed : Heard) : Type 0 where
  pub journal : Journal fed
  pub history : journal.others ≡ [] → (base : StateMap) → EagerFrom base journal.rest
      → History (setup_for fixed journal.start) fixed.handler base (as_entries journal.entries)

-- The handler has read its input, and as long as recorded commands are left it runs. Once none is
-- left, the journal is a history of it.
pub record InReplay (fixed : Fixed) (fed : Heard) (answers_so_far : List Answer)
    (waiting : Option UnresolvedFuture) (taken : List (List ℕ)) (vm : View) : Type 0 where
  pub came : JournalCame fixed fed answers_so_far taken vm
  pub run : vm.machine.failure ≡ None → vm.machine.phase ≡ Replaying
      → HandlerRuns fixed fed answers_so_far waiting taken vm
  pub proves : vm.machine.failure ≡ None → vm.machine.phase ≡ Processing → ProvesHistory fixed fed

-- what each call of an attempt keeps in replay, under the premises of replay
abbrev pub IsKeptInReplay : Fixed → Record → Type 0
IsKeptInReplay fixed r =
    ReplayPremises fixed (heard fixed.version r)
    → BeforeInput fixed (heard fixed.version r) r.answers r.waiting r.taken r.vm
    ⊎ InReplay fixed (heard fixed.version r) r.answers r.waiting r.taken r.vm

-- once the handler's await was suspended it waits rightly, under the premises
abbrev pub StillSleeps : Fixed → Record → Type 0
StillSleeps fixed r = Premises fixed (heard fixed.version r) → (made : Progress) → r.over
    ≡ Some made → IfWaits (Ok made)
    (AwaitWaits fixed (heard fixed.version r) r.answers r.taken r.vm)
