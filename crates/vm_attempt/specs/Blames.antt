-- Why an attempt failed.
use Rattle.std.specs.Prelude.{◌≡◌, ◌≢◌, ◌⊎◌, ℕ, ◌+◌, ◌<◌, ◌≤◌, ◌==◌, Bool, true, false, if◌then◌else◌, length, drop, List, [], ◌∷◌, ◌++◌, Option, Some, None, Result, Ok, Err}
use Rattle.std.specs.Result.{result_err}
use Rattle.std.proofs.Common.{Global}
use Rattle.journal_protocol.specs.InputCommand.{InputCommand}
use Rattle.journal_protocol.specs.Error.{Error}
use Rattle.journal_protocol.specs.RelatedCommand.{RelatedCommand}
use Rattle.journal_protocol.specs.NamedFault.{NamedFault}
use Rattle.journal_protocol.specs.NamedFault.TheVariants as fault
use Rattle.journal_protocol.specs.RawMessage.{RawMessage}
use Rattle.journal_protocol.specs.GetStateEphemeralNotification.{GetStateEphemeralNotification}
use Rattle.journal_protocol.specs.VoidOrValue.{VoidOrValue}
use Rattle.journal_protocol.specs.Notification.{Notification}
use Rattle.journal_protocol.specs.Start.{Start}
use Rattle.journal_protocol.specs.MessageType.TheVariants as type
use Rattle.journal_protocol.specs.Errors.{named_error, no_memory}
use Rattle.journal_protocol.specs.ProposeRunCompletionAck.{ProposeRunCompletionAck}
use Rattle.journal_protocol.specs.Bodies.{acknowledgement_in, notification_in, start_in, ephemeral_notification_in}
use Rattle.vm_retries.specs.declared.policy.RetryPolicy.{RetryPolicy}
use Rattle.vm_types.specs.declared.runs.RunExitResult.{RunExitResult}
use Rattle.vm_runs.specs.Kept.{is_for}
use Rattle.await_trees.specs.declared.handle.NotificationHandle.{NotificationHandle}
use Rattle.await_trees.specs.declared.tree.UnresolvedFuture.{UnresolvedFuture}
use Rattle.journal_protocol.specs.ProposeRunCompletion.{ProposeRunCompletion}
use Rattle.std.specs.List.{find}
use Rattle.journal_protocol.specs.Types.{type_number}
use Rattle.vm_state.specs.declared.state_map.StateMap.{StateMap}
use Rattle.vm_state.specs.Counting.{fresh_counters}
use Rattle.vm_asks.specs.Carried.{past_all}
use Rattle.vm_machine.specs.Skips.{counters_past}
use Rattle.vm_types.specs.declared.options.JournalReplay.TheVariants.{Disabled}
use Rattle.vm_types.specs.declared.steps.Answer.{Answer}
use Rattle.vm_machine.specs.declared.machine.Machine.{Machine}
use Rattle.vm_machine.specs.declared.phase.Phase.{Phase}
use Rattle.vm_machine.specs.declared.phase.Phase.TheVariants.{WaitingStart, WaitingReplayEntries, Replaying, Processing, Closed}
use Rattle.vm_machine.specs.Inputs.{entries_in}
use Rattle.vm_machine.specs.Outcomes.{Failed, ruled, ruled_by}
use Rattle.vm_machine.specs.Proposals.{Proposes}
use Rattle.journal_entries.specs.Frames.{Garbage, Rest, frames_of}
use Rattle.invocation_vm.specs.Views.{View, all_received}
use Rattle.vm_model.specs.Calls.Move.{Refuses}
use Rattle.vm_model.specs.Histories.{History, after_head as behind_first}
use Rattle.journal_entries.specs.Journal.{input_read_from}
use Rattle.vm_model.specs.Moves.{Point}
use Rattle.vm_model.specs.Refusals.{IsRefusedFor}
use Rattle.vm_attempt.specs.Arrivals.{kept_after}
use Rattle.vm_attempt.specs.Courses.{FailedByCall, FailedByResult, first_record}
use Rattle.vm_attempt.specs.Heard.{Heard}
use Rattle.vm_attempt.specs.Steps.{Performs}
use Rattle.vm_attempt.specs.Stepping.{asked_from}
use Rattle.vm_attempt.specs.declared.progress.Progress.{Progress}
use Rattle.journal_entries.specs.JournalFrames.{as_entries, commands_among, is_acknowledgement, is_command_frame, is_ephemeral, is_notification}
use Rattle.vm_attempt.specs.Journals.{setup_for}
use Rattle.vm_attempt.specs.Record.{Record, Said, all_heard, all_said, heard}
use Rattle.vm_attempt.specs.Told.{AreRightlyKinded, IsLive, ProposesLate, Journal, Premises, bytes_fed, frames_fed, MovesTo, next_move}
use Rattle.vm_model.specs.Fixed.{Fixed}

-- an error as the error rule says it in a VM that was made for this
abbrev pub ruled_for : Fixed → Error → Error
ruled_for fixed e = ruled_by fixed.version fixed.options e

-- ---- frames

-- why a Start is refused: a state key is no text, or it says that there is no entry
abbrev pub refused_start : Start → Option (List (List ℕ × Option (List ℕ))) → Option NamedFault
refused_start st None = Some fault.BadEagerStateKey
refused_start st (Some entries) = if st.known_entries == 0 then Some fault.KnownEntriesIsZero
    else None

-- why a body is refused as a Start
abbrev pub start_fault : Option Start → Option NamedFault
start_fault None = Some fault.BadMessage
start_fault (Some st) = refused_start st (entries_in st.state)

-- why a body is refused as a notification
abbrev pub notification_fault : Option Notification → Option NamedFault
notification_fault None = Some fault.BadMessage
notification_fault (Some n) = None

-- why an acknowledgement is refused, by the kept proposal of its id
abbrev pub kept_fault : Option ProposeRunCompletion → Option NamedFault
kept_fault None = Some fault.BadProposeRunCompletionAck
kept_fault (Some kept) = None

-- why a body is refused as an acknowledgement, where these proposals are kept
abbrev pub acknowledgement_body_fault : List ProposeRunCompletion → Option ProposeRunCompletionAck
    → Option NamedFault
acknowledgement_body_fault kept None = Some fault.BadMessage
acknowledgement_body_fault kept (Some ack) = kept_fault (find (is_for ack.id) kept)

-- why an acknowledgement is refused in this phase
abbrev pub acknowledgement_fault : List ProposeRunCompletion → Phase → RawMessage
    → Option NamedFault
acknowledgement_fault kept Processing raw =
    acknowledgement_body_fault kept (acknowledgement_in raw.body)
acknowledgement_fault kept Closed raw = None
acknowledgement_fault kept phase raw = Some fault.UnexpectedState

-- why the result of an ephemeral read is refused: there has to be one
abbrev pub found_fault : Option VoidOrValue → Option NamedFault
found_fault None = Some fault.EmptyGetStateEphemeralNotification
found_fault (Some found) = None

-- why a body is refused as the notification of an ephemeral read
abbrev pub ephemeral_body_fault : Option GetStateEphemeralNotification → Option NamedFault
ephemeral_body_fault None = Some fault.BadMessage
ephemeral_body_fault (Some n) = found_fault n.result

-- why the notification of an ephemeral read is refused in this phase
abbrev pub ephemeral_fault : Phase → RawMessage → Option NamedFault
ephemeral_fault Processing raw = ephemeral_body_fault (ephemeral_notification_in raw.body)
ephemeral_fault Closed raw = None
ephemeral_fault phase raw = Some fault.UnexpectedState

-- why a frame is refused that is of no other kind, by whether it is the notification of an
-- ephemeral read: no other one comes
abbrev pub unknown_fault : Bool → Phase → RawMessage → Option NamedFault
unknown_fault true phase raw = ephemeral_fault phase raw
unknown_fault false phase raw = Some fault.UnexpectedInputMessage

-- why another frame is refused, by whether it is an acknowledgement
abbrev pub other_fault : List ProposeRunCompletion → Phase → RawMessage → Bool → Option NamedFault
other_fault kept phase raw true = acknowledgement_fault kept phase raw
other_fault kept phase raw false = unknown_fault (is_ephemeral raw) phase raw

-- why a frame is refused in this phase, where these proposals are kept, by whether it is a Start, a
-- command, a notification or an acknowledgement
abbrev pub fault_by : List ProposeRunCompletion → Phase → RawMessage → Bool → Bool → Bool → Bool
    → Option NamedFault
fault_by kept WaitingStart raw true b c d = start_fault (start_in raw.body)
fault_by kept phase raw true b c d = Some fault.UnexpectedInputMessage
fault_by kept WaitingReplayEntries raw false true c d = None
fault_by kept phase raw false true c d = Some fault.UnexpectedEntryMessage
fault_by kept WaitingStart raw false false true d = Some fault.UnexpectedState
fault_by kept Closed raw false false true d = None
fault_by kept phase raw false false true d = notification_fault (notification_in raw.body)
fault_by kept phase raw false false false d = other_fault kept phase raw d

-- why a frame is refused in this phase, where these proposals are kept, if it is
abbrev pub fault_among : List ProposeRunCompletion → Phase → RawMessage → Option NamedFault
fault_among kept phase raw =
    fault_by kept phase raw (type_number raw.ty == 1) (is_command_frame raw)
    (is_notification raw) (is_acknowledgement raw)

-- why a frame that acknowledges nothing is refused in this phase of an attempt, if it is
abbrev pub phase_fault : Phase → RawMessage → Option NamedFault
phase_fault phase raw = fault_among [] phase raw

-- The first of the frames that is refused in the phase in which it comes; the machine has failed
-- for that reason.
pub record FailsAt (raws : List RawMessage) (v m : Machine) : Type 0 where
  pub before : List RawMessage
  pub raw : RawMessage
  pub behind : List RawMessage
  pub split : raws ≡ before ++ raw ∷ behind
  pub live : (all_received before v).failure ≡ None
  pub why : NamedFault
  pub reason : fault_among (all_received before v).proposals (all_received before v).phase raw
      ≡ Some why
  pub failure : m.failure ≡ Some (ruled v (named_error why None))

-- a Start came, and a number of frames after it
pub record Began (frames : List RawMessage) (count : ℕ → ℕ → Type 0) : Type 0 where
  pub first : RawMessage
  pub others : List RawMessage
  pub is : frames ≡ first ∷ others
  pub start : Start
  pub reads : start_in first.body ≡ Some start
  pub counts : count (length others) start.known_entries

-- In which phase a frame comes after these, while this number of known entries is missing: Start
-- comes first, then the known entries, then others.
abbrev pub Place : Phase → ℕ → List RawMessage → Type 0
Place WaitingStart k frames = frames ≡ []
Place WaitingReplayEntries k frames = Began frames (λ n known. (n + k ≡ known) × (0 < k))
Place Replaying k frames = Began frames (λ n known. known ≤ n)
Place Processing k frames = Began frames (λ n known. known ≤ n)
Place Closed k frames = ⊥

-- One of the frames that were fed is refused in its place, where these proposals are kept that
-- weren't acknowledged before it.
pub record BadFrame (fixed : Fixed) (fed : Heard) (e : Error) : Type 0 where
  pub before : List RawMessage
  pub raw : RawMessage
  pub behind : List RawMessage
  pub split : frames_fed fed ≡ before ++ raw ∷ behind
  pub phase : Phase
  pub missing : ℕ
  pub place : Place phase missing before
  pub late : ProposesLate fed phase
  pub why : NamedFault
  pub reason : fault_among (kept_after fed.proposed (behind_first before)) phase raw ≡ Some why
  pub error : e ≡ ruled_for fixed (named_error why None)

-- known entries are missing
abbrev pub LacksEntries : List RawMessage → Type 0
LacksEntries frames = (frames ≡ []) ⊎ Began frames (λ n known. n < known)

-- ---- calls

-- the input that the first of some commands is
abbrev pub first_input : List RawMessage → Option InputCommand
first_input [] = None
first_input (c ∷ cs) = input_read_from c

-- the input, as an error that relates to it shows it
abbrev pub the_input : RelatedCommand
the_input = record { index = 0; ty = type.InputCommand; name = [] }

-- why the first of some commands is no input: there is none, or it is of another type, or it can't
-- be read
abbrev pub no_input_fault : List RawMessage → NamedFault
no_input_fault [] = fault.UnavailableEntry
no_input_fault (c ∷ cs) = if type_number c.ty == type_number type.InputCommand then fault.BadMessage
    else fault.CommandTypeMismatch

-- the known entries have come, and the first command among them is no input
pub record LacksInput (fixed : Fixed) (frames : List RawMessage) (e : Error) : Type 0 where
  pub first : RawMessage
  pub entries : List RawMessage
  pub others : List RawMessage
  pub is : frames ≡ first ∷ (entries ++ others)
  pub start : Start
  pub reads : start_in first.body ≡ Some start
  pub count : length entries ≡ start.known_entries
  pub none : first_input (commands_among entries) ≡ None
  pub error : e ≡ ruled_for fixed
      (named_error (no_input_fault (commands_among entries)) (Some the_input))

-- why this number of commands after the input can't be skipped, by the completion id that is next
-- past all that they carry, if they can be read
abbrev pub skip_fault : ℕ → Option ℕ → Option NamedFault
skip_fault dropped None = Some fault.BadMessage
skip_fault dropped (Some id) = result_err (counters_past dropped id fresh_counters)

-- Recorded commands are skipped, and one of those after the input can't be read, or a kind of
-- number runs out past them.
pub record CannotSkip (fixed : Fixed) (frames : List RawMessage) (e : Error) : Type 0 where
  pub skips : fixed.options.journal_replay ≡ Disabled
  pub first : RawMessage
  pub entries : List RawMessage
  pub others : List RawMessage
  pub is : frames ≡ first ∷ (entries ++ others)
  pub start : Start
  pub reads : start_in first.body ≡ Some start
  pub count : length entries ≡ start.known_entries
  pub why : NamedFault
  pub reason : skip_fault (length (drop 1 (commands_among entries)))
      (past_all 1 (drop 1 (commands_among entries))) ≡ Some why
  pub error : e ≡ ruled_for fixed (named_error why (Some the_input))

-- The handler's call was refused for this reason, at the point with these answers to which the
-- attempt's own run leads: it made what was written. To which command the error relates depends on
-- the machine, so `ComesByCall` says it, by the call.
pub record RefusedCall (fixed : Fixed) (fed : Heard) (answers_so_far : List Answer)
    (e : Error) : Type 0 where
  pub journal : Journal fed
  pub written : List RawMessage
  pub at : Point
  pub moves : ℕ
  pub made : MovesTo fixed journal moves written at
  pub answers : at.answers ≡ answers_so_far
  pub why : NamedFault
  pub reason : IsRefusedFor (next_move fixed journal at) at.left at.queue why
  pub related : Option RelatedCommand
  pub error : e ≡ ruled_for fixed (named_error why related)

-- The handler's call failed by this error: its call after these answers, or the await that waits,
-- in a machine of this version and with these options that could make calls.
pub record FailsAtCall (fixed : Fixed) (answers_so_far : List Answer) (e : Error) : Type 0 where
  pub waiting : Option UnresolvedFuture
  pub machine : Machine
  pub left : Machine
  pub live : IsLive machine
  pub made_for : (machine.version ≡ fixed.version) × (machine.options ≡ fixed.options)
  pub fails : Performs (asked_from waiting (fixed.handler answers_so_far)) machine (Failed e left)

-- ---- results of runs

-- The outcome of an executed run was refused, or fails the attempt, so that it is tried again or
-- paused, in some machine of this version. It is the run whose result failed the VM. So much an
-- attempt keeps of such an error; `RefusedResult` says which report it was.
pub record ReportedResult (fixed : Fixed) (failed_by : Option NotificationHandle)
    (e : Error) : Type 0 where
  pub handle : NotificationHandle
  pub is_told : failed_by ≡ Some handle
  pub exit : RunExitResult
  pub policy : RetryPolicy
  pub machine : Machine
  pub left : Machine
  pub why : Error
  pub proposes : Proposes handle exit policy machine (Failed why left)
  pub version_is : machine.version ≡ fixed.version
  pub error : e ≡ ruled_for fixed why

-- The outcome of an executed run was refused, or fails the attempt, so that it is tried again or
-- paused. It was reported in one of the calls that led to this record, to a VM that hadn't failed;
-- this error is what the VM returned, and its failure since then.
pub record RefusedResult (fixed : Fixed) (r : Record) (e : Error) : Type 0 where
  pub handle : NotificationHandle
  pub is_told : r.failed_by ≡ Some handle
  pub alloc : Global
  pub reported : FailedByResult fixed.handler (first_record alloc fixed) r handle
  pub error : e ≡ reported.error

-- ---- why an attempt failed

-- Out of memory; a frame was refused, or bytes were no frame; the input was closed while known
-- entries were missing; the journal has no input, or its commands can't be skipped; the handler's
-- call was refused, or an await found no memory for one of its commands; or a run's result failed
-- the VM, as `ByResult` says of the error.
pub data Blame (fixed : Fixed) (fed : Heard) (closed : Bool) (answers : List Answer)
    (ByResult : Error → Type 0) (e : Error) : Type 0 where
  Memory : e ≡ no_memory → Blame fixed fed closed answers ByResult e
  Frame : BadFrame fixed fed e → Blame fixed fed closed answers ByResult e
  NoFrame : (frames_of (bytes_fed fed)).1 ≡ Garbage → e
      ≡ ruled_for fixed (named_error fault.BadMessage None)
      → Blame fixed fed closed answers ByResult e
  ClosedEarly : closed ≡ true → LacksEntries (frames_fed fed) → e
      ≡ ruled_for fixed (named_error fault.InputClosedWhileWaitingEntries None)
      → Blame fixed fed closed answers ByResult e
  NoInput : LacksInput fixed (frames_fed fed) e → Blame fixed fed closed answers ByResult e
  NoSkip : CannotSkip fixed (frames_fed fed) e → Blame fixed fed closed answers ByResult e
  Call : FailsAtCall fixed answers e
      → (Premises fixed fed → (e ≡ no_memory) ⊎ RefusedCall fixed fed answers e)
      → Blame fixed fed closed answers ByResult e
  RunResult : ByResult e → Blame fixed fed closed answers ByResult e

-- Why an attempt failed, by what it keeps of itself.
abbrev pub KeptBlame : Fixed → Heard → Said → List Answer → Error → Type 0
KeptBlame fixed fed said answers e =
    Blame fixed fed said.closed answers (ReportedResult fixed said.failed_by) e

-- Out of memory, or the error by which one of the attempt's calls failed its VM. What that call
-- does fixes its text, its code, what becomes of the invocation, and the command that it relates
-- to.
abbrev pub ComesByCall : Fixed → Record → Error → Type 0
ComesByCall fixed r e =
    (e ≡ no_memory)
    ⊎ ((alloc : Global) × FailedByCall fixed.handler (first_record alloc fixed) r e)

-- As long as an attempt is not over, its VM isn't closed, and has failed only for such a reason.
pub record BlamedAt (fixed : Fixed) (over : Option Progress) (fed : Heard) (said : Said)
    (answers : List Answer) (v : Machine) : Type 0 where
  pub open_yet : over ≡ None → v.failure ≡ None → v.phase ≢ Closed
  pub blame : over ≡ None → (e : Error) → v.failure ≡ Some e → KeptBlame fixed fed said answers e

-- the same of a record
abbrev pub IsBlamed : Fixed → Record → Type 0
IsBlamed fixed r = BlamedAt fixed r.over (heard fixed.version r) (all_said r) r.answers r.vm.machine

-- Once the attempt is over its VM is closed, after the known entries, or has failed for such a
-- reason.
pub record BehindEnd (fixed : Fixed) (all : Heard) (said : Said) (answers : List Answer)
    (vm : View) : Type 0 where
  pub phase : vm.machine.failure ≡ None → vm.machine.phase ≡ Closed
  pub place : vm.machine.failure ≡ None → Began (frames_fed all) (λ n known. known ≤ n)
  pub made_for : vm.machine.failure ≡ None → (vm.machine.version ≡ fixed.version)
      × (vm.machine.options ≡ fixed.options)
  pub tail : vm.machine.failure ≡ None → (frames_of (bytes_fed all)).1 ≡ Rest vm.undecoded
  pub blame : (e : Error) → vm.machine.failure ≡ Some e → KeptBlame fixed all said answers e

-- before the end no piece comes late
abbrev pub LateBy : Option Progress → Fixed → Record → Type 0
LateBy None fixed r = r.late ≡ []
LateBy (Some made) fixed r = BehindEnd fixed (all_heard fixed.version r) (all_said r) r.answers r.vm

-- the same of a record
abbrev pub IsLate : Fixed → Record → Type 0
IsLate fixed r = LateBy r.over fixed r

-- where a step answers an error
abbrev pub IfError : Result Progress Error → (Error → Type 0) → Type 0
IfError (Ok progress) P = Unit {0}
IfError (Err e) P = P e

-- ---- honest attempts

-- Each frame has its place and is whole there, or acknowledges a result that the attempt has
-- proposed, each once; no bytes are garbage, the known entries are a history of the handler, the
-- premises hold, and each result of an invocation's id is one.
pub record IsHonest (fixed : Fixed) (fed : Heard) : Type 0 where
  pub premises : Premises fixed fed
  pub kinds : AreRightlyKinded fixed fed
  pub frames : (before : List RawMessage) (raw : RawMessage) (behind : List RawMessage)
      (phase : Phase) (k : ℕ) → frames_fed fed ≡ before ++ raw ∷ behind → Place phase k before
      → is_acknowledgement raw ≡ false → phase_fault phase raw ≡ None
  pub acknowledgements : (before : List RawMessage) (raw : RawMessage) (behind : List RawMessage)
      → frames_fed fed ≡ before ++ raw ∷ behind → is_acknowledgement raw ≡ true
      → acknowledgement_body_fault (kept_after fed.proposed (behind_first before))
      (acknowledgement_in raw.body)
      ≡ None
  pub whole : (frames_of (bytes_fed fed)).1 ≢ Garbage
  pub history : (first : RawMessage) (entries others : List RawMessage) (st : Start)
      → frames_fed fed ≡ first ∷ (entries ++ others) → start_in first.body ≡ Some st
      → length entries ≡ st.known_entries → (base : StateMap)
      × History (setup_for fixed st) fixed.handler base (as_entries entries)

-- The call was refused for a reason of its own at the point to which the attempt's own run leads:
-- an argument or version check, numbers that ran out, a state key that is no text. It isn't that
-- the result of an invocation's id is none.
pub record RefusedItself (fixed : Fixed) (fed : Heard) (answers_so_far : List Answer)
    (e : Error) : Type 0 where
  pub journal : Journal fed
  pub written : List RawMessage
  pub at : Point
  pub moves : ℕ
  pub made : MovesTo fixed journal moves written at
  pub answers : at.answers ≡ answers_so_far
  pub none_recorded : at.left ≡ []
  pub why : NamedFault
  pub reason : next_move fixed journal at ≡ Refuses why
  pub expected : why ≢ fault.UnexpectedInvocationIdResult
  pub related : Option RelatedCommand
  pub error : e ≡ ruled_for fixed (named_error why related)

-- what an error of an honest attempt is, where this says of it that a run's result failed the VM
abbrev pub IsOwnError : Fixed → Heard → Bool → List Answer → (Error → Type 0) → Error → Type 0
IsOwnError fixed fed closed answers ByResult e =
    (e ≡ no_memory)
    ⊎ (((closed ≡ true) × LacksEntries (frames_fed fed)
    × (e ≡ ruled_for fixed (named_error fault.InputClosedWhileWaitingEntries None)))
    ⊎ (RefusedItself fixed fed answers e ⊎ ByResult e))
