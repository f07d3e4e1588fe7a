-- What the calls of an attempt do to its record.
use Rattle.std.specs.Prelude.{◌≡◌, ◌≢◌, ◌⊎◌, ℕ, ◌-◌, ◌^◌, drop, min, Bool, true, false, List, [], ◌∷◌, ◌++◌, length, Option, Some, None, Result, Ok, Err}
use Rattle.std.proofs.Common.{Global}
use Rattle.std.specs.List.{concat}
use Rattle.std.specs.declared.alloc.AllocError.{AllocError}
use Rattle.journal_protocol.specs.Error.{Error}
use Rattle.journal_protocol.specs.NamedFault.TheVariants as fault
use Rattle.journal_protocol.specs.Errors.{named_error, no_memory}
use Rattle.vm_types.specs.declared.steps.Answer.{Answer}
use Rattle.vm_types.specs.declared.steps.Answer.TheVariants as answer
use Rattle.vm_types.specs.declared.steps.Step.{Step}
use Rattle.vm_types.specs.declared.steps.Step.TheVariants as step
use Rattle.await_trees.specs.declared.handle.NotificationHandle.{NotificationHandle}
use Rattle.await_trees.specs.declared.tree.UnresolvedFuture.{UnresolvedFuture}
use Rattle.vm_retries.specs.declared.policy.RetryPolicy.{RetryPolicy}
use Rattle.vm_types.specs.declared.runs.RunExitResult.{RunExitResult}
use Rattle.journal_protocol.specs.ProposeRunCompletion.{ProposeRunCompletion}
use Rattle.vm_machine.specs.declared.machine.Machine.{Machine}
use Rattle.invocation_vm.specs.Calls.{CallsProposal}
use Rattle.vm_attempt.specs.Heard.{proposals_in}
use Rattle.vm_types.specs.declared.values.Input.{Input}
use Rattle.vm_parts.specs.Outboxes.{WholeFrames}
use Rattle.vm_machine.specs.declared.phase.Phase.{Phase}
use Rattle.vm_machine.specs.declared.phase.Phase.TheVariants.{WaitingStart, WaitingReplayEntries, Replaying, Processing, Closed}
use Rattle.vm_machine.specs.Inputs.{input_step}
use Rattle.invocation_vm.specs.Views.{StarvesAmong, messages_in_bytes, View, Calls, after_input, after_closing}
use Rattle.vm_attempt.specs.declared.progress.Fed.{Fed}
use Rattle.vm_attempt.specs.declared.progress.Progress.{Progress}
use Rattle.vm_attempt.specs.declared.progress.Progress.TheVariants as progress
use Rattle.vm_attempt.specs.declared.progress.Reply.{Reply}
use Rattle.vm_attempt.specs.declared.progress.Reply.TheVariants as reply
use Rattle.journal_protocol.specs.Version.{Version}
use Rattle.vm_types.specs.declared.options.VMOptions.{VMOptions}
use Rattle.invocation_vm.specs.Making.{made}
use Rattle.vm_attempt.specs.Record.{AttemptView, Record, bytes_written}
use Rattle.vm_attempt.specs.Steps.{StepMade}

-- a handler's step after these answers
abbrev pub StepFunction : Type 0
StepFunction = List Answer → Step

-- an attempt that was fed nothing
abbrev pub fresh_record : View → Record
fresh_record vm = record {
  fed = [];
  late = [];
  closed = false;
  failed_by = None;
  answers = [];
  taken = [];
  proposed = [];
  waiting = None;
  starved = false;
  over = None;
  vm = vm;
}

-- an attempt is made for the version that is asked for; else the error says why, or no memory was
-- found
abbrev pub MakesAttempt : {H : Type 0} → Global → VMOptions → H → Result Version Error
    → Result (AttemptView H) Error → Type 0
MakesAttempt alloc options handler (Ok version) (Ok a) = a
    ≡ record {
      handler = handler;
      version = version;
      options = options;
      record_of = fresh_record (made alloc options version);
    }
MakesAttempt alloc options handler (Ok version) (Err e) = e ≡ no_memory
MakesAttempt alloc options handler (Err refusal) (Ok a) = ⊥
MakesAttempt alloc options handler (Err refusal) (Err e) = e ≡ refusal

-- ---- steps

-- the future of an await
abbrev pub future_in : Step → Option UnresolvedFuture
future_in (step.Await future) = Some future
future_in s = None

-- a waiting await is asked again with the same future; else the handler's next step is made
abbrev pub asked_from : Option UnresolvedFuture → Step → Step
asked_from (Some future) s = step.Await future
asked_from None s = s

-- the step that is made next
abbrev pub step_asked : StepFunction → Record → Step
step_asked meaning r = asked_from r.waiting (meaning r.answers)

-- the progress that a reply is
abbrev pub progress_of : Result Reply Error → Result Progress Error
progress_of (Ok (reply.Answer a)) = Ok progress.Stepped
progress_of (Ok (reply.Waiting input run)) = Ok (progress.Waiting input run)
progress_of (Ok (reply.Execute run)) = Ok (progress.ExecuteRun run)
progress_of (Ok reply.Suspended) = Ok progress.Suspended
progress_of (Ok reply.Ended) = Ok progress.Ended
progress_of (Err e) = Err e

-- the record once the VM has replied
abbrev pub replied : Record → Option UnresolvedFuture → Result Reply Error → View → Record
replied r future (Ok (reply.Answer a)) w = record r {
  answers = r.answers ++ a ∷ [];
  waiting = None;
  vm = w;
}
replied r future (Ok (reply.Waiting input run)) w = record r { waiting = future; vm = w }
replied r future (Ok (reply.Execute run)) w = record r { waiting = future; vm = w }
replied r future (Ok reply.Suspended) w = record r { over = Some progress.Suspended; vm = w }
replied r future (Ok reply.Ended) w = record r { over = Some progress.Ended; vm = w }
replied r future (Err e) w = record r { vm = w }

-- memory ran out in the handler, for the answer or for a copy of the future: nothing was asked
abbrev pub LacksMemory : Record → Result Progress Error → Record → Type 0
LacksMemory old result new = (result ≡ Err no_memory) × (new ≡ record old { starved = true })

-- the input is read; it is the first answer
abbrev pub InputIsRead : Record → Result Progress Error → Record → Type 0
InputIsRead old (Ok made) new =
    (made ≡ progress.Stepped)
    × ((input : Input) × (w : View) × Calls input_step (Ok input) old.vm w
    × (new ≡ record old { answers = answer.Input input ∷ []; vm = w }))
InputIsRead old (Err e) new = (w : View) × Calls input_step (Err e) old.vm w
    × (new ≡ record old { vm = w })

-- the step is made
abbrev pub MakesStep : StepFunction → Record → Result Progress Error → Record → Type 0
MakesStep meaning old result new =
    (r : Result Reply Error) × (w : View) × StepMade (step_asked meaning old) r old.vm w
    × (new ≡ replied old (future_in (step_asked meaning old)) r w) × (result ≡ progress_of r)

-- the handler runs: memory runs out, or the input is read, or the step is made
abbrev pub Advances : StepFunction → Record → Result Progress Error → Record → Type 0
Advances meaning old result new =
    LacksMemory old result new
    ⊎ (((old.answers ≡ []) × InputIsRead old result new)
    ⊎ ((old.answers ≢ []) × MakesStep meaning old result new))

-- a step in this phase
abbrev pub StepAt : Phase → StepFunction → Record → Result Progress Error → Record → Type 0
StepAt WaitingStart meaning old result new = (result ≡ Ok progress.NotReady) × (new ≡ old)
StepAt WaitingReplayEntries meaning old result new = (result ≡ Ok progress.NotReady) × (new ≡ old)
StepAt Closed meaning old result new = (result ≡ Err (named_error fault.Closed None)) × (new ≡ old)
StepAt Replaying meaning old result new = Advances meaning old result new
StepAt Processing meaning old result new = Advances meaning old result new

-- a step, unless the VM has failed or the attempt is over
abbrev pub StepUnless : Option Error → Option Progress → StepFunction → Record
    → Result Progress Error
    → Record → Type 0
StepUnless (Some e) over meaning old result new = ((result ≡ Err e) ⊎ (result ≡ Err no_memory))
    × (new ≡ old)
StepUnless None (Some made) meaning old result new = (result ≡ Ok made) × (new ≡ old)
StepUnless None None meaning old result new = StepAt old.vm.machine.phase meaning old result new

-- What a step does, the first of these that holds: once the attempt itself ran out of memory, that
-- error; after an error of the VM, that error; after Suspended or Ended, that; not ready while the
-- VM waits; the input is read; the step is made.
abbrev pub StepFrom : Bool → StepFunction → Record → Result Progress Error → Record → Type 0
StepFrom true meaning old result new = (result ≡ Err no_memory) × (new ≡ old)
StepFrom false meaning old result new =
    StepUnless old.vm.machine.failure old.over meaning old result new

-- a step, unless the attempt itself ran out of memory
abbrev pub StepDoes : StepFunction → Record → Result Progress Error → Record → Type 0
StepDoes meaning old result new = StepFrom old.starved meaning old result new

-- a step by which the handler waits for input, or is suspended
abbrev pub IfWaits : Result Progress Error → Type 0 → Type 0
IfWaits (Ok (progress.Waiting input run)) P = P
IfWaits (Ok (progress.ExecuteRun run)) P = P
IfWaits (Ok progress.Suspended) P = P
IfWaits (Ok progress.NotReady) P = Unit {0}
IfWaits (Ok progress.Stepped) P = Unit {0}
IfWaits (Ok progress.Ended) P = Unit {0}
IfWaits (Err e) P = Unit {0}

-- the handler runs, and recorded commands are left
pub record IsReplaying (r : Record) : Type 0 where
  pub runs : r.answers ≢ []
  pub starved : r.starved ≡ false
  pub over : r.over ≡ None
  pub failure : r.vm.machine.failure ≡ None
  pub phase : r.vm.machine.phase ≡ Replaying

-- ---- input

-- how many bytes stood in the output, as far as a usize goes
abbrev pub output_len : Record → ℕ
output_len r = min (length (bytes_written r)) (2 ^ 64 - 1)

-- a piece that is kept, with the numbers that stand now
abbrev pub fed_now : List ℕ → Record → Fed
fed_now piece r = record { piece = piece; answers = length r.answers; output = output_len r }

-- a piece is kept until the VM has failed; what comes to a closed VM is kept apart
abbrev pub kept_at : Option Error → Phase → List ℕ → Record → Record
kept_at (Some e) phase piece r = r
kept_at None Closed piece r = record r { late = r.late ++ fed_now piece r ∷ [] }
kept_at None _ piece r = record r { fed = r.fed ++ fed_now piece r ∷ [] }

-- a piece is kept as long as the VM takes it
abbrev pub with_piece_kept : List ℕ → Record → Record
with_piece_kept piece r = kept_at r.vm.machine.failure r.vm.machine.phase piece r

-- the record with another view of its VM
abbrev pub with_vm : View → Record → Record
with_vm w r = record r { vm = w }

-- The piece is kept and handed to the VM; or there is no memory for keeping it; or the VM finds
-- none.
abbrev pub FeedsPiece : List ℕ → Record → Result Unit AllocError → Record → Type 0
FeedsPiece piece old (Ok t) new = new
    ≡ with_vm (after_input old.vm piece) (with_piece_kept piece old)
FeedsPiece piece old (Err e) new =
    (new ≡ record old { starved = true })
    ⊎ ((w : View) × StarvesAmong (messages_in_bytes old.vm piece) old.vm.machine w.machine
    × (new ≡ with_vm w (with_piece_kept piece old)))

-- what a piece does: nothing once the attempt itself ran out of memory
abbrev pub FeedDoes : Bool → List ℕ → Record → Result Unit AllocError → Record → Type 0
FeedDoes true piece old result new = (result ≡ Ok tt) × (new ≡ old)
FeedDoes false piece old result new = FeedsPiece piece old result new

-- the input is closed, or the VM finds no memory
abbrev pub InputIsClosed : Record → Result Unit AllocError → Record → Type 0
InputIsClosed old (Ok t) new = new ≡ record old { closed = true; vm = after_closing old.vm }
InputIsClosed old (Err e) new = (w : View) × StarvesAmong [] old.vm.machine w.machine
    × (new ≡ record old { closed = true; vm = w })

-- what closing the input does
abbrev pub CloseDoes : Bool → Record → Result Unit AllocError → Record → Type 0
CloseDoes true old result new = (result ≡ Ok tt) × (new ≡ old)
CloseDoes false old result new = InputIsClosed old result new

-- ---- results of runs

-- the proposals among the frames that a call has written
abbrev pub newly_proposed : Machine → Machine → List ProposeRunCompletion
newly_proposed old new = proposals_in (concat (drop (length old.output) new.output))

-- the run of this handle is noted as that whose result failed the VM, unless the VM had failed
-- before
abbrev pub noted_at : Option Error → NotificationHandle → Record → Record
noted_at (Some e) handle r = r
noted_at None handle r = record r { failed_by = Some handle }

-- the run is noted if the report of its result was answered by an error
abbrev pub failed_run_noted : Result Unit Error → NotificationHandle → Record → Record
failed_run_noted (Ok t) handle r = r
failed_run_noted (Err e) handle r = noted_at r.vm.machine.failure handle r

-- The outcome of an executed run is reported to the VM; the run is noted if that failed the VM.
abbrev pub ReportsRunResult : NotificationHandle → RunExitResult → RetryPolicy → Record
    → Result Unit Error
    → Record → Type 0
ReportsRunResult handle exit policy old result new = (w : View)
    × CallsProposal handle exit policy result old.vm w
    × (new ≡ with_vm w (failed_run_noted result handle old))

-- the same, unless the attempt itself ran out of memory
abbrev pub TellsUnless : Bool → NotificationHandle → RunExitResult → RetryPolicy → Record
    → Result Unit Error → Record → Type 0
TellsUnless true handle exit policy old result new = (result ≡ Err no_memory) × (new ≡ old)
TellsUnless false handle exit policy old result new =
    ReportsRunResult handle exit policy old result new

-- The outcome of an executed run is reported to the VM. If the VM answers without an error, what it
-- has written may propose a result; else the run is noted if that failed the VM.
abbrev pub CompletesRun : NotificationHandle → RunExitResult → RetryPolicy → Record
    → Result Unit Error
    → Record → Type 0
CompletesRun handle exit policy old (Ok t) new =
    (w : View) × CallsProposal handle exit policy (Ok t) old.vm w
    × (new ≡ record old {
      proposed = old.proposed ++ newly_proposed old.vm.machine w.machine;
      vm = w;
    })
CompletesRun handle exit policy old (Err e) new = ReportsRunResult handle exit policy old (Err e)
    new

-- what this report does: nothing once the attempt itself ran out of memory
abbrev pub FinishDoes : Bool → NotificationHandle → RunExitResult → RetryPolicy → Record
    → Result Unit Error → Record → Type 0
FinishDoes true handle exit policy old result new = (result ≡ Err no_memory) × (new ≡ old)
FinishDoes false handle exit policy old result new = CompletesRun handle exit policy old result new

-- ---- output

-- the output is taken
abbrev pub emptied : View → View
emptied v = record v { machine = record v.machine { output = [] } }

-- all bytes that wait are taken
abbrev pub output_taken : Record → Record
output_taken r = record r { taken = r.taken ++ concat r.vm.machine.output ∷ []; vm = emptied r.vm }

-- the bytes that wait are taken, which are whole frames; or nothing is changed
abbrev pub Takes : Record → Result (List ℕ) AllocError → Record → Type 0
Takes old (Ok bytes) new = (bytes ≡ concat old.vm.machine.output) × (new ≡ output_taken old)
    × WholeFrames old.vm.machine.output
Takes old (Err e) new = new ≡ old
