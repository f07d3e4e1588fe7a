-- The calls of a VM, as events of its machine.
use Rattle.std.specs.Prelude.{◌≡◌, ◌⊎◌, ℕ, Bool, true, false, if◌then◌else◌, List, [], Option, Some, None, Result, Ok, Err, IfOk, OnOk, string_bytes}
use Rattle.std.proofs.Common.{Global}
use Rattle.std.specs.declared.string.String.{String}
use Rattle.journal_protocol.specs.Error.{Error}
use Rattle.journal_protocol.specs.Errors.{no_memory}
use Rattle.journal_protocol.specs.NamedFault.TheVariants as fault
use Rattle.vm_types.specs.declared.types.AwaitResponse.{AwaitResponse}
use Rattle.vm_types.specs.declared.types.AwaitResponse.TheVariants.{AnyCompleted, EphemeralNotificationReady}
use Rattle.vm_types.specs.declared.types.AwakeableHandle.{AwakeableHandle}
use Rattle.await_trees.specs.declared.handle.NotificationHandle.{NotificationHandle}
use Rattle.vm_retries.specs.declared.policy.RetryPolicy.{RetryPolicy}
use Rattle.vm_types.specs.declared.runs.RunExitResult.{RunExitResult}
use Rattle.vm_types.specs.declared.runs.RunHandle.{RunHandle}
use Rattle.await_trees.specs.declared.tree.UnresolvedFuture.{UnresolvedFuture}
use Rattle.vm_asks.specs.declared.command.Command.{Command}
use Rattle.vm_machine.specs.declared.machine.Machine.{Machine}
use Rattle.vm_awaits.specs.Awaits.{Awaits}
use Rattle.vm_awaits.specs.Cancels.{AwaitsWhole}
use Rattle.vm_asks.specs.Asks.{run_command}
use Rattle.vm_machine.specs.Commands.{CanBeRead, HandleFits, answered_by, commanded, knows_next}
use Rattle.vm_machine.specs.Ephemerals.{answers_ready, may_answer}
use Rattle.vm_machine.specs.Several.{AllFit, MakesAll, commanded_before}
use Rattle.vm_machine.specs.Outcomes.{CalledBy, Done, Outcome, flattened, refused}
use Rattle.vm_machine.specs.Proposals.{Proposes}
use Rattle.vm_asks.specs.declared.state_read.StateRead.{StateRead}
use Rattle.vm_machine.specs.Reads.{ReadCanBeRead, read_step}
use Rattle.vm_machine.specs.Signals.{awakeable_step}
use Rattle.vm_types.specs.Options.{skips_replay}
use Rattle.await_trees.specs.Tree.{leaf, tree_of}
use Rattle.invocation_vm.specs.Views.{View, Calls, CallsBy}

-- A call that has a command: it is answered by its first handle; what it wrote can be read back,
-- and its handles fit.
abbrev pub CallsCommand : Command → Result NotificationHandle Error → View → View → Type 0
CallsCommand c r old new = Calls (commanded c) r old new × OnOk r (CanBeRead c.message old.machine)
    × IfOk r (HandleFits c.message)

-- A call that has a command, answered by this of its first handle.
abbrev pub CallsFor : {A : Type 0} → (NotificationHandle → A) → Command → Result A Error → View
    → View → Type 0
CallsFor f c r old new =
    Calls (λ v. answered_by f (commanded c v)) r old new × OnOk r (CanBeRead c.message old.machine)

-- A call that has a command and answers nothing.
abbrev pub CallsUnit : Command → Result Unit Error → View → View → Type 0
CallsUnit c r old new = CallsFor (λ _. tt {0}) c r old new

-- A failed machine's calls return its first error, or out of memory if the error can't be copied.
abbrev pub ReturnsFirst : {A : Type 0} → Option Error → Result A Error → Type 0
ReturnsFirst None r = r ≡ Err no_memory
ReturnsFirst (Some e) r = (r ≡ Err e) ⊎ (r ≡ Err no_memory)

-- a result with this of its answer
abbrev pub result_by : {A B : Type 0} → (A → B) → Result A Error → Result B Error
result_by f (Ok a) = Ok (f a)
result_by f (Err e) = Err e

-- One of several commands of a call, with these after it: what it wrote can be read back, and all
-- handles from its first on fit.
abbrev pub CallsBefore : Command → List Command → Result NotificationHandle Error → View → View
    → Type 0
CallsBefore c cs r old new = Calls (commanded_before c cs) r old new
    × OnOk r (CanBeRead c.message old.machine) × IfOk r (AllFit c cs)

-- A call that has a command and these after it, each made by a call of its own: it is answered by
-- its first handle, and its handles fit.
abbrev pub CallsAll : Command → List Command → Result NotificationHandle Error → View → View
    → Type 0
CallsAll c cs r old new =
    MakesAll c cs r old.machine new.machine × (new.undecoded ≡ old.undecoded) × IfOk r (AllFit c cs)

-- A call that has a command and these after it, answered by this of its first handle.
abbrev pub CallsAllFor : {A : Type 0} → (NotificationHandle → A) → Command → List Command
    → Result A Error → View → View → Type 0
CallsAllFor f c cs r old new = (given : Result NotificationHandle Error)
    × MakesAll c cs given old.machine new.machine × (new.undecoded ≡ old.undecoded)
    × (r ≡ result_by f given)

-- A state read: what it wrote can be read back.
abbrev pub CallsRead : StateRead → Result NotificationHandle Error → View → View → Type 0
CallsRead r result old new =
    Calls (read_step r) result old new × OnOk result (ReadCanBeRead r old.machine)

-- the handle of a run, and whether its result is there already
abbrev pub run_handle : Bool → NotificationHandle → RunHandle
run_handle replayed handle = record { replayed = replayed; handle = handle }

-- A run: it is replayed where the completion id that it is given has a result.
abbrev pub CallsRun : List ℕ → Result RunHandle Error → View → View → Type 0
CallsRun name r old new =
    CallsFor (run_handle (knows_next old.machine)) (run_command name) r old new

-- The VM gets the result of executing a run.
abbrev pub CallsProposal : NotificationHandle → RunExitResult → RetryPolicy → Result Unit Error
    → View → View → Type 0
CallsProposal handle exit policy r old new = CallsBy (Proposes handle exit policy) r old new

-- An awakeable is made, where recorded commands are replayed.
abbrev pub new_awakeable_step : Machine → Outcome AwakeableHandle
new_awakeable_step v = if skips_replay v.options.journal_replay
    then refused fault.UnsupportedFeature v else awakeable_step v

-- an absent name is empty
abbrev pub name_or_empty : Option (String Global) → List ℕ
name_or_empty None = []
name_or_empty (Some name) = string_bytes name

-- The first part of an await of a future: notifications are used, and the ids are read of the
-- invocations that are to be cancelled.
abbrev pub CallsTry : UnresolvedFuture → Result (Result AwaitResponse Error) Error → View → View
    → Type 0
CallsTry future r old new = CallsBy (Awaits (tree_of future)) r old new

-- An await of a future, where an error by which the VM doesn't fail is an answer.
abbrev pub CallsAwait : UnresolvedFuture → Result (Result AwaitResponse Error) Error → View → View
    → Type 0
CallsAwait future r old new =
    AwaitsWhole (tree_of future) r old.machine new.machine × (new.undecoded ≡ old.undecoded)

-- An await is answered by an ephemeral read whose value is there, any of them; nothing changes.
abbrev pub AnswersReady : Result AwaitResponse Error → View → View → Type 0
AnswersReady r old new = (id : ℕ) × (may_answer id old.machine ≡ true)
    × (r ≡ Ok (EphemeralNotificationReady (record { 0 = id }))) × (new ≡ old)

-- An await of a future, while no ephemeral read has its value.
abbrev pub CallsAnyAwait : UnresolvedFuture → Result AwaitResponse Error → View → View → Type 0
CallsAnyAwait future r old new = (answered : Result (Result AwaitResponse Error) Error)
    × CallsAwait future answered old new × (r ≡ flattened answered)

-- An await of a future, by whether the value of some ephemeral read is there: it is answered before
-- all else, until it is taken.
abbrev pub CallsAwaitBy : Bool → UnresolvedFuture → Result AwaitResponse Error → View → View
    → Type 0
CallsAwaitBy true future r old new = AnswersReady r old new
CallsAwaitBy false future r old new = CallsAnyAwait future r old new

-- An await of a handle wakes at once, or nothing is changed.
abbrev pub WakesAtOnce : Bool → ℕ → Machine → Machine → Type 0
WakesAtOnce true handle old new =
    CalledBy (Awaits (leaf handle) old) old (Done (Ok AnyCompleted) new)
WakesAtOnce false handle old new = new ≡ old

-- An await of a future.
abbrev pub CallsFlatAwait : UnresolvedFuture → Result AwaitResponse Error → View → View → Type 0
CallsFlatAwait future r old new = CallsAwaitBy (answers_ready old.machine) future r old new
