-- The call that a step of a handler is, and what its answer is to the handler: one row a kind of
-- what steps ask for.
use Rattle.std.specs.Prelude.{◌≡◌, ℕ, true, false, List, [], ◌∷◌, Result, Ok, Err, OnOk}
use Rattle.journal_protocol.specs.Error.{Error}
use Rattle.vm_types.specs.declared.steps.Answer.TheVariants as answer
use Rattle.vm_types.specs.declared.steps.Step.{Step}
use Rattle.vm_types.specs.declared.types.AwaitResponse.{AwaitResponse}
use Rattle.vm_types.specs.declared.types.AwaitResponse.TheVariants.{AnyCompleted, CancelSignalReceived, EphemeralNotificationReady, ExecuteRun, WaitingExternalProgress}
use Rattle.await_trees.specs.declared.handle.NotificationHandle.{NotificationHandle}
use Rattle.await_trees.specs.declared.tree.UnresolvedFuture.{UnresolvedFuture}
use Rattle.await_trees.specs.Tree.{tree_of}
use Rattle.vm_machine.specs.declared.machine.Machine.{Machine}
use Rattle.vm_asks.specs.declared.asks.Ask.{Ask}
use Rattle.vm_asks.specs.declared.asks.Ask.TheVariants as ask
use Rattle.vm_asks.specs.declared.asks.AnswerKind.{AnswerKind}
use Rattle.vm_asks.specs.declared.command.Command.{Command}
use Rattle.vm_asks.specs.Asks.{answer_by, ask_of, command_answer}
use Rattle.vm_awaits.specs.Cancels.{AwaitsWhole}
use Rattle.vm_machine.specs.Takes.{is_completed, take_step}
use Rattle.vm_machine.specs.Commands.{CanBeRead, commanded}
use Rattle.vm_machine.specs.Several.{MakesAll}
use Rattle.vm_machine.specs.Inputs.{end_step}
use Rattle.vm_machine.specs.Outcomes.{DoesBy, Done, Failed, Outcome, called}
use Rattle.vm_asks.specs.declared.state_read.StateRead.{StateRead}
use Rattle.vm_machine.specs.Reads.{ReadCanBeRead, read_step}
use Rattle.vm_machine.specs.Signals.{signal_step}
use Rattle.invocation_vm.specs.Calls.{new_awakeable_step}
use Rattle.invocation_vm.specs.Views.{View}
use Rattle.vm_attempt.specs.declared.progress.Reply.{Reply}
use Rattle.vm_attempt.specs.declared.progress.Reply.TheVariants as reply

-- an outcome with another answer
abbrev pub mapped : {A B : Type 0} → (A → B) → Outcome A → Outcome B
mapped f (Done a v) = Done (f a) v
mapped f (Failed e v) = Failed e v

-- a call that has a command: the answer is by its first handle
abbrev pub commanded_reply : Command → Machine → Outcome Reply
commanded_reply c v =
    mapped (λ handle. reply.Answer (command_answer c.message handle)) (called (commanded c v) v)

-- A call that has several commands: its possible outcomes, as a reply; the answer is by its first
-- handle. An error is that of the call, also if it found no memory for a command after the first.
abbrev pub AllCarried : AnswerKind → Command → List Command → Machine → Outcome Reply → Type 0
AllCarried kind c cs v (Done given w) = (handle : NotificationHandle)
    × MakesAll c cs (Ok handle) v w × (given ≡ reply.Answer (answer_by kind handle))
AllCarried kind c cs v (Failed e w) = MakesAll c cs (Err e) v w

-- an awakeable: the answer is its id and its handle
abbrev pub awakeable_reply_step : Machine → Outcome Reply
awakeable_reply_step v = mapped (λ awakeable. reply.Answer (answer.Awakeable awakeable))
    (called (new_awakeable_step v) v)

-- a named signal: the answer is its handle
abbrev pub signalled : List ℕ → Machine → Outcome Reply
signalled name v =
    mapped (λ handle. reply.Answer (answer.Handle handle)) (called (signal_step name v) v)

-- a state read: the answer is its handle
abbrev pub read_made : StateRead → Machine → Outcome Reply
read_made r v = mapped (λ handle. reply.Answer (answer.Handle handle)) (called (read_step r v) v)

-- an await that is answered, that waits, or by which the invocation is suspended
abbrev pub await_reply : Result AwaitResponse Error → Reply
await_reply (Ok AnyCompleted) = reply.Answer answer.Awake
await_reply (Ok CancelSignalReceived) = reply.Answer answer.Cancelled
await_reply (Ok (WaitingExternalProgress input run)) = reply.Waiting input run
await_reply (Ok (ExecuteRun run)) = reply.Execute run
await_reply (Ok (EphemeralNotificationReady id)) = reply.Waiting true false
await_reply (Err e) = reply.Suspended

-- An await of a future: the possible outcomes of its whole call, as a reply. An error is that of
-- the call, also if it found no memory for one of its commands.
abbrev pub Awaited : UnresolvedFuture → Machine → Outcome Reply → Type 0
Awaited future v (Done given w) = (answered : Result AwaitResponse Error)
    × AwaitsWhole (tree_of future) (Ok answered) v w × (given ≡ await_reply answered)
Awaited future v (Failed e w) = AwaitsWhole (tree_of future) (Err e) v w

-- a take: the answer is the result, if there is one
abbrev pub taken : NotificationHandle → Machine → Outcome Reply
taken handle v =
    mapped (λ value. reply.Answer (answer.Taken value)) (called (take_step handle.0 v) v)

-- the handler ends
abbrev pub end_reply : Machine → Outcome Reply
end_reply v = mapped (λ _. reply.Ended) (called (end_step v) v)

-- whether a handle is completed: that is answered at once
abbrev pub completed_reply : NotificationHandle → Machine → Outcome Reply
completed_reply handle v = Done (reply.Answer (answer.Completed (is_completed handle.0 v))) v

-- the only outcome is what the call does
abbrev pub ComesTo : (Machine → Outcome Reply) → Machine → Outcome Reply → Type 0
ComesTo call v o = o ≡ call v

-- the possible outcomes of the call that is asked for
abbrev pub PerformsBy : Ask → Machine → Outcome Reply → Type 0
PerformsBy (ask.Command c) = ComesTo (commanded_reply c)
PerformsBy (ask.Commands kind first second) = AllCarried kind first (second ∷ [])
PerformsBy ask.Awakeable = ComesTo awakeable_reply_step
PerformsBy (ask.Read r) = ComesTo (read_made r)
PerformsBy (ask.Signal name) = ComesTo (signalled name)
PerformsBy (ask.Await future) = Awaited future
PerformsBy (ask.Take handle) = ComesTo (taken handle)
PerformsBy (ask.Completed handle) = ComesTo (completed_reply handle)
PerformsBy ask.End = ComesTo end_reply

-- the possible outcomes of a step's call
abbrev pub Performs : Step → Machine → Outcome Reply → Type 0
Performs s v = PerformsBy (ask_of v.version s) v

-- where a command is written, it can be read back
abbrev pub IsReadable : Ask → Machine → Type 0
IsReadable (ask.Command c) v = CanBeRead c.message v
IsReadable (ask.Read r) v = ReadCanBeRead r v
IsReadable a v = Unit {0}

-- where the command of a step is written, it can be read back
abbrev pub ReadsBack : Step → Machine → Type 0
ReadsBack s v = IsReadable (ask_of v.version s) v

-- where an event is done
abbrev pub IfDone : {A : Type 0} → Outcome A → Type 0 → Type 0
IfDone (Done a w) P = P
IfDone (Failed e w) P = Unit {0}

-- a call was made
abbrev pub Asked : (Machine → Outcome Reply → Type 0) → Result Reply Error → View → View → Type 0
Asked R r old new =
    DoesBy (R old.machine) r old.machine new.machine × (new.undecoded ≡ old.undecoded)

-- a step was made: its call, and where that was answered, the command that it wrote can be read
-- back
abbrev pub StepMade : Step → Result Reply Error → View → View → Type 0
StepMade s r old new = Asked (Performs s) r old new × OnOk r (ReadsBack s old.machine)
