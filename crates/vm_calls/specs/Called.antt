-- The call of the VM that a line's call is: one row a call, and one row a kind of what a handler's
-- steps ask for.
use Rattle.std.specs.Prelude.{[], ◌∷◌, ◌≡◌, ℕ, Bool, List, Result, Ok, Err, IfOk}
use Rattle.std.specs.declared.alloc.AllocError.{AllocError}
use Rattle.journal_protocol.specs.Error.{Error}
use Rattle.journal_protocol.specs.RawMessage.{RawMessage}
use Rattle.journal_protocol.specs.Version.{Version}
use Rattle.journal_protocol.specs.Errors.{no_memory}
use Rattle.vm_types.specs.declared.steps.Answer.TheVariants as answer
use Rattle.vm_types.specs.declared.steps.Step.{Step}
use Rattle.vm_types.specs.declared.values.ResponseHead.{ResponseHead}
use Rattle.vm_asks.specs.declared.asks.Ask.{Ask}
use Rattle.vm_asks.specs.declared.asks.Ask.TheVariants as ask
use Rattle.vm_machine.specs.declared.machine.Machine.{Machine}
use Rattle.vm_asks.specs.Asks.{answer_by, ask_of, command_answer}
use Rattle.vm_machine.specs.Takes.{is_completed, take_step}
use Rattle.vm_machine.specs.Queries.{IsReadyAt, last_index, state_of}
use Rattle.vm_machine.specs.Commands.{commanded}
use Rattle.vm_machine.specs.Ephemerals.{ephemeral_step, take_ephemeral_step}
use Rattle.vm_machine.specs.Inputs.{end_step, input_step}
use Rattle.vm_machine.specs.Outcomes.{Outcome}
use Rattle.vm_machine.specs.Reads.{read_step}
use Rattle.vm_machine.specs.Signals.{signal_step}
use Rattle.invocation_vm.specs.Calls.{CallsAll, CallsFlatAwait, CallsProposal, CallsRun, new_awakeable_step}
use Rattle.invocation_vm.specs.Making.{response_head}
use Rattle.invocation_vm.specs.Views.{View, Calls, Leaves, TakesOutput, after_closing, after_error, after_input, messages_in_bytes}
use Rattle.vm_types.specs.declared.call.Call.{Call}
use Rattle.vm_types.specs.declared.call.Call.TheVariants as call
use Rattle.vm_types.specs.declared.reply.Reply.{Reply}
use Rattle.vm_types.specs.declared.reply.Reply.TheVariants as reply

-- the reply to a call's result: its value, or its error
abbrev pub reply_of : {A : Type 0} → (A → Reply) → Result A Error → Reply
reply_of f (Ok a) = f a
reply_of f (Err e) = reply.Refused e

-- the reply to a call whose only error is out of memory
abbrev pub reply_or_memory : {A : Type 0} → (A → Reply) → Result A AllocError → Reply
reply_or_memory f (Ok a) = f a
reply_or_memory f (Err e) = reply.Refused no_memory

-- a call that is an event of the machine: the reply has its result
pub record Answers {A : Type 0} (f : A → Reply) (step : Machine → Outcome A) (answer : Reply)
    (old new : View) : Type 0 where
  pub given : Result A Error
  pub calls : Calls step given old new
  pub told : answer ≡ reply_of f given

-- any other call of the VM; `Done` says what it does, and the reply has its result
pub record RepliesWith {A : Type 0} (f : A → Reply) (Done : Result A Error → View → View → Type 0)
    (answer : Reply) (old new : View) : Type 0 where
  pub given : Result A Error
  pub calls : Done given old new
  pub told : answer ≡ reply_of f given

-- the VM is fed frames: the reply is `Done`, or out of memory
pub record FeedsVm (raws : List RawMessage) (after : View) (answer : Reply)
    (old new : View) : Type 0 where
  pub given : Result Unit AllocError
  pub leaves : Leaves raws after given old new
  pub told : answer ≡ reply_or_memory (λ _. reply.Done) given

-- the output is taken, and the reply has it
pub record Drains (answer : Reply) (old new : View) : Type 0 where
  pub given : Result (List ℕ) AllocError
  pub takes : TakesOutput given old new
  pub told : answer ≡ reply_or_memory reply.Output given

-- the reply has the head of the response
pub record TellsHead (version : Version) (answer : Reply) : Type 0 where
  pub given : Result ResponseHead AllocError
  pub head : IfOk given (λ head. head ≡ response_head version)
  pub told : answer ≡ reply_or_memory reply.Head given

-- the reply says whether the handler may be run
pub record TellsReady (machine : Machine) (answer : Reply) : Type 0 where
  pub given : Result Bool Error
  pub ready : IsReadyAt machine.failure machine.phase given
  pub told : answer ≡ reply_of reply.Ready given

-- what the call does that is asked for
abbrev pub DoneAsAsked : Ask → Reply → View → View → Type 0
DoneAsAsked (ask.Command c) told old new = Answers
    (λ handle. reply.Answer (command_answer c.message handle)) (commanded c) told old new
DoneAsAsked (ask.Commands kind first second) told old new = RepliesWith
    (λ handle. reply.Answer (answer_by kind handle)) (CallsAll first (second ∷ [])) told old new
DoneAsAsked ask.Awakeable told old new =
    Answers (λ made. reply.Answer (answer.Awakeable made)) new_awakeable_step told old new
DoneAsAsked (ask.Read r) told old new = Answers (λ handle. reply.Answer (answer.Handle handle))
    (read_step r) told old new
DoneAsAsked (ask.Signal name) told old new = Answers (λ handle. reply.Answer (answer.Handle handle))
    (signal_step name) told old new
DoneAsAsked (ask.Await future) told old new = RepliesWith reply.Awaited (CallsFlatAwait future) told
    old
    new
DoneAsAsked (ask.Take handle) told old new = Answers (λ value. reply.Answer (answer.Taken value))
    (take_step handle.0) told old new
DoneAsAsked (ask.Completed handle) told old new = (told
    ≡ reply.Answer (answer.Completed (is_completed handle.0 old.machine))) × (new ≡ old)
DoneAsAsked ask.End told old new = Answers (λ _. reply.Answer answer.Unit) end_step told old new

-- what the call of a handler's step does
abbrev pub StepDone : Step → Reply → View → View → Type 0
StepDone step told old new = DoneAsAsked (ask_of old.machine.version step) told old new

-- what a line's call does
abbrev pub Called : Call → Reply → View → View → Type 0
Called call.Head told old new = TellsHead old.machine.version told × (new ≡ old)
Called (call.Input bytes) told old new = FeedsVm (messages_in_bytes old bytes)
    (after_input old bytes) told old
    new
Called call.Close told old new = FeedsVm [] (after_closing old) told old new
Called call.Output told old new = Drains told old new
Called call.Ready told old new = TellsReady old.machine told × (new ≡ old)
Called call.State told old new = (told ≡ reply.State (state_of old.machine)) × (new ≡ old)
Called call.Index told old new =
    (told ≡ reply.Index (last_index old.machine.counters.command)) × (new ≡ old)
Called (call.Error error relationship) told old new = FeedsVm []
    (after_error old error relationship)
    told old new
Called call.SysInput told old new =
    Answers (λ input. reply.Answer (answer.Input input)) input_step told old new
Called (call.Run name) told old new = RepliesWith reply.Run (CallsRun name) told old new
Called (call.Propose handle exit policy) told old new = RepliesWith (λ _. reply.Answer answer.Unit)
    (CallsProposal handle exit policy) told old new
Called (call.EphemeralGet key) told old new = Answers reply.Ephemeral (ephemeral_step key) told old
    new
Called (call.TakeEphemeral id) told old new = Answers (λ value. reply.Answer (answer.Taken value))
    (take_ephemeral_step id.0) told old new
Called (call.Step step) told old new = StepDone step told old new
