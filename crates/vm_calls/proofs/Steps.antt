-- The reply to the call of a step.
use Rattle.std.proofs.Common.{◌≡◌, Result, Ok, Err, ap, refl, subst, ◌∙◌}
use Rattle.journal_protocol.specs.Error.{Error}
use Rattle.journal_protocol.specs.Errors.{no_memory}
use Rattle.await_trees.specs.declared.tree.UnresolvedFuture.{UnresolvedFuture}
use Rattle.vm_types.specs.declared.reply.Reply.{Reply}
use Rattle.vm_types.specs.declared.reply.Reply.TheVariants as reply
use Rattle.vm_types.specs.declared.steps.Answer.{Answer}
use Rattle.vm_types.specs.declared.steps.Answer.TheVariants as answer
use Rattle.vm_types.specs.declared.steps.Step.{Step}
use Rattle.vm_types.specs.declared.types.AwaitResponse.{AwaitResponse}
use Rattle.vm_asks.specs.declared.asks.Ask.{Ask}
use Rattle.vm_asks.specs.declared.asks.Ask.TheVariants as ask
use Rattle.vm_asks.specs.Asks.{answer_by, ask_of, command_answer}
use Rattle.vm_machine.specs.Commands.{commanded}
use Rattle.vm_machine.specs.Inputs.{end_step}
use Rattle.vm_machine.specs.Outcomes.{Outcome}
use Rattle.vm_machine.specs.Reads.{read_step}
use Rattle.vm_machine.specs.Signals.{signal_step}
use Rattle.vm_machine.specs.Takes.{take_step}
use Rattle.vm_machine.specs.declared.machine.Machine.{Machine}
use Rattle.invocation_vm.proofs.Stepping.{IsMade, await_left}
use Rattle.invocation_vm.specs.Calls.{CallsFlatAwait, new_awakeable_step, result_by}
use Rattle.invocation_vm.specs.Steps.{CallsAsked, CallsStep}
use Rattle.invocation_vm.specs.Views.{Calls, View}
use Rattle.invocation_vm.specs.declared.step.Stepped.{Stepped}
use Rattle.invocation_vm.specs.declared.step.Stepped.TheVariants as stepped
use Rattle.vm_calls.specs.Called.{Answers, DoneAsAsked, RepliesWith, StepDone, reply_of}

-- the reply to what a step's call returned; an await is made apart
abbrev replied : Stepped → Reply
replied (stepped.Answer a) = reply.Answer a
replied stepped.Ended = reply.Answer answer.Unit
replied (stepped.Await future) = reply.Refused no_memory

-- it is made of the event's answer
by_given : {A : Type 0} (f : A → Stepped) (g : A → Reply) (given : Result A Error) (r : Result Stepped Error) → ((a : A) → replied (f a) ≡ g a) → r ≡ result_by f given → reply_of replied r ≡ reply_of g given
by_given {A} f g given r same by = ap (reply_of replied) by ∙ at given
  where
    at : (given : Result A Error) → reply_of replied (result_by f given) ≡ reply_of g given
    at (Ok a) = same a
    at (Err e) = refl

row : {A : Type 0} (f : A → Stepped) (g : A → Reply) (step : Machine → Outcome A) (given : Result A Error) (r : Result Stepped Error) (old new : View) → ((a : A) → replied (f a) ≡ g a) → r ≡ result_by f given → Calls step given old new → Answers g step (reply_of replied r) old new
row f g step given r old new same by calls = record { given = given; calls = calls; told = by_given f g given r same by }

done : (a : Ask) (r : Result Stepped Error) (old new : View) → IsMade r → CallsAsked a r old new → DoneAsAsked a (reply_of replied r) old new
done (ask.Command c) r old new made calls = row (λ handle. stepped.Answer (command_answer c.message handle)) (λ handle. reply.Answer (command_answer c.message handle)) (commanded c) calls.given r old new (λ handle. refl) calls.by calls.calls.0
done (ask.Commands kind first second) r old new made calls =
    record { given = calls.given; calls = calls.calls; told = by_given (λ handle. stepped.Answer (answer_by kind handle)) (λ handle. reply.Answer (answer_by kind handle)) calls.given r (λ handle. refl) calls.by }
done ask.Awakeable r old new made calls = row (λ it. stepped.Answer (answer.Awakeable it)) (λ it. reply.Answer (answer.Awakeable it)) new_awakeable_step calls.given r old new (λ it. refl) calls.by calls.calls
done (ask.Read it) r old new made calls = row (λ handle. stepped.Answer (answer.Handle handle)) (λ handle. reply.Answer (answer.Handle handle)) (read_step it) calls.given r old new (λ handle. refl) calls.by calls.calls.0
done (ask.Signal name) r old new made calls = row (λ handle. stepped.Answer (answer.Handle handle)) (λ handle. reply.Answer (answer.Handle handle)) (signal_step name) calls.given r old new (λ handle. refl) calls.by calls.calls
done (ask.Await future) r old new made calls = absurd (subst IsMade calls.0 made)
done (ask.Take handle) r old new made calls = row (λ value. stepped.Answer (answer.Taken value)) (λ value. reply.Answer (answer.Taken value)) (take_step handle.0) calls.given r old new (λ value. refl) calls.by calls.calls
done (ask.Completed handle) r old new made calls = (ap (reply_of replied) calls.0, calls.1)
done ask.End r old new made calls = row (λ it. stepped.Ended) (λ it. reply.Answer answer.Unit) end_step calls.given r old new (λ it. refl) calls.by calls.calls

pub done_answer : (s : Step) (a : Answer) (old new : View) → CallsStep s (Ok (stepped.Answer a)) old new → StepDone s (reply.Answer a) old new
done_answer s a old new calls = done (ask_of old.machine.version s) (Ok (stepped.Answer a)) old new tt calls

pub done_end : (s : Step) (old new : View) → CallsStep s (Ok stepped.Ended) old new → StepDone s (reply.Answer answer.Unit) old new
done_end s old new calls = done (ask_of old.machine.version s) (Ok stepped.Ended) old new tt calls

pub done_refusal : (s : Step) (e : Error) (old new : View) → CallsStep s (Err e) old new → StepDone s (reply.Refused e) old new
done_refusal s e old new calls = done (ask_of old.machine.version s) (Err e) old new tt calls

pub done_await : (s : Step) (future : UnresolvedFuture) (given : Result AwaitResponse Error) (told : Reply) (old mid new : View) → CallsStep s (Ok (stepped.Await future)) old mid → CallsFlatAwait future given mid new → told ≡ reply_of reply.Awaited given → StepDone s told old new
done_await s future given told old mid new calls awaits is =
    let left = await_left (ask_of old.machine.version s) future old mid calls in
    subst (λ a. DoneAsAsked a told old new) left.0 (subst (λ v. RepliesWith reply.Awaited (CallsFlatAwait future) told v new) left.1 (record { given = given; calls = awaits; told = is }))
