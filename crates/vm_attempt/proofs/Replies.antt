-- What a call does, with its answer as a reply.
use Rattle.std.proofs.Common.{◌≡◌, List, [], ◌∷◌, inl, inr, ⊎_elim, Result, Ok, Err, refl, sym, ap, ◌∙◌, subst}
use Rattle.std.specs.Prelude.{OnOk}
use Rattle.journal_protocol.specs.Error.{Error}
use Rattle.vm_types.specs.declared.steps.Answer.{Answer}
use Rattle.vm_types.specs.declared.steps.Answer.TheVariants as answer
use Rattle.vm_types.specs.declared.steps.Step.{Step}
use Rattle.vm_machine.specs.declared.machine.Machine.{Machine}
use Rattle.vm_machine.specs.Commands.{commanded}
use Rattle.vm_machine.specs.Inputs.{end_step}
use Rattle.vm_machine.specs.Reads.{read_step}
use Rattle.vm_machine.specs.Signals.{signal_step}
use Rattle.vm_machine.specs.Takes.{is_completed, take_step}
use Rattle.vm_awaits.specs.Cancels.{AwaitsWhole}
use Rattle.vm_machine.specs.Outcomes.{Does, DoesBy, Failed, IsStarved, Outcome, called}
use Rattle.vm_types.specs.declared.types.AwaitResponse.{AwaitResponse}
use Rattle.await_trees.specs.declared.tree.UnresolvedFuture.{UnresolvedFuture}
use Rattle.await_trees.specs.Tree.{tree_of}
use Rattle.await_trees.specs.declared.handle.NotificationHandle.{NotificationHandle}
use Rattle.vm_asks.specs.declared.asks.AnswerKind.{AnswerKind}
use Rattle.vm_asks.specs.declared.asks.Ask.{Ask}
use Rattle.vm_asks.specs.declared.asks.Ask.TheVariants as ask
use Rattle.vm_asks.specs.declared.command.Command.{Command}
use Rattle.vm_asks.specs.Asks.{answer_by, ask_of, command_answer}
use Rattle.vm_machine.specs.Several.{MakesAll}
use Rattle.invocation_vm.specs.Calls.{new_awakeable_step, result_by}
use Rattle.invocation_vm.specs.Steps.{CallsAsked, CallsStep}
use Rattle.invocation_vm.specs.Views.{Calls, View}
use Rattle.invocation_vm.specs.declared.step.Stepped.{Stepped}
use Rattle.invocation_vm.specs.declared.step.Stepped.TheVariants as stepped
use Rattle.invocation_vm.proofs.Stepping.{IsMade, await_left}
use Rattle.vm_attempt.specs.declared.progress.Reply.{Reply}
use Rattle.vm_attempt.specs.declared.progress.Reply.TheVariants as reply
use Rattle.vm_attempt.specs.Steps.{AllCarried, Asked, Awaited, ComesTo, IsReadable, PerformsBy, StepMade, await_reply, mapped}

replies : {A : Type 0} (f : A → Reply) (step : Machine → Outcome A) (r : Result A Error) (old new : Machine) → Does (called (step old) old) r old new → DoesBy (ComesTo (λ v. mapped f (called (step v) v)) old) (result_by f r) old new
replies f step (Ok a) old new h = ap (mapped f) (sym h)
replies f step (Err e) old new h = ⊎_elim (λ (x : called (step old) old ≡ Failed e new). inl (ap (mapped f) (sym x))) (λ (x : IsStarved old e new). inr x) h

-- the outcome of the whole call of an await
pub awaits_reply : (future : UnresolvedFuture) (r : Result (Result AwaitResponse Error) Error) (old new : Machine) → AwaitsWhole (tree_of future) r old new → DoesBy (Awaited future old) (result_by await_reply r) old new
awaits_reply future (Ok a) old new h = (a, h, refl)
awaits_reply future (Err e) old new h = inl h

-- the outcome of the whole call of several commands
all_reply : (kind : AnswerKind) (c : Command) (cs : List Command) (r : Result NotificationHandle Error) (old new : Machine) → MakesAll c cs r old new → DoesBy (AllCarried kind c cs old) (result_by (λ handle. reply.Answer (answer_by kind handle)) r) old new
all_reply kind c cs (Ok handle) old new h = (handle, h, refl)
all_reply kind c cs (Err e) old new h = inl h

-- ---- a step's call

-- the reply to what a step's call returned; an await is made apart
abbrev replied : Stepped → Reply
replied (stepped.Answer a) = reply.Answer a
replied stepped.Ended = reply.Ended
replied (stepped.Await future) = reply.Suspended

-- it is made of the event's answer
by_given : {A : Type 0} (f : A → Stepped) (g : A → Reply) (given : Result A Error) → ((a : A) → replied (f a) ≡ g a) → result_by replied (result_by f given) ≡ result_by g given
by_given f g (Ok a) same = ap Ok (same a)
by_given f g (Err e) same = refl

row : {A : Type 0} (f : A → Stepped) (g : A → Reply) (step : Machine → Outcome A) (given : Result A Error) (r : Result Stepped Error) (old new : View) → ((a : A) → replied (f a) ≡ g a) → r ≡ result_by f given → Calls step given old new → Asked (ComesTo (λ v. mapped g (called (step v) v))) (result_by replied r) old new
row f g step given r old new same by (does, undecoded) =
    (subst (λ x. DoesBy (ComesTo (λ v. mapped g (called (step v) v)) old.machine) x old.machine new.machine) (sym (ap (result_by replied) by ∙ by_given f g given same)) (replies g step given old.machine new.machine does), undecoded)

-- what is so where an event was answered is so where its call was
on_given : {A : Type 0} (P : Type 0) (f : A → Stepped) (given : Result A Error) (r : Result Stepped Error) → r ≡ result_by f given → OnOk given P → OnOk (result_by replied r) P
on_given {A} P f given r by h = subst (λ x. OnOk (result_by replied x) P) (sym by) (at given h)
  where
    at : (given : Result A Error) → OnOk given P → OnOk (result_by replied (result_by f given)) P
    at (Ok a) h = h
    at (Err e) h = tt

nothing : (r : Result Reply Error) → OnOk r (Unit {0})
nothing (Ok a) = tt
nothing (Err e) = tt

performed : (a : Ask) (r : Result Stepped Error) (old new : View) → IsMade r → CallsAsked a r old new → Asked (PerformsBy a) (result_by replied r) old new × OnOk (result_by replied r) (IsReadable a old.machine)
performed (ask.Command c) r old new made calls = (
  row (λ handle. stepped.Answer (command_answer c.message handle)) (λ handle. reply.Answer (command_answer c.message handle)) (commanded c) calls.given r old new (λ handle. refl) calls.by calls.calls.0,
  on_given _ _ calls.given r calls.by calls.calls.1,
)
performed (ask.Commands kind first second) r old new made calls =
    let f : NotificationHandle → Stepped = λ handle. stepped.Answer (answer_by kind handle) in
    let g : NotificationHandle → Reply = λ handle. reply.Answer (answer_by kind handle) in (
      (
        subst (λ x. DoesBy (AllCarried kind first (second ∷ []) old.machine) x old.machine new.machine) (sym (ap (result_by replied) calls.by ∙ by_given f g calls.given (λ handle. refl))) (all_reply kind first (second ∷ []) calls.given old.machine new.machine calls.calls.0),
        calls.calls.1,
      ),
      nothing _,
    )
performed ask.Awakeable r old new made calls = (row (λ it. stepped.Answer (answer.Awakeable it)) (λ it. reply.Answer (answer.Awakeable it)) new_awakeable_step calls.given r old new (λ it. refl) calls.by calls.calls, nothing _)
performed (ask.Read it) r old new made calls = (
  row (λ handle. stepped.Answer (answer.Handle handle)) (λ handle. reply.Answer (answer.Handle handle)) (read_step it) calls.given r old new (λ handle. refl) calls.by calls.calls.0,
  on_given _ _ calls.given r calls.by calls.calls.1,
)
performed (ask.Signal name) r old new made calls = (row (λ handle. stepped.Answer (answer.Handle handle)) (λ handle. reply.Answer (answer.Handle handle)) (signal_step name) calls.given r old new (λ handle. refl) calls.by calls.calls, nothing _)
performed (ask.Await future) r old new made calls = absurd (subst IsMade calls.0 made)
performed (ask.Take handle) r old new made calls = (row (λ value. stepped.Answer (answer.Taken value)) (λ value. reply.Answer (answer.Taken value)) (take_step handle.0) calls.given r old new (λ value. refl) calls.by calls.calls, nothing _)
performed (ask.Completed handle) r old new made calls =
    subst (λ x. Asked (PerformsBy (ask.Completed handle)) (result_by replied x) old new × OnOk (result_by replied x) (Unit {0})) (sym calls.0)
    (subst (λ v. Asked (PerformsBy (ask.Completed handle)) (result_by replied (Ok (stepped.Answer (answer.Completed (is_completed handle.0 old.machine))))) old v × Unit {0}) (sym calls.1) ((refl, refl), tt))
performed ask.End r old new made calls = (row (λ it. stepped.Ended) (λ it. reply.Ended) end_step calls.given r old new (λ it. refl) calls.by calls.calls, nothing _)

pub made_answer : (s : Step) (a : Answer) (old new : View) → CallsStep s (Ok (stepped.Answer a)) old new → StepMade s (Ok (reply.Answer a)) old new
made_answer s a old new calls = performed (ask_of old.machine.version s) (Ok (stepped.Answer a)) old new tt calls

pub made_end : (s : Step) (old new : View) → CallsStep s (Ok stepped.Ended) old new → StepMade s (Ok reply.Ended) old new
made_end s old new calls = performed (ask_of old.machine.version s) (Ok stepped.Ended) old new tt calls

pub made_refusal : (s : Step) (e : Error) (old new : View) → CallsStep s (Err e) old new → StepMade s (Err e) old new
made_refusal s e old new calls = performed (ask_of old.machine.version s) (Err e) old new tt calls

pub made_await : (s : Step) (future : UnresolvedFuture) (r : Result Reply Error) (old mid new : View) → CallsStep s (Ok (stepped.Await future)) old mid → Asked (Awaited future) r mid new → StepMade s r old new
made_await s future r old mid new calls asked =
    let left = await_left (ask_of old.machine.version s) future old mid calls in
    subst (λ a. Asked (PerformsBy a) r old new × OnOk r (IsReadable a old.machine)) left.0 (subst (λ v. Asked (Awaited future) r v new) left.1 asked, nothing r)
