-- The call that a step of a handler is: one row a kind of what steps ask for.
use Rattle.std.specs.Prelude.{[], ◌∷◌, ◌≡◌, Result, Ok}
use Rattle.journal_protocol.specs.Error.{Error}
use Rattle.vm_types.specs.declared.steps.Answer.TheVariants as answer
use Rattle.vm_types.specs.declared.steps.Step.{Step}
use Rattle.vm_asks.specs.declared.asks.Ask.{Ask}
use Rattle.vm_asks.specs.declared.asks.Ask.TheVariants as ask
use Rattle.vm_asks.specs.Asks.{answer_by, ask_of, command_answer}
use Rattle.vm_machine.specs.Inputs.{end_step}
use Rattle.vm_machine.specs.Signals.{signal_step}
use Rattle.vm_machine.specs.Takes.{is_completed, take_step}
use Rattle.invocation_vm.specs.Calls.{CallsAll, CallsCommand, CallsRead, new_awakeable_step, result_by}
use Rattle.invocation_vm.specs.Views.{View, Calls}
use Rattle.invocation_vm.specs.declared.step.Stepped.{Stepped}
use Rattle.invocation_vm.specs.declared.step.Stepped.TheVariants as stepped

-- A call, with this of its answer: `Done` says what the call does.
pub record CallsWith {A B : Type 0} (f : A → B) (Done : Result A Error → View → View → Type 0)
    (r : Result B Error) (old new : View) : Type 0 where
  pub given : Result A Error
  pub calls : Done given old new
  pub by : r ≡ result_by f given

-- the call that is asked for; an await is left to be made
abbrev pub CallsAsked : Ask → Result Stepped Error → View → View → Type 0
CallsAsked (ask.Command c) r old new = CallsWith
    (λ handle. stepped.Answer (command_answer c.message handle)) (CallsCommand c) r old new
CallsAsked (ask.Commands kind first second) r old new = CallsWith
    (λ handle. stepped.Answer (answer_by kind handle)) (CallsAll first (second ∷ [])) r old new
CallsAsked ask.Awakeable r old new = CallsWith (λ made. stepped.Answer (answer.Awakeable made))
    (Calls new_awakeable_step) r old new
CallsAsked (ask.Read it) r old new = CallsWith (λ handle. stepped.Answer (answer.Handle handle))
    (CallsRead it) r old new
CallsAsked (ask.Signal name) r old new = CallsWith (λ handle. stepped.Answer (answer.Handle handle))
    (Calls (signal_step name)) r old new
CallsAsked (ask.Await future) r old new = (r ≡ Ok (stepped.Await future)) × (new ≡ old)
CallsAsked (ask.Take handle) r old new = CallsWith (λ value. stepped.Answer (answer.Taken value))
    (Calls (take_step handle.0)) r old new
CallsAsked (ask.Completed handle) r old new =
    (r ≡ Ok (stepped.Answer (answer.Completed (is_completed handle.0 old.machine)))) × (new ≡ old)
CallsAsked ask.End r old new = CallsWith (λ _. stepped.Ended) (Calls end_step) r old new

-- the call of a handler's step
abbrev pub CallsStep : Step → Result Stepped Error → View → View → Type 0
CallsStep step r old new = CallsAsked (ask_of old.machine.version step) r old new
