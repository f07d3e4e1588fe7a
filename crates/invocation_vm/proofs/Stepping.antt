-- The call of a step has an answer that is made of its event's.
use Rattle.std.proofs.Common.{◌≡◌, Bool, true, false, List, Result, Ok, Err, ap, refl, sym, ◌∙◌}
use Rattle.std.specs.Prelude.{IfOk, OnOk}
use Rattle.std.proofs.lemmas.Bool.{false≢true}
use Rattle.journal_protocol.specs.Error.{Error}
use Rattle.await_trees.specs.declared.handle.NotificationHandle.{NotificationHandle}
use Rattle.await_trees.specs.declared.tree.UnresolvedFuture.{UnresolvedFuture}
use Rattle.vm_asks.specs.Asks.{answer_by, command_answer}
use Rattle.vm_asks.specs.declared.asks.AnswerKind.{AnswerKind}
use Rattle.vm_asks.specs.declared.asks.Ask.{Ask}
use Rattle.vm_asks.specs.declared.asks.Ask.TheVariants as ask
use Rattle.vm_asks.specs.declared.command.Command.{Command}
use Rattle.vm_asks.specs.declared.state_read.StateRead.{StateRead}
use Rattle.vm_machine.specs.Commands.{CanBeRead, HandleFits, commanded}
use Rattle.vm_machine.specs.Outcomes.{Does, Outcome, called}
use Rattle.vm_machine.specs.Reads.{ReadCanBeRead, read_step}
use Rattle.vm_machine.specs.declared.machine.Machine.{Machine}
use Rattle.invocation_vm.specs.Calls.{CallsAll, CallsCommand, CallsRead, result_by}
use Rattle.invocation_vm.specs.Steps.{CallsAsked, CallsWith}
use Rattle.invocation_vm.specs.Views.{Calls, View}
use Rattle.invocation_vm.specs.declared.step.Stepped.{Stepped}
use Rattle.invocation_vm.specs.declared.step.Stepped.TheVariants as stepped

pub answered : {A : Type 0} (f : A → Stepped) (step : Machine → Outcome A) (given : Result A Error) (r : Result Stepped Error) (old new : View) → Does (called (step old.machine) old.machine) given old.machine new.machine → new.undecoded ≡ old.undecoded → r ≡ result_by f given → CallsWith f (Calls step) r old new
answered f step given r old new does undecoded by = record { given = given; calls = (does, undecoded); by = by }

pub state_read : (f : NotificationHandle → Stepped) (it : StateRead) (given : Result NotificationHandle Error) (r : Result Stepped Error) (old new : View) → Does (called (read_step it old.machine) old.machine) given old.machine new.machine → new.undecoded ≡ old.undecoded → OnOk given (ReadCanBeRead it old.machine) → r ≡ result_by f given → CallsWith f (CallsRead it) r old new
state_read f it given r old new does undecoded sent by = record { given = given; calls = ((does, undecoded), sent); by = by }

pub carried : (c : Command) (given : Result NotificationHandle Error) (r : Result Stepped Error) (old new : View) → Does (called (commanded c old.machine) old.machine) given old.machine new.machine → new.undecoded ≡ old.undecoded → OnOk given (CanBeRead c.message old.machine) → IfOk given (HandleFits c.message) → r ≡ result_by (λ handle. stepped.Answer (command_answer c.message handle)) given
    → CallsWith (λ handle. stepped.Answer (command_answer c.message handle)) (CallsCommand c) r old new
carried c given r old new does undecoded sent fits by = record { given = given; calls = ((does, undecoded), sent, fits); by = by }

pub all_carried : (kind : AnswerKind) (c : Command) (cs : List Command) (given : Result NotificationHandle Error) (r : Result Stepped Error) (old new : View) → CallsAll c cs given old new → r ≡ result_by (λ handle. stepped.Answer (answer_by kind handle)) given → CallsWith (λ handle. stepped.Answer (answer_by kind handle)) (CallsAll c cs) r old new
all_carried kind c cs given r old new calls by = record { given = given; calls = calls; by = by }

-- ---- an await that is left

-- no await is left
abbrev pub IsMade : Result Stepped Error → Type 0
IsMade (Ok (stepped.Await future)) = ⊥
IsMade r = Unit {0}

abbrev leaves_await : Result Stepped Error → Bool
leaves_await (Ok (stepped.Await future)) = true
leaves_await r = false

no_await : {A : Type 0} (f : A → Stepped) (given : Result A Error) (future : UnresolvedFuture) → ((a : A) → leaves_await (Ok (f a)) ≡ false) → Ok (stepped.Await future) ≡ result_by f given → ⊥
no_await f (Ok a) future none is = false≢true (sym (none a) ∙ sym (ap leaves_await is))
no_await f (Err e) future none is = false≢true (sym (ap leaves_await is))

-- an await that is left is the step's, and no call was made
pub await_left : (a : Ask) (future : UnresolvedFuture) (old new : View) → CallsAsked a (Ok (stepped.Await future)) old new → (ask.Await future ≡ a) × (new ≡ old)
await_left (ask.Command c) future old new calls = absurd (no_await _ calls.given future (λ a. refl) calls.by)
await_left (ask.Commands kind first second) future old new calls = absurd (no_await _ calls.given future (λ a. refl) calls.by)
await_left ask.Awakeable future old new calls = absurd (no_await _ calls.given future (λ a. refl) calls.by)
await_left (ask.Read it) future old new calls = absurd (no_await _ calls.given future (λ a. refl) calls.by)
await_left (ask.Signal name) future old new calls = absurd (no_await _ calls.given future (λ a. refl) calls.by)
await_left (ask.Await awaited) future old new calls = (let z : Ok (stepped.Await future) ≡ Ok (stepped.Await awaited) = calls.0 in cc, calls.1)
await_left (ask.Take handle) future old new calls = absurd (no_await _ calls.given future (λ a. refl) calls.by)
await_left (ask.Completed handle) future old new calls = absurd (false≢true (sym (ap leaves_await calls.0)))
await_left ask.End future old new calls = absurd (no_await _ calls.given future (λ a. refl) calls.by)
