-- The cause of an attempt's error, by the calls that lead to its record.
use Rattle.std.proofs.Common.{◌≡◌, ◌⊎◌, ℕ, zero, suc, Bool, true, false, List, Option, Some, None, Result, Ok, Err, refl, sym, ap, ◌∙◌, subst, inl, inr, ⊎_elim, Global}
use Rattle.std.specs.Prelude.{IfErr}
use Rattle.std.proofs.lemmas.Option.{same_Some}
use Rattle.std.specs.declared.alloc.AllocError.{AllocError}
use Rattle.await_trees.specs.declared.handle.NotificationHandle.{NotificationHandle}
use Rattle.journal_protocol.specs.Error.{Error}
use Rattle.journal_protocol.specs.Errors.{no_memory}
use Rattle.journal_protocol.specs.Version.{Version}
use Rattle.vm_retries.specs.declared.policy.RetryPolicy.{RetryPolicy}
use Rattle.vm_types.specs.declared.options.VMOptions.{VMOptions}
use Rattle.vm_types.specs.declared.runs.RunExitResult.{RunExitResult}
use Rattle.vm_types.specs.declared.steps.Answer.{Answer}
use Rattle.invocation_vm.specs.Making.{made}
use Rattle.invocation_vm.specs.Views.{View}
use Rattle.vm_model.specs.Calls.{Meaning}
use Rattle.vm_model.specs.Fixed.{Fixed, fixed_by}
use Rattle.vm_attempt.specs.declared.progress.Progress.{Progress}
use Rattle.vm_attempt.specs.Heard.{Heard}
use Rattle.vm_attempt.specs.Record.{Record, all_heard, all_said}
use Rattle.vm_attempt.specs.Stepping.{CloseDoes, FeedDoes, FinishDoes, StepDoes, StepFrom, StepFunction, StepUnless, Takes, fresh_record}
use Rattle.vm_attempt.specs.Courses.{IsLed, Leads, OneCall, first_record}
use Rattle.vm_attempt.specs.Courses.OneCall.{Feeding, Closing, Stepping, Telling, Taking}
use Rattle.vm_attempt.specs.Blames.{Blame, IfError, IsBlamed, IsLate, KeptBlame, RefusedResult, ReportedResult}
use Rattle.vm_attempt.specs.Blames.Blame.{Memory, Frame, NoFrame, ClosedEarly, NoInput, NoSkip, Call, RunResult}
use Rattle.vm_attempt.specs.Attempts.{HasCause, IsHonestlyFed, IsItsOwn}
use Rattle.vm_attempt.specs.Told.{HasCome, IsKeptUnder}
use Rattle.vm_attempt.proofs.Erring.{Errs, step_errs}
use Rattle.vm_attempt.proofs.Failing.{failed_by_call, failed_by_result}
use Rattle.vm_attempt.proofs.Finishing.{error_is, finish_blame}
use Rattle.vm_attempt.proofs.Late.{step_blame}
use Rattle.vm_attempt.proofs.Replayed.{honest_fails}

-- ---- the calls that lead to a record

pub leads_more : (m : StepFunction) (n : ℕ) (old mid new : Record) → Leads m n old mid → OneCall m mid new → Leads m (suc n) old new
leads_more m zero old mid new is call = (new, subst (λ (r : Record). OneCall m r new) is call, refl)
leads_more m (suc n) old mid new (next, first, more) call = (next, first, leads_more m n next mid new more call)

-- one call more
pub led_on : (fixed : Fixed) (old new : Record) → OneCall fixed.handler old new → IsLed fixed old → IsLed fixed new
led_on fixed old new call led = record { alloc = led.alloc; calls = suc led.calls; leads = leads_more fixed.handler led.calls (first_record led.alloc fixed) old new led.leads call }

pub made_led : (fixed : Fixed) (alloc : Global) → IsLed fixed (fresh_record (made alloc fixed.options fixed.version))
made_led fixed alloc = record { alloc = alloc; calls = 0; leads = refl }

pub new_led : (m : Meaning) (alloc : Global) (options : VMOptions) (version : Version) (v : View) → v ≡ made alloc options version → IsLed (fixed_by m version options) (fresh_record v)
new_led m alloc options version v is = subst (λ x. IsLed (fixed_by m version options) (fresh_record x)) (sym is) (made_led (fixed_by m version options) alloc)

pub feed_led : (fixed : Fixed) (piece : List ℕ) (old : Record) (result : Result Unit AllocError) (new : Record) → FeedDoes old.starved piece old result new → IsLed fixed old → IsLed fixed new
feed_led fixed piece old result new does = led_on fixed old new (Feeding piece result does)

pub close_led : (fixed : Fixed) (old : Record) (result : Result Unit AllocError) (new : Record) → CloseDoes old.starved old result new → IsLed fixed old → IsLed fixed new
close_led fixed old result new does = led_on fixed old new (Closing result does)

pub step_led : (fixed : Fixed) (old : Record) (result : Result Progress Error) (new : Record) → StepDoes fixed.handler old result new → IsLed fixed old → IsLed fixed new
step_led fixed old result new does = led_on fixed old new (Stepping result does)

pub finish_led : (fixed : Fixed) (handle : NotificationHandle) (exit : RunExitResult) (policy : RetryPolicy) (old : Record) (result : Result Unit Error) (new : Record) → FinishDoes old.starved handle exit policy old result new → IsLed fixed old → IsLed fixed new
finish_led fixed handle exit policy old result new does = led_on fixed old new (Telling handle exit policy result does)

pub take_led : (fixed : Fixed) (old : Record) (result : Result (List ℕ) AllocError) (new : Record) → Takes old result new → IsLed fixed old → IsLed fixed new
take_led fixed old result new does = led_on fixed old new (Taking result does)

-- ---- the cause of an error

-- the same, where this says why a run's result failed the VM
blame_by : (fixed : Fixed) (fed : Heard) (closed : Bool) (answers : List Answer) (R S : Error → Type 0) (e : Error) → (R e → S e) → Blame fixed fed closed answers R e → Blame fixed fed closed answers S e
blame_by fixed fed closed answers R S e f (Memory x) = Memory x
blame_by fixed fed closed answers R S e f (Frame x) = Frame x
blame_by fixed fed closed answers R S e f (NoFrame x y) = NoFrame x y
blame_by fixed fed closed answers R S e f (ClosedEarly x y z) = ClosedEarly x y z
blame_by fixed fed closed answers R S e f (NoInput x) = NoInput x
blame_by fixed fed closed answers R S e f (NoSkip x) = NoSkip x
blame_by fixed fed closed answers R S e f (Call fails x) = Call fails x
blame_by fixed fed closed answers R S e f (RunResult x) = RunResult (f x)

-- the run that the record names failed the VM by the report of its result
refused_by_report : (fixed : Fixed) (r : Record) (e : Error) → IsLed fixed r → r.vm.machine.failure ≡ Some e → ReportedResult fixed r.failed_by e → RefusedResult fixed r e
refused_by_report fixed r e led some x =
    let reported = failed_by_result fixed led.alloc led.calls r x.handle led.leads x.is_told in
    record { handle = x.handle; is_told = x.is_told; alloc = led.alloc; reported = reported; error = same_Some e reported.error (sym some ∙ reported.stays) }

-- an error is out of memory, or that of the VM
abbrev pub IsFailure : Record → Error → Type 0
IsFailure r e = (e ≡ no_memory) ⊎ (r.vm.machine.failure ≡ Some e)

pub caused : (fixed : Fixed) (r : Record) (e : Error) → IsLed fixed r → IsFailure r e → KeptBlame fixed (all_heard fixed.version r) (all_said r) r.answers e → HasCause fixed r e
caused fixed r e led fails b =
    ⊎_elim
    (λ (x : e ≡ no_memory). (Memory x, inl x))
    (λ (x : r.vm.machine.failure ≡ Some e). (
      blame_by fixed (all_heard fixed.version r) r.closed r.answers (ReportedResult fixed r.failed_by) (RefusedResult fixed r) e (refused_by_report fixed r e led x) b,
      inr (led.alloc, failed_by_call fixed led.alloc led.calls r e led.leads x),
    ))
    fails

-- ---- a step

step_fails : (fixed : Fixed) (old : Record) (result : Result Progress Error) (new : Record) → IsBlamed fixed old → StepDoes fixed.handler old result new → IfError result (IsFailure new)
step_fails fixed old result new b does = by_over old.over refl
  where
    of_errs : (x : Result Progress Error) → Errs old x new → IfError x (IsFailure new)
    of_errs (Ok made) h = tt
    of_errs (Err e) h = ⊎_elim (λ (x : e ≡ no_memory). inl x) (λ (x : (new.vm.machine.failure ≡ Some e) × (new.over ≡ old.over)). inr x.0) h

    lacks : result ≡ Err no_memory → IfError result (IsFailure new)
    lacks is = subst (λ z. IfError z (IsFailure new)) (sym is) (inl refl)

    by_failure : (made : Progress) (f : Option Error) → old.vm.machine.failure ≡ f → StepUnless f (Some made) fixed.handler old result new → IfError result (IsFailure new)
    by_failure made (Some e) is d =
        ⊎_elim
        (λ (x : result ≡ Err e). subst (λ z. IfError z (IsFailure new)) (sym x) (inr (ap (λ (r : Record). r.vm.machine.failure) d.1 ∙ is)))
        lacks
        d.0
    by_failure made None is d = subst (λ z. IfError z (IsFailure new)) (sym d.0) tt

    by_test : (made : Progress) → old.over ≡ Some made → (t : Bool) → StepFrom t fixed.handler old result new → IfError result (IsFailure new)
    by_test made over true d = lacks d.0
    by_test made over false d = by_failure made old.vm.machine.failure refl (subst (λ o. StepUnless old.vm.machine.failure o fixed.handler old result new) over d)

    by_over : (over : Option Progress) → old.over ≡ over → IfError result (IsFailure new)
    by_over None going = of_errs result (step_errs fixed old result new b going does)
    by_over (Some made) over = by_test made over old.starved does

-- an error of a step has a cause
pub step_caused : (fixed : Fixed) (old : Record) (result : Result Progress Error) (new : Record) → HasCome fixed old → IsKeptUnder fixed old → IsBlamed fixed old → IsLate fixed old → IsLed fixed new → StepDoes fixed.handler old result new → IfError result (HasCause fixed new)
step_caused fixed old result new k u b l led does = by_result result (step_fails fixed old result new b does) (step_blame fixed old result new k u b l does)
  where
    by_result : (x : Result Progress Error) → IfError x (IsFailure new) → IfError x (λ e. KeptBlame fixed (all_heard fixed.version new) (all_said new) new.answers e) → IfError x (HasCause fixed new)
    by_result (Ok made) fails blame = tt
    by_result (Err e) fails blame = caused fixed new e led fails blame

-- ---- a run's result

-- an error of a report has a cause
pub finish_caused : (fixed : Fixed) (handle : NotificationHandle) (exit : RunExitResult) (policy : RetryPolicy) (old : Record) (result : Result Unit Error) (new : Record) → FinishDoes old.starved handle exit policy old result new → IsBlamed fixed new → IsLate fixed new → IsLed fixed new
    → IfErr result (HasCause fixed new)
finish_caused fixed handle exit policy old (Ok t) new does b l led = tt
finish_caused fixed handle exit policy old (Err e) new does b l led = caused fixed new e led (error_is handle exit policy old e new does) (finish_blame fixed handle exit policy old (Err e) new does b l)

-- ---- honest attempts

-- an error of an honest attempt is its own
pub cause_is_own : (fixed : Fixed) (r : Record) (e : Error) → IsHonestlyFed fixed r → HasCause fixed r e → IsItsOwn fixed r e
cause_is_own fixed r e honest (blame, comes) = (honest_fails fixed (all_heard fixed.version r) r.closed r.answers (RefusedResult fixed r) e honest blame, comes)

pub step_is_own : (fixed : Fixed) (r : Record) (result : Result Progress Error) → IsHonestlyFed fixed r → IfError result (HasCause fixed r) → IfError result (IsItsOwn fixed r)
step_is_own fixed r (Ok made) honest h = tt
step_is_own fixed r (Err e) honest h = cause_is_own fixed r e honest h

pub finish_is_own : (fixed : Fixed) (r : Record) (result : Result Unit Error) → IsHonestlyFed fixed r → IfErr result (HasCause fixed r) → IfErr result (IsItsOwn fixed r)
finish_is_own fixed r (Ok t) honest h = tt
finish_is_own fixed r (Err e) honest h = cause_is_own fixed r e honest h
