-- Several commands of a call that are made one after another.
use Rattle.std.proofs.Common.{◌≡◌, ◌+◌, ◌<◌, ◌^◌, List, [], ◌∷◌, Result, Ok, Err, inl, inr, refl, arith, ◌∙◌}
use Rattle.std.specs.Prelude.{IfOk}
use Rattle.await_trees.specs.declared.handle.NotificationHandle.{NotificationHandle}
use Rattle.journal_protocol.specs.Error.{Error}
use Rattle.vm_state.specs.declared.counters.Counters.{Counters}
use Rattle.vm_asks.specs.declared.command.Command.{Command}
use Rattle.vm_asks.specs.Asks.{all_ids}
use Rattle.vm_machine.specs.declared.fault.Fault.{Fault}
use Rattle.vm_machine.specs.declared.fault.Fault.TheVariants as fault
use Rattle.vm_machine.specs.declared.machine.Machine.{Machine}
use Rattle.vm_machine.specs.Several.{AllFit, answered_so}
use Rattle.vm_machine.specs.Outcomes.{Settles}
use Rattle.invocation_vm.specs.Calls.{CallsAll, CallsBefore, CallsCommand}
use Rattle.invocation_vm.specs.Views.{View}

-- where a call is answered, its event was, and its handles fit
pub settles_all : (c : Command) (cs : List Command) (given : Result NotificationHandle Fault) (r : Result NotificationHandle Error) (before : Counters) (mid new : Machine) → Settles before given r mid new → IfOk given (AllFit c cs) → IfOk r (AllFit c cs)
settles_all c cs (Ok a) r before mid new s h = rw s.0 h
settles_all c cs (Err fault.Memory) r before mid new s h = rw s.0 tt
settles_all c cs (Err (fault.Refused e)) r before mid new s h =
    elim s as (λ _. IfOk r (AllFit c cs)) [ inl x ↦ rw x.0 tt | inr x ↦ rw x.0 tt ]

fits_so : (c : Command) (cs : List Command) (handle : NotificationHandle) (given : Result NotificationHandle Error) → AllFit c cs handle → IfOk (answered_so handle given) (AllFit c cs)
fits_so c cs handle (Ok a) h = h
fits_so c cs handle (Err e) h = tt

-- the second is made after the first
pub makes_both : (c b : Command) (handle : NotificationHandle) (given : Result NotificationHandle Error) (old mid new : View) → CallsBefore c (b ∷ []) (Ok handle) old mid → CallsCommand b given mid new → CallsAll c (b ∷ []) (answered_so handle given) old new
makes_both c b handle given old mid new first second =
    ((Ok handle, mid.machine, (first.0.0, first.1), (given, (second.0.0, second.1), refl)), second.0.1 ∙ first.0.1, fits_so c (b ∷ []) handle given first.2)

-- the first isn't made
pub makes_none : (c b : Command) (e : Error) (old new : View) → CallsBefore c (b ∷ []) (Err e) old new → CallsAll c (b ∷ []) (Err e) old new
makes_none c b e old new first = ((Err e, new.machine, (first.0.0, first.1), (refl, refl)), first.0.1, tt)

-- the three handles of a call with a deadline fit
pub fits_three : (c : Command) (cs : List Command) (r : Result NotificationHandle Error) → all_ids c cs ≡ 3 → IfOk r (AllFit c cs) → IfOk r (λ handle. handle.0 + 2 < 2 ^ 32)
fits_three c cs (Ok handle) three fits = omega (arith, three, fits)
fits_three c cs (Err e) three fits = tt
