-- The completion ids after an input that was read, if recorded commands are skipped.
use Rattle.std.proofs.Common.{◌≡◌, true, Option, Some, None, Result, Ok, Err}
use Rattle.std.specs.Prelude.{OnOk}
use Rattle.journal_protocol.specs.Error.{Error}
use Rattle.vm_types.specs.declared.values.Input.{Input}
use Rattle.vm_asks.specs.Carried.{AreBelow, all_carried}
use Rattle.vm_machine.specs.declared.machine.Machine.{Machine}
use Rattle.vm_machine.specs.Inputs.{input_step}
use Rattle.vm_machine.specs.Outcomes.{Does, Done, Failed, Gives, Lives, Outcome, Settles, called, called_at, settled}
use Rattle.vm_types.specs.Options.{skips_replay}
use Rattle.vm_machine.specs.declared.fault.Fault.{Fault}
use Rattle.vm_machine.proofs.Skipping.{input_fresh}
use Rattle.invocation_vm.proofs.Calls.{does_called}

-- a call that is done is its event's
pub done_by : {A : Type 0} (v : Machine) (o : Outcome A) (a : A) (w : Machine) → called o v ≡ Done a w → o ≡ Done a w
unfolding called
done_by {A} v o a w is = by_failure v.failure is
  where
    by_outcome : (q : Outcome A) → settled q ≡ Done a w → q ≡ Done a w
    by_outcome (Done b x) h = h
    by_outcome (Failed e x) h = absurd (cc)

    by_failure : (f : Option Error) → called_at f o v ≡ Done a w → o ≡ Done a w
    by_failure None h = by_outcome o h
    by_failure (Some e) h = absurd (cc)

pub skips_fresh : (r : Result Input Error) (old new : Machine) → Does (called (input_step old) old) r old new → skips_replay old.options.journal_replay ≡ true → OnOk r (AreBelow new.counters.completion (all_carried old.commands))
skips_fresh (Ok i) old new does skips = input_fresh old i new skips (done_by old (input_step old) i new does)
skips_fresh (Err e) old new does skips = tt

-- what settles a reading of the input
pub skips_settled : (given : Result Input Fault) (r : Result Input Error) (old mid new : Machine) → Lives old.failure (Ok tt) → Gives (input_step old) given old mid → Settles old.counters given r mid new → skips_replay old.options.journal_replay ≡ true
    → OnOk r (AreBelow new.counters.completion (all_carried old.commands))
skips_settled given r old mid new lives gives settles skips = skips_fresh r old new (does_called (input_step old) given r old mid new lives gives settles) skips
