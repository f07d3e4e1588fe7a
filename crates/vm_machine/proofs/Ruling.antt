-- The error rule of an event that wasn't carried out is that of its answer.
use Rattle.std.proofs.Common.{◌≡◌, ◌∙◌, ap, inl, inr, Result, Err}
use Rattle.journal_protocol.specs.Error.{Error}
use Rattle.vm_state.specs.declared.counters.Counters.{Counters}
use Rattle.vm_machine.specs.declared.fault.Fault.{Fault}
use Rattle.vm_machine.specs.declared.fault.Fault.TheVariants as fault
use Rattle.vm_machine.specs.declared.machine.Machine.{Machine}
use Rattle.vm_machine.specs.Outcomes.{Rules, Settles}

pub settles_by : {A : Type 0} (before : Counters) (f : Fault) (r : Result A Error) (e : Error) (old new : Machine) → r ≡ Err e → Rules before f e old new → Settles before (Err f) r old new
settles_by before fault.Memory r e old new is h = (is ∙ ap Err h.0, h.1)
settles_by before (fault.Refused said) r e old new is h =
    elim h as (λ _. Settles before (Err (fault.Refused said)) r old new) [
      | inl x ↦ inl (is ∙ ap Err x.0, x.1)
      | inr x ↦ inr (is ∙ ap Err x.0, x.1)
    ]
