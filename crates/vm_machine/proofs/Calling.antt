-- A call whose event has several possible outcomes is the call of one of them.
use Rattle.std.proofs.Common.{◌≡◌, Option, Some, None, refl, sym, ap, ◌∙◌}
use Rattle.journal_protocol.specs.Error.{Error}
use Rattle.vm_machine.specs.declared.machine.Machine.{Machine}
use Rattle.vm_machine.specs.Outcomes.{CalledAt, CalledBy, Failed, Outcome, called, called_at}

pub called_from : {A : Type 0} (R : Outcome A → Type 0) (v : Machine) (o : Outcome A) → CalledBy R v o → (event : Outcome A) × (v.failure ≡ None → R event) × (o ≡ called event v)
unfolding called
called_from {A} R v o h = by_failure v.failure refl h
  where
    by_failure : (f : Option Error) → v.failure ≡ f → CalledAt f R v o → (event : Outcome A) × (v.failure ≡ None → R event) × (o ≡ called_at v.failure event v)
    by_failure None live x = (x.0, λ _. x.1, x.2 ∙ ap (λ f. called_at f x.0 v) (sym live))
    by_failure (Some e) dead x = (Failed e v, λ live. absurd (let z : Some e ≡ None = sym dead ∙ live in cc), x ∙ ap (λ f. called_at f (Failed e v) v) (sym dead))

-- a machine that has failed answers its first error
pub answers_first : {A : Type 0} (o : Outcome A) (e : Error) (v : Machine) → v.failure ≡ Some e → called o v ≡ Failed e v
unfolding called
answers_first o e v f = ap (λ (x : Option Error). called_at x o v) f
