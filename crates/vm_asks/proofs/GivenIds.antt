-- The ids of a step's commands are those that it is given.
use Rattle.std.proofs.Common.{◌≡◌, ℕ, ◌+◌, List, [], ◌∷◌, refl, ap, arith}
use Rattle.journal_protocol.specs.Version.{Version}
use Rattle.vm_types.specs.declared.steps.Step.{Step}
use Rattle.vm_types.specs.declared.steps.Step.TheVariants as step
use Rattle.vm_asks.specs.Asks.{ask_of}
use Rattle.vm_asks.specs.GivenIds.{CarriesGiven, ids_given}

-- the id after the two of a call
third : (id : ℕ) → id + 2 ≡ (id + 1) + 1
third id = omega arith

pub steps_carry_given : (version : Version) (s : Step) → CarriesGiven (ids_given s) (ask_of version s)
steps_carry_given version (step.Call target input name options) = λ id. refl
steps_carry_given version (step.Send target input time name options) = λ id. refl
steps_carry_given version (step.CallWithDeadline target input time name options) = λ id. ap (λ next. id ∷ (id + 1) ∷ next ∷ []) (third id)
steps_carry_given version (step.Sleep name wake_up_time now) = λ id. refl
steps_carry_given version (step.StateGet key name options) = λ id. refl
steps_carry_given version (step.StateGetKeys name) = λ id. refl
steps_carry_given version (step.GetPromise key) = λ id. refl
steps_carry_given version (step.PeekPromise key) = λ id. refl
steps_carry_given version (step.CompletePromise key value options) = λ id. refl
steps_carry_given version (step.Run name) = λ id. refl
steps_carry_given version (step.AttachInvocation target) = λ id. refl
steps_carry_given version (step.GetInvocationOutput target) = λ id. refl
steps_carry_given version (step.StateSet key value name options) = λ id. refl
steps_carry_given version (step.StateClear key name) = λ id. refl
steps_carry_given version (step.StateClearAll name) = λ id. refl
steps_carry_given version (step.CompleteAwakeable name value options) = λ id. refl
steps_carry_given version (step.CompleteSignal target signal value) = λ id. refl
steps_carry_given version (step.CancelInvocation target) = λ id. refl
steps_carry_given version (step.WriteOutput value options) = λ id. refl
steps_carry_given version s = refl
