-- Whether replay compares the values that calls set in the state with the recorded ones.
use Rattle.std.specs.Prelude.{◌≡◌, false, List}
use Rattle.std.specs.List.{AllByRecursion}
use Rattle.vm_types.specs.declared.options.NonDeterministicChecksOption.TheVariants as checks
use Rattle.vm_types.specs.declared.steps.Step.{Step}
use Rattle.vm_types.specs.declared.steps.Step.TheVariants as step
use Rattle.vm_model.specs.Calls.{Setup}

-- a call that sets a key of the state doesn't say that its value may differ from one attempt to the
-- next
abbrev pub IsNoUnstableSet : Step → Type 0
IsNoUnstableSet (step.StateSet key value name options) = options.unstable_serialization ≡ false
IsNoUnstableSet st = Unit {0}

-- Each value that these calls set is compared with the recorded one: the options compare payloads,
-- and no call leaves its value out.
pub record SetsAreCompared (s : Setup) (calls : List Step) : Type 0 where
  pub compared : s.options.non_determinism_checks ≡ checks.Enabled
  pub stable : AllByRecursion IsNoUnstableSet calls
