-- The meaning of a handler whose code is a tree: the step that follows a list of answers.
use Rattle.std.specs.Prelude.{codes, List, [], ◌∷◌, ℕ}
use Rattle.vm_types.specs.declared.steps.Answer.{Answer}
use Rattle.vm_types.specs.declared.steps.Answer.TheVariants as answer
use Rattle.vm_types.specs.declared.steps.Step.{Step}
use Rattle.vm_types.specs.declared.steps.Step.TheVariants as step
use Rattle.vm_types.specs.declared.values.Input.{Input}
use Rattle.vm_types.specs.declared.values.NonEmptyValue.{NonEmptyValue}
use Rattle.vm_types.specs.declared.values.NonEmptyValue.TheVariants as non_empty
use Rattle.vm_types.specs.declared.values.TerminalFailure.{TerminalFailure}
use Rattle.handler_flows.specs.declared.exit.Fault.{Fault}
use Rattle.handler_flows.specs.declared.exit.Fault.TheVariants as fault
use Rattle.handler_flows.specs.Code.{Code, Failed, Given, Next, FlowOutcome, outcome}
use Rattle.handler_flows.specs.Steps.{stable}

-- the failure that a handler ends with by a fault
abbrev pub fault_failure : Fault → TerminalFailure
fault_failure fault.Cancelled = record { code = 409; message = codes "cancelled"; metadata = [] }
fault_failure (fault.Failed failure) = failure

-- the output is written, and after its answer the handler is over
abbrev pub output_written : NonEmptyValue → List Answer → Step
output_written output [] = step.WriteOutput output stable
output_written output (answer ∷ answers) = step.End

-- the step after an outcome
abbrev pub last_step : FlowOutcome (List ℕ) → Step
last_step (Given output answers) = output_written (non_empty.Success output) answers
last_step (Failed fault answers) = output_written (non_empty.Failure (fault_failure fault)) answers
last_step (Next step) = step

-- the step after these answers, the first of which is the input
abbrev pub meaning_of : (Input → Code (List ℕ)) → List Answer → Step
meaning_of code (answer.Input input ∷ answers) = last_step (outcome (code input) answers)
meaning_of code _ = step.End
