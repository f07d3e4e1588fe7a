-- What the lines of a plan say.
use Rattle.std.specs.Prelude.{◌≡◌, ◌⊎◌, ℕ, List, string_bytes}
use Rattle.std.specs.List.{AllZip}
use Rattle.std.proofs.Common.{Global}
use Rattle.std.specs.declared.string.String.{String}
use Rattle.call_lines.specs.Lines.{IsRequestLine}
use Rattle.vm_types.specs.declared.call.Call.TheVariants as call
use Rattle.call_lines.specs.declared.request.Request.TheVariants as request
use Rattle.vm_types.specs.declared.steps.Step.{Step}
use Rattle.vm_types.specs.declared.steps.Step.TheVariants as step

-- the line asks for the call that this step is, which may be a run
abbrev pub SaysStep : List ℕ → Step → Type 0
SaysStep line said = IsRequestLine line (request.Call (call.Step said))
    ⊎ ((name : List ℕ) × IsRequestLine line (request.Call (call.Run name)) × (said ≡ step.Run name))

-- the lines say these steps, one each
abbrev pub AreSaid : List (String Global) → List Step → Type 0
AreSaid lines steps = AllZip (λ line said. SaysStep (string_bytes line) said) lines steps
