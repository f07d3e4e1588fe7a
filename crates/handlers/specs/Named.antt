-- The handlers that programs know by their names.
use Rattle.std.specs.Prelude.{ℕ, if◌then◌else◌, List, nat_eq, codes, Option, Some, None}
use Rattle.std.specs.Cmp.Lexicographic.{pointwise}
use Rattle.vm_types.specs.declared.steps.Answer.{Answer}
use Rattle.vm_types.specs.declared.steps.Step.{Step}
use Rattle.handlers.specs.declared.named.Named.{Named}
use Rattle.handlers.specs.declared.named.Named.TheVariants as named
use Rattle.handlers.specs.Charge.{charge_step}
use Rattle.handlers.specs.Counter.{counter_step}
use Rattle.handlers.specs.Deadline.{deadline_step}
use Rattle.handlers.specs.Parent.{parent_step}
use Rattle.handlers.specs.Race.{race_step}
use Rattle.handlers.specs.Sleeper.{sleeper_step}

-- what a handler does next
abbrev pub step_of : Named → List Answer → Step
step_of (named.Sleeper sleeper) = sleeper_step
step_of (named.Race race) = race_step
step_of (named.Parent parent) = parent_step
step_of (named.Counter counter) = counter_step
step_of (named.Deadline deadline) = deadline_step
step_of (named.Charge charge) = charge_step

-- what the handler of this name does next, where its attempts execute nothing outside
abbrev pub step_named : List ℕ → Option (List Answer → Step)
step_named name =
    if pointwise nat_eq name (codes "sleeper") then Some sleeper_step
    else if pointwise nat_eq name (codes "race") then Some race_step
    else if pointwise nat_eq name (codes "parent") then Some parent_step
    else if pointwise nat_eq name (codes "counter") then Some counter_step
    else if pointwise nat_eq name (codes "deadline") then Some deadline_step
    else None

-- what the handler of this name does next in a round, which can execute a run
abbrev pub step_in_rounds : List ℕ → Option (List Answer → Step)
step_in_rounds name =
    if pointwise nat_eq name (codes "charge") then Some charge_step else step_named name
