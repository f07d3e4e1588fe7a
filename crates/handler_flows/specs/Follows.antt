-- What a call of a handler's code gives, by the code that it follows.
use Rattle.std.specs.Prelude.{◌≡◌, List, [], ◌∷◌, ℕ, Result, Ok, Err}
use Rattle.vm_types.specs.declared.steps.Answer.{Answer}
use Rattle.handler_flows.specs.declared.exit.Exit.{Exit}
use Rattle.handler_flows.specs.declared.exit.Exit.TheVariants as exit
use Rattle.handler_flows.specs.Code.{Code, Failed, Given, Next, outcome}

-- over the old answers the code comes to this result and leaves the new ones; out of memory says
-- nothing
abbrev pub Follows : {A : Type 0} → Code A → List Answer → Result A Exit → List Answer → Type 0
Follows code old (Ok value) new = outcome code old ≡ Given value new
Follows code old (Err (exit.Next step)) new = outcome code old ≡ Next step
Follows code old (Err (exit.Fault fault)) new = outcome code old ≡ Failed fault new
Follows code old (Err exit.Memory) new = Unit {0}
