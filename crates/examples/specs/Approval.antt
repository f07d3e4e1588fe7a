-- The approval: it hands an awakeable's id to the mail, and gives what the awakeable is completed
-- with.
use Rattle.std.specs.Prelude.{codes, List, ℕ}
use Rattle.handler_flows.specs.Calls.{value}
use Rattle.handler_flows.specs.Code.{Code, ◌>>=◌}
use Rattle.handler_flows.specs.Promises.{awakeable}
use Rattle.handler_flows.specs.Steps.{send}

abbrev pub approval : Code (List ℕ)
approval =
    awakeable >>= λ made. send (codes "Mail") (codes "ask") made.id >>= λ _. value made.handle
