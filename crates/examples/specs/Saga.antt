-- The saga: it books a flight and then a hotel. A fault of the second gives the flight back, and is
-- the saga's fault.
use Rattle.std.specs.Prelude.{codes, List, ℕ}
use Rattle.handler_flows.specs.Calls.{call}
use Rattle.handler_flows.specs.Code.{Code, Fail, ◌>>=◌, rescued}
use Rattle.handler_flows.specs.Steps.{send}

abbrev pub saga : List ℕ → Code (List ℕ)
saga trip =
    call (codes "Flights") (codes "book") trip >>= λ flight.
    rescued (call (codes "Hotels") (codes "book") trip) (λ fault.
    send (codes "Flights") (codes "cancel") flight >>= λ _. Fail fault)
