-- The sleeper: it sleeps to one second after the Unix epoch, and gives nothing.
use Rattle.std.specs.Prelude.{List, [], ℕ}
use Rattle.handler_flows.specs.Calls.{sleep}
use Rattle.handler_flows.specs.Code.{Code, Give, ◌>>=◌}

abbrev pub sleeper : Code (List ℕ)
sleeper = sleep (record { secs = 1; nanos = 0 }) >>= λ _. Give []
