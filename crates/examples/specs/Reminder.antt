-- The reminder: it asks what time it is, sleeps until an hour later, and sends.
use Rattle.std.specs.Prelude.{◌+◌, ◌-◌, ◌^◌, ◌==◌, if◌then◌else◌, codes, length, min, List, [], ℕ}
use Rattle.std.specs.Int.{from_be_bytes, w64}
use Rattle.handler_flows.specs.Calls.{run, sleep}
use Rattle.handler_flows.specs.Code.{Code, Give, ◌>>=◌}
use Rattle.handler_flows.specs.Steps.{send}

-- the second that a run has given: eight bytes, the most significant first; 0 for any other bytes
abbrev pub second_in : List ℕ → ℕ
second_in bytes = if length bytes == 8 then from_be_bytes w64 bytes else 0

-- an hour after it, or the last second that there is
abbrev pub hour_after : ℕ → ℕ
hour_after second = min (second + 3600) (2 ^ 64 - 1)

abbrev pub reminder : List ℕ → Code (List ℕ)
reminder note =
    run (codes "now") >>= λ now.
    sleep (record { secs = hour_after (second_in now); nanos = 0 }) >>= λ _.
    send (codes "Mail") (codes "remind") note >>= λ _. Give []
