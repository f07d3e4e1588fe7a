-- The retry loop: a try is a sleep and a call. Of an answer that isn't "busy" it keeps the receipt,
-- and gives it.
use Rattle.std.specs.Prelude.{◌+◌, if◌then◌else◌, codes, List, None, Option, Some, ℕ, suc, zero}
use Rattle.std.specs.Str.{bytes_eq}
use Rattle.handler_flows.specs.Calls.{call, sleep}
use Rattle.handler_flows.specs.Code.{Code, Give, ◌>>=◌}
use Rattle.handler_flows.specs.Steps.{set}

-- what a receipt gives: it is kept, except "busy", which is none
unfoldable pub kept : List ℕ → Code (Option (List ℕ))
kept receipt =
    if bytes_eq receipt (codes "busy") then Give None
    else (set (codes "receipt") receipt >>= λ _. Give (Some receipt))

-- one try at this second: the receipt, or nothing if the service is busy
unfoldable pub turn : List ℕ → ℕ → Code (Option (List ℕ))
turn order second =
    sleep (record { secs = second; nanos = 0 }) >>= λ _.
    call (codes "Payments") (codes "charge") order >>= λ receipt.
    kept receipt

-- a receipt ends the tries; without one, what follows is tried
abbrev pub or_try : Option (List ℕ) → Code (List ℕ) → Code (List ℕ)
or_try (Some receipt) next = Give receipt
or_try None next = next

-- the code with this number of tries left, the next of them at this second
abbrev pub tries : List ℕ → ℕ → ℕ → Code (List ℕ)
tries order zero second = Give (codes "given up")
tries order (suc left) second =
    turn order second >>= λ receipt. or_try receipt (tries order left (second + 1))
