-- Durations as they are written on a line.
use Rattle.std.specs.Prelude.{◌≡◌, ◌⊎◌, ◌≤◌, ℕ, ◌*◌, List, ◌++◌, codes}
use Rattle.std.specs.Duration.{as_nanos, max_nanos}
use Rattle.std.specs.Str.Parse.{IsNumeral, digits_value}
use Rattle.std.specs.declared.time.Duration.{Duration}

-- a number of milliseconds, or of nanoseconds with `ns` right after it
abbrev pub IsDuration : List ℕ → ℕ → Type 0
IsDuration text nanos =
    (IsNumeral 10 text × (nanos ≡ digits_value 10 text * 1000000))
    ⊎ ((digits : List ℕ) × IsNumeral 10 digits × (text ≡ digits ++ codes "ns")
    × (nanos ≡ digits_value 10 digits))

-- a duration, which is no longer than the longest one
abbrev pub IsTime : List ℕ → Duration → Type 0
IsTime text time = IsDuration text (as_nanos time) × (as_nanos time ≤ max_nanos)
