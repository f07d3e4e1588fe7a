-- The intervals between retries, in nanoseconds.
use Rattle.std.specs.Prelude.{ℕ, zero, suc, ◌*◌, ◌/◌, min, Option, Some, None}
use Rattle.std.specs.Duration.{as_nanos, max_nanos}
use Rattle.std.specs.declared.time.Duration.{Duration}
use Rattle.vm_retries.specs.declared.fraction.Fraction.{Fraction}

-- the whole part of a number times a fraction
abbrev pub times : Fraction → ℕ → ℕ
times f n = n * f.numerator / f.denominator

-- a number multiplied n times, each time its whole part
unfoldable pub multiplied : Fraction → ℕ → ℕ → ℕ
multiplied f n zero = n
multiplied f n (suc k) = times f (multiplied f n k)

-- the interval after n failures: the initial one after none and after one; after each further one
-- the last interval times the fraction, as far as a duration goes
unfoldable pub interval : ℕ → Fraction → ℕ → ℕ
interval initial f zero = initial
interval initial f (suc zero) = initial
interval initial f (suc (suc c)) = min (times f (interval initial f (suc c))) max_nanos

-- no more than a maximum, if there is one
abbrev pub at_most : Option Duration → ℕ → ℕ
at_most None n = n
at_most (Some most) n = min n (as_nanos most)

-- a delay changes with this number of failures and stays after them
abbrev pub most_counted : ℕ
most_counted = 10000

-- the delay after n failures
abbrev pub delay : Duration → Fraction → Option Duration → ℕ → ℕ
delay initial f most count =
    at_most most (interval (as_nanos initial) f (min count most_counted))
