-- What a policy says of an entry that failed.
use Rattle.std.specs.Prelude.{ℕ, Bool, true, false, ◌||◌, nat_le, if◌then◌else◌, Option, Some, None}
use Rattle.std.specs.Option.{option_map}
use Rattle.std.specs.Duration.{as_nanos}
use Rattle.std.specs.declared.time.Duration.{Duration}
use Rattle.vm_retries.specs.declared.policy.NextRetry.{NextRetry}
use Rattle.vm_retries.specs.declared.policy.NextRetry.TheVariants as next
use Rattle.vm_retries.specs.declared.policy.OnMaxAttempts.{OnMaxAttempts}
use Rattle.vm_retries.specs.declared.policy.OnMaxAttempts.TheVariants as on_max
use Rattle.vm_retries.specs.declared.policy.RetryPolicy.{RetryPolicy}
use Rattle.vm_retries.specs.declared.policy.RetryPolicy.TheVariants as policy
use Rattle.vm_retries.specs.Intervals.{delay}

-- what becomes of an entry that failed, with its delay in nanoseconds
pub data Verdict : Type 0 where
  retried : Option ℕ → Verdict
  failed : Verdict
  paused : Verdict

abbrev pub in_nanos : NextRetry → Verdict
in_nanos (next.Retry delay) = retried (option_map as_nanos delay)
in_nanos next.FailAsTerminal = failed
in_nanos next.Pause = paused

-- a bound is reached if there is one and it isn't above what was spent
abbrev pub is_reached : Option ℕ → ℕ → Bool
is_reached None spent = false
is_reached (Some most) spent = nat_le most spent

-- the bound on attempts or that on the duration, in nanoseconds, is reached
abbrev pub is_exhausted : Option ℕ → Option Duration → ℕ → ℕ → Bool
is_exhausted attempts duration count nanos =
    is_reached attempts count || is_reached (option_map as_nanos duration) nanos

abbrev pub when_exhausted : OnMaxAttempts → Verdict
when_exhausted on_max.FailAsTerminal = failed
when_exhausted on_max.Pause = paused

abbrev pub is_pause : OnMaxAttempts → Bool
is_pause on_max.FailAsTerminal = false
is_pause on_max.Pause = true

-- the policy pauses the invocation once a bound is reached
abbrev pub pauses_on_max : RetryPolicy → Bool
pauses_on_max policy.Infinite = false
pauses_on_max policy.None = false
pauses_on_max (policy.FixedDelay interval attempts duration on) = is_pause on
pauses_on_max (policy.Exponential initial factor most attempts duration on) = is_pause on

-- what a policy says of an entry, by how often it failed and the nanoseconds that this took: its
-- bounds decide first
abbrev pub next_retry : RetryPolicy → ℕ → ℕ → Verdict
next_retry policy.Infinite count nanos = retried None
next_retry policy.None count nanos = failed
next_retry (policy.FixedDelay interval attempts duration on) count nanos =
    if is_exhausted attempts duration count nanos then when_exhausted on
    else retried (option_map as_nanos interval)
next_retry (policy.Exponential initial factor most attempts duration on) count nanos =
    if is_exhausted attempts duration count nanos then when_exhausted on
    else retried (Some (delay initial factor most count))
