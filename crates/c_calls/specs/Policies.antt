-- Which policy of retries C gives.
use Rattle.std.specs.Prelude.{◌≡◌, ◌⊎◌, ◌==◌, ℕ, Bool, true, false, if◌then◌else◌, Option, Some, None}
use Rattle.std.specs.declared.time.Duration.{Duration}
use Rattle.vm_retries.specs.Policies.{is_pause}
use Rattle.vm_retries.specs.declared.policy.OnMaxAttempts.{OnMaxAttempts}
use Rattle.vm_retries.specs.declared.policy.RetryPolicy.{RetryPolicy}
use Rattle.vm_retries.specs.declared.policy.RetryPolicy.TheVariants as policy
use Rattle.c_calls.specs.declared.policies.GivenPolicy.{GivenPolicy}
use Rattle.c_calls.specs.Given.{IsSpan, IsSpanIf}

-- the most attempts, if they are given
abbrev pub given_attempts : GivenPolicy → Option ℕ
given_attempts given = if given.has_attempts then Some given.attempts else None

-- the delay, or the longest one; the most attempts; the longest time for them; and whether the
-- invocation pauses after them
abbrev pub AreBoundsOf : GivenPolicy → Option Duration → Option ℕ → Option Duration → OnMaxAttempts
    → Type 0
AreBoundsOf given interval attempts longest on =
    IsSpanIf given.has_interval given.interval_millis interval
    × (attempts ≡ given_attempts given)
    × IsSpanIf given.has_duration given.duration_millis longest
    × (is_pause on ≡ given.pauses)

-- the policy of a kind, with its delays and bounds
abbrev pub IsPolicyOf : GivenPolicy → RetryPolicy → Type 0
IsPolicyOf given policy.Infinite = given.kind ≡ 0
IsPolicyOf given policy.None = given.kind ≡ 1
IsPolicyOf given (policy.FixedDelay interval attempts longest on) = (given.kind ≡ 2)
    × AreBoundsOf given interval attempts longest on
IsPolicyOf given (policy.Exponential initial factor interval attempts longest on) =
    (given.kind ≡ 3)
    × IsSpan given.initial_millis initial
    × (factor.numerator ≡ given.numerator)
    × (factor.denominator ≡ given.denominator)
    × AreBoundsOf given interval attempts longest on

-- whether a number names a kind of policy
abbrev pub is_kind : ℕ → Bool
is_kind n = if n == 0 then true else if n == 1 then true else if n == 2 then true else if n == 3
    then true else false

-- a number that names no kind, or a factor over 0
abbrev pub IsNoPolicy : GivenPolicy → Type 0
IsNoPolicy given = (is_kind given.kind ≡ false) ⊎ ((given.kind ≡ 3) × (given.denominator ≡ 0))
