-- What becomes of a run's result.
use Rattle.std.specs.Prelude.{ℕ, ◌≡◌, ◌+◌, ◌^◌, ◌-◌, min, [], Option, Some}
use Rattle.std.specs.Option.{option_map}
use Rattle.std.specs.Duration.{as_nanos, max_nanos}
use Rattle.std.specs.declared.time.Duration.{Duration}
use Rattle.journal_errors.specs.declared.error.Error.{Error}
use Rattle.journal_errors.specs.declared.error.ErrorBehavior.TheVariants as behavior
use Rattle.journal_errors.specs.declared.error.RelatedCommand.{RelatedCommand}
use Rattle.journal_errors.specs.declared.types.MessageType.TheVariants as type
use Rattle.journal_values.specs.declared.parts.Failure.{Failure}
use Rattle.journal_values.specs.declared.parts.ValueOrFailure.TheVariants as proposed
use Rattle.vm_retries.specs.declared.policy.RetryPolicy.{RetryPolicy}
use Rattle.vm_retries.specs.Policies.{Verdict, retried, failed, paused, next_retry}
use Rattle.vm_runs.specs.declared.pending.PendingRun.{PendingRun}
use Rattle.vm_types.specs.Values.{failure_message}
use Rattle.vm_types.specs.declared.runs.RunExitResult.{RunExitResult}
use Rattle.vm_types.specs.declared.runs.RunExitResult.TheVariants as exit
use Rattle.vm_runs.specs.declared.settling.Settlement.{Settlement}
use Rattle.vm_runs.specs.declared.settling.Settlement.TheVariants as settlement

-- ---- how often, and for how long

-- with one more failure, as far as a count goes
abbrev pub count_with : ℕ → ℕ
count_with count = min (count + 1) (2 ^ 32 - 1)

-- with one more attempt, in nanoseconds, as far as a duration goes
abbrev pub nanos_with : ℕ → Duration → ℕ
nanos_with nanos attempt = min (nanos + as_nanos attempt) max_nanos

-- ---- what becomes of it

-- the run's command
abbrev pub run_as_related : PendingRun → RelatedCommand
run_as_related run = record { index = run.command_index; ty = type.RunCommand; name = run.name }

-- an error as a failure that isn't retried: its code and text, without metadata
abbrev pub as_terminal_failure : Error → Failure
as_terminal_failure e = record { code = e.code; message = e.message; metadata = [] }

-- A failure that is retried fails the attempt, with the delay of the policy, also where that is
-- none; a pause keeps the error's own delay. Each relates to the run's command. Else the failure is
-- the run's result.
abbrev pub FailsAs : PendingRun → Error → Verdict → Settlement → Type 0
FailsAs run e (retried nanos) s =
    (delay : Option Duration) × (option_map as_nanos delay ≡ nanos)
    × (s ≡ settlement.Failed
    (record e { next_retry_delay = delay; related_command = Some (run_as_related run) }))
FailsAs run e paused s = s
    ≡ settlement.Failed (record e {
      behavior = behavior.Pause;
      related_command = Some (run_as_related run);
    })
FailsAs run e failed s = s ≡ settlement.Proposed (proposed.Failure (as_terminal_failure e))

-- A result and a terminal failure are proposed. What becomes of another failure the policy says, by
-- all the run's failures: those of earlier attempts, how many and for how long, and this one.
abbrev pub SettlesRun : PendingRun → RunExitResult → RetryPolicy → ℕ → ℕ → Settlement → Type 0
SettlesRun run (exit.Success bytes) policy count nanos s = s
    ≡ settlement.Proposed (proposed.Value bytes)
SettlesRun run (exit.TerminalFailure f) policy count nanos s = s
    ≡ settlement.Proposed (proposed.Failure (failure_message f))
SettlesRun run (exit.RetryableFailure attempt e) policy count nanos s = FailsAs run e
    (next_retry policy (count_with count) (nanos_with nanos attempt)) s
