-- What a VM does if nothing else is asked for, and what its options say.
use Rattle.std.specs.Prelude.{Bool, true, false, ◌||◌}
use Rattle.vm_types.specs.declared.options.VMOptions.{VMOptions}
use Rattle.vm_types.specs.declared.options.AwaitingOnPolicy.TheVariants as awaiting
use Rattle.vm_types.specs.declared.options.ImplicitCancellationOption.{ImplicitCancellationOption}
use Rattle.vm_types.specs.declared.options.ImplicitCancellationOption.TheVariants as cancellation
use Rattle.vm_types.specs.declared.options.JournalMismatchRetryBehavior.TheVariants as mismatch
use Rattle.vm_types.specs.declared.options.JournalReplay.TheVariants as replay
use Rattle.vm_types.specs.declared.options.NonDeterministicChecksOption.TheVariants as checks
use Rattle.vm_types.specs.declared.options.NonDeterministicChecksOption.{NonDeterministicChecksOption}
use Rattle.vm_types.specs.declared.options.JournalReplay.{JournalReplay}
use Rattle.journal_values.specs.declared.delivery.SignalDelivery.TheVariants as delivery

-- the options of a VM by default
abbrev pub default_options : VMOptions
default_options = record {
  implicit_cancellation = cancellation.Enabled true false;
  non_determinism_checks = checks.Enabled;
  awaiting_on_policy = awaiting.DontSendWhenExecutingRun;
  journal_mismatch_retry_behavior = mismatch.FollowRetryPolicy;
  journal_replay = replay.Enabled;
  signal_delivery = delivery.Queued;
  fallback_random_seed = 0;
}

-- the cancel signal ends awaits
abbrev pub ends_awaits : ImplicitCancellationOption → Bool
ends_awaits cancellation.Disabled = false
ends_awaits (cancellation.Enabled calls sends) = true

-- the invocations of calls are cancelled with the handler's
abbrev pub cancels_calls : ImplicitCancellationOption → Bool
cancels_calls cancellation.Disabled = false
cancels_calls (cancellation.Enabled calls sends) = calls

-- those of calls whose result nobody waits for are
abbrev pub cancels_sends : ImplicitCancellationOption → Bool
cancels_sends cancellation.Disabled = false
cancels_sends (cancellation.Enabled calls sends) = sends

-- the options leave payloads out of the comparison
abbrev pub checks_are_off : NonDeterministicChecksOption → Bool
checks_are_off checks.PayloadChecksDisabled = true
checks_are_off checks.Enabled = false

-- payloads aren't compared where the options say so or the call's may differ
abbrev pub ignores_payloads : NonDeterministicChecksOption → Bool → Bool
ignores_payloads option unstable = checks_are_off option || unstable

-- recorded commands are skipped
abbrev pub skips_replay : JournalReplay → Bool
skips_replay replay.Enabled = false
skips_replay replay.Disabled = true
