-- Words that name none of an option's values.
use Rattle.std.proofs.Common.{◌≢◌, ℕ, true, false, List, codes}
use Rattle.plain.specs.declared.fault.Fault.{Fault}
use Rattle.lines.specs.Readings.{Blames}
use Rattle.vm_types.specs.declared.options.AwaitingOnPolicy.{AwaitingOnPolicy}
use Rattle.vm_types.specs.declared.options.AwaitingOnPolicy.TheVariants as awaiting
use Rattle.vm_types.specs.declared.options.ImplicitCancellationOption.{ImplicitCancellationOption}
use Rattle.vm_types.specs.declared.options.ImplicitCancellationOption.TheVariants as cancellation
use Rattle.vm_types.specs.declared.options.JournalMismatchRetryBehavior.{JournalMismatchRetryBehavior}
use Rattle.vm_types.specs.declared.options.JournalMismatchRetryBehavior.TheVariants as mismatch
use Rattle.vm_types.specs.declared.options.JournalReplay.{JournalReplay}
use Rattle.vm_types.specs.declared.options.JournalReplay.TheVariants as replay
use Rattle.vm_types.specs.declared.options.NonDeterministicChecksOption.{NonDeterministicChecksOption}
use Rattle.vm_types.specs.declared.options.NonDeterministicChecksOption.TheVariants as checks
use Rattle.journal_protocol.specs.SignalDelivery.{SignalDelivery}
use Rattle.journal_protocol.specs.SignalDelivery.TheVariants as delivery
use Rattle.line_parts.specs.VmOptions.{IsAwaitingPolicy, IsCancel, IsChecks, IsDelivery, IsMismatch, IsReplay}

pub no_cancel : (text : List ℕ) (fault : Fault) → text ≢ codes "calls" → text ≢ codes "none" → text ≢ codes "sends" → text ≢ codes "both" → text ≢ codes "off" → Blames (IsCancel text) fault
no_cancel text fault a b c d e = record { nothing = λ bad it is. go it is }
  where
    go : (it : ImplicitCancellationOption) → IsCancel text it → ⊥
    go (cancellation.Enabled true false) is = a is
    go (cancellation.Enabled false false) is = b is
    go (cancellation.Enabled false true) is = c is
    go (cancellation.Enabled true true) is = d is
    go cancellation.Disabled is = e is

pub no_checks : (text : List ℕ) (fault : Fault) → text ≢ codes "on" → text ≢ codes "off" → Blames (IsChecks text) fault
no_checks text fault a b = record { nothing = λ bad it is. go it is }
  where
    go : (it : NonDeterministicChecksOption) → IsChecks text it → ⊥
    go checks.Enabled is = a is
    go checks.PayloadChecksDisabled is = b is

pub no_awaiting : (text : List ℕ) (fault : Fault) → text ≢ codes "norun" → text ≢ codes "always" → text ≢ codes "never" → Blames (IsAwaitingPolicy text) fault
no_awaiting text fault a b c = record { nothing = λ bad it is. go it is }
  where
    go : (it : AwaitingOnPolicy) → IsAwaitingPolicy text it → ⊥
    go awaiting.DontSendWhenExecutingRun is = a is
    go awaiting.SendAlways is = b is
    go awaiting.DontSend is = c is

pub no_mismatch : (text : List ℕ) (fault : Fault) → text ≢ codes "follow" → text ≢ codes "pause" → text ≢ codes "fail" → Blames (IsMismatch text) fault
no_mismatch text fault a b c = record { nothing = λ bad it is. go it is }
  where
    go : (it : JournalMismatchRetryBehavior) → IsMismatch text it → ⊥
    go mismatch.FollowRetryPolicy is = a is
    go mismatch.Pause is = b is
    go mismatch.FailTerminally is = c is

pub no_replay : (text : List ℕ) (fault : Fault) → text ≢ codes "on" → text ≢ codes "off" → Blames (IsReplay text) fault
no_replay text fault a b = record { nothing = λ bad it is. go it is }
  where
    go : (it : JournalReplay) → IsReplay text it → ⊥
    go replay.Enabled is = a is
    go replay.Disabled is = b is

pub no_delivery : (text : List ℕ) (fault : Fault) → text ≢ codes "queued" → text ≢ codes "overwrite" → Blames (IsDelivery text) fault
no_delivery text fault a b = record { nothing = λ bad it is. go it is }
  where
    go : (it : SignalDelivery) → IsDelivery text it → ⊥
    go delivery.Queued is = a is
    go delivery.Overwrite is = b is
