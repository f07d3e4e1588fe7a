-- The options of a VM that C gives, and the VM that is made.
use Rattle.std.specs.Prelude.{◌≡◌, ◌⊎◌, ◌==◌, ℕ, true, false, if◌then◌else◌, List, Option, Some, None, codes}
use Rattle.std.proofs.Common.{Global}
use Rattle.vm_types.specs.declared.options.VMOptions.{VMOptions}
use Rattle.vm_types.specs.declared.options.AwaitingOnPolicy.{AwaitingOnPolicy}
use Rattle.vm_types.specs.declared.options.AwaitingOnPolicy.TheVariants as awaiting
use Rattle.vm_types.specs.declared.options.ImplicitCancellationOption.{ImplicitCancellationOption}
use Rattle.vm_types.specs.declared.options.ImplicitCancellationOption.TheVariants as cancellation
use Rattle.vm_types.specs.declared.options.JournalMismatchRetryBehavior.{JournalMismatchRetryBehavior}
use Rattle.vm_types.specs.declared.options.JournalMismatchRetryBehavior.TheVariants as mismatch
use Rattle.vm_types.specs.declared.options.JournalReplay.{JournalReplay}
use Rattle.vm_types.specs.declared.options.JournalReplay.TheVariants as replay
use Rattle.vm_types.specs.declared.options.NonDeterministicChecksOption.{NonDeterministicChecksOption}
use Rattle.vm_types.specs.declared.options.NonDeterministicChecksOption.TheVariants as checks
use Rattle.journal_protocol.specs.SignalDelivery.{SignalDelivery}
use Rattle.journal_protocol.specs.SignalDelivery.TheVariants as delivery
use Rattle.invocation_vm.specs.Making.{version_in}
use Rattle.vm_types.specs.ContentTypes.{header_under}
use Rattle.vm_types.specs.declared.content_type.ContentType.{ContentType}
use Rattle.c_sessions.specs.Calls.{MadeFromC}
use Rattle.c_sessions.specs.Replies.{kept_told}
use Rattle.c_sessions.specs.declared.replied.Replied.{Replied}
use Rattle.c_sessions.specs.declared.session.Session.{Session}
use Rattle.c_values.specs.declared.status.Status.{Status}
use Rattle.c_calls.specs.declared.given.MayLend.{MayLend}
use Rattle.c_calls.specs.declared.making.GivenOptions.{GivenOptions}
use Rattle.c_calls.specs.Given.{Misfits, optional_of, lent_texts}

-- each option by its number; 0 is the default
abbrev pub cancellation_at : ℕ → Option ImplicitCancellationOption
cancellation_at n =
    if n == 0 then Some (cancellation.Enabled true false)
    else if n == 1 then Some (cancellation.Enabled false false)
    else if n == 2 then Some (cancellation.Enabled false true)
    else if n == 3 then Some (cancellation.Enabled true true)
    else if n == 4 then Some cancellation.Disabled
    else None

abbrev pub checks_at : ℕ → Option NonDeterministicChecksOption
checks_at n =
    if n == 0 then Some checks.Enabled
    else if n == 1 then Some checks.PayloadChecksDisabled
    else None

abbrev pub awaiting_at : ℕ → Option AwaitingOnPolicy
awaiting_at n =
    if n == 0 then Some awaiting.DontSendWhenExecutingRun
    else if n == 1 then Some awaiting.SendAlways
    else if n == 2 then Some awaiting.DontSend
    else None

abbrev pub mismatch_at : ℕ → Option JournalMismatchRetryBehavior
mismatch_at n =
    if n == 0 then Some mismatch.FollowRetryPolicy
    else if n == 1 then Some mismatch.Pause
    else if n == 2 then Some mismatch.FailTerminally
    else None

abbrev pub replay_at : ℕ → Option JournalReplay
replay_at n =
    if n == 0 then Some replay.Enabled
    else if n == 1 then Some replay.Disabled
    else None

abbrev pub delivery_at : ℕ → Option SignalDelivery
delivery_at n =
    if n == 0 then Some delivery.Queued
    else if n == 1 then Some delivery.Overwrite
    else None

-- the options of these numbers
pub record AreOptionsOf (given : GivenOptions) (options : VMOptions) : Type 0 where
  pub cancellation : cancellation_at given.cancellation ≡ Some options.implicit_cancellation
  pub checks : checks_at given.checks ≡ Some options.non_determinism_checks
  pub awaiting : awaiting_at given.awaiting ≡ Some options.awaiting_on_policy
  pub mismatch : mismatch_at given.mismatch ≡ Some options.journal_mismatch_retry_behavior
  pub replay : replay_at given.replay ≡ Some options.journal_replay
  pub delivery : delivery_at given.delivery ≡ Some options.signal_delivery
  pub seed : options.fallback_random_seed ≡ given.seed

-- a number that names no case of its option
abbrev pub NamesNoOption : GivenOptions → Type 0
NamesNoOption given =
    (cancellation_at given.cancellation ≡ None) ⊎ (checks_at given.checks ≡ None)
    ⊎ (awaiting_at given.awaiting ≡ None)
    ⊎ (mismatch_at given.mismatch ≡ None) ⊎ (replay_at given.replay ≡ None)
    ⊎ (delivery_at given.delivery ≡ None)

-- a request's headers with the content type that is given, or without one
abbrev pub IsFoundOf : MayLend → ContentType → Type 0
IsFoundOf given content_type =
    header_under content_type (codes "content-type") ≡ Some (optional_of given)

-- no VM can be made of what was given, and nothing is done
pub record IsKeptAsMisfit (given : MayLend) (by : GivenOptions) (told : Replied)
    (old new : Option Session) : Type 0 where
  pub why : Status
  pub misfits : Misfits (lent_texts given) (NamesNoOption by) why
  pub told_why : told ≡ kept_told why
  pub kept : new ≡ old

-- a VM is made with the options that are given, for the version that the content type names, or C
-- gets the reason why not
pub record IsMadeAsGiven (alloc : Global) (given : MayLend) (by : GivenOptions) (told : Replied)
    (old new : Option Session) : Type 0 where
  pub options : VMOptions
  pub are : AreOptionsOf by options
  pub made : MadeFromC alloc options (version_in (Some (optional_of given))) told old new

abbrev pub MakesAsGiven : Global → MayLend → GivenOptions → Replied → Option Session
    → Option Session → Type 0
MakesAsGiven alloc given by told old new =
    IsKeptAsMisfit given by told old new ⊎ IsMadeAsGiven alloc given by told old new
