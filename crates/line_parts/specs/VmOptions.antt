-- The options of a `vm` line, by their words.
use Rattle.std.specs.Prelude.{◌≡◌, ℕ, true, false, List, [], ◌∷◌, codes}
use Rattle.std.specs.Borrow.{Bor}
use Rattle.vm_types.specs.Options.{default_options}
use Rattle.vm_types.specs.declared.options.VMOptions.{VMOptions}
use Rattle.vm_types.specs.declared.options.AwaitingOnPolicy.{AwaitingOnPolicy}
use Rattle.vm_types.specs.declared.options.AwaitingOnPolicy.TheVariants as awaiting
use Rattle.vm_types.specs.declared.options.ImplicitCancellationOption.{ImplicitCancellationOption}
use Rattle.vm_types.specs.declared.options.ImplicitCancellationOption.TheVariants as cancellation
use Rattle.vm_types.specs.declared.options.JournalMismatchRetryBehavior.{JournalMismatchRetryBehavior}
use Rattle.vm_types.specs.declared.options.JournalMismatchRetryBehavior.TheVariants as mismatch
use Rattle.vm_types.specs.declared.options.JournalReplay.{JournalReplay}
use Rattle.vm_types.specs.declared.options.JournalReplay.TheVariants as replay
use Rattle.vm_types.specs.declared.options.NonDeterministicChecksOption.{NonDeterministicChecksOption}
use Rattle.vm_types.specs.declared.options.NonDeterministicChecksOption.TheVariants as checks
use Rattle.journal_protocol.specs.SignalDelivery.{SignalDelivery}
use Rattle.journal_protocol.specs.SignalDelivery.TheVariants as delivery
use Rattle.lines.specs.Fields.{IsSet, are_named, texts_named}
use Rattle.lines.specs.Words.{IsNumberOf}

-- which children the cancel signal cancels too
abbrev pub cancel_word : ImplicitCancellationOption → List ℕ
cancel_word (cancellation.Enabled true false) = codes "calls"
cancel_word (cancellation.Enabled false false) = codes "none"
cancel_word (cancellation.Enabled false true) = codes "sends"
cancel_word (cancellation.Enabled true true) = codes "both"
cancel_word cancellation.Disabled = codes "off"

-- whether replay compares payloads
abbrev pub checks_word : NonDeterministicChecksOption → List ℕ
checks_word checks.Enabled = codes "on"
checks_word checks.PayloadChecksDisabled = codes "off"

-- when an await says what it waits for
abbrev pub awaiting_word : AwaitingOnPolicy → List ℕ
awaiting_word awaiting.DontSendWhenExecutingRun = codes "norun"
awaiting_word awaiting.SendAlways = codes "always"
awaiting_word awaiting.DontSend = codes "never"

-- what becomes of an invocation whose journal doesn't fit its handler
abbrev pub mismatch_word : JournalMismatchRetryBehavior → List ℕ
mismatch_word mismatch.FollowRetryPolicy = codes "follow"
mismatch_word mismatch.Pause = codes "pause"
mismatch_word mismatch.FailTerminally = codes "fail"

-- whether recorded commands are replayed or skipped
abbrev pub replay_word : JournalReplay → List ℕ
replay_word replay.Enabled = codes "on"
replay_word replay.Disabled = codes "off"

-- whether deliveries of one signal queue up
abbrev pub delivery_word : SignalDelivery → List ℕ
delivery_word delivery.Queued = codes "queued"
delivery_word delivery.Overwrite = codes "overwrite"

-- ---- words for these

abbrev pub IsCancel : List ℕ → ImplicitCancellationOption → Type 0
IsCancel text it = text ≡ cancel_word it

abbrev pub IsChecks : List ℕ → NonDeterministicChecksOption → Type 0
IsChecks text it = text ≡ checks_word it

abbrev pub IsAwaitingPolicy : List ℕ → AwaitingOnPolicy → Type 0
IsAwaitingPolicy text it = text ≡ awaiting_word it

abbrev pub IsMismatch : List ℕ → JournalMismatchRetryBehavior → Type 0
IsMismatch text it = text ≡ mismatch_word it

abbrev pub IsReplay : List ℕ → JournalReplay → Type 0
IsReplay text it = text ≡ replay_word it

abbrev pub IsDelivery : List ℕ → SignalDelivery → Type 0
IsDelivery text it = text ≡ delivery_word it

-- An option is what the word after its name stands for; it is the default if it isn't named. The
-- seed stands apart.
pub record ArePolicies (words : List (Bor (List ℕ))) (options : VMOptions) : Type 0 where
  pub cancel : IsSet IsCancel default_options.implicit_cancellation
      (texts_named (codes "cancel=") words)
      options.implicit_cancellation
  pub checks : IsSet IsChecks default_options.non_determinism_checks
      (texts_named (codes "checks=") words)
      options.non_determinism_checks
  pub awaiting : IsSet IsAwaitingPolicy default_options.awaiting_on_policy
      (texts_named (codes "awaiting=") words) options.awaiting_on_policy
  pub mismatch : IsSet IsMismatch default_options.journal_mismatch_retry_behavior
      (texts_named (codes "mismatch=") words) options.journal_mismatch_retry_behavior
  pub replay : IsSet IsReplay default_options.journal_replay (texts_named (codes "replay=") words)
      options.journal_replay
  pub delivery : IsSet IsDelivery default_options.signal_delivery
      (texts_named (codes "delivery=") words)
      options.signal_delivery

-- the names of the options
abbrev pub option_names : List (List ℕ)
option_names = codes "cancel=" ∷ codes "checks=" ∷ codes "awaiting=" ∷ codes "mismatch="
    ∷ codes "replay=" ∷ codes "delivery=" ∷ codes "seed=" ∷ []

-- the options that these words name, and no others
pub record AreOptions (words : List (Bor (List ℕ))) (options : VMOptions) : Type 0 where
  pub policies : ArePolicies words options
  pub seed : IsSet (IsNumberOf 64) default_options.fallback_random_seed
      (texts_named (codes "seed=") words) options.fallback_random_seed
  pub only : are_named option_names words ≡ true
