-- The outcome of executing a run, as it is proposed.
use Rattle.std.specs.Prelude.{◌≡◌, ℕ, Bool, true, List, [], ◌∷◌, drop, codes}
use Rattle.std.specs.Borrow.{Bor}
use Rattle.std.specs.declared.time.Duration.{Duration}
use Rattle.journal_protocol.specs.Error.{Error}
use Rattle.vm_retries.specs.declared.policy.RetryPolicy.TheVariants as policy
use Rattle.vm_types.specs.declared.runs.RunExitResult.{RunExitResult}
use Rattle.vm_types.specs.declared.runs.RunExitResult.TheVariants as exit
use Rattle.vm_types.specs.declared.values.NonEmptyValue.TheVariants as value
use Rattle.line_parts.specs.declared.results.Proposal.{Proposal}
use Rattle.lines.specs.Fields.{IsSet, are_named, is_named, texts_named}
use Rattle.line_parts.specs.Policies.{IsPolicy}
use Rattle.line_parts.specs.Reports.{IsError}
use Rattle.lines.specs.Durations.{IsTime}
use Rattle.line_parts.specs.Values.{IsValue, but_last}
use Rattle.lines.specs.Words.{IsNumberOf, words_after_first, text_at}

-- whether a word names a policy
abbrev pub is_policy : List ℕ → Bool
is_policy word = is_named (codes "policy=") word

-- the names of the options of a failure that may be retried, the policy among them
abbrev pub retryable_names : List (List ℕ)
retryable_names = codes "stack=" ∷ codes "behaviour=" ∷ codes "delay=" ∷ codes "policy=" ∷ []

-- after how long it failed, and with which error
pub record IsRetryable (words : List (Bor (List ℕ))) (failed : Duration × Error) : Type 0 where
  pub duration : IsTime (text_at 0 words) failed.0
  pub error : IsError (drop 1 words) failed.1
  pub only : are_named retryable_names (drop 3 words) ≡ true

-- the words are a result, with or without a policy: a value, in front of the policy, or `retryable`
-- and the failure's details
abbrev pub IsResult : List (Bor (List ℕ)) → RunExitResult → Type 0
IsResult words (exit.Success bytes) = IsValue (but_last is_policy words) (value.Success bytes)
IsResult words (exit.TerminalFailure failure) = IsValue (but_last is_policy words)
    (value.Failure failure)
IsResult words (exit.RetryableFailure duration error) = (text_at 0 words ≡ codes "retryable")
    × IsRetryable (words_after_first words) (duration, error)

-- the handle of the run, its result, and the policy
pub record IsProposal (words : List (Bor (List ℕ))) (proposal : Proposal) : Type 0 where
  pub handle : IsNumberOf 32 (text_at 0 words) proposal.handle.0
  pub result : IsResult (words_after_first words) proposal.result
  pub policy : IsSet IsPolicy policy.Infinite
      (texts_named (codes "policy=") (words_after_first words))
      proposal.policy
