-- A choice that is refused says none of its cases.
use Rattle.std.proofs.Common.{◌≡◌, ◌≢◌, ℕ, List}
use Rattle.std.specs.Prelude.{codes}
use Rattle.plain.specs.declared.fault.Fault.{Fault}
use Rattle.plain.specs.declared.fault.Fault.TheVariants.{Malformed}
use Rattle.lines.specs.Readings.{Blames}
use Rattle.journal_protocol.specs.ErrorBehavior.{ErrorBehavior}
use Rattle.journal_protocol.specs.ErrorBehavior.TheVariants as behaviors
use Rattle.journal_protocol.specs.FutureKind.{FutureKind}
use Rattle.journal_protocol.specs.FutureKind.TheVariants as kinds
use Rattle.journal_protocol.specs.InvocationTarget.{InvocationTarget}
use Rattle.journal_protocol.specs.InvocationTarget.TheVariants as targets
use Rattle.journal_protocol.specs.Signal.{Signal}
use Rattle.journal_protocol.specs.Signal.TheVariants as signals
use Rattle.journal_protocol.specs.SignalResult.{SignalResult}
use Rattle.journal_protocol.specs.SignalResult.TheVariants as signal_results
use Rattle.journal_protocol.specs.VoidOrValue.{VoidOrValue}
use Rattle.journal_protocol.specs.VoidOrValue.TheVariants as voids
use Rattle.journal_protocol.specs.NotificationId.{NotificationId}
use Rattle.journal_protocol.specs.NotificationId.TheVariants as ids
use Rattle.journal_protocol.specs.NotificationResult.{NotificationResult}
use Rattle.journal_protocol.specs.NotificationResult.TheVariants as results
use Rattle.journal_protocol.specs.ValueOrFailure.{ValueOrFailure}
use Rattle.journal_protocol.specs.ValueOrFailure.TheVariants as values
use Rattle.frame_values.specs.Choices.{SaysNotificationId, SaysNotificationResult, SaysSignal, SaysSignalResult, SaysTarget, SaysValueOrFailure, SaysVoidOrValue, behavior_text, failure_fields, idempotency_id_fields, kind_text, workflow_id_fields}
use Rattle.frame_values.specs.Notation.{HoldsAfterWord, HoldsFields, bytes_notation, list_notation, number, string}

module _ (text : List ℕ) (fault : Fault) where
  pub void_or_value_blamed : text ≢ codes "void" → Blames (HoldsAfterWord (codes "value") bytes_notation text) fault → Blames (SaysVoidOrValue text) fault
  void_or_value_blamed void value = record { nothing = go }
    where
      go : fault ≡ Malformed → (it : VoidOrValue) → SaysVoidOrValue text it → ⊥
      go bad voids.Void says = void says
      go bad (voids.Value it) says = value.nothing bad it says

  pub value_or_failure_blamed : Blames (HoldsAfterWord (codes "value") bytes_notation text) fault → Blames (HoldsFields (codes "failure") failure_fields text) fault → Blames (SaysValueOrFailure text) fault
  value_or_failure_blamed value failure = record { nothing = go }
    where
      go : fault ≡ Malformed → (it : ValueOrFailure) → SaysValueOrFailure text it → ⊥
      go bad (values.Value it) says = value.nothing bad it says
      go bad (values.Failure it) says = failure.nothing bad it says

  pub signal_result_blamed : text ≢ codes "void" → Blames (HoldsAfterWord (codes "value") bytes_notation text) fault → Blames (HoldsFields (codes "failure") failure_fields text) fault → Blames (SaysSignalResult text) fault
  signal_result_blamed void value failure = record { nothing = go }
    where
      go : fault ≡ Malformed → (it : SignalResult) → SaysSignalResult text it → ⊥
      go bad signal_results.Void says = void says
      go bad (signal_results.Value it) says = value.nothing bad it says
      go bad (signal_results.Failure it) says = failure.nothing bad it says

  pub notification_result_blamed : text ≢ codes "void" → Blames (HoldsAfterWord (codes "value") bytes_notation text) fault → Blames (HoldsFields (codes "failure") failure_fields text) fault
      → Blames (HoldsAfterWord (codes "state_keys") (list_notation bytes_notation) text) fault → Blames (HoldsAfterWord (codes "invocation_id") string text) fault → Blames (SaysNotificationResult text) fault
  notification_result_blamed void value failure keys id = record { nothing = go }
    where
      go : fault ≡ Malformed → (it : NotificationResult) → SaysNotificationResult text it → ⊥
      go bad results.Void says = void says
      go bad (results.Value it) says = value.nothing bad it says
      go bad (results.Failure it) says = failure.nothing bad it says
      go bad (results.StateKeys it) says = keys.nothing bad it says
      go bad (results.InvocationId it) says = id.nothing bad it says

  pub notification_id_blamed : Blames (HoldsAfterWord (codes "completion") (number 32) text) fault → Blames (HoldsAfterWord (codes "signal") (number 32) text) fault → Blames (HoldsAfterWord (codes "name") string text) fault
      → Blames (SaysNotificationId text) fault
  notification_id_blamed completion signal name = record { nothing = go }
    where
      go : fault ≡ Malformed → (it : NotificationId) → SaysNotificationId text it → ⊥
      go bad (ids.CompletionId it) says = completion.nothing bad it says
      go bad (ids.SignalId it) says = signal.nothing bad it says
      go bad (ids.SignalName it) says = name.nothing bad it says

  pub signal_blamed : Blames (HoldsAfterWord (codes "index") (number 32) text) fault → Blames (HoldsAfterWord (codes "name") string text) fault → Blames (SaysSignal text) fault
  signal_blamed index name = record { nothing = go }
    where
      go : fault ≡ Malformed → (it : Signal) → SaysSignal text it → ⊥
      go bad (signals.Index it) says = index.nothing bad it says
      go bad (signals.Name it) says = name.nothing bad it says

  pub target_blamed : Blames (HoldsAfterWord (codes "InvocationId") string text) fault → Blames (HoldsFields (codes "WorkflowId") workflow_id_fields text) fault → Blames (HoldsFields (codes "IdempotencyId") idempotency_id_fields text) fault
      → Blames (SaysTarget text) fault
  target_blamed id workflow idempotency = record { nothing = go }
    where
      go : fault ≡ Malformed → (it : InvocationTarget) → SaysTarget text it → ⊥
      go bad (targets.InvocationId it) says = id.nothing bad it says
      go bad (targets.WorkflowId it) says = workflow.nothing bad it says
      go bad (targets.IdempotencyId it) says = idempotency.nothing bad it says

  pub behavior_blamed : text ≢ codes "Retry" → text ≢ codes "Pause" → text ≢ codes "Fail" → Blames (λ it. text ≡ behavior_text it) fault
  behavior_blamed retry pause fail = record { nothing = go }
    where
      go : fault ≡ Malformed → (it : ErrorBehavior) → text ≡ behavior_text it → ⊥
      go bad behaviors.Retry says = retry says
      go bad behaviors.Pause says = pause says
      go bad behaviors.Fail says = fail says

  pub kind_blamed : text ≢ codes "FirstCompleted" → text ≢ codes "AllCompleted" → text ≢ codes "FirstSucceededOrAllFailed" → text ≢ codes "AllSucceededOrFirstFailed" → text ≢ codes "Unknown" → Blames (λ it. text ≡ kind_text it) fault
  kind_blamed first all first_succeeded all_succeeded unknown = record { nothing = go }
    where
      go : fault ≡ Malformed → (it : FutureKind) → text ≡ kind_text it → ⊥
      go bad kinds.FirstCompleted says = first says
      go bad kinds.AllCompleted says = all says
      go bad kinds.FirstSucceededOrAllFailed says = first_succeeded says
      go bad kinds.AllSucceededOrFirstFailed says = all_succeeded says
      go bad kinds.Unknown says = unknown says
