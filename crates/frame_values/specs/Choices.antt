-- How choices stand on a line: the case, and in round brackets what it holds.
use Rattle.std.specs.Prelude.{◌≡◌, ℕ, false, List, codes}
use Rattle.journal_protocol.specs.IdempotencyId.{IdempotencyId}
use Rattle.journal_protocol.specs.InvocationTarget.{InvocationTarget}
use Rattle.journal_protocol.specs.InvocationTarget.TheVariants as targets
use Rattle.journal_protocol.specs.WorkflowId.{WorkflowId}
use Rattle.journal_protocol.specs.Signal.{Signal}
use Rattle.journal_protocol.specs.Signal.TheVariants as signals
use Rattle.journal_protocol.specs.SignalResult.{SignalResult}
use Rattle.journal_protocol.specs.SignalResult.TheVariants as signal_results
use Rattle.journal_protocol.specs.ErrorBehavior.{ErrorBehavior}
use Rattle.journal_protocol.specs.ErrorBehavior.TheVariants as behaviors
use Rattle.journal_protocol.specs.VoidOrValue.{VoidOrValue}
use Rattle.journal_protocol.specs.VoidOrValue.TheVariants as voids
use Rattle.journal_protocol.specs.NotificationId.{NotificationId}
use Rattle.journal_protocol.specs.NotificationId.TheVariants as ids
use Rattle.journal_protocol.specs.NotificationResult.{NotificationResult}
use Rattle.journal_protocol.specs.NotificationResult.TheVariants as results
use Rattle.journal_protocol.specs.Failure.{Failure}
use Rattle.journal_protocol.specs.ValueOrFailure.{ValueOrFailure}
use Rattle.journal_protocol.specs.ValueOrFailure.TheVariants as values
use Rattle.journal_protocol.specs.FutureKind.{FutureKind}
use Rattle.journal_protocol.specs.FutureKind.TheVariants as kinds
use Rattle.frame_values.specs.Notation.{Fields, HoldsAfterWord, HoldsFields, Notation, bracketed, bytes_notation, field, holding, list_notation, nothing, number, optional, pair, string}

-- a choice has no default
abbrev pub choice : {A : Type 0} → (A → List ℕ) → (List ℕ → A → Type 0) → Notation A
choice text Says =
    record { text = text; is_left_out = λ _. false; Says = Says; IsExact = Unit {0} }

-- ---- what stands in brackets

abbrev pub failure_fields : Fields Failure
failure_fields =
    field (codes "code") (λ it. it.code) (number 32) (
    field (codes "message") (λ it. it.message) string (
    field (codes "metadata") (λ it. it.metadata) (list_notation (pair string string)) nothing))

abbrev pub workflow_id_fields : Fields WorkflowId
workflow_id_fields =
    field (codes "name") (λ it. it.name) string (
    field (codes "key") (λ it. it.key) string (
    field (codes "scope") (λ it. it.scope) (optional string) nothing))

abbrev pub idempotency_id_fields : Fields IdempotencyId
idempotency_id_fields =
    field (codes "service_name") (λ it. it.service_name) string (
    field (codes "service_key") (λ it. it.service_key) (optional string) (
    field (codes "handler_name") (λ it. it.handler_name) string (
    field (codes "idempotency_key") (λ it. it.idempotency_key) string (
    field (codes "scope") (λ it. it.scope) (optional string) nothing))))

-- ---- choices

abbrev pub behavior_text : ErrorBehavior → List ℕ
behavior_text behaviors.Retry = codes "Retry"
behavior_text behaviors.Pause = codes "Pause"
behavior_text behaviors.Fail = codes "Fail"

abbrev pub behavior_notation : Notation ErrorBehavior
behavior_notation = choice behavior_text (λ text it. text ≡ behavior_text it)

abbrev pub void_or_value_text : VoidOrValue → List ℕ
void_or_value_text voids.Void = codes "void"
void_or_value_text (voids.Value it) = holding (codes "value") bytes_notation it

abbrev pub SaysVoidOrValue : List ℕ → VoidOrValue → Type 0
SaysVoidOrValue text voids.Void = text ≡ codes "void"
SaysVoidOrValue text (voids.Value it) = HoldsAfterWord (codes "value") bytes_notation text it

abbrev pub void_or_value_notation : Notation VoidOrValue
void_or_value_notation = choice void_or_value_text SaysVoidOrValue

abbrev pub value_or_failure_text : ValueOrFailure → List ℕ
value_or_failure_text (values.Value it) = holding (codes "value") bytes_notation it
value_or_failure_text (values.Failure it) = bracketed (codes "failure") failure_fields it

abbrev pub SaysValueOrFailure : List ℕ → ValueOrFailure → Type 0
SaysValueOrFailure text (values.Value it) = HoldsAfterWord (codes "value") bytes_notation text it
SaysValueOrFailure text (values.Failure it) = HoldsFields (codes "failure") failure_fields text it

abbrev pub value_or_failure_notation : Notation ValueOrFailure
value_or_failure_notation = choice value_or_failure_text SaysValueOrFailure

abbrev pub signal_result_text : SignalResult → List ℕ
signal_result_text signal_results.Void = codes "void"
signal_result_text (signal_results.Value it) = holding (codes "value") bytes_notation it
signal_result_text (signal_results.Failure it) = bracketed (codes "failure") failure_fields it

abbrev pub SaysSignalResult : List ℕ → SignalResult → Type 0
SaysSignalResult text signal_results.Void = text ≡ codes "void"
SaysSignalResult text (signal_results.Value it) = HoldsAfterWord (codes "value") bytes_notation text
    it
SaysSignalResult text (signal_results.Failure it) = HoldsFields (codes "failure") failure_fields
    text it

abbrev pub signal_result_notation : Notation SignalResult
signal_result_notation = choice signal_result_text SaysSignalResult

abbrev pub notification_result_text : NotificationResult → List ℕ
notification_result_text results.Void = codes "void"
notification_result_text (results.Value it) = holding (codes "value") bytes_notation it
notification_result_text (results.Failure it) = bracketed (codes "failure") failure_fields it
notification_result_text (results.StateKeys it) = holding (codes "state_keys")
    (list_notation bytes_notation) it
notification_result_text (results.InvocationId it) = holding (codes "invocation_id") string it

abbrev pub SaysNotificationResult : List ℕ → NotificationResult → Type 0
SaysNotificationResult text results.Void = text ≡ codes "void"
SaysNotificationResult text (results.Value it) = HoldsAfterWord (codes "value") bytes_notation text
    it
SaysNotificationResult text (results.Failure it) = HoldsFields (codes "failure") failure_fields text
    it
SaysNotificationResult text (results.StateKeys it) = HoldsAfterWord (codes "state_keys")
    (list_notation bytes_notation) text it
SaysNotificationResult text (results.InvocationId it) = HoldsAfterWord (codes "invocation_id")
    string text it

abbrev pub notification_result_notation : Notation NotificationResult
notification_result_notation = choice notification_result_text SaysNotificationResult

abbrev pub notification_id_text : NotificationId → List ℕ
notification_id_text (ids.CompletionId it) = holding (codes "completion") (number 32) it
notification_id_text (ids.SignalId it) = holding (codes "signal") (number 32) it
notification_id_text (ids.SignalName it) = holding (codes "name") string it

abbrev pub SaysNotificationId : List ℕ → NotificationId → Type 0
SaysNotificationId text (ids.CompletionId it) = HoldsAfterWord (codes "completion") (number 32) text
    it
SaysNotificationId text (ids.SignalId it) = HoldsAfterWord (codes "signal") (number 32) text it
SaysNotificationId text (ids.SignalName it) = HoldsAfterWord (codes "name") string text it

abbrev pub notification_id_notation : Notation NotificationId
notification_id_notation = choice notification_id_text SaysNotificationId

abbrev pub signal_text : Signal → List ℕ
signal_text (signals.Index it) = holding (codes "index") (number 32) it
signal_text (signals.Name it) = holding (codes "name") string it

abbrev pub SaysSignal : List ℕ → Signal → Type 0
SaysSignal text (signals.Index it) = HoldsAfterWord (codes "index") (number 32) text it
SaysSignal text (signals.Name it) = HoldsAfterWord (codes "name") string text it

abbrev pub signal_notation : Notation Signal
signal_notation = choice signal_text SaysSignal

abbrev pub target_text : InvocationTarget → List ℕ
target_text (targets.InvocationId it) = holding (codes "InvocationId") string it
target_text (targets.WorkflowId it) = bracketed (codes "WorkflowId") workflow_id_fields it
target_text (targets.IdempotencyId it) = bracketed (codes "IdempotencyId") idempotency_id_fields it

abbrev pub SaysTarget : List ℕ → InvocationTarget → Type 0
SaysTarget text (targets.InvocationId it) = HoldsAfterWord (codes "InvocationId") string text it
SaysTarget text (targets.WorkflowId it) = HoldsFields (codes "WorkflowId") workflow_id_fields text
    it
SaysTarget text (targets.IdempotencyId it) = HoldsFields (codes "IdempotencyId")
    idempotency_id_fields text
    it

abbrev pub target_notation : Notation InvocationTarget
target_notation = choice target_text SaysTarget

abbrev pub kind_text : FutureKind → List ℕ
kind_text kinds.FirstCompleted = codes "FirstCompleted"
kind_text kinds.AllCompleted = codes "AllCompleted"
kind_text kinds.FirstSucceededOrAllFailed = codes "FirstSucceededOrAllFailed"
kind_text kinds.AllSucceededOrFirstFailed = codes "AllSucceededOrFirstFailed"
kind_text kinds.Unknown = codes "Unknown"

abbrev pub kind_notation : Notation FutureKind
kind_notation = choice kind_text (λ text it. text ≡ kind_text it)
