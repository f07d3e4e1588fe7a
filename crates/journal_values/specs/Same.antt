-- `==` of values, failures and notifications says whether they are the same.
use Rattle.std.specs.Prelude.{refl}
use Rattle.std.specs.Cmp.Lexicographic.{bytes_decides, pointwise_decides}
use Rattle.std.proofs.Common.{ap}
use Rattle.std.proofs.lemmas.Bool.Decides.{Decides-eqb}
use Rattle.wire.specs.Same.{Exact, exact_pair, exact_on}
use Rattle.journal_values.specs.Parts.{failure_parts}
use Rattle.journal_values.specs.declared.parts.ValueOrFailure.TheVariants as value
use Rattle.journal_values.specs.declared.notification.NotificationId.TheVariants as id
use Rattle.journal_values.specs.declared.notification.NotificationResult.TheVariants as result
use Rattle.journal_values.specs.contracts.parts.FailurePartialEq.TheImpl as failures
use Rattle.journal_values.specs.contracts.parts.ValueOrFailurePartialEq.TheImpl as values_of
use Rattle.journal_values.specs.contracts.notification.NotificationIdPartialEq.TheImpl as ids
use Rattle.journal_values.specs.contracts.notification.NotificationResultPartialEq.TheImpl as results
use Rattle.journal_values.specs.contracts.notification.NotificationPartialEq.TheImpl as notifications

pub failure_exact : Exact (failures.ghosts).eq
failure_exact = exact_on failure_parts
    (λ p. record { code = p.0; message = p.1.0; metadata = p.1.1 }) (λ _. refl)
    (exact_pair Decides-eqb
    (exact_pair bytes_decides (pointwise_decides (exact_pair bytes_decides bytes_decides))))

pub value_exact : Exact (values_of.ghosts).eq
value_exact (value.Value x) (value.Value y) =
    (λ e. ap value.Value ((bytes_decides x y).0 e), λ e. (bytes_decides x y).1 cc)
value_exact (value.Failure x) (value.Failure y) =
    (λ e. ap value.Failure ((failure_exact x y).0 e), λ e. (failure_exact x y).1 cc)
value_exact _ _ = (λ e. absurd cc, λ e. absurd cc)

pub id_exact : Exact (ids.ghosts).eq
id_exact (id.CompletionId x) (id.CompletionId y) =
    (λ e. ap id.CompletionId ((Decides-eqb x y).0 e), λ e. (Decides-eqb x y).1 cc)
id_exact (id.SignalId x) (id.SignalId y) =
    (λ e. ap id.SignalId ((Decides-eqb x y).0 e), λ e. (Decides-eqb x y).1 cc)
id_exact (id.SignalName x) (id.SignalName y) =
    (λ e. ap id.SignalName ((bytes_decides x y).0 e), λ e. (bytes_decides x y).1 cc)
id_exact _ _ = (λ e. absurd cc, λ e. absurd cc)

pub result_exact : Exact (results.ghosts).eq
result_exact result.Void result.Void = (λ _. refl, λ _. refl)
result_exact (result.Value x) (result.Value y) =
    (λ e. ap result.Value ((bytes_decides x y).0 e), λ e. (bytes_decides x y).1 cc)
result_exact (result.Failure x) (result.Failure y) =
    (λ e. ap result.Failure ((failure_exact x y).0 e), λ e. (failure_exact x y).1 cc)
result_exact (result.StateKeys x) (result.StateKeys y) = (
  λ e. ap result.StateKeys ((pointwise_decides bytes_decides x y).0 e),
  λ e.
      (pointwise_decides bytes_decides x y).1 cc,
)
result_exact (result.InvocationId x) (result.InvocationId y) =
    (λ e. ap result.InvocationId ((bytes_decides x y).0 e), λ e. (bytes_decides x y).1 cc)
result_exact _ _ = (λ e. absurd cc, λ e. absurd cc)

pub notification_exact : Exact (notifications.ghosts).eq
notification_exact = exact_on (λ m. (m.id, m.result)) (λ p. record { id = p.0; result = p.1 })
    (λ _. refl) (exact_pair id_exact result_exact)
