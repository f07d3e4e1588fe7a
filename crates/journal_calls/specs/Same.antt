-- `==` of signals and of targets says whether they are the same.
use Rattle.std.specs.Prelude.{refl}
use Rattle.std.specs.Cmp.Lexicographic.{bytes_decides}
use Rattle.std.proofs.Common.{ap}
use Rattle.std.proofs.lemmas.Bool.Decides.{Decides-eqb}
use Rattle.wire.specs.Same.{Exact, exact_pair, exact_on, exact_option}
use Rattle.journal_calls.specs.declared.signals.Signal.TheVariants as by
use Rattle.journal_calls.specs.declared.signals.SignalResult.TheVariants as sent
use Rattle.journal_calls.specs.declared.invocations.InvocationTarget.TheVariants as of
use Rattle.journal_calls.specs.contracts.signals.SignalPartialEq.TheImpl as signals
use Rattle.journal_calls.specs.contracts.signals.SignalResultPartialEq.TheImpl as signal_results
use Rattle.journal_calls.specs.contracts.invocations.WorkflowIdPartialEq.TheImpl as workflows
use Rattle.journal_calls.specs.contracts.invocations.IdempotencyIdPartialEq.TheImpl as idempotencies
use Rattle.journal_calls.specs.contracts.invocations.InvocationTargetPartialEq.TheImpl as targets
use Rattle.journal_values.specs.Same.{failure_exact}

pub signal_exact : Exact (signals.ghosts).eq
signal_exact (by.Index x) (by.Index y) =
    (λ e. ap by.Index ((Decides-eqb x y).0 e), λ e. (Decides-eqb x y).1 cc)
signal_exact (by.Name x) (by.Name y) =
    (λ e. ap by.Name ((bytes_decides x y).0 e), λ e. (bytes_decides x y).1 cc)
signal_exact _ _ = (λ e. absurd cc, λ e. absurd cc)

pub signal_result_exact : Exact (signal_results.ghosts).eq
signal_result_exact sent.Void sent.Void = (λ _. refl, λ _. refl)
signal_result_exact (sent.Value x) (sent.Value y) =
    (λ e. ap sent.Value ((bytes_decides x y).0 e), λ e. (bytes_decides x y).1 cc)
signal_result_exact (sent.Failure x) (sent.Failure y) =
    (λ e. ap sent.Failure ((failure_exact x y).0 e), λ e. (failure_exact x y).1 cc)
signal_result_exact _ _ = (λ e. absurd cc, λ e. absurd cc)

pub workflow_exact : Exact (workflows.ghosts).eq
workflow_exact = exact_on (λ w. (w.name, (w.key, w.scope)))
    (λ p. record { name = p.0; key = p.1.0; scope = p.1.1 }) (λ _. refl)
    (exact_pair bytes_decides (exact_pair bytes_decides (exact_option bytes_decides)))

pub idempotency_exact : Exact (idempotencies.ghosts).eq
idempotency_exact = exact_on
    (λ w. (w.service_name, (w.service_key, (w.handler_name, (w.idempotency_key, w.scope)))))
    (λ p. record {
      service_name = p.0;
      service_key = p.1.0;
      handler_name = p.1.1.0;
      idempotency_key = p.1.1.1.0;
      scope = p.1.1.1.1;
    })
    (λ _. refl)
    (exact_pair bytes_decides
    (exact_pair (exact_option bytes_decides)
    (exact_pair bytes_decides (exact_pair bytes_decides (exact_option bytes_decides)))))

pub attach_target_exact : Exact (targets.ghosts).eq
attach_target_exact (of.InvocationId x) (of.InvocationId y) =
    (λ e. ap of.InvocationId ((bytes_decides x y).0 e), λ e. (bytes_decides x y).1 cc)
attach_target_exact (of.WorkflowId x) (of.WorkflowId y) =
    (λ e. ap of.WorkflowId ((workflow_exact x y).0 e), λ e. (workflow_exact x y).1 cc)
attach_target_exact (of.IdempotencyId x) (of.IdempotencyId y) =
    (λ e. ap of.IdempotencyId ((idempotency_exact x y).0 e), λ e. (idempotency_exact x y).1 cc)
attach_target_exact _ _ = (λ e. absurd cc, λ e. absurd cc)
