-- `==` of what calls take and answer says whether two values are the same.
use Rattle.std.specs.Prelude.{refl}
use Rattle.std.specs.Cmp.Lexicographic.{bytes_decides, pointwise_decides}
use Rattle.std.proofs.Common.{ap}
use Rattle.std.proofs.lemmas.Bool.Decides.{Decides-eqb}
use Rattle.plain.specs.Same.{Exact, exact_bool, exact_pair, exact_on, exact_option}
use Rattle.await_trees.specs.declared.handle.NotificationHandle.{NotificationHandle}
use Rattle.await_trees.specs.contracts.handle.NotificationHandlePartialEq.TheImpl as handles
use Rattle.journal_values.specs.contracts.parts.HeaderPartialEq.TheImpl as headers
use Rattle.vm_types.specs.declared.command_type.CommandType.TheVariants as type
use Rattle.vm_types.specs.declared.command_type.CommandRelationship.TheVariants as related
use Rattle.vm_types.specs.declared.values.Value.TheVariants as value
use Rattle.vm_types.specs.contracts.command_type.CommandTypePartialEq.TheImpl as types
use Rattle.vm_types.specs.contracts.command_type.CommandRelationshipPartialEq.TheImpl as relationships
use Rattle.vm_types.specs.contracts.runs.RunHandlePartialEq.TheImpl as run_handles
use Rattle.vm_types.specs.contracts.types.AwakeableHandlePartialEq.TheImpl as awakeables
use Rattle.vm_types.specs.contracts.values.InputPartialEq.TheImpl as inputs
use Rattle.vm_types.specs.contracts.values.TargetPartialEq.TheImpl as targets
use Rattle.vm_types.specs.contracts.values.TerminalFailurePartialEq.TheImpl as failures
use Rattle.vm_types.specs.contracts.values.ValuePartialEq.TheImpl as values

pub handle_exact : Exact (handles.ghosts).eq
handle_exact = exact_on (λ h. h.0) (λ n. record { 0 = n }) (λ _. refl) Decides-eqb

pub header_exact : Exact (headers.ghosts).eq
header_exact = exact_on (λ h. (h.key, h.value)) (λ p. record { key = p.0; value = p.1 }) (λ _. refl)
    (exact_pair bytes_decides bytes_decides)

pub run_exact : Exact (run_handles.ghosts).eq
run_exact = exact_on (λ r. (r.replayed, r.handle)) (λ p. record { replayed = p.0; handle = p.1 })
    (λ _. refl) (exact_pair exact_bool handle_exact)

pub awakeable_exact : Exact (awakeables.ghosts).eq
awakeable_exact = exact_on (λ a. (a.id, a.handle)) (λ p. record { id = p.0; handle = p.1 })
    (λ _. refl) (exact_pair bytes_decides handle_exact)

pub terminal_failure_exact : Exact (failures.ghosts).eq
terminal_failure_exact = exact_on
    (λ f. (f.code, (f.message, f.metadata)))
    (λ (code, (message, metadata)). record { code = code; message = message; metadata = metadata })
    (λ _. refl)
    (exact_pair Decides-eqb (exact_pair bytes_decides
    (pointwise_decides (exact_pair bytes_decides bytes_decides))))

pub answer_value_exact : Exact (values.ghosts).eq
answer_value_exact value.Void value.Void = (λ _. refl, λ _. refl)
answer_value_exact (value.Success x) (value.Success y) =
    (λ e. ap value.Success ((bytes_decides x y).0 e), λ e. (bytes_decides x y).1 cc)
answer_value_exact (value.Failure x) (value.Failure y) = (
  λ e. ap value.Failure ((terminal_failure_exact x y).0 e),
  λ e. (terminal_failure_exact x y).1
      cc,
)
answer_value_exact (value.StateKeys x) (value.StateKeys y) = (
  λ e. ap value.StateKeys ((pointwise_decides bytes_decides x y).0 e),
  λ e.
      (pointwise_decides bytes_decides x y).1 cc,
)
answer_value_exact (value.InvocationId x) (value.InvocationId y) =
    (λ e. ap value.InvocationId ((bytes_decides x y).0 e), λ e. (bytes_decides x y).1 cc)
answer_value_exact _ _ = (λ e. absurd cc, λ e. absurd cc)

pub input_exact : Exact (inputs.ghosts).eq
input_exact = exact_on
    (λ i. (
      i.invocation_id,
      (
        i.random_seed,
        (i.key, (i.headers, (i.input, (i.scope, (i.limit_key, i.idempotency_key))))),
      ),
    ))
    (λ (
      invocation_id,
      (
        random_seed,
        (key, (headers, (input, (scope, (limit_key, idempotency_key))))),
      ),
    ). record {
      invocation_id = invocation_id;
      random_seed = random_seed;
      key = key;
      headers = headers;
      input = input;
      scope = scope;
      limit_key = limit_key;
      idempotency_key = idempotency_key;
    })
    (λ _. refl)
    (exact_pair bytes_decides
    (exact_pair Decides-eqb
    (exact_pair bytes_decides
    (exact_pair (pointwise_decides header_exact) (exact_pair bytes_decides
    (exact_pair (exact_option bytes_decides)
    (exact_pair (exact_option bytes_decides) (exact_option bytes_decides))))))))

pub target_exact : Exact (targets.ghosts).eq
target_exact = exact_on
    (λ t. (
      t.service,
      (
        t.handler,
        (t.key, (t.idempotency_key, (t.scope, (t.limit_key, t.headers)))),
      ),
    ))
    (λ (service, (handler, (key, (idempotency_key, (scope, (limit_key, headers)))))). record {
      service = service;
      handler = handler;
      key = key;
      idempotency_key = idempotency_key;
      scope = scope;
      limit_key = limit_key;
      headers = headers;
    })
    (λ _. refl)
    (exact_pair bytes_decides
    (exact_pair bytes_decides
    (exact_pair (exact_option bytes_decides) (exact_pair (exact_option bytes_decides)
    (exact_pair (exact_option bytes_decides)
    (exact_pair (exact_option bytes_decides) (pointwise_decides header_exact)))))))

pub type_exact : Exact (types.ghosts).eq
type_exact type.Input type.Input = (λ _. refl, λ _. refl)
type_exact type.Output type.Output = (λ _. refl, λ _. refl)
type_exact type.GetState type.GetState = (λ _. refl, λ _. refl)
type_exact type.GetStateKeys type.GetStateKeys = (λ _. refl, λ _. refl)
type_exact type.SetState type.SetState = (λ _. refl, λ _. refl)
type_exact type.ClearState type.ClearState = (λ _. refl, λ _. refl)
type_exact type.ClearAllState type.ClearAllState = (λ _. refl, λ _. refl)
type_exact type.GetPromise type.GetPromise = (λ _. refl, λ _. refl)
type_exact type.PeekPromise type.PeekPromise = (λ _. refl, λ _. refl)
type_exact type.CompletePromise type.CompletePromise = (λ _. refl, λ _. refl)
type_exact type.Sleep type.Sleep = (λ _. refl, λ _. refl)
type_exact type.Call type.Call = (λ _. refl, λ _. refl)
type_exact type.OneWayCall type.OneWayCall = (λ _. refl, λ _. refl)
type_exact type.SendSignal type.SendSignal = (λ _. refl, λ _. refl)
type_exact type.Run type.Run = (λ _. refl, λ _. refl)
type_exact type.AttachInvocation type.AttachInvocation = (λ _. refl, λ _. refl)
type_exact type.GetInvocationOutput type.GetInvocationOutput = (λ _. refl, λ _. refl)
type_exact type.CompleteAwakeable type.CompleteAwakeable = (λ _. refl, λ _. refl)
type_exact type.CancelInvocation type.CancelInvocation = (λ _. refl, λ _. refl)
type_exact _ _ = (λ e. absurd cc, λ e. absurd cc)

pub relationship_exact : Exact (relationships.ghosts).eq
relationship_exact related.Last related.Last = (λ _. refl, λ _. refl)
relationship_exact (related.Next s m) (related.Next t n) =
    let both = exact_pair type_exact (exact_option bytes_decides) (s, m) (t, n) in
    (λ e. ap (λ p. related.Next p.0 p.1) (both.0 e), λ e. both.1 cc)
relationship_exact (related.Specific i s m) (related.Specific j t n) =
    let all = exact_pair Decides-eqb (exact_pair type_exact (exact_option bytes_decides))
    (i, (s, m)) (j, (t, n)) in
    (λ e. ap (λ p. related.Specific p.0 p.1.0 p.1.1) (all.0 e), λ e. all.1 cc)
relationship_exact _ _ = (λ e. absurd cc, λ e. absurd cc)
