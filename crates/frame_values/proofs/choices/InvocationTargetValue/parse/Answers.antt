use Rattle.std.proofs.Common.{◌≡◌, Err, refl, rules}
use Rattle.std.specs.Prelude.{codes}
use Rattle.frame_values.specs.Choices.{idempotency_id_fields, workflow_id_fields}
use Rattle.frame_values.specs.Notation.{string}
use Rattle.frame_values.proofs.Bracketing.{fields_blamed, fields_of_another, held_blamed, held_by_another, no_fields, unheld}
use Rattle.frame_values.proofs.Choosing.{target_blamed}
use Rattle.frame_values.proofs.choices.InvocationTargetValue.parse.Goals as goal

pub returns-in_err-value_in-clause-none : goal.returns-in_err-value_in-clause-none
returns-in_err-value_in-clause-none c =
    let is : c.from_residual.result ≡ Err c.in_err-value_in.field-0.0 = search rules in
    let inside = c.in-Some.inside.now in
    let behind = c.in-Some.ensures.inside in
    let none = c.in_err-value_in.ensures.none in
    rw is (λ exact. target_blamed c.args.text.now _
    (held_blamed (codes "InvocationId") string c.args.text.now _ inside behind (none (search rules)))
    (fields_of_another (codes "WorkflowId") workflow_id_fields c.args.text.now _ (codes "InvocationId") inside (λ rest. refl) (λ rest. refl) refl behind)
    (fields_of_another (codes "IdempotencyId") idempotency_id_fields c.args.text.now _ (codes "InvocationId") inside (λ rest. refl) (λ rest. refl) refl behind))

pub returns-in_err-form_in-clause-none : goal.returns-in_err-form_in-clause-none
returns-in_err-form_in-clause-none c =
    let is : c.from_residual-in_err-form_in.result ≡ Err c.in_err-form_in.field-0.0 = search rules in
    let inside = c.in-Some-held.inside.now in
    let behind = c.in-Some-held.ensures.inside in
    let none = c.in_err-form_in.ensures.none in
    rw is (λ exact. target_blamed c.args.text.now _
    (held_by_another (codes "InvocationId") string c.args.text.now _ (codes "WorkflowId") inside (λ rest. refl) (λ rest. refl) refl behind)
    (fields_blamed (codes "WorkflowId") workflow_id_fields c.args.text.now _ inside behind (none (search rules)))
    (fields_of_another (codes "IdempotencyId") idempotency_id_fields c.args.text.now _ (codes "WorkflowId") inside (λ rest. refl) (λ rest. refl) refl behind))

pub returns-in_err-form_in-2-clause-none : goal.returns-in_err-form_in-2-clause-none
returns-in_err-form_in-2-clause-none c =
    let is : c.from_residual-in_err-form_in-2.result ≡ Err c.in_err-form_in-2.field-0.0 = search rules in
    let inside = c.in-Some-held-2.inside.now in
    let behind = c.in-Some-held-2.ensures.inside in
    let none = c.in_err-form_in-2.ensures.none in
    rw is (λ exact. target_blamed c.args.text.now _
    (held_by_another (codes "InvocationId") string c.args.text.now _ (codes "IdempotencyId") inside (λ rest. refl) (λ rest. refl) refl behind)
    (fields_of_another (codes "WorkflowId") workflow_id_fields c.args.text.now _ (codes "IdempotencyId") inside (λ rest. refl) (λ rest. refl) refl behind)
    (fields_blamed (codes "IdempotencyId") idempotency_id_fields c.args.text.now _ inside behind (none (search rules))))

pub returns-clause-none : goal.returns-clause-none
returns-clause-none c =
    λ exact. target_blamed c.args.text.now _
    (unheld (codes "InvocationId") string c.args.text.now _ c.in_default.ensures.none)
    (no_fields (codes "WorkflowId") workflow_id_fields c.args.text.now _ c.in_default-held.ensures.none)
    (no_fields (codes "IdempotencyId") idempotency_id_fields c.args.text.now _ c.in_default-held-2.ensures.none)
