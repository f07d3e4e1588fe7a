use Rattle.std.proofs.Common.{◌≡◌, ◌≢◌, Err, sym, ◌∙◌, refl, rules}
use Rattle.std.specs.Prelude.{codes}
use Rattle.frame_values.specs.Choices.{failure_fields}
use Rattle.frame_values.specs.Notation.{bytes_notation, list_notation, string}
use Rattle.frame_values.proofs.Bracketing.{fields_blamed, fields_of_another, held_blamed, held_by_another, no_fields, not_alone, unheld}
use Rattle.frame_values.proofs.Choosing.{notification_result_blamed}
use Rattle.frame_values.proofs.Bracketing.{unequal}
use Rattle.frame_values.proofs.choices.NotificationResultValue.parse.Goals as goal

pub returns-in_err-value_in-clause-none : goal.returns-in_err-value_in-clause-none
returns-in_err-value_in-clause-none c =
    let is : c.from_residual.result ≡ Err c.in_err-value_in.field-0.0 = search rules in
    let inside = c.in-Some.inside.now in
    let behind = c.in-Some.ensures.inside in
    let none = c.in_err-value_in.ensures.none in
    rw is (λ exact. notification_result_blamed c.args.text.now _
    (not_alone (codes "void") (codes "value") c.args.text.now inside refl (λ rest. refl) refl behind)
    (held_blamed (codes "value") bytes_notation c.args.text.now _ inside behind (none (search rules)))
    (fields_of_another (codes "failure") failure_fields c.args.text.now _ (codes "value") inside (λ rest. refl) (λ rest. refl) refl behind)
    (held_by_another (codes "state_keys") (list_notation bytes_notation) c.args.text.now _ (codes "value") inside (λ rest. refl) (λ rest. refl) refl behind)
    (held_by_another (codes "invocation_id") string c.args.text.now _ (codes "value") inside (λ rest. refl) (λ rest. refl) refl behind))

pub returns-in_err-form_in-clause-none : goal.returns-in_err-form_in-clause-none
returns-in_err-form_in-clause-none c =
    let is : c.from_residual-in_err-form_in.result ≡ Err c.in_err-form_in.field-0.0 = search rules in
    let inside = c.in-Some-held.inside.now in
    let behind = c.in-Some-held.ensures.inside in
    let none = c.in_err-form_in.ensures.none in
    rw is (λ exact. notification_result_blamed c.args.text.now _
    (not_alone (codes "void") (codes "failure") c.args.text.now inside refl (λ rest. refl) refl behind)
    (held_by_another (codes "value") bytes_notation c.args.text.now _ (codes "failure") inside (λ rest. refl) (λ rest. refl) refl behind)
    (fields_blamed (codes "failure") failure_fields c.args.text.now _ inside behind (none (search rules)))
    (held_by_another (codes "state_keys") (list_notation bytes_notation) c.args.text.now _ (codes "failure") inside (λ rest. refl) (λ rest. refl) refl behind)
    (held_by_another (codes "invocation_id") string c.args.text.now _ (codes "failure") inside (λ rest. refl) (λ rest. refl) refl behind))

pub returns-in_err-value_in-2-clause-none : goal.returns-in_err-value_in-2-clause-none
returns-in_err-value_in-2-clause-none c =
    let is : c.from_residual-in_err-value_in-2.result ≡ Err c.in_err-value_in-2.field-0.0 = search rules in
    let inside = c.in-Some-held-2.inside.now in
    let behind = c.in-Some-held-2.ensures.inside in
    let none = c.in_err-value_in-2.ensures.none in
    rw is (λ exact. notification_result_blamed c.args.text.now _
    (not_alone (codes "void") (codes "state_keys") c.args.text.now inside refl (λ rest. refl) refl behind)
    (held_by_another (codes "value") bytes_notation c.args.text.now _ (codes "state_keys") inside (λ rest. refl) (λ rest. refl) refl behind)
    (fields_of_another (codes "failure") failure_fields c.args.text.now _ (codes "state_keys") inside (λ rest. refl) (λ rest. refl) refl behind)
    (held_blamed (codes "state_keys") (list_notation bytes_notation) c.args.text.now _ inside behind (none (search rules)))
    (held_by_another (codes "invocation_id") string c.args.text.now _ (codes "state_keys") inside (λ rest. refl) (λ rest. refl) refl behind))

pub returns-in_err-value_in-3-clause-none : goal.returns-in_err-value_in-3-clause-none
returns-in_err-value_in-3-clause-none c =
    let is : c.from_residual-in_err-value_in-3.result ≡ Err c.in_err-value_in-3.field-0.0 = search rules in
    let inside = c.in-Some-held-3.inside.now in
    let behind = c.in-Some-held-3.ensures.inside in
    let none = c.in_err-value_in-3.ensures.none in
    rw is (λ exact. notification_result_blamed c.args.text.now _
    (not_alone (codes "void") (codes "invocation_id") c.args.text.now inside refl (λ rest. refl) refl behind)
    (held_by_another (codes "value") bytes_notation c.args.text.now _ (codes "invocation_id") inside (λ rest. refl) (λ rest. refl) refl behind)
    (fields_of_another (codes "failure") failure_fields c.args.text.now _ (codes "invocation_id") inside (λ rest. refl) (λ rest. refl) refl behind)
    (held_by_another (codes "state_keys") (list_notation bytes_notation) c.args.text.now _ (codes "invocation_id") inside (λ rest. refl) (λ rest. refl) refl behind)
    (held_blamed (codes "invocation_id") string c.args.text.now _ inside behind (none (search rules))))

pub returns-clause-none : goal.returns-clause-none
returns-clause-none c =
    let void : c.args.text.now ≢ codes "void" = λ e. unequal c.args.text.now c.as_slice.result.now (sym c.eq.ensures ∙ c.if-eq.false) (e ∙ (search rules)) in
    λ exact. notification_result_blamed c.args.text.now _
    void
    (unheld (codes "value") bytes_notation c.args.text.now _ c.in_default.ensures.none)
    (no_fields (codes "failure") failure_fields c.args.text.now _ c.in_default-held.ensures.none)
    (unheld (codes "state_keys") (list_notation bytes_notation) c.args.text.now _ c.in_default-held-2.ensures.none)
    (unheld (codes "invocation_id") string c.args.text.now _ c.in_default-held-3.ensures.none)
