use Rattle.std.proofs.Common.{◌≡◌, Err, refl, rules}
use Rattle.std.specs.Prelude.{codes}
use Rattle.frame_values.specs.Notation.{number, string}
use Rattle.frame_values.proofs.Bracketing.{held_blamed, held_by_another, unheld}
use Rattle.frame_values.proofs.Choosing.{notification_id_blamed}
use Rattle.frame_values.proofs.choices.NotificationIdValue.parse.Goals as goal

pub returns-in_err-value_in-clause-none : goal.returns-in_err-value_in-clause-none
returns-in_err-value_in-clause-none c =
    let is : c.from_residual.result ≡ Err c.in_err-value_in.field-0.0 = search rules in
    let inside = c.in-Some.inside.now in
    let behind = c.in-Some.ensures.inside in
    let none = c.in_err-value_in.ensures.none in
    rw is (λ exact. notification_id_blamed c.args.text.now _
    (held_blamed (codes "completion") (number 32) c.args.text.now _ inside behind (none (search rules)))
    (held_by_another (codes "signal") (number 32) c.args.text.now _ (codes "completion") inside (λ rest. refl) (λ rest. refl) refl behind)
    (held_by_another (codes "name") string c.args.text.now _ (codes "completion") inside (λ rest. refl) (λ rest. refl) refl behind))

pub returns-in_err-value_in-2-clause-none : goal.returns-in_err-value_in-2-clause-none
returns-in_err-value_in-2-clause-none c =
    let is : c.from_residual-in_err-value_in-2.result ≡ Err c.in_err-value_in-2.field-0.0 = search rules in
    let inside = c.in-Some-held.inside.now in
    let behind = c.in-Some-held.ensures.inside in
    let none = c.in_err-value_in-2.ensures.none in
    rw is (λ exact. notification_id_blamed c.args.text.now _
    (held_by_another (codes "completion") (number 32) c.args.text.now _ (codes "signal") inside (λ rest. refl) (λ rest. refl) refl behind)
    (held_blamed (codes "signal") (number 32) c.args.text.now _ inside behind (none (search rules)))
    (held_by_another (codes "name") string c.args.text.now _ (codes "signal") inside (λ rest. refl) (λ rest. refl) refl behind))

pub returns-in_err-value_in-3-clause-none : goal.returns-in_err-value_in-3-clause-none
returns-in_err-value_in-3-clause-none c =
    let is : c.from_residual-in_err-value_in-3.result ≡ Err c.in_err-value_in-3.field-0.0 = search rules in
    let inside = c.in-Some-held-2.inside.now in
    let behind = c.in-Some-held-2.ensures.inside in
    let none = c.in_err-value_in-3.ensures.none in
    rw is (λ exact. notification_id_blamed c.args.text.now _
    (held_by_another (codes "completion") (number 32) c.args.text.now _ (codes "name") inside (λ rest. refl) (λ rest. refl) refl behind)
    (held_by_another (codes "signal") (number 32) c.args.text.now _ (codes "name") inside (λ rest. refl) (λ rest. refl) refl behind)
    (held_blamed (codes "name") string c.args.text.now _ inside behind (none (search rules))))

pub returns-clause-none : goal.returns-clause-none
returns-clause-none c =
    λ exact. notification_id_blamed c.args.text.now _
    (unheld (codes "completion") (number 32) c.args.text.now _ c.in_default.ensures.none)
    (unheld (codes "signal") (number 32) c.args.text.now _ c.in_default-held.ensures.none)
    (unheld (codes "name") string c.args.text.now _ c.in_default-held-2.ensures.none)
