use Rattle.std.proofs.Common.{◌≡◌, Err, refl, rules}
use Rattle.std.specs.Prelude.{codes}
use Rattle.frame_values.specs.Notation.{number, string}
use Rattle.frame_values.proofs.Bracketing.{held_blamed, held_by_another, unheld}
use Rattle.frame_values.proofs.Choosing.{signal_blamed}
use Rattle.frame_values.proofs.choices.SignalValue.parse.Goals as goal

pub returns-in_err-value_in-clause-none : goal.returns-in_err-value_in-clause-none
returns-in_err-value_in-clause-none c =
    let is : c.from_residual.result ≡ Err c.in_err-value_in.field-0.0 = search rules in
    let inside = c.in-Some.inside.now in
    let behind = c.in-Some.ensures.inside in
    let none = c.in_err-value_in.ensures.none in
    rw is (λ exact. signal_blamed c.args.text.now _
    (held_blamed (codes "index") (number 32) c.args.text.now _ inside behind (none (search rules)))
    (held_by_another (codes "name") string c.args.text.now _ (codes "index") inside (λ rest. refl) (λ rest. refl) refl behind))

pub returns-in_err-value_in-2-clause-none : goal.returns-in_err-value_in-2-clause-none
returns-in_err-value_in-2-clause-none c =
    let is : c.from_residual-in_err-value_in-2.result ≡ Err c.in_err-value_in-2.field-0.0 = search rules in
    let inside = c.in-Some-held.inside.now in
    let behind = c.in-Some-held.ensures.inside in
    let none = c.in_err-value_in-2.ensures.none in
    rw is (λ exact. signal_blamed c.args.text.now _
    (held_by_another (codes "index") (number 32) c.args.text.now _ (codes "name") inside (λ rest. refl) (λ rest. refl) refl behind)
    (held_blamed (codes "name") string c.args.text.now _ inside behind (none (search rules))))

pub returns-clause-none : goal.returns-clause-none
returns-clause-none c =
    λ exact. signal_blamed c.args.text.now _
    (unheld (codes "index") (number 32) c.args.text.now _ c.in_default.ensures.none)
    (unheld (codes "name") string c.args.text.now _ c.in_default-held.ensures.none)
