use Rattle.std.proofs.Common.{◌≡◌, ◌≢◌, Err, sym, ◌∙◌, refl, rules}
use Rattle.std.specs.Prelude.{codes}
use Rattle.frame_values.specs.Notation.{bytes_notation}
use Rattle.frame_values.proofs.Bracketing.{held_blamed, not_alone, unheld}
use Rattle.frame_values.proofs.Choosing.{void_or_value_blamed}
use Rattle.frame_values.proofs.Bracketing.{unequal}
use Rattle.frame_values.proofs.choices.VoidOrValueValue.parse.Goals as goal

pub returns-in_err-value_in-clause-none : goal.returns-in_err-value_in-clause-none
returns-in_err-value_in-clause-none c =
    let is : c.from_residual.result ≡ Err c.in_err-value_in.field-0.0 = search rules in
    let inside = c.in-Some.inside.now in
    let behind = c.in-Some.ensures.inside in
    let none = c.in_err-value_in.ensures.none in
    rw is (λ exact. void_or_value_blamed c.args.text.now _
    (not_alone (codes "void") (codes "value") c.args.text.now inside refl (λ rest. refl) refl behind)
    (held_blamed (codes "value") bytes_notation c.args.text.now _ inside behind (none (search rules))))

pub returns-clause-none : goal.returns-clause-none
returns-clause-none c =
    let void : c.args.text.now ≢ codes "void" = λ e. unequal c.args.text.now c.as_slice.result.now (sym c.eq.ensures ∙ c.if-eq.false) (e ∙ (search rules)) in
    λ exact. void_or_value_blamed c.args.text.now _
    void
    (unheld (codes "value") bytes_notation c.args.text.now _ c.in_default.ensures.none)
