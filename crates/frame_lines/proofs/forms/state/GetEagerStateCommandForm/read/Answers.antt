use Rattle.std.proofs.Common.{◌≡◌, Err, rules}
use Rattle.frame_lines.specs.Forms.{get_eager_state_fields}
use Rattle.frame_values.proofs.Refusing.{form_blamed}
use Rattle.frame_lines.proofs.forms.state.GetEagerStateCommandForm.read.Goals as goal

pub returns-in_err-name-clause-none : goal.returns-in_err-name-clause-none
returns-in_err-name-clause-none c =
    let is : c.from_residual.result ≡ Err c.in_err-name.field-0.0 = search rules in
    let none = c.in_err-name.ensures.none in
    rw is (λ exact. form_blamed get_eager_state_fields c.args.words.now _ (none exact))
