use Rattle.std.proofs.Common.{◌≡◌, Err, rules}
use Rattle.frame_lines.specs.Forms.{get_eager_state_keys_fields}
use Rattle.frame_values.proofs.Refusing.{form_blamed}
use Rattle.frame_lines.proofs.forms.state.GetEagerStateKeysCommandForm.read.Goals as goal

pub returns-in_err-value-clause-none : goal.returns-in_err-value-clause-none
returns-in_err-value-clause-none c =
    let is : c.from_residual.result ≡ Err c.in_err-value.field-0.0 = search rules in
    let none = c.in_err-value.ensures.none in
    rw is (λ exact. form_blamed get_eager_state_keys_fields c.args.words.now _ (none exact))
