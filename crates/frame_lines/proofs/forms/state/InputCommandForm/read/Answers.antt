use Rattle.std.proofs.Common.{◌≡◌, Err, rules}
use Rattle.frame_lines.specs.Forms.{input_fields}
use Rattle.frame_values.proofs.Refusing.{form_blamed}
use Rattle.frame_lines.proofs.forms.state.InputCommandForm.read.Goals as goal

pub returns-in_err-headers-clause-none : goal.returns-in_err-headers-clause-none
returns-in_err-headers-clause-none c =
    let is : c.from_residual.result ≡ Err c.in_err-headers.field-0.0 = search rules in
    let none = c.in_err-headers.ensures.none in
    rw is (λ exact. form_blamed input_fields c.args.words.now _ (none exact))
