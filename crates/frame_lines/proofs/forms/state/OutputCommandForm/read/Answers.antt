use Rattle.std.proofs.Common.{◌≡◌, Err, rules}
use Rattle.frame_lines.specs.Forms.{output_fields}
use Rattle.frame_values.proofs.Refusing.{form_blamed}
use Rattle.frame_lines.proofs.forms.state.OutputCommandForm.read.Goals as goal

pub returns-in_err-result-clause-none : goal.returns-in_err-result-clause-none
returns-in_err-result-clause-none c =
    let is : c.from_residual.result ≡ Err c.in_err-result.field-0.0 = search rules in
    let none = c.in_err-result.ensures.none in
    rw is (λ exact. form_blamed output_fields c.args.words.now _ (none exact))
