use Rattle.std.proofs.Common.{◌≡◌, Err, rules}
use Rattle.frame_lines.specs.Forms.{suspension_fields}
use Rattle.frame_values.proofs.Refusing.{form_blamed}
use Rattle.frame_lines.proofs.forms.control.SuspensionForm.read.Goals as goal

pub returns-in_err-future-clause-none : goal.returns-in_err-future-clause-none
returns-in_err-future-clause-none c =
    let is : c.from_residual.result ≡ Err c.in_err-future.field-0.0 = search rules in
    let none = c.in_err-future.ensures.none in
    rw is (λ exact. form_blamed suspension_fields c.args.words.now _ (none exact))
