use Rattle.std.proofs.Common.{◌≡◌, Err, rules}
use Rattle.frame_lines.specs.Forms.{call_request_fields}
use Rattle.frame_values.proofs.Refusing.{form_blamed}
use Rattle.frame_lines.proofs.forms.calls.CallRequestForm.read.Goals as goal

pub returns-in_err-service_name-clause-none : goal.returns-in_err-service_name-clause-none
returns-in_err-service_name-clause-none c =
    let is : c.from_residual.result ≡ Err c.in_err-service_name.field-0.0 = search rules in
    let none = c.in_err-service_name.ensures.none in
    rw is (λ exact. form_blamed call_request_fields c.args.words.now _ (none exact))
