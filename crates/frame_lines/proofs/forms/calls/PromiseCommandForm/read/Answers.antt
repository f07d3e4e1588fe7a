use Rattle.std.proofs.Common.{◌≡◌, Err, rules}
use Rattle.frame_lines.specs.Forms.{promise_fields}
use Rattle.frame_values.proofs.Refusing.{form_blamed}
use Rattle.frame_lines.proofs.forms.calls.PromiseCommandForm.read.Goals as goal

pub returns-in_err-key-clause-none : goal.returns-in_err-key-clause-none
returns-in_err-key-clause-none c =
    let is : c.from_residual.result ≡ Err c.in_err-key.field-0.0 = search rules in
    let none = c.in_err-key.ensures.none in
    rw is (λ exact. form_blamed promise_fields c.args.words.now _ (none exact))
