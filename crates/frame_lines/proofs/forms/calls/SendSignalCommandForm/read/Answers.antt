use Rattle.std.proofs.Common.{◌≡◌, Err, rules}
use Rattle.frame_lines.specs.Forms.{send_signal_fields}
use Rattle.frame_values.proofs.Refusing.{form_blamed}
use Rattle.frame_lines.proofs.forms.calls.SendSignalCommandForm.read.Goals as goal

pub returns-in_err-target_invocation_id-clause-none : goal.returns-in_err-target_invocation_id-clause-none
returns-in_err-target_invocation_id-clause-none c =
    let is : c.from_residual.result ≡ Err c.in_err-target_invocation_id.field-0.0 = search rules in
    let none = c.in_err-target_invocation_id.ensures.none in
    rw is (λ exact. form_blamed send_signal_fields c.args.words.now _ (none exact))
