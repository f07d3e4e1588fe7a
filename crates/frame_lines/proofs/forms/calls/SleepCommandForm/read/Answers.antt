use Rattle.std.proofs.Common.{◌≡◌, Err, rules}
use Rattle.frame_lines.specs.Forms.{sleep_fields}
use Rattle.frame_values.proofs.Refusing.{form_blamed}
use Rattle.frame_lines.proofs.forms.calls.SleepCommandForm.read.Goals as goal

pub returns-in_err-wake_up_time-clause-none : goal.returns-in_err-wake_up_time-clause-none
returns-in_err-wake_up_time-clause-none c =
    let is : c.from_residual.result ≡ Err c.in_err-wake_up_time.field-0.0 = search rules in
    let none = c.in_err-wake_up_time.ensures.none in
    rw is (λ exact. form_blamed sleep_fields c.args.words.now _ (none exact))
