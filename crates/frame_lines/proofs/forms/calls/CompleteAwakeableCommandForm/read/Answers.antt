use Rattle.std.proofs.Common.{◌≡◌, Err, rules}
use Rattle.frame_lines.specs.Forms.{complete_awakeable_fields}
use Rattle.frame_values.proofs.Refusing.{form_blamed}
use Rattle.frame_lines.proofs.forms.calls.CompleteAwakeableCommandForm.read.Goals as goal

pub returns-in_err-awakeable_id-clause-none : goal.returns-in_err-awakeable_id-clause-none
returns-in_err-awakeable_id-clause-none c =
    let is : c.from_residual.result ≡ Err c.in_err-awakeable_id.field-0.0 = search rules in
    let none = c.in_err-awakeable_id.ensures.none in
    rw is (λ exact. form_blamed complete_awakeable_fields c.args.words.now _ (none exact))
