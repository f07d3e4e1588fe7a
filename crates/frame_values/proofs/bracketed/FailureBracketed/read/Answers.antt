use Rattle.std.proofs.Common.{◌≡◌, Err, rules}
use Rattle.frame_values.specs.Choices.{failure_fields}
use Rattle.frame_values.proofs.Refusing.{form_blamed}
use Rattle.frame_values.proofs.bracketed.FailureBracketed.read.Goals as goal

pub returns-in_err-code-clause-none : goal.returns-in_err-code-clause-none
returns-in_err-code-clause-none c =
    let is : c.from_residual.result ≡ Err c.in_err-code.field-0.0 = search rules in
    let none = c.in_err-code.ensures.none in
    rw is (λ exact. form_blamed failure_fields c.args.words.now _ (none exact))
