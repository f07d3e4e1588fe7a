use Rattle.std.proofs.Common.{◌≡◌, Err, rules}
use Rattle.c_calls.specs.Callees.{texts_of_target}
use Rattle.c_calls.proofs.Refusing.{first_refused, last_refused}
use Rattle.c_calls.proofs.callees.callee_of.Goals as goal

pub returns-in_err-target-clause-err : goal.returns-in_err-target-clause-err
returns-in_err-target-clause-err c =
    let is : c.from_residual.result ≡ Err c.in_err-target.field-0.0 = search rules in
    rw is (first_refused (texts_of_target c.args.given.now) _ _ c.in_err-target.ensures.err)

pub returns-in_err-name-clause-err : goal.returns-in_err-name-clause-err
returns-in_err-name-clause-err c =
    let is : c.from_residual-in_err-name.result ≡ Err c.in_err-name.field-0.0 = search rules in
    rw is (last_refused (texts_of_target c.args.given.now) _ _ c.in_err-name.ensures.err)
