use Rattle.std.proofs.Common.{◌≡◌, Err, rules}
use Rattle.c_calls.specs.Given.{lent_texts}
use Rattle.c_calls.proofs.Refusing.{behind_refused, last_refused}
use Rattle.c_calls.proofs.callees.given_target.Goals as goal

pub returns-in_err-headers-clause-err : goal.returns-in_err-headers-clause-err
returns-in_err-headers-clause-err c =
    let is : c.from_residual-in_err-headers.result ≡ Err c.in_err-headers.field-0.0 = search rules in
    rw is (behind_refused _ _ _ (behind_refused _ _ _ (last_refused (lent_texts c.args.given.now.key) _ _ (last_refused (lent_texts c.args.given.now.idempotency_key) _ _ (last_refused (lent_texts c.args.given.now.scope) _ _ (last_refused (lent_texts c.args.given.now.limit_key) _ _ c.in_err-headers.ensures.err))))))
