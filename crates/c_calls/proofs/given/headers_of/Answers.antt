use Rattle.std.proofs.Common.{◌≡◌, Err, arith, rules}
use Rattle.std.proofs.lemmas.Grind.{common_steps}
use Rattle.c_calls.proofs.Refusing.{pair_refused}
use Rattle.c_calls.proofs.given.headers_of.Goals as goal

pub returns-in_err-key-clause-err : goal.returns-in_err-key-clause-err
returns-in_err-key-clause-err c =
    let is : c.from_residual.result ≡ Err c.in_err-key.field-0.0 = search rules in
    rw is (pair_refused c.args.pairs.now c.loop-pair.pair-index _ _ (grind (arith, common_steps)) c.in_err-key.ensures.err)
