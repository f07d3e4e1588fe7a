use Rattle.std.proofs.Common.{◌≡◌, Err, rules}
use Rattle.frame_values.specs.Futures.{node_fields}
use Rattle.frame_values.proofs.Refusing.{form_blamed}
use Rattle.frame_values.proofs.future.FutureNodeBracketed.read.Goals as goal

pub returns-in_err-kind-clause-none : goal.returns-in_err-kind-clause-none
returns-in_err-kind-clause-none c =
    let is : c.from_residual.result ≡ Err c.in_err-kind.field-0.0 = search rules in
    let none = c.in_err-kind.ensures.none in
    rw is (λ exact. form_blamed node_fields c.args.words.now _ (none exact))
