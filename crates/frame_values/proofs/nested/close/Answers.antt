use Rattle.std.proofs.Common.{◌≡◌, Err, rules}
use Rattle.frame_values.proofs.Reading.{words_blamed}
use Rattle.frame_values.proofs.nested.close.Goals as goal

pub returns-in_err-node-clause-none : goal.returns-in_err-node-clause-none
returns-in_err-node-clause-none c =
    let is : c.from_residual.result ≡ Err c.in_err-node.field-0.0 = search rules in
    let none = c.in_err-node.ensures.none in
    rw is (words_blamed c.as_slice.result.now c.args.read.now.words.items _ (search rules) (none (search rules)))
