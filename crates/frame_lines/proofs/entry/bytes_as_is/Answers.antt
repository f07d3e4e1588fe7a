use Rattle.std.proofs.Common.{length, ◌≡◌, arith}
use Rattle.std.proofs.lemmas.Result.{IfErr-weaker}
use Rattle.frame_lines.proofs.Showing.{rest_blamed}
use Rattle.frame_lines.proofs.entry.bytes_as_is.Goals as goal

pub returns-in-rest-clause-none : goal.returns-in-rest-clause-none
returns-in-rest-clause-none c =
    let two : length c.args.words.now ≡ 2 = grind arith in
    IfErr-weaker c.shared.result _ _ (λ fault blames. rest_blamed c.args.words.now _ fault two blames) c.shared.ensures.none
