use Rattle.std.proofs.Common.{◌<◌, length, arith}
use Rattle.std.proofs.lemmas.Result.{IfErr-weaker}
use Rattle.lines.proofs.Places.{others_are}
use Rattle.world_scripts.proofs.Nothing.{words_say_nothing}
use Rattle.world_scripts.proofs.parse.said_of.Goals as goal

pub returns-clause-none : goal.returns-clause-none
returns-clause-none c =
    let some : 0 < length c.args.words.now = grind arith in
    IfErr-weaker c.said_behind.result _ _ (λ fault blames bad. words_say_nothing c.args.words.now _ _ fault some (others_are c.args.words.now) blames bad) c.said_behind.ensures.none
