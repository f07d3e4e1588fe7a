use Rattle.std.proofs.Common.{◌<◌, length, arith}
use Rattle.std.proofs.lemmas.Result.{IfErr-weaker}
use Rattle.frame_lines.proofs.Unshown.{named_blamed, unnamed_blamed}
use Rattle.frame_lines.proofs.entry.frame_of_words.Goals as goal

pub returns-in-Some-clause-none : goal.returns-in-Some-clause-none
returns-in-Some-clause-none c =
    let some : 0 < length c.args.words.now = grind arith in
    IfErr-weaker c.frame_of_message.result _ _ (λ fault blames. named_blamed c.args.words.now _ c.in-Some.ty fault some c.in-Some.ensures.named blames) c.frame_of_message.ensures.none

pub returns-in-None-clause-none : goal.returns-in-None-clause-none
returns-in-None-clause-none c =
    let some : 0 < length c.args.words.now = grind arith in
    IfErr-weaker c.bytes_as_is.result _ _ (λ fault blames. unnamed_blamed c.args.words.now _ fault some c.in-None.ensures.none blames) c.bytes_as_is.ensures.none
