use Rattle.std.proofs.Common.{◌≡◌, false, length, subst, arith}
use Rattle.line_parts.proofs.TreeBlanks.{Blankless, none_left_out}
use Rattle.line_parts.proofs.trees.has_blank.Goals as goal

pub returns : goal.returns
returns c =
    let all : c.loop-byte.byte-index ≡ length c.args.text.now = omega arith in
    λ _. none_left_out false c.args.text.now (subst (Blankless c.args.text.now) all c.loop-byte.invariant)
