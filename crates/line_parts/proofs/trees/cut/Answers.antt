use Rattle.std.proofs.Common.{◌≡◌, length, refl, subst, ◌∙◌, rules, arith}
use Rattle.line_parts.proofs.TreeWords.{Unbroken, word_ends, word_whole}
use Rattle.line_parts.proofs.trees.cut.Goals as goal

pub returns-then-is_break-clause-word : goal.returns-then-is_break-clause-word
returns-then-is_break-clause-word c =
    c.split_at.ensures.front ∙ (word_ends c.args.text.now c.loop-i.i c.loop-i-test.true c.loop-i.invariant (search rules)).0

pub returns-then-is_break-clause-rest : goal.returns-then-is_break-clause-rest
returns-then-is_break-clause-rest c =
    c.split_at.ensures.back ∙ (word_ends c.args.text.now c.loop-i.i c.loop-i-test.true c.loop-i.invariant (search rules)).1

pub returns-clause-word : goal.returns-clause-word
returns-clause-word c =
    let all : c.loop-i.i ≡ length c.args.text.now = omega arith in
    c.split_at-2.ensures.front ∙ (word_whole c.args.text.now (length c.args.text.now) refl (subst (Unbroken c.args.text.now) all c.loop-i.invariant)).0

pub returns-clause-rest : goal.returns-clause-rest
returns-clause-rest c =
    let all : c.loop-i.i ≡ length c.args.text.now = omega arith in
    c.split_at-2.ensures.back ∙ (word_whole c.args.text.now (length c.args.text.now) refl (subst (Unbroken c.args.text.now) all c.loop-i.invariant)).1
