use Rattle.std.proofs.Common.{◌≡◌, length, take, drop, ap, sym, ◌∙◌, length-drop, Some, arith, rules}
use Rattle.std.proofs.Math.Seq.{take-length}
use Rattle.lines.specs.Pieces.{outside}
use Rattle.lines.proofs.Closing.{on_err, unclosed_within, unclosed_end}
use Rattle.lines.proofs.Cutting.{IsCut, cut_all}
use Rattle.lines.proofs.pieces.pieces.Goals as goal

pub returns-in_err-nesting-clause-unclosed : goal.returns-in_err-nesting-clause-unclosed
returns-in_err-nesting-clause-unclosed c =
    on_err c.from_residual-in_err-nesting.result _ (λ fault _.
    unclosed_within c.args.separator c.loop-i.start c.loop-i.i c.args.text.now c.loop-i.pieces.items c.loop-i.nesting c.loop-i.invariant c.requires c.loop-i-test.true (omega arith) (search rules))

pub returns-then-not-is_none-clause-unclosed : goal.returns-then-not-is_none-clause-unclosed
returns-then-not-is_none-clause-unclosed c _ =
    unclosed_end c.args.separator c.loop-i.start c.loop-i.i c.args.text.now c.loop-i.pieces.items c.loop-i.nesting c.loop-i.invariant c.requires (omega arith) (search rules)

pub returns-clause-pieces : goal.returns-clause-pieces
returns-clause-pieces c =
    let at : c.loop-i.i ≡ length c.args.text.now = omega arith in
    let cut : IsCut c.args.separator c.loop-i.start (length c.args.text.now) c.args.text.now c.loop-i.pieces.items c.loop-i.nesting = rw (← at) c.loop-i.invariant in
    let e : Some c.loop-i.nesting ≡ outside = search rules in
    let rest = drop c.loop-i.start c.args.text.now in
    let p_is = ap (λ j. take j rest) (sym (length-drop c.loop-i.start c.args.text.now)) ∙ take-length rest in
    cut_all c.args.separator c.loop-i.start c.args.text.now c.loop-i.pieces.items c.push-2.new.self.items c.loop-i.nesting _ cut e p_is c.in_ok-push-2.ensures.items
