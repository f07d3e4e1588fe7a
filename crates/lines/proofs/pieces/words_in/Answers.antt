use Rattle.std.proofs.Common.{rules, ◌≡◌, ◌≢◌, ◌+◌, ◌-◌, length, take, drop, get_or, ap, sym, ◌∙◌, arith, Some, length-drop}
use Rattle.std.proofs.Math.Seq.{take-length}
use Rattle.lines.specs.Pieces.{nesting_after, outside}
use Rattle.lines.proofs.Closing.{on_err, unclosed_within, unclosed_end, blank_closed}
use Rattle.lines.proofs.Wording.{IsCutToWords, ascii_more, words_within, words_plain, words_all}
use Rattle.lines.proofs.pieces.words_in.Goals as goal
use Rattle.lines.proofs.pieces.words_in.Goals.{else-text-i-eq32-via-then-text-i-eq32+else-is_none, else-text-i-eq32-via-else-text-i-eq32}

pub loop-i-preserved : goal.loop-i-preserved
loop-i-preserved c =
    let text = c.args.text.now in
    let i = c.loop-i.i in
    let to = c.plain_end-i.result in
    let e : nesting_after (Some c.loop-i.nesting) (get_or text i 0) ≡ Some c.in_ok-nesting.nesting = search rules in
    let here : get_or text i 0 ≡ 32 → Some c.loop-i.nesting ≢ outside = elim c.else-text-i-eq32.branch [
      | else-text-i-eq32-via-then-text-i-eq32+else-is_none w ↦ search rules
      | else-text-i-eq32-via-else-text-i-eq32 w ↦ λ s. absurd (w.if-text-i-eq32.false s)
    ] in
    let one : IsCutToWords c.loop-i.start (i + 1) text c.loop-i.words.items c.in_ok-nesting.nesting =
    words_within c.loop-i.start i text c.loop-i.words.items c.loop-i.nesting c.in_ok-nesting.nesting c.loop-i.invariant.0 c.loop-i-test.true here e in (
      words_plain c.loop-i.start (i + 1) to text c.loop-i.words.items c.in_ok-nesting.nesting (to - (i + 1)) (omega (arith, c.plain_end-i.ensures.within.0)) one c.plain_end-i.ensures.free c.plain_end-i.ensures.within.1 c.plain_end-i.ensures.plain,
      λ ascii. let both = c.with-charset.ensures ascii in ascii_more i to text (c.loop-i.invariant.1 both.0) both.1 c.plain_end-i.ensures.plain,
      c.plain_end-i.ensures.within.1,
    )

pub returns-clause-words : goal.returns-clause-words
returns-clause-words c =
    let at : c.loop-i.i ≡ length c.args.text.now = omega arith in
    let cut : IsCutToWords c.loop-i.start (length c.args.text.now) c.args.text.now c.loop-i.words.items c.loop-i.nesting = rw (← at) c.loop-i.invariant.0 in
    let e : Some c.loop-i.nesting ≡ outside = search rules in
    let rest = drop c.loop-i.start c.args.text.now in
    let p_is = ap (λ j. take j rest) (sym (length-drop c.loop-i.start c.args.text.now)) ∙ take-length rest in
    words_all c.loop-i.start c.args.text.now c.loop-i.words.items c.add_word-2.new.words.items c.loop-i.nesting _ cut e p_is c.in_ok-add_word-2.ensures

pub returns-in_err-nesting-clause-unclosed : goal.returns-in_err-nesting-clause-unclosed
returns-in_err-nesting-clause-unclosed c =
    on_err c.from_residual-in_err-nesting.result _ (λ fault _.
    unclosed_within 32 c.loop-i.start c.loop-i.i c.args.text.now c.loop-i.invariant.0.pieces c.loop-i.nesting c.loop-i.invariant.0.cut blank_closed c.loop-i-test.true (omega arith) (search rules))

pub returns-then-not-is_none-clause-unclosed : goal.returns-then-not-is_none-clause-unclosed
returns-then-not-is_none-clause-unclosed c _ =
    unclosed_end 32 c.loop-i.start c.loop-i.i c.args.text.now c.loop-i.invariant.0.pieces c.loop-i.nesting c.loop-i.invariant.0.cut blank_closed (omega arith) (search rules)
