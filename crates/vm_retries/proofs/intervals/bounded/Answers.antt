use Rattle.std.proofs.Common.{◌≡◌, ◌+◌, ◌-◌, min, arith, sym, ap, ◌∙◌}
use Rattle.std.proofs.lemmas.Bool.{leb-false}
use Rattle.vm_retries.specs.Intervals.{multiplied}
use Rattle.vm_retries.proofs.Multiples.{multiplied-zero, multiplied-add, multiplied_rises, multiplied_falls}
use Rattle.vm_retries.proofs.intervals.bounded.Goals as goal

pub returns-then-most-interval : goal.returns-then-most-interval
returns-then-most-interval c =
    let same = c.loop-left.invariant.same in
    let rises = multiplied_rises c.args.factor c.loop-left.interval c.loop-left.left c.if-grows.true in
    omega (arith, same, rises)

pub loop-left-preserved : goal.loop-left-preserved
loop-left-preserved c =
    let x = c.loop-left.interval in
    let taken = c.stride-next.result.1 in
    let left = c.loop-left.left in
    let whole : taken + (left - taken) ≡ left = omega (arith, c.stride-next.ensures.within) in
    record {
      same =
          ap (λ m. min (multiplied c.args.factor m (left - taken)) c.args.most) c.stride-next.ensures.next
          ∙ ap (λ m. min m c.args.most) (sym (multiplied-add c.args.factor x taken (left - taken)))
          ∙ ap (λ m. min (multiplied c.args.factor x m) c.args.most) whole
          ∙ c.loop-left.invariant.same;
      falls = λ e.
          let less = leb-false c.args.factor.denominator c.args.factor.numerator e in
          let within = c.loop-left.invariant.falls e in
          let falls = multiplied_falls c.args.factor x taken (omega arith) in
          omega (arith, within, falls, c.stride-next.ensures.next);
    }

pub returns : goal.returns
returns c =
    let none : c.loop-left.left ≡ 0 = omega (arith, c.loop-left-test.false) in
    let here = multiplied-zero c.args.factor c.loop-left.interval in
    let at : multiplied c.args.factor c.loop-left.interval c.loop-left.left ≡ c.loop-left.interval = ap (multiplied c.args.factor c.loop-left.interval) none ∙ here in
    omega (arith, c.min.ensures, c.loop-left.invariant.same, at)
