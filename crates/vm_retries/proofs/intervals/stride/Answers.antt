use Rattle.std.proofs.Common.{◌≡◌, ◌<◌, ◌≤◌, ℕ, ◌-◌, ◌*◌, ◌/◌, ◌%◌, arith, sym, ap, ◌∙◌, rules}
use Rattle.vm_retries.specs.Intervals.{times}
use Rattle.vm_retries.proofs.Multiples.{multiplied-same}
use Rattle.vm_retries.proofs.Strides.{change_within, reached_within, step_within, strides_up, strides_down}
use Rattle.vm_retries.proofs.intervals.stride.Goals as goal
use Rattle.vm_retries.proofs.intervals.stride.Goals.{then-next-interval-2, else-next-interval-2}

pub returns-then-next-interval-clause-next : goal.returns-then-next-interval-clause-next
returns-then-next-interval-clause-next c =
    let x = c.args.interval in
    let one : times c.args.factor x ≡ x = ap (λ (m : ℕ). x * m / c.args.factor.denominator) (sym c.from-numerator.ensures)
    ∙ ap (λ (m : ℕ). x * c.from-numerator.result / m) (sym c.from-denominator.ensures) ∙ c.if-next-interval.true in
    c.if-next-interval.true ∙ sym (multiplied-same c.args.factor x c.args.left one)

pub overflow_sub-reached : goal.overflow_sub-reached
overflow_sub-reached c =
    let down = strides_down c.args.factor c.from-numerator.result c.from-denominator.result c.args.interval c.abs_diff-change.result c.abs_diff.result c.min-further.result
    c.from-numerator.ensures c.from-denominator.ensures c.abs_diff-change.ensures c.abs_diff.ensures (omega arith) c.if-next-interval-2.true in
    omega (arith, down)

pub returns-clause-next : goal.returns-clause-next
returns-clause-next c =
    let few : c.min-further.result ≤ (c.from-denominator.result - 1 - c.args.interval * c.from-numerator.result % c.from-denominator.result) / c.abs_diff-change.result / c.abs_diff.result = omega arith in
    elim c.if-next-interval-2.branch [
      | then-next-interval-2 w ↦
          let down = strides_down c.args.factor c.from-numerator.result c.from-denominator.result c.args.interval c.abs_diff-change.result c.abs_diff.result c.min-further.result
          c.from-numerator.ensures c.from-denominator.ensures c.abs_diff-change.ensures c.abs_diff.ensures few w.if-next-interval-2.true in
          omega (arith, down, w.reached-is)
      | else-next-interval-2 w ↦
          let up = strides_up c.args.factor c.from-numerator.result c.from-denominator.result c.args.interval c.abs_diff-change.result c.abs_diff.result c.min-further.result
          c.from-numerator.ensures c.from-denominator.ensures c.abs_diff-change.ensures c.abs_diff.ensures few (omega arith) in
          omega (arith, up, w.reached-is)
    ]

pub returns-clause-within : goal.returns-clause-within
returns-clause-within c = step_within c.args.left c.from.result c.min-further.result _ c.requires.left c.from.ensures c.min-further.ensures

pub overflow_mul-changed : goal.overflow_mul-changed
overflow_mul-changed c = omega (arith, change_within c.args.interval c.from-numerator.result c.from-denominator.result c.abs_diff-change.result c.abs_diff.result c.min-further.result _ c.min-further.ensures)

pub overflow_add-reached : goal.overflow_add-reached
overflow_add-reached c =
    let n : c.args.factor.numerator < 4294967296 = search (rules, c.well_formed) in
    let d : c.args.factor.denominator < 4294967296 = search (rules, c.well_formed) in
    omega (arith, reached_within c.args.interval c.from-numerator.result c.from-denominator.result c.abs_diff-change.result c.abs_diff.result c.min-further.result _ c.min-further.ensures c.requires.interval (rw c.from-numerator.ensures n) (rw c.from-denominator.ensures d))
