use Rattle.std.proofs.Common.{ℕ, ◌≡◌, ◌-◌, ◌≤◌, min, arith, ap, ◌∙◌}
use Rattle.std.specs.Duration.{as_nanos, max_nanos}
use Rattle.std.specs.Option.{unwrap_or}
use Rattle.vm_retries.specs.Intervals.{most_counted, multiplied}
use Rattle.vm_retries.proofs.Bounds.{delay_is, longest}
use Rattle.vm_retries.proofs.intervals.delay.Goals as goal

pub returns : goal.returns
returns c =
    let initial = c.args.initial_interval in
    let fits : as_nanos initial ≤ max_nanos = omega arith in
    let most : as_nanos c.unwrap_or.result ≤ max_nanos = omega arith in
    let is : as_nanos c.unwrap_or.result ≡ as_nanos (unwrap_or c.args.max_interval longest) = ap as_nanos c.unwrap_or.ensures in
    let d = delay_is c.args.factor initial c.args.max_interval c.args.count fits (omega (arith, most, is)) in
    c.from_nanos_u128.ensures ∙ c.bounded.ensures
    ∙ ap (λ m. min (multiplied c.args.factor m c.saturating_sub-steps.result) c.as_nanos-most.result) c.as_nanos.ensures
    ∙ ap (λ m. min (multiplied c.args.factor (as_nanos initial) m) c.as_nanos-most.result) c.saturating_sub-steps.ensures
    ∙ ap (λ (m : ℕ). min (multiplied c.args.factor (as_nanos initial) (m - 1)) c.as_nanos-most.result) c.min.ensures
    ∙ ap (min (multiplied c.args.factor (as_nanos initial) (min c.args.count most_counted - 1))) (c.as_nanos-most.ensures ∙ is)
    ∙ d
