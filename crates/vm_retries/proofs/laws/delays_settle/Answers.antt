use Rattle.std.proofs.Common.{ℕ, ◌≡◌, ap, arith, min}
use Rattle.std.specs.Duration.{as_nanos}
use Rattle.vm_retries.specs.Intervals.{at_most, interval, most_counted}
use Rattle.vm_retries.proofs.laws.delays_settle.Goals as goal

pub returns : goal.returns
returns c initial f most count many =
    let e : min count most_counted ≡ min most_counted most_counted = omega (arith, many) in
    ap (λ (m : ℕ). at_most most (interval (as_nanos initial) f m)) e
