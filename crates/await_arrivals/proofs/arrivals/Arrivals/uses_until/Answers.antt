use Rattle.std.proofs.Common.{arith}
use Rattle.await_arrivals.proofs.Awaited.{never_enough, at_once, after_some}
use Rattle.await_arrivals.proofs.Presents.{oldest_within}
use Rattle.await_arrivals.proofs.arrivals.Arrivals.uses_until.Goals as goal

pub returns-in_err-place : goal.returns-in_err-place
returns-in_err-place c = λ n.
    let s = c.self.inside in
    rw (← c.self.view_is, c.from_residual.ensures) (never_enough c.args.id.now s.log s.seen n c.self.invariant.1 c.in_err-place.ensures)

pub returns-then-place-self : goal.returns-then-place-self
returns-then-place-self c = λ n.
    let s = c.self.inside in
    rw (← c.self.view_is) (at_once c.args.id.now s.log s.seen n c.self.invariant.1 c.in_ok-place.place c.in_ok-place.ensures c.if-place-self.true)

pub returns : goal.returns
returns c = λ n.
    let s = c.self.inside in
    rw (← c.self.view_is) (after_some c.args.id.now s.log s.seen n c.self.invariant.1 c.in_ok-place.place c.in_ok-place.ensures (omega arith))

pub prove-unreachable-requires : goal.prove-unreachable-requires
prove-unreachable-requires c =
    let within = oldest_within c.args.id.now c.self.inside.log c.in_ok-place.place c.in_ok-place.ensures in
    omega arith
