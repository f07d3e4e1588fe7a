use Rattle.std.proofs.Common.{refl, arith, add-one}
use Rattle.await_arrivals.proofs.Moves.{used}
use Rattle.await_arrivals.proofs.arrivals.Arrivals.use_one.Goals as goal

pub invariant_of-self : goal.invariant_of-self
invariant_of-self c =
    let s = c.self.inside in
    let u = used s.seen s.log (omega arith) c.self.invariant.1 in
    (omega arith, rw add-one u.all)

pub returns-clause-found : goal.returns-clause-found
returns-clause-found c =
    let s = c.self.inside in
    let u = used s.seen s.log (omega arith) c.self.invariant.1 in
    rw (← c.self.view_is, u.queued) refl

pub returns-clause-used : goal.returns-clause-used
returns-clause-used c =
    let s = c.self.inside in
    let u = used s.seen s.log (omega arith) c.self.invariant.1 in
    rw (← c.self.view_is, add-one, u.queued, u.delivered) refl
