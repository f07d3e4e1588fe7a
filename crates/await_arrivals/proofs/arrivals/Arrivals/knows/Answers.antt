use Rattle.await_arrivals.proofs.Knowing.{has_in_all}
use Rattle.await_arrivals.proofs.arrivals.Arrivals.knows.Goals as goal

pub returns : goal.returns
returns c =
    let s = c.self.inside in
    rw (← c.self.view_is, ← has_in_all c.args.id.now s.seen s.log, ← c.len.ensures) c.has.ensures
