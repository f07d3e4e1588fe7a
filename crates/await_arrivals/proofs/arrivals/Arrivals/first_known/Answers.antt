use Rattle.await_arrivals.proofs.Awaited.{first_of_all}
use Rattle.await_arrivals.proofs.arrivals.Arrivals.first_known.Goals as goal

pub returns : goal.returns
returns c =
    let s = c.self.inside in
    rw (← c.self.view_is, ← first_of_all c.args.id.now s.log s.seen, ← c.len.ensures) c.oldest.ensures
