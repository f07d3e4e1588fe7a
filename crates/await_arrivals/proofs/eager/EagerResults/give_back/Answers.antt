use Rattle.await_arrivals.proofs.Drops.{kept_or_not}
use Rattle.await_arrivals.proofs.eager.EagerResults.give_back.Goals as goal

pub returns : goal.returns
returns c =
    rw (← c.self.view_is) (kept_or_not c.compact.result c.self.inside.log c.compact.new.self c.compact.ensures.ok c.compact.ensures.err)
