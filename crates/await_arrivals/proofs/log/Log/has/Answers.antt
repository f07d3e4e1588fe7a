use Rattle.await_arrivals.proofs.Tracking.{has_none, has_some}
use Rattle.await_arrivals.proofs.log.Log.has.Goals as goal

pub returns-in-None : goal.returns-in-None
returns-in-None c = has_none c.args.id.now c.args.self.now c.args.seen c.in-None.ensures

pub returns-in-Some : goal.returns-in-Some
returns-in-Some c = has_some c.args.id.now c.args.self.now c.args.seen c.in-Some.place c.in-Some.ensures
