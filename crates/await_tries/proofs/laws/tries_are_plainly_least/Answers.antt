use Rattle.await_tries.proofs.LaterArrivals.{plainly_least}
use Rattle.await_tries.proofs.laws.tries_are_plainly_least.Goals as goal

pub returns : goal.returns
returns c = plainly_least
