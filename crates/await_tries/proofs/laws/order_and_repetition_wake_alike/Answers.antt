use Rattle.await_tries.proofs.LaterArrivals.{same_least, same_never}
use Rattle.await_tries.proofs.laws.order_and_repetition_wake_alike.Goals as goal

pub returns : goal.returns
returns c = record { least = same_least; never = same_never }
