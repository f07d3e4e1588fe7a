use Rattle.await_tries.proofs.LaterArrivals.{wakes_alike, once_stays}
use Rattle.await_tries.proofs.Messages.{message_wakes}
use Rattle.await_tries.proofs.laws.residuals_wake_as_trees.Goals as goal

pub returns : goal.returns
returns c = record { alike = wakes_alike; sent = message_wakes; stays = once_stays }
