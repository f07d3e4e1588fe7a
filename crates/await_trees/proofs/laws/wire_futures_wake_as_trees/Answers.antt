use Rattle.await_trees.proofs.Readings.{sent_whole, sent_awake}
use Rattle.await_trees.proofs.laws.wire_futures_wake_as_trees.Goals as goal

pub returns : goal.returns
returns c = record { whole = sent_whole; alike = sent_awake }
