use Rattle.std.proofs.Common.{rules, ◌≡◌, true, Some}
use Rattle.journal_attempt.specs.Futures.{are_whole}
use Rattle.await_trees.proofs.Readings.{sent_whole}
use Rattle.await_tries.specs.Left.{tree_left}
use Rattle.await_tries.specs.Message.{ids}
use Rattle.await_tries.proofs.wire_future.future_of.Goals as goal

pub unwrap-requires : goal.unwrap-requires
unwrap-requires c =
    let whole : are_whole 1 c.in_ok-nodes.nodes ≡ true = rw c.in_ok-nodes.ensures (sent_whole (ids c.args.results.now) (tree_left c.args.left.now)) in
    let some : c.from_nodes.result ≡ Some c.in_ok-nodes.nodes = rw whole at c.from_nodes.ensures.value in
    rw some (search rules)
