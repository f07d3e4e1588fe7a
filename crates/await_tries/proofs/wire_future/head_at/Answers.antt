use Rattle.std.specs.Prelude.{IfOk}
use Rattle.std.proofs.Common.{Result, Ok, Err, take, drop, ap, ◌∙◌}
use Rattle.await_trees.specs.Wires.{head_of}
use Rattle.await_tries.specs.Message.{ids}
use Rattle.await_tries.specs.Spells.{node_at}
use Rattle.await_tries.specs.Walks.{reads}
use Rattle.await_tries.proofs.Walking.{same_sum}
use Rattle.await_tries.proofs.wire_future.head_at.Goals as goal

where_ok : {T E : Type 0} {P Q : T → Type 0} (answer : Result T E) → ((v : T) → P v → Q v) → IfOk answer P → IfOk answer Q
where_ok (Ok v) f p = f v p
where_ok (Err e) f p = tt

pub returns : goal.returns
returns c =
    let ns = c.nodes-nodes.result.now in
    let kids = c.kids-kids.result.now in
    let n = node_at ns c.args.number in
    let id = ids c.args.results.now in
    where_ok c.head_over.result (λ head e. rw (c.nodes-nodes.ensures.nodes, c.kids-kids.ensures) at (e kids ∙ ap (λ z. head_of id c.args.kind (reads ns kids (take z (drop n.first kids)))) (same_sum n.first n.count))) c.head_over.ensures
