use Rattle.std.proofs.Common.{◌≡◌, ◌≤◌, ℕ, List, drop}
use Rattle.await_tries.specs.Heads.{bare, with_children}
use Rattle.await_tries.specs.Message.{ids}
use Rattle.await_tries.specs.Walks.{reads}
use Rattle.await_tries.proofs.wire_future.head_over.Given as goal

abbrev pub invariant-loop-child : goal.invariant-loop-child
invariant-loop-child l = record {
  few : l.head.nested ≤ l.child-index;
  filled : (kids : List ℕ) → with_children (ids l.results) l.head (reads l.nodes kids (drop l.child-index l.children)) ≡ with_children (ids l.results) (bare l.fn.kind) (reads l.nodes kids l.children);
}
